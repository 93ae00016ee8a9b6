-- One journal after another.
use Rattle.std.proofs.Common.{◌∙◌, sym, arith}
use Rattle.ug_table.proofs.Brought.{default_cut, default_done, notes_more, stands_so, without_default}
use Rattle.ug_table.proofs.Loops.{notes_then}
use Rattle.ug_table.proofs.bring.treat.Goals as goal

pub returns-in-None-clause-runs : goal.returns-in-None-clause-runs
returns-in-None-clause-runs g c = without_default _ _ _ _ _ _ _ _ _ (sym c.default_due.ensures.due ∙ c.in-None.is) c.bring.ensures.runs

pub returns-in-None-clause-journal : goal.returns-in-None-clause-journal
returns-in-None-clause-journal g c = notes_more _ 5 2 _ _ c.bring.ensures.journal

pub returns-then-is_stands-clause-runs : goal.returns-then-is_stands-clause-runs
returns-then-is_stands-clause-runs g c = default_done _ _ _ _ _ _ _ _ _ _ _ _ (sym c.default_due.ensures.due ∙ c.in-Some.is) c.write_default-settled.ensures.runs (sym c.is_stands.ensures ∙ c.if-is_stands.true) c.bring-then-is_stands.ensures.runs

pub returns-then-is_stands-clause-journal : goal.returns-then-is_stands-clause-journal
returns-then-is_stands-clause-journal g c =
    let first = c.write_default-settled.ensures in
    let stood = stands_so _ (sym c.is_stands.ensures ∙ c.if-is_stands.true) in
    notes_then _ 2 5 _ _ _ _ (first.journal.0, first.journal.1, first.stands stood) c.bring-then-is_stands.ensures.journal (omega arith)

pub returns-clause-runs : goal.returns-clause-runs
returns-clause-runs g c = default_cut _ _ _ _ _ _ _ _ _ _ _ (sym c.default_due.ensures.due ∙ c.in-Some.is) c.write_default-settled.ensures.runs (sym c.is_stands.ensures ∙ c.if-is_stands.false) (c.close_gone.ensures _)

pub returns-clause-journal : goal.returns-clause-journal
returns-clause-journal g c = notes_more _ 3 4 _ _ c.write_default-settled.ensures.journal

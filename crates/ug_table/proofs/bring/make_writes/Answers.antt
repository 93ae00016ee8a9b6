-- One journal after another.
use Rattle.std.proofs.Common.{◌∙◌, sym, arith}
use Rattle.ug_table.proofs.Brought.{notes_more, stands_to_go, then_removed, value_alone}
use Rattle.ug_table.proofs.Loops.{notes_then}
use Rattle.ug_table.proofs.bring.make_writes.Goals as goal

pub returns-then-is_to_go-clause-runs : goal.returns-then-is_to_go-clause-runs
returns-then-is_to_go-clause-runs g c = then_removed _ _ _ _ _ _ _ _ _ _ c.set_value-settled.ensures.runs (sym c.is_to_go.ensures ∙ c.if-is_to_go.true) c.remove.ensures.runs

pub returns-then-is_to_go-clause-journal : goal.returns-then-is_to_go-clause-journal
returns-then-is_to_go-clause-journal g c =
    let first = c.set_value-settled.ensures in
    let stood = stands_to_go c.args.known _ (sym c.is_to_go.ensures ∙ c.if-is_to_go.true) in
    notes_then _ 2 3 _ _ _ _ (first.journal.0, first.journal.1, first.stands stood) c.remove.ensures.journal (omega arith)

pub returns-clause-runs : goal.returns-clause-runs
returns-clause-runs g c = value_alone _ _ _ _ _ _ _ _ c.set_value-settled.ensures.runs (sym c.is_to_go.ensures ∙ c.if-is_to_go.false)

pub returns-clause-journal : goal.returns-clause-journal
returns-clause-journal g c = notes_more _ 3 2 _ _ c.set_value-settled.ensures.journal

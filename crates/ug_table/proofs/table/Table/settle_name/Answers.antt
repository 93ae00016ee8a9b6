use Rattle.std.proofs.Common.{List, not, ◌∙◌, ap, rules, arith}
use Rattle.ug_table.specs.Standings.{same_name, standing_of}
use Rattle.ug_table.specs.declared.standing.Standing.{Standing}
use Rattle.ug_table.proofs.Marks.{keeps_filter, keeps_treated, kept_as, kept_fields}
use Rattle.ug_table.proofs.Standings.{without_own}
use Rattle.ug_audit.proofs.Noting.{goes_on}
use Rattle.ug_table.proofs.Loops.{notes_then}
use Rattle.ug_table.proofs.table.Table.settle_name.Goals.{in-Alive, in-Failed}
use Rattle.ug_table.proofs.table.Table.settle_name.Goals as goal

pub invariant_of-self-2 : goal.invariant_of-self-2
invariant_of-self-2 g c = kept_fields _ _ _ _ (kept_as _ _ _ c.remember.ensures.standings (keeps_treated c.args.name.now _ _ c.self.inside.standings.items)) c.remember.ensures.len c.self.invariant

pub invariant_of-self : goal.invariant_of-self
invariant_of-self g c = kept_fields _ _ _ _ (kept_as _ _ _ c.forget.ensures.items (keeps_filter (λ (s : Standing). not (same_name s.name c.args.name.now)) c.self.inside.standings.items)) c.forget.ensures.len c.self.invariant

pub enter-requires-in-Gone-clause-absent : goal.enter-requires-in-Gone-clause-absent
enter-requires-in-Gone-clause-absent g c = ap (λ (v : List Standing). standing_of c.args.name.now v) c.forget.ensures.items ∙ without_own c.args.name.now c.self.inside.standings.items

pub returns-in-Gone-clause-journal : goal.returns-in-Gone-clause-journal
returns-in-Gone-clause-journal g c = search (rules, arith, goes_on)

pub returns-clause-journal : goal.returns-clause-journal
returns-clause-journal g c = elim c.match-reprobe.branch [
  | in-Alive w ↦ rw w.out-is (notes_then _ 7 1 _ _ _ _ w.treat-settled.ensures.journal w.note_unsettled.ensures.journal (omega arith))
  | in-Failed w ↦ rw w.out-is (w.note_fault.ensures.journal.0, w.note_fault.ensures.journal.1, omega (arith, w.note_fault.ensures.journal.2))
]

use Rattle.std.proofs.Common.{arith}
use Rattle.ug_table.proofs.Loops.{notes_then}
use Rattle.ug_table.proofs.Marks.{keeps_treated, kept_as}
use Rattle.ug_table.proofs.settle.settle_known.Goals.{in-Alive, in-Failed, in-Gone}
use Rattle.ug_table.proofs.settle.settle_known.Goals as goal

pub returns-clause-keeps : goal.returns-clause-keeps
returns-clause-keeps g c = kept_as _ _ _ c.remember.ensures.standings (keeps_treated c.args.name.now _ _ c.args.standings.now.items)

pub returns-clause-journal : goal.returns-clause-journal
returns-clause-journal g c = elim c.match-reprobe.branch [
  | in-Alive w ↦ rw w.out-is (notes_then _ 7 1 _ _ _ _ w.treat-settled.ensures.journal w.note_unsettled.ensures.journal (omega arith))
  | in-Failed w ↦ rw w.out-is (w.note_fault.ensures.journal.0, w.note_fault.ensures.journal.1, omega (arith, w.note_fault.ensures.journal.2))
  | in-Gone w ↦ rw w.out-is (w.push.ensures.same, w.push.ensures.room, omega (arith, w.push.ensures.spare))
]

-- One journal after another.
use Rattle.std.proofs.Common.{arith}
use Rattle.ug_table.proofs.Loops.{notes_then}
use Rattle.ug_table.proofs.bring.note_write.Goals as goal

pub returns-in-Gone-clause-journal : goal.returns-in-Gone-clause-journal
returns-in-Gone-clause-journal g c = notes_then _ 1 1 _ _ _ _ (c.push.ensures.same, c.push.ensures.room, omega (arith, c.push.ensures.spare)) (c.push-in-Gone.ensures.same, c.push-in-Gone.ensures.room, omega (arith, c.push-in-Gone.ensures.spare)) (omega arith)

-- One journal after another.
use Rattle.std.proofs.Common.{arith}
use Rattle.ug_table.proofs.Loops.{notes_then}
use Rattle.ug_table.proofs.bring.set_value.Goals as goal

pub returns-clause-journal : goal.returns-clause-journal
returns-clause-journal g c = notes_then _ 1 2 _ _ _ _ (c.push.ensures.same, c.push.ensures.room, omega (arith, c.push.ensures.spare)) c.note_write.ensures.journal (omega arith)

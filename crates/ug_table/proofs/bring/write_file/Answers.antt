-- One journal after another.
use Rattle.std.proofs.Common.{arith}
use Rattle.ug_table.proofs.Loops.{noted_write, notes_then}
use Rattle.ug_table.proofs.bring.write_file.Goals as goal

pub returns-clause-runs : goal.returns-clause-runs
returns-clause-runs g c = (_, _, c.put-wrote.ensures, (_, _, c.close.ensures, noted_write _ _ _ _ _ _ _ _ _ _ _ c.push.ensures.entries c.failed_call-failed.ensures c.note_write.ensures.after))

pub returns-clause-journal : goal.returns-clause-journal
returns-clause-journal g c = notes_then _ 1 2 _ _ _ _ (c.push.ensures.same, c.push.ensures.room, omega (arith, c.push.ensures.spare)) c.note_write.ensures.journal (omega arith)

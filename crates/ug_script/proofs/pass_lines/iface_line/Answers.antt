use Rattle.std.proofs.Common.{append_assoc, ap, length, arith}
use Rattle.std.proofs.lemmas.List.{length-append}
use Rattle.ug_script.specs.PassLines.{iface_line}
use Rattle.ug_script.proofs.pass_lines.iface_line.Goals as goal

pub push-requires-in-Wrote-2 : goal.push-requires-in-Wrote-2
push-requires-in-Wrote-2 c = omega (arith, simp length-append at (ap length c.push-in-Wrote.ensures), c.begin_line-line-in-Wrote.ensures.length, c.word_of.ensures.length)

pub push-requires-in-Wrote-3 : goal.push-requires-in-Wrote-3
push-requires-in-Wrote-3 c = omega (arith, simp length-append at (ap length c.push-in-Wrote-2.ensures), simp length-append at (ap length c.push-in-Wrote.ensures), c.begin_line-line-in-Wrote.ensures.length, c.word_of.ensures.length)

pub push-requires-in-Fault : goal.push-requires-in-Fault
push-requires-in-Fault c = omega (arith, c.push_iface.ensures.length, c.of-line.ensures.length)

pub push_decimal-requires : goal.push_decimal-requires
push_decimal-requires c = omega (arith, simp length-append at (ap length c.push-in-Fault.ensures), c.push_iface.ensures.length, c.of-line.ensures.length)

pub push-requires-in-Fault-2 : goal.push-requires-in-Fault-2
push-requires-in-Fault-2 c = omega (arith, c.push_decimal.ensures.length, simp length-append at (ap length c.push-in-Fault.ensures), c.push_iface.ensures.length, c.of-line.ensures.length)

pub push-requires-in-Memory : goal.push-requires-in-Memory
push-requires-in-Memory c = omega (arith, c.push_iface-in-Memory.ensures.length, c.of-line-in-Memory.ensures.length)

pub returns-in-Intent : goal.returns-in-Intent
unfolding iface_line
returns-in-Intent c = rw c.in-Intent.is (simp (c.push.ensures, c.begin_line-line.ensures.text, append_assoc))

pub returns-in-Wrote : goal.returns-in-Wrote
unfolding iface_line
returns-in-Wrote c = rw c.in-Wrote.is (simp (c.push-in-Wrote-3.ensures, c.push-in-Wrote-2.ensures, c.push-in-Wrote.ensures, c.word_of.ensures.text, c.begin_line-line-in-Wrote.ensures.text, append_assoc))

pub returns-in-Fault : goal.returns-in-Fault
unfolding iface_line
returns-in-Fault c = rw c.in-Fault.is (simp (c.push-in-Fault-2.ensures, c.push_decimal.ensures.text, c.push-in-Fault.ensures, c.push_iface.ensures.text, c.of-line.ensures.text, append_assoc))

pub returns-in-Memory : goal.returns-in-Memory
unfolding iface_line
returns-in-Memory c = rw c.in-Memory.is (simp (c.push-in-Memory.ensures, c.push_iface-in-Memory.ensures.text, c.of-line-in-Memory.ensures.text, append_assoc))

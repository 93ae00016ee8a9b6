use Rattle.std.proofs.Common.{List, ℕ, subst, arith}
use Rattle.std.proofs.lemmas.List.{take_all}
use Rattle.ug_types.specs.Elements.{Has}
use Rattle.ug_proto.proofs.Scans.{none_before, end_here}
use Rattle.ug_proto.proofs.scan.split_at.Goals as goal

pub returns-then-byte-end-clause-some : goal.returns-then-byte-end-clause-some
returns-then-byte-end-clause-some c = (end_here c.args.text.now c.loop-i.i c.args.end c.loop-i-test.true c.if-byte-end.true, c.loop-i.invariant)

pub loop-i-preserved : goal.loop-i-preserved
loop-i-preserved c = none_before c.args.text.now c.loop-i.i c.args.end c.loop-i-test.true c.loop-i.invariant c.if-byte-end.false

pub returns-clause-none : goal.returns-clause-none
returns-clause-none c = subst (λ (t : List ℕ). ¬ Has t c.args.end) (take_all c.loop-i.i c.args.text.now (omega (arith, c.loop-i-test.false))) c.loop-i.invariant

use Rattle.std.proofs.Common.{List, ℕ, subst, arith}
use Rattle.std.proofs.lemmas.List.{take_all}
use Rattle.ug_types.specs.Elements.{Has}
use Rattle.ug_proto.proofs.Scans.{none_before}
use Rattle.ug_client.proofs.Front.{newline_at}
use Rattle.ug_client.proofs.notice.line_length.Goals as goal

pub returns-then-byte-eq10-clause-some : goal.returns-then-byte-eq10-clause-some
returns-then-byte-eq10-clause-some c = newline_at c.args.text.now c.loop-i.i c.loop-i-test.true c.if-byte-eq10.true

pub loop-i-preserved : goal.loop-i-preserved
loop-i-preserved c = none_before c.args.text.now c.loop-i.i 10 c.loop-i-test.true c.loop-i.invariant c.if-byte-eq10.false

pub returns-clause-none : goal.returns-clause-none
returns-clause-none c = subst (λ (t : List ℕ). ¬ Has t 10) (take_all c.loop-i.i c.args.text.now (omega (arith, c.loop-i-test.false))) c.loop-i.invariant

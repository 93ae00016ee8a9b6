use Rattle.std.proofs.Common.{arith}
use Rattle.std.specs.Cmp.Lexicographic.{other_text}
use Rattle.ug_host.proofs.Apart.{apart_distinct, differ_more}
use Rattle.ug_host.proofs.names.are_apart.Goals as goal

pub loop-i-init : goal.loop-i-init
loop-i-init c = λ k d h same. omega (arith, h)

pub loop-i-preserved : goal.loop-i-preserved
loop-i-preserved c =
    let a = c.index-names-i.result in
    let b = c.index-names-i-in-loop-i.result in
    differ_more c.args.names.now c.loop-i.i a b c.loop-i.auto.i c.loop-i-test.true c.index-names-i.is c.index-names-i-in-loop-i.is (other_text a b c.if-eq.ensures) c.loop-i.invariant

pub returns : goal.returns
returns c = λ _. apart_distinct c.args.names.now c.requires (λ k d h. c.loop-i.invariant k d (omega (arith, h, c.loop-i-test.false)))

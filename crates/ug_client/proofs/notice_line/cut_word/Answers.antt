use Rattle.std.proofs.Common.{List, ℕ, ◌∙◌, ap, take, subst, arith}
use Rattle.std.proofs.lemmas.List.{take_all}
use Rattle.ug_types.specs.Elements.{Has}
use Rattle.ug_proto.proofs.Scans.{none_before, end_here}
use Rattle.ug_client.specs.NoticeLines.{cut_word}
use Rattle.ug_client.proofs.NoticeWords.{cut_apart, cut_none}
use Rattle.ug_client.proofs.notice_line.cut_word.Goals as goal

pub returns-then-byte-eq32-clause-some : goal.returns-then-byte-eq32-clause-some
returns-then-byte-eq32-clause-some c = ap cut_word (end_here c.args.text.now c.loop-i.i 32 c.loop-i-test.true c.if-byte-eq32.true) ∙ cut_apart (take c.loop-i.i c.args.text.now) _ c.loop-i.invariant

pub loop-i-preserved : goal.loop-i-preserved
loop-i-preserved c = none_before c.args.text.now c.loop-i.i 32 c.loop-i-test.true c.loop-i.invariant c.if-byte-eq32.false

pub returns-clause-none : goal.returns-clause-none
returns-clause-none c = cut_none c.args.text.now (subst (λ (t : List ℕ). ¬ Has t 32) (take_all c.loop-i.i c.args.text.now (omega (arith, c.loop-i-test.false))) c.loop-i.invariant)

use Rattle.std.proofs.Common.{take, drop, sym, ◌∙◌, ◌+◌, arith}
use Rattle.std.proofs.lemmas.Bool.{false≢true}
use Rattle.ug_client.proofs.Front.{line_otherwise}
use Rattle.ug_client.proofs.notice.front_of.Goals as goal

pub returns-then-is_notice : goal.returns-then-is_notice
returns-then-is_notice c = (omega (arith, c.in-Some.ensures.within), record { line = take c.in-Some.n c.args.text.now; notice = c.is_notice.ensures.0 c.if-is_notice.true; whole = c.in-Some.ensures.some })

pub returns-else-is_notice : goal.returns-else-is_notice
returns-else-is_notice c = line_otherwise c.args.text.now (take c.in-Some.n c.args.text.now) (drop (c.in-Some.n + 1) c.args.text.now) c.in-Some.ensures.some c.in-Some.ensures.line (λ k. false≢true (sym c.if-is_notice.false ∙ c.is_notice.ensures.1 k))

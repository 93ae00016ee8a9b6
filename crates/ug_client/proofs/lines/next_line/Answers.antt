use Rattle.std.proofs.Common.{List, ℕ, ◌∙◌, length, sym, subst, arith}
use Rattle.std.proofs.lemmas.Bool.{false≢true}
use Rattle.std.proofs.lemmas.List.{take_all}
use Rattle.ug_types.specs.Elements.{Has}
use Rattle.ug_client.proofs.Shown.{other_line, long_line}
use Rattle.ug_client.proofs.lines.next_line.Goals as goal

pub returns-then-n-gt-MAX_LINE : goal.returns-then-n-gt-MAX_LINE
returns-then-n-gt-MAX_LINE c = long_line c.args.text.now c.in-Some.n c.if-n-gt-MAX_LINE.true (omega (arith, c.in-Some.ensures.within)) c.in-Some.ensures.line

pub returns-then-text-gt-MAX_LINE : goal.returns-then-text-gt-MAX_LINE
returns-then-text-gt-MAX_LINE c = long_line c.args.text.now (length c.args.text.now) c.if-text-gt-MAX_LINE.true (omega arith) (subst (λ (b : List ℕ). ¬ Has b 10) (sym (take_all (length c.args.text.now) c.args.text.now (omega arith))) c.in-None.ensures.none)

pub returns-else-is_notice : goal.returns-else-is_notice
returns-else-is_notice c = other_line c.args.text.now c.in-Some.n (λ k. false≢true (sym c.if-is_notice.false ∙ c.is_notice.ensures.1 k)) c.in-Some.ensures.line c.in-Some.ensures.some

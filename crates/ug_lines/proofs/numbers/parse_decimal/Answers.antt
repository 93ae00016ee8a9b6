use Rattle.std.proofs.Common.{◌≡◌, ℕ, true, nat_eq, List, Ok, sym, ap, ◌∙◌, arith}
use Rattle.std.specs.Prelude.{decimal}
use Rattle.std.specs.Cmp.Lexicographic.{pointwise, same_text}
use Rattle.std.proofs.lemmas.Bool.{false≢true}
use Rattle.std.proofs.lemmas.Fmt.{parse-decimal}
use Rattle.ug_lines.proofs.Numerals.{is_number, no_number, decimal_utf8, text_itself}
use Rattle.ug_lines.proofs.numbers.parse_decimal.Goals as goal

pub returns-in-Err : goal.returns-in-Err
returns-in-Err c = sym (no_number c.args.word.now (λ n h e. c.in-Err.ensures.cases.0 (decimal_utf8 c.args.word.now n h e)))

pub returns-then-is_decimal_of : goal.returns-then-is_decimal_of
returns-then-is_decimal_of c =
    sym (is_number c.args.word.now c.in-Ok-parse.number (omega arith) (same_text c.args.word.now (decimal c.in-Ok-parse.number) (sym (sym c.is_decimal_of.ensures ∙ c.if-is_decimal_of.true))))

pub returns-else-is_decimal_of : goal.returns-else-is_decimal_of
returns-else-is_decimal_of c = sym (no_number c.args.word.now (λ n h e.
    let read = parse-decimal 64 n c.in-Ok.text.now c.parse.result h h (c.in-Ok.ensures.cases.0 ∙ e) c.parse.ensures.value.0 in
    let same : n ≡ c.in-Ok-parse.number = (let both : ◌≡◌ (Ok n) (Ok c.in-Ok-parse.number) = sym read ∙ c.in-Ok-parse.is in cc) in
    let is : c.args.word.now ≡ decimal c.in-Ok-parse.number = e ∙ ap decimal same in
    let tested : pointwise nat_eq c.args.word.now (decimal c.in-Ok-parse.number) ≡ true = ap (λ (l : List ℕ). pointwise nat_eq l (decimal c.in-Ok-parse.number)) is ∙ text_itself (decimal c.in-Ok-parse.number) in
    false≢true (sym (sym c.is_decimal_of.ensures ∙ c.if-is_decimal_of.false) ∙ tested)))

pub returns-in-Err-parse : goal.returns-in-Err-parse
returns-in-Err-parse c = sym (no_number c.args.word.now (λ n h e.
    let read = parse-decimal 64 n c.in-Ok.text.now c.parse.result h h (c.in-Ok.ensures.cases.0 ∙ e) c.parse.ensures.value.0 in
    let none : ⊥ = (let both = sym read ∙ c.in-Err-parse.is in cc) in none))

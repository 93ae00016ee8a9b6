use Rattle.std.proofs.Common.{◌≡◌, ◌∙◌, ℕ, List, [], ◌∷◌, nat_eq, refl, arith}
use Rattle.std.specs.List.{list_any}
use Rattle.std.proofs.lemmas.Bool.Decides.{nat_tests}
use Rattle.ug_rule.proofs.queries.has_colon.Goals as goal

is_colon : (byte : ℕ) → nat_eq byte 58 ≡ nat_eq 58 byte
is_colon byte = grind (arith, nat_tests)

any_colon : (word : List ℕ) → list_any (λ byte. nat_eq byte 58) word ≡ list_any (nat_eq 58) word
any_colon [] = refl
any_colon (byte ∷ word) = rw (is_colon byte, any_colon word)

pub returns : goal.returns
returns c = c.contains.ensures.value ∙ any_colon c.args.word.now

use Rattle.std.proofs.Common.{◌≡◌, ℕ, List, [], ◌∷◌, ◌++◌, length, refl, sym, ◌∙◌, ap, append-nil, arith}
use Rattle.std.specs.Prelude.{flat_map}
use Rattle.std.proofs.lemmas.Bool.Decides.{nat_tests}
use Rattle.ug_lines.proofs.FirstLine.{nothing}
use Rattle.ug_script.specs.Replay.{quoted, quoted_lines}
use Rattle.ug_script.proofs.quoting.push_quoted_lines.Goals as goal

no_bytes : (text : List ℕ) → length text ≡ 0 → text ≡ []
no_bytes [] none = refl
no_bytes (b ∷ text) none = let never : ⊥ = omega (arith, none) in absurd never

no_more : (rest : List ℕ) → length rest ≡ 0 → quoted_lines rest ≡ []
no_more rest none = ap (λ (lines : List (List ℕ)). flat_map quoted lines) (nothing rest (no_bytes rest none))

pub returns : goal.returns
returns c =
    let none : length c.loop-rest.rest.now ≡ 0 = grind (arith, nat_tests, c.is_empty.ensures, c.loop-rest-test.false) in
    sym (append-nil c.loop-rest.text.items)
    ∙ ap (λ (more : List ℕ). c.loop-rest.text.items ++ more) (sym (no_more c.loop-rest.rest.now none))
    ∙ c.loop-rest.invariant

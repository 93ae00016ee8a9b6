use Rattle.std.proofs.Common.{◌≡◌, ◌==◌, ◌⊎◌, inl, inr, ℕ, false, nat_eq, List, [], ◌∷◌, length, slice_index, refl, sym, ap, subst, ◌∙◌, ◌||◌, rules}
use Rattle.std.proofs.lemmas.Bool.{cond-false, false≢true, ne_eqb, or_from}
use Rattle.ug_words.specs.declared.pieces.Inner.{Inner}
use Rattle.ug_words.specs.declared.pieces.Inner.TheVariants.{Byte, Stray}
use Rattle.ug_words.specs.Lexing.{escape_of, hex_escape}
use Rattle.ug_words.proofs.Steps.{rest_at, rest_is}
use Rattle.ug_words.proofs.string.escape.Goals as goal

plain : (bytes : List ℕ) → false ≡ (length bytes == 0) → (slice_index bytes 0 ≡ 34) ⊎ (slice_index bytes 0 ≡ 92) → Byte (slice_index bytes 0) 1 ≡ escape_of bytes
plain [] e h = absurd (false≢true e)
plain (b ∷ bytes) e (inl h) = subst (λ (n : ℕ). Byte n 1 ≡ escape_of (n ∷ bytes)) (sym h) refl
plain (b ∷ bytes) e (inr h) = subst (λ (n : ℕ). Byte n 1 ≡ escape_of (n ∷ bytes)) (sym h) refl

coded : (bytes : List ℕ) (read : Inner) → false ≡ (length bytes == 0) → slice_index bytes 0 ≡ 120 → read ≡ hex_escape (rest_at 1 bytes) → read ≡ escape_of bytes
coded [] read e h k = absurd (false≢true e)
coded (b ∷ bytes) read e h k = k ∙ ap hex_escape (rest_is 1 (b ∷ bytes)) ∙ ap (λ (n : ℕ). escape_of (n ∷ bytes)) (sym h)

stray : (bytes : List ℕ) → false ≡ (length bytes == 0) → (slice_index bytes 0 ≡ 34 → ⊥) → (slice_index bytes 0 ≡ 92 → ⊥) → (slice_index bytes 0 ≡ 120 → ⊥) → Stray ≡ escape_of bytes
stray [] e quote slash coded = absurd (false≢true e)
stray (b ∷ bytes) e quote slash coded =
    sym (cond-false (nat_eq b 34 || nat_eq b 92) _ _ (or_from (nat_eq b 34) (nat_eq b 92) (ne_eqb b 34 quote) (ne_eqb b 92 slash)) ∙ cond-false (nat_eq b 120) _ _ (ne_eqb b 120 coded))

pub returns-in-34-clause-is : goal.returns-in-34-clause-is
returns-in-34-clause-is c = plain c.args.bytes.now c.if-is_empty.ensures c.in-34.is

pub returns-in-120-clause-is : goal.returns-in-120-clause-is
returns-in-120-clause-is c = coded c.args.bytes.now _ c.if-is_empty.ensures c.in-120.is c.digits.ensures.is

pub returns-in_default-clause-is : goal.returns-in_default-clause-is
returns-in_default-clause-is c = stray c.args.bytes.now c.if-is_empty.ensures (search rules) (search rules) (search rules)

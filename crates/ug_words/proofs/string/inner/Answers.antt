use Rattle.std.proofs.Common.{◌≡◌, ◌==◌, ℕ, false, nat_eq, List, [], ◌∷◌, length, slice_index, sym, ap, ◌∙◌, rules}
use Rattle.std.proofs.lemmas.Bool.{cond-false, false≢true, ne_eqb}
use Rattle.ug_words.specs.declared.pieces.Inner.{Inner}
use Rattle.ug_words.specs.declared.pieces.Inner.TheVariants.{Byte}
use Rattle.ug_words.specs.Lexing.{escape_of, inner_of}
use Rattle.ug_words.proofs.Steps.{rest_at, rest_is}
use Rattle.ug_words.proofs.string.inner.Goals as goal

slash : (bytes : List ℕ) (read : Inner) → false ≡ (length bytes == 0) → slice_index bytes 0 ≡ 92 → read ≡ escape_of (rest_at 1 bytes) → read ≡ inner_of bytes
slash [] read e h k = absurd (false≢true e)
slash (b ∷ bytes) read e h k = k ∙ ap escape_of (rest_is 1 (b ∷ bytes)) ∙ ap (λ (n : ℕ). inner_of (n ∷ bytes)) (sym h)

itself : (bytes : List ℕ) → false ≡ (length bytes == 0) → (slice_index bytes 0 ≡ 34 → ⊥) → (slice_index bytes 0 ≡ 10 → ⊥) → (slice_index bytes 0 ≡ 92 → ⊥) → Byte (slice_index bytes 0) 0 ≡ inner_of bytes
itself [] e quote line slash = absurd (false≢true e)
itself (b ∷ bytes) e quote line slash =
    sym (cond-false (nat_eq b 34) _ _ (ne_eqb b 34 quote) ∙ cond-false (nat_eq b 10) _ _ (ne_eqb b 10 line) ∙ cond-false (nat_eq b 92) _ _ (ne_eqb b 92 slash))

pub returns-in-92-clause-is : goal.returns-in-92-clause-is
returns-in-92-clause-is c = slash c.args.bytes.now _ c.if-is_empty.ensures c.in-92.is c.escape.ensures.is

pub returns-in_default-clause-is : goal.returns-in_default-clause-is
returns-in_default-clause-is c = itself c.args.bytes.now c.if-is_empty.ensures (search rules) (search rules) (search rules)

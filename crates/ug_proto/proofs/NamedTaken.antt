-- A refusal with one number is taken.
use Rattle.std.proofs.Common.{◌≡◌, ℕ, ◌<◌, ◌^◌, List, ◌++◌, sym, ap, subst, ◌∙◌, append_assoc, arith}
use Rattle.ug_types.specs.declared.refusal.Refusal.{Refusal}
use Rattle.ug_proto.specs.NamedNumbers.{renumbered, IsNamedThen}
use Rattle.ug_proto.specs.RefusalParts.{IsNumberIn, named_number, refusal_rest, HasRefusalNumber}
use Rattle.ug_proto.specs.Scanning.{IsTextThen}

-- a text behind a word
pub front_taken : {X : Type 0} (word : List ℕ) (part : X → List ℕ) (Can : X → Type 0) (bytes behind : List ℕ) (x : X) (rest : List ℕ) → bytes ≡ word ++ behind → IsTextThen part Can behind x rest → IsTextThen (λ y. word ++ part y) Can bytes x rest
front_taken word part Can bytes behind x rest e h = (h.0, e ∙ ap (λ (l : List ℕ). word ++ l) h.1 ∙ sym (append_assoc word (part x) rest))

-- a refusal of that number with the number that was taken
pub number_taken : (n m most : ℕ) (name : List ℕ) (r s : Refusal) (bytes rest : List ℕ) → n ≡ m → ((x : ℕ) → IsNumberIn 0 most x → HasRefusalNumber m (renumbered r x)) → ((x : ℕ) → IsNumberIn 0 most x → refusal_rest (renumbered r x) ≡ named_number name x)
    → IsNamedThen name most r bytes s rest → IsTextThen refusal_rest (HasRefusalNumber n) bytes s rest
number_taken n m most name r s bytes rest e f g h =
    let text : refusal_rest s ≡ named_number name h.0 = ap refusal_rest h.2 ∙ g h.0 h.1.0 in
    (subst (λ (k : ℕ). HasRefusalNumber k s) (sym e) (subst (HasRefusalNumber m) (sym h.2) (f h.0 h.1.0)), h.1.1 ∙ ap (λ (l : List ℕ). l ++ rest) (sym text))

pub any_taken : (n m : ℕ) (name : List ℕ) (r s : Refusal) (bytes rest : List ℕ) → n ≡ m → ((x : ℕ) → x < 2 ^ 64 → HasRefusalNumber m (renumbered r x)) → ((x : ℕ) → refusal_rest (renumbered r x) ≡ named_number name x)
    → IsNamedThen name 18446744073709551615 r bytes s rest → IsTextThen refusal_rest (HasRefusalNumber n) bytes s rest
any_taken n m name r s bytes rest e f g h = number_taken n m 18446744073709551615 name r s bytes rest e (λ x k. f x (omega (arith, k.1))) (λ x k. g x) h

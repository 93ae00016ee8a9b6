-- Numbers that are listed.
use Rattle.std.proofs.Common.{◌≡◌, inl, inr, Bool, true, false, ℕ, ◌+◌, ◌<◌, ◌≤◌, List, length, get_or, drop, refl, sym, subst, ◌∙◌}
use Rattle.std.specs.Prelude.{IsTrue, ◌↔◌}
use Rattle.std.proofs.lemmas.Bool.{false≢true}
use Rattle.std.proofs.lemmas.List.{drop_more, drop_all}
use Rattle.ug_types.specs.Elements.{Has}

pub listed_here : (xs : List ℕ) (i n : ℕ) → i < length xs → get_or xs i 0 ≡ n → (Has (drop i xs) n ↔ Has xs n) → IsTrue true ↔ Has xs n
listed_here xs i n h e k = (λ _. k.0 (subst (λ l. Has l n) (sym (drop_more xs i 0 h)) (inl e)), λ _. refl)

pub listed_behind : (xs : List ℕ) (i n : ℕ) → i < length xs → (get_or xs i 0 ≡ n → ⊥) → (Has (drop i xs) n ↔ Has xs n) → Has (drop (i + 1) xs) n ↔ Has xs n
listed_behind xs i n h ne k = (
  λ r. k.0 (subst (λ l. Has l n) (sym (drop_more xs i 0 h)) (inr r)),
  λ a. elim (subst (λ l. Has l n) (drop_more xs i 0 h) (k.1 a)) [ inl e ↦ absurd (ne e) | inr r ↦ r ],
)

pub listed_nowhere : (xs : List ℕ) (i n : ℕ) → length xs ≤ i → (Has (drop i xs) n ↔ Has xs n) → IsTrue false ↔ Has xs n
listed_nowhere xs i n h k = (λ e. absurd (false≢true e), λ a. absurd (subst (λ l. Has l n) (drop_all i xs h) (k.1 a)))

pub has_same : {xs ys : List ℕ} {a b : ℕ} → xs ≡ ys → a ≡ b → Has xs a → Has ys b
has_same {ys = ys} {a = a} e f h = subst (λ n. Has ys n) f (subst (λ l. Has l a) e h)

pub has_none : {xs ys : List ℕ} {a b : ℕ} {test : Bool} {X : Type 0} → xs ≡ ys → a ≡ b → (Has xs a → IsTrue test) → test ≡ false → Has ys b → X
has_none e f h t k = absurd (false≢true (sym t ∙ h (has_same (sym e) (sym f) k)))

-- The order of the pieces, from the front.
use Rattle.std.proofs.Common.{◌≡◌, ℕ, Bool, true, false, ◌||◌, nat_eq, List, [], ◌∷◌, ◌++◌, slice_index, refl, sym, ap, ◌∙◌, arith}
use Rattle.ug_record.specs.Grammar.{HasConfiguration, AreConfigured}

abbrev pub is_config : List ℕ → Bool
is_config piece = nat_eq (slice_index piece 1) 2

abbrev pub has_config : List (List ℕ) → Bool
has_config [] = false
has_config (piece ∷ pieces) = is_config piece || has_config pieces

-- each interface has a configuration before it, where one stood before the pieces if the first argument says so
abbrev pub Ordered : Bool → List (List ℕ) → Type 0
Ordered configured [] = Unit {0}
Ordered configured (piece ∷ pieces) = (slice_index piece 1 ≡ 4 → configured ≡ true) × Ordered (configured || is_config piece) pieces

stands : (pieces : List (List ℕ)) → has_config pieces ≡ true → HasConfiguration pieces
stands [] e = absurd cc
stands (piece ∷ pieces) e =
    let G : Bool → Type 0 = λ b. is_config piece ≡ b → HasConfiguration (piece ∷ pieces) in
    let g : (b : Bool) → G b = λ b. elim b as G [
      | true ↦ λ f. ([], piece, pieces, refl, grind arith)
      | false ↦ λ f.
          let later : has_config pieces ≡ true = grind arith in
          let h = stands pieces later in
          (piece ∷ h.0, h.1, h.2, ap (λ (l : List (List ℕ)). piece ∷ l) h.3, h.4)
    ] in
    g (is_config piece) refl

is_seen : (front : List (List ℕ)) (piece : List ℕ) (rest : List (List ℕ)) → slice_index piece 1 ≡ 2 → has_config (front ++ piece ∷ rest) ≡ true
is_seen [] piece rest e = grind arith
is_seen (p ∷ front) piece rest e = let h = is_seen front piece rest e in grind arith

seen : (pieces : List (List ℕ)) → HasConfiguration pieces → has_config pieces ≡ true
seen pieces h = ap has_config h.3 ∙ is_seen h.0 h.1 h.2 h.4

or_assoc : (a b c : Bool) → (a || (b || c)) ≡ ((a || b) || c)
or_assoc true b c = refl
or_assoc false b c = refl

or_false : (a : Bool) → (a || false) ≡ true → a ≡ true
or_false true e = refl
or_false false e = e

from_splits : (configured : Bool) (pieces : List (List ℕ)) → ((front : List (List ℕ)) (piece : List ℕ) (rest : List (List ℕ)) → pieces ≡ front ++ piece ∷ rest → slice_index piece 1 ≡ 4 → (configured || has_config front) ≡ true) → Ordered configured pieces
from_splits configured [] h = tt
from_splits configured (p ∷ pieces) h = (
  λ e. or_false configured (h [] p pieces refl e),
  from_splits (configured || is_config p) pieces (λ front piece rest s e.
      sym (or_assoc configured (is_config p) (has_config front)) ∙ h (p ∷ front) piece rest (ap (λ (l : List (List ℕ)). p ∷ l) s) e),
)

pub ordered : (pieces : List (List ℕ)) → AreConfigured pieces → Ordered false pieces
ordered pieces h = from_splits false pieces (λ front piece rest s e. seen front (h front piece rest s e))

to_splits : (configured : Bool) (pieces : List (List ℕ)) → Ordered configured pieces → (front : List (List ℕ)) (piece : List ℕ) (rest : List (List ℕ)) → pieces ≡ front ++ piece ∷ rest → slice_index piece 1 ≡ 4 → (configured || has_config front) ≡ true
to_splits configured [] h [] piece rest s e = let none : ⊥ = cc in absurd none
to_splits configured [] h (f ∷ front) piece rest s e = let none : ⊥ = cc in absurd none
to_splits configured (p ∷ pieces) h [] piece rest s e =
    let same : p ≡ piece = cc in
    let c : configured ≡ true = h.0 (ap (λ (q : List ℕ). slice_index q 1) same ∙ e) in
    ap (λ (b : Bool). b || false) c
to_splits configured (p ∷ pieces) h (f ∷ front) piece rest s e =
    let same : p ≡ f = cc in
    let tails : pieces ≡ front ++ piece ∷ rest = cc in
    let t = to_splits (configured || is_config p) pieces h.1 front piece rest tails e in
    ap (λ (q : List ℕ). configured || (is_config q || has_config front)) (sym same) ∙ or_assoc configured (is_config p) (has_config front) ∙ t

pub in_order : (pieces : List (List ℕ)) → Ordered false pieces → AreConfigured pieces
in_order pieces h = λ front piece rest s e. stands front (to_splits false pieces h front piece rest s e)

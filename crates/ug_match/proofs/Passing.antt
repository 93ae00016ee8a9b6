-- Walks over lists whose elements, or pairs, pass a test.
use Rattle.std.proofs.Common.{◌≡◌, ℕ, ◌+◌, ◌<◌, ◌≤◌, List, ◌∷◌, Bool, true, false, ◌&&◌, ◌||◌, nat_eq, length, get_or, take, drop, refl, sym, ap, ◌∙◌}
use Rattle.std.specs.List.{list_all, list_any, zip}
use Rattle.std.proofs.lemmas.Bool.Decides.{Decides-eqb}
use Rattle.std.proofs.lemmas.List.{at_drop_more, at_drop_all, take_all}
use Rattle.std.proofs.lemmas.List.Folds.{list_all_at, list_all_more, list_any_at, list_any_more}
use Rattle.ug_match.specs.Operators.{in_order}

-- none so far passes
pub any_more : {X : Type 0} (p : X → Bool) (xs : List X) (i : ℕ) (x : X) (b : Bool) → i < length xs → x ≡ get_or xs i x → b ≡ p x → b ≡ false → list_any p (take i xs) ≡ false → list_any p (take (i + 1) xs) ≡ false
any_more p xs i x b below is test unmet before =
    list_any_more p xs i x below
    ∙ ap (λ (c : Bool). c || p (get_or xs i x)) before
    ∙ ap p (sym is)
    ∙ sym test
    ∙ unmet

pub any_found : {X : Type 0} (p : X → Bool) (xs : List X) (i : ℕ) (x : X) (b : Bool) → i < length xs → x ≡ get_or xs i x → b ≡ p x → b ≡ true → true ≡ list_any p xs
any_found p xs i x b below is test met = sym (list_any_at p xs i x below (ap p (sym is) ∙ sym test ∙ met))

pub any_end : {X : Type 0} (p : X → Bool) (xs : List X) (i : ℕ) → length xs ≤ i → list_any p (take i xs) ≡ false → false ≡ list_any p xs
any_end {X} p xs i past none = sym none ∙ ap (λ (v : List X). list_any p v) (take_all i xs past)

-- each so far passes
pub all_more : {X : Type 0} (p : X → Bool) (xs : List X) (i : ℕ) (x : X) (b : Bool) → i < length xs → x ≡ get_or xs i x → b ≡ p x → b ≡ true → list_all p (take i xs) ≡ true → list_all p (take (i + 1) xs) ≡ true
all_more p xs i x b below is test met before =
    list_all_more p xs i x below
    ∙ ap (λ (c : Bool). c && p (get_or xs i x)) before
    ∙ ap p (sym is)
    ∙ sym test
    ∙ met

pub all_failed : {X : Type 0} (p : X → Bool) (xs : List X) (i : ℕ) (x : X) (b : Bool) → i < length xs → x ≡ get_or xs i x → b ≡ p x → b ≡ false → false ≡ list_all p xs
all_failed p xs i x b below is test unmet = sym (list_all_at p xs i x below (ap p (sym is) ∙ sym test ∙ unmet))

pub all_end : {X : Type 0} (p : X → Bool) (xs : List X) (i : ℕ) → length xs ≤ i → list_all p (take i xs) ≡ true → true ≡ list_all p xs
all_end {X} p xs i past each = sym each ∙ ap (λ (v : List X). list_all p v) (take_all i xs past)

abbrev pub pairs_pass : {X Y : Type 0} → (X → Y → Bool) → List X → List Y → Bool
pairs_pass covers xs ys = list_all (λ pair. covers pair.0 pair.1) (zip xs ys)

and_none : (b c : Bool) → c ≡ false → (b && c) ≡ false
and_none true c none = none
and_none false c none = refl

one_pair : {X Y : Type 0} (covers : X → Y → Bool) (xs : List X) (ys : List Y) (i : ℕ) (x : X) (y : Y) (b : Bool) → i < length xs → i < length ys → x ≡ get_or xs i x → y ≡ get_or ys i y → b ≡ covers x y → pairs_pass covers (drop i xs) (drop i ys) ≡ (b && pairs_pass covers (drop (i + 1) xs) (drop (i + 1) ys))
one_pair {X} {Y} covers xs ys i x y b below there is seen passes =
    let left = drop (i + 1) xs in
    let right = drop (i + 1) ys in
    at_drop_more (λ (v : List X). pairs_pass covers v (drop i ys)) xs i x below
    ∙ at_drop_more (λ (w : List Y). pairs_pass covers (get_or xs i x ∷ left) w) ys i y there
    ∙ ap (λ (v : X). covers v (get_or ys i y) && pairs_pass covers left right) (sym is)
    ∙ ap (λ (w : Y). covers x w && pairs_pass covers left right) (sym seen)
    ∙ ap (λ (c : Bool). c && pairs_pass covers left right) (sym passes)

-- a pair that passes leaves the others to decide
pub pair_passes : {X Y : Type 0} (covers : X → Y → Bool) (xs : List X) (ys : List Y) (i : ℕ) (x : X) (y : Y) (b : Bool) → i < length xs → i < length ys → x ≡ get_or xs i x → y ≡ get_or ys i y → b ≡ covers x y → b ≡ true → pairs_pass covers (drop i xs) (drop i ys) ≡ pairs_pass covers xs ys → pairs_pass covers (drop (i + 1) xs) (drop (i + 1) ys) ≡ pairs_pass covers xs ys
pair_passes covers xs ys i x y b below there is seen passes met left =
    sym (ap (λ (c : Bool). c && pairs_pass covers (drop (i + 1) xs) (drop (i + 1) ys)) met)
    ∙ sym (one_pair covers xs ys i x y b below there is seen passes)
    ∙ left

-- one that doesn't pass decides
pub pair_fails : {X Y : Type 0} (covers : X → Y → Bool) (xs : List X) (ys : List Y) (i : ℕ) (x : X) (y : Y) (b : Bool) → i < length xs → i < length ys → x ≡ get_or xs i x → y ≡ get_or ys i y → b ≡ covers x y → b ≡ false → pairs_pass covers (drop i xs) (drop i ys) ≡ pairs_pass covers xs ys → false ≡ in_order covers xs ys
pair_fails covers xs ys i x y b below there is seen passes unmet left =
    sym (and_none (nat_eq (length xs) (length ys)) (pairs_pass covers xs ys)
    (sym left
    ∙ one_pair covers xs ys i x y b below there is seen passes
    ∙ ap (λ (c : Bool). c && pairs_pass covers (drop (i + 1) xs) (drop (i + 1) ys)) unmet))

-- each passed
pub pairs_end : {X Y : Type 0} (covers : X → Y → Bool) (xs : List X) (ys : List Y) (i : ℕ) → length xs ≤ i → length xs ≡ length ys → pairs_pass covers (drop i xs) (drop i ys) ≡ pairs_pass covers xs ys → true ≡ in_order covers xs ys
pairs_end {X} covers xs ys i past same left =
    sym (at_drop_all (λ (v : List X). pairs_pass covers v (drop i ys)) xs i past)
    ∙ left
    ∙ ap (λ (b : Bool). b && pairs_pass covers xs ys) (sym ((Decides-eqb (length xs) (length ys)).1 same))

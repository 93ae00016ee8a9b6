-- Lists of places whose end is moved.
use Rattle.std.proofs.Common.{◌≡◌, ℕ, zero, suc, pred, ◌-◌, ◌<◌, ◌≤◌, List, [], ◌∷◌, ◌++◌, Bool, true, false, ◌&&◌, nat_le, length, get_or, set, take, drop, map, arith, refl, sym, ap, ◌∙◌}
use Rattle.std.proofs.lemmas.Bool.{cond-true, cond-false, le-leb, lt-leb}
use Rattle.ug_policy.specs.Places.{all_from, count_before}

-- the walk from the end stops at a place before `at`, or at the front
abbrev pub Stops : ℕ → ℕ → List ℕ → Type 0
Stops at zero ps = Unit {0}
Stops at (suc k) ps = nat_le at (get_or ps k 0) ≡ false

and_false : (b : Bool) → (b && false) ≡ false
and_false true = refl
and_false false = refl

one_before : (at k : ℕ) (ps : List ℕ) → k < length ps → nat_le at (get_or ps k 0) ≡ false → all_from at ps ≡ false
one_before at k [] lt h = absurd (omega arith)
one_before at zero (p ∷ ps) lt h = ap (λ (b : Bool). b && all_from at ps) h
one_before at (suc k) (p ∷ ps) lt h = ap (λ (b : Bool). nat_le at p && b) (one_before at k ps (omega arith) h) ∙ and_false (nat_le at p)

pub count_is : (at k : ℕ) (ps : List ℕ) → k ≤ length ps → all_from at (drop k ps) ≡ true → Stops at k ps → count_before at ps ≡ k
count_is at zero [] le h s = refl
count_is at (suc k) [] le h s = absurd (omega arith)
count_is at zero (p ∷ ps) le h s = cond-true (all_from at (p ∷ ps)) 0 (suc (count_before at ps)) h
count_is at (suc k) (p ∷ ps) le h s = cond-false (all_from at (p ∷ ps)) 0 (suc (count_before at ps)) (one_before at k (p ∷ ps) (omega arith) s) ∙ ap suc (count_is at k ps (omega arith) h (earlier k s)) where
  earlier : (k : ℕ) → Stops at (suc k) (p ∷ ps) → Stops at k ps
  earlier zero s = tt
  earlier (suc k) s = s

pub step_down : (f : ℕ → ℕ) (ps : List ℕ) (k : ℕ) → k < length ps → set (take (suc k) ps ++ map f (drop (suc k) ps)) k (f (get_or ps k 0)) ≡ take k ps ++ map f (drop k ps)
step_down f [] k lt = absurd (omega arith)
step_down f (p ∷ ps) zero lt = refl
step_down f (p ∷ ps) (suc k) lt = ap (λ (v : List ℕ). p ∷ v) (step_down f ps k (omega arith))

pub front_kept : (f : ℕ → ℕ) (ps : List ℕ) (k : ℕ) → k < length ps → get_or (take (suc k) ps ++ map f (drop (suc k) ps)) k 0 ≡ get_or ps k 0
front_kept f [] k lt = absurd (omega arith)
front_kept f (p ∷ ps) zero lt = refl
front_kept f (p ∷ ps) (suc k) lt = front_kept f ps k (omega arith)

pub all_more : (at : ℕ) (ps : List ℕ) (k : ℕ) → k < length ps → nat_le at (get_or ps k 0) ≡ true → all_from at (drop (suc k) ps) ≡ true → all_from at (drop k ps) ≡ true
all_more at [] k lt h a = absurd (omega arith)
all_more at (p ∷ ps) zero lt h a = ap (λ (b : Bool). b && all_from at ps) h ∙ a
all_more at (p ∷ ps) (suc k) lt h a = all_more at ps k (omega arith) h a

-- one step of the walk: the place before is moved
pub stepped : (f : ℕ → ℕ) (ps now : List ℕ) (n k y : ℕ) → n ≡ suc k → n ≤ length ps → now ≡ take n ps ++ map f (drop n ps) → y ≡ f (get_or now k 0) → set now k y ≡ take k ps ++ map f (drop k ps)
stepped f ps now n k y same within e v =
    let lt : k < length ps = omega arith in
    let whole : now ≡ take (suc k) ps ++ map f (drop (suc k) ps) = e ∙ ap (λ (m : ℕ). take m ps ++ map f (drop m ps)) same in
    let moved : y ≡ f (get_or ps k 0) = v ∙ ap f (ap (λ (w : List ℕ). get_or w k 0) whole ∙ front_kept f ps k lt) in
    ap (λ (m : ℕ). set now k m) moved ∙ ap (λ (w : List ℕ). set w k (f (get_or ps k 0))) whole ∙ step_down f ps k lt

-- the place before, as the walk reads it
pub read_before : (f : ℕ → ℕ) (ps now : List ℕ) (n k : ℕ) → n ≡ suc k → n ≤ length ps → now ≡ take n ps ++ map f (drop n ps) → get_or now k 0 ≡ get_or ps k 0
read_before f ps now n k same within e = ap (λ (w : List ℕ). get_or w k 0) (e ∙ ap (λ (m : ℕ). take m ps ++ map f (drop m ps)) same) ∙ front_kept f ps k (omega arith)

pub one_more : (at : ℕ) (ps : List ℕ) (n k p : ℕ) → n ≡ suc k → n ≤ length ps → p ≡ get_or ps k 0 → at ≤ p → all_from at (drop n ps) ≡ true → all_from at (drop k ps) ≡ true
one_more at ps n k p same within read le a =
    all_more at ps k (omega arith) (ap (λ (m : ℕ). nat_le at m) (sym read) ∙ le-leb at p le) (ap (λ (m : ℕ). all_from at (drop m ps)) (sym same) ∙ a)

pub stop_before : (at : ℕ) (ps : List ℕ) (n k p : ℕ) → n ≡ suc k → n ≤ length ps → p ≡ get_or ps k 0 → p < at → all_from at (drop n ps) ≡ true → count_before at ps ≡ n
stop_before at ps n k p same within read lt a =
    count_is at (suc k) ps (omega arith) (ap (λ (m : ℕ). all_from at (drop m ps)) (sym same) ∙ a) (ap (λ (m : ℕ). nat_le at m) (sym read) ∙ lt-leb at p lt)
    ∙ sym same

pub stop_first : (at : ℕ) (ps : List ℕ) (n : ℕ) → n ≡ 0 → all_from at (drop n ps) ≡ true → count_before at ps ≡ n
stop_first at ps n none a = count_is at zero ps (omega arith) (ap (λ (m : ℕ). all_from at (drop m ps)) (sym none) ∙ a) tt ∙ sym none

pub pred_is : (n : ℕ) → n - 1 ≡ pred n
pred_is zero = refl
pred_is (suc n) = omega arith

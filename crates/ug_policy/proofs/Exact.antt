-- What a list of places becomes where a rule is put in or taken out.
use Rattle.std.proofs.Common.{◌≡◌, ℕ, zero, suc, pred, ◌+◌, ◌-◌, ◌<◌, ◌≤◌, List, [], ◌∷◌, ◌++◌, Bool, true, false, cond, ◌&&◌, length, get_or, take, drop, map, arith, refl, sym, ap, ◌∙◌, append_assoc}
use Rattle.std.specs.List.{All, insert, remove}
use Rattle.std.proofs.lemmas.Bool.{cond-true, cond-false, le-leb, lt-leb}
use Rattle.ug_policy.specs.declared.reach.Reach.{Reach}
use Rattle.ug_policy.specs.Places.{places_from, places_by, all_from, count_before, lowered, put_in, taken_out}

pub places_append : (kept : Reach → Bool) (s : ℕ) (xs ys : List Reach) → places_from kept s (xs ++ ys) ≡ places_from kept s xs ++ places_from kept (s + length xs) ys
places_append kept s [] ys = let none : s ≡ s + 0 = omega arith in ap (λ (n : ℕ). places_from kept n ys) none
places_append kept s (x ∷ xs) ys =
    let same : suc s + length xs ≡ s + suc (length xs) = omega arith in
    let later : places_from kept (suc s) (xs ++ ys) ≡ places_from kept (suc s) xs ++ places_from kept (s + suc (length xs)) ys = places_append kept (suc s) xs ys ∙ ap (λ (n : ℕ). places_from kept (suc s) xs ++ places_from kept n ys) same in
    elim (kept x) as (λ (b : Bool). cond b (s ∷ places_from kept (suc s) (xs ++ ys)) (places_from kept (suc s) (xs ++ ys)) ≡ cond b (s ∷ places_from kept (suc s) xs) (places_from kept (suc s) xs) ++ places_from kept (s + suc (length xs)) ys) [
      | true ↦ ap (λ (v : List ℕ). s ∷ v) later
      | false ↦ later
    ]

pub places_later : (kept : Reach → Bool) (s : ℕ) (xs : List Reach) → map suc (places_from kept s xs) ≡ places_from kept (suc s) xs
places_later kept s [] = refl
places_later kept s (x ∷ xs) = elim (kept x) as (λ (b : Bool). map suc (cond b (s ∷ places_from kept (suc s) xs) (places_from kept (suc s) xs)) ≡ cond b (suc s ∷ places_from kept (suc (suc s)) xs) (places_from kept (suc (suc s)) xs)) [
  | true ↦ ap (λ (v : List ℕ). suc s ∷ v) (places_later kept (suc s) xs)
  | false ↦ places_later kept (suc s) xs
]

pub places_earlier : (kept : Reach → Bool) (s : ℕ) (xs : List Reach) → map pred (places_from kept (suc s) xs) ≡ places_from kept s xs
places_earlier kept s [] = refl
places_earlier kept s (x ∷ xs) = elim (kept x) as (λ (b : Bool). map pred (cond b (suc s ∷ places_from kept (suc (suc s)) xs) (places_from kept (suc (suc s)) xs)) ≡ cond b (s ∷ places_from kept (suc s) xs) (places_from kept (suc s) xs)) [
  | true ↦ ap (λ (v : List ℕ). s ∷ v) (places_earlier kept (suc s) xs)
  | false ↦ places_earlier kept (suc s) xs
]

-- each is below n
abbrev pub AllBelow : ℕ → List ℕ → Type 0
AllBelow n [] = Unit {0}
AllBelow n (p ∷ ps) = (p < n) × AllBelow n ps

pub places_below : (kept : Reach → Bool) (s n : ℕ) (xs : List Reach) → s + length xs ≤ n → AllBelow n (places_from kept s xs)
places_below kept s n [] le = tt
places_below kept s n (x ∷ xs) le = elim (kept x) as (λ (b : Bool). AllBelow n (cond b (s ∷ places_from kept (suc s) xs) (places_from kept (suc s) xs))) [
  | true ↦ (omega arith, places_below kept (suc s) n xs (omega arith))
  | false ↦ places_below kept (suc s) n xs (omega arith)
]

pub places_behind : (kept : Reach → Bool) (s at : ℕ) (xs : List Reach) → at ≤ s → all_from at (places_from kept s xs) ≡ true
places_behind kept s at [] le = refl
places_behind kept s at (x ∷ xs) le = elim (kept x) as (λ (b : Bool). all_from at (cond b (s ∷ places_from kept (suc s) xs) (places_from kept (suc s) xs)) ≡ true) [
  | true ↦ ap (λ (b : Bool). b && all_from at (places_from kept (suc s) xs)) (le-leb at s le) ∙ places_behind kept (suc s) at xs (omega arith)
  | false ↦ places_behind kept (suc s) at xs (omega arith)
]

pub all_below : (n m : ℕ) (ps : List ℕ) → n ≤ m → AllBelow n ps → All (λ p. p < m) ps
all_below n m [] le h = λ i d lt. absurd (omega arith)
all_below n m (p ∷ ps) le h = λ i d lt. at_place (all_below n m ps le h.1) i d lt where
  at_place : All (λ p. p < m) ps → (i d : ℕ) → i < suc (length ps) → get_or (p ∷ ps) i d < m
  at_place later zero d lt = omega (arith, h.0)
  at_place later (suc i) d lt = later i d (omega arith)

count_none : (at : ℕ) (back : List ℕ) → all_from at back ≡ true → count_before at back ≡ 0
count_none at [] h = refl
count_none at (p ∷ ps) h = cond-true (all_from at (p ∷ ps)) 0 (suc (count_before at ps)) h

pub count_front : (at : ℕ) (front back : List ℕ) → AllBelow at front → all_from at back ≡ true → count_before at (front ++ back) ≡ length front
count_front at [] back h a = count_none at back a
count_front at (p ∷ front) back h a =
    cond-false (all_from at (p ∷ front ++ back)) 0 (suc (count_before at (front ++ back))) (ap (λ (b : Bool). b && all_from at (front ++ back)) (lt-leb at p h.0))
    ∙ ap suc (count_front at front back h.1 a)

cut_at : (f : ℕ → ℕ) (front back : List ℕ) → take (length front) (front ++ back) ++ map f (drop (length front) (front ++ back)) ≡ front ++ map f back
cut_at f [] back = refl
cut_at f (p ∷ front) back = ap (λ (v : List ℕ). p ∷ v) (cut_at f front back)

pub moved_at : (f : ℕ → ℕ) (at : ℕ) (front back : List ℕ) → AllBelow at front → all_from at back ≡ true → take (count_before at (front ++ back)) (front ++ back) ++ map f (drop (count_before at (front ++ back)) (front ++ back)) ≡ front ++ map f back
moved_at f at front back h a = ap (λ (n : ℕ). take n (front ++ back) ++ map f (drop n (front ++ back))) (count_front at front back h a) ∙ cut_at f front back

insert_at : (front back : List ℕ) (p : ℕ) → insert (front ++ back) (length front) p ≡ front ++ p ∷ back
insert_at [] back p = refl
insert_at (q ∷ front) back p = ap (λ (v : List ℕ). q ∷ v) (insert_at front back p)

put_here : (b : Bool) (at : ℕ) (front back : List ℕ) → AllBelow at front → all_from at back ≡ true → put_in b at (front ++ back) ≡ front ++ cond b (at ∷ map suc back) (map suc back)
put_here true at front back h a =
    ap (λ (v : List ℕ). insert v (count_before at (front ++ back)) at) (moved_at suc at front back h a)
    ∙ ap (λ (n : ℕ). insert (front ++ map suc back) n at) (count_front at front back h a)
    ∙ insert_at front (map suc back) at
put_here false at front back h a = moved_at suc at front back h a

pub put_exact : (kept : Reach → Bool) (at : ℕ) (xs ys : List Reach) (x : Reach) → at ≡ length xs → put_in (kept x) at (places_by kept (xs ++ ys)) ≡ places_by kept (xs ++ x ∷ ys)
put_exact kept at xs ys x same =
    let here : 0 + length xs ≡ at = omega arith in
    let front = places_by kept xs in
    let back = places_from kept at ys in
    let b = kept x in
    let before : places_by kept (xs ++ ys) ≡ front ++ back = places_append kept 0 xs ys ∙ ap (λ (n : ℕ). front ++ places_from kept n ys) here in
    let after : places_by kept (xs ++ x ∷ ys) ≡ front ++ places_from kept at (x ∷ ys) = places_append kept 0 xs (x ∷ ys) ∙ ap (λ (n : ℕ). front ++ places_from kept n (x ∷ ys)) here in
    ap (λ (v : List ℕ). put_in b at v) before
    ∙ put_here b at front back (places_below kept 0 at xs (omega arith)) (places_behind kept at at ys (omega arith))
    ∙ ap (λ (v : List ℕ). front ++ cond b (at ∷ v) v) (places_later kept at ys)
    ∙ sym after

remove_at : (front back : List ℕ) (p n : ℕ) → n ≡ length front → remove (front ++ p ∷ back) n ≡ front ++ back
remove_at [] back p zero same = refl
remove_at [] back p (suc n) same = absurd (omega arith)
remove_at (q ∷ front) back p zero same = absurd (omega arith)
remove_at (q ∷ front) back p (suc n) same = ap (λ (v : List ℕ). q ∷ v) (remove_at front back p n (omega arith))

below_more : (at : ℕ) (front : List ℕ) → AllBelow at front → AllBelow (suc at) front
below_more at [] h = tt
below_more at (p ∷ front) h = (omega (arith, h.0), below_more at front h.1)

below_last : (at : ℕ) (front : List ℕ) → AllBelow at front → AllBelow (suc at) (front ++ at ∷ [])
below_last at [] h = (omega arith, tt)
below_last at (p ∷ front) h = (omega (arith, h.0), below_last at front h.1)

long_last : (front : List ℕ) (p : ℕ) → length (front ++ p ∷ []) - 1 ≡ length front
long_last [] p = refl
long_last (q ∷ front) p = let more : length (front ++ p ∷ []) - 1 ≡ length front = long_last front p in omega (arith, some front) where
  some : (front : List ℕ) → 0 < length (front ++ p ∷ [])
  some [] = omega arith
  some (q ∷ front) = omega arith

taken_here : (b : Bool) (at : ℕ) (front back : List ℕ) → AllBelow at front → all_from (suc at) back ≡ true → taken_out b at (front ++ cond b (at ∷ back) back) ≡ front ++ map pred back
taken_here true at front back h a =
    let w : List ℕ = front ++ at ∷ [] in
    let whole : front ++ at ∷ back ≡ w ++ back = sym (append_assoc front (at ∷ []) back) in
    let below = below_last at front h in
    ap (λ (v : List ℕ). remove (lowered (suc at) v) (count_before (suc at) v - 1)) whole
    ∙ ap (λ (v : List ℕ). remove v (count_before (suc at) (w ++ back) - 1)) (moved_at pred (suc at) w back below a)
    ∙ ap (λ (n : ℕ). remove (w ++ map pred back) (n - 1)) (count_front (suc at) w back below a)
    ∙ ap (λ (v : List ℕ). remove v (length w - 1)) (append_assoc front (at ∷ []) (map pred back))
    ∙ remove_at front (map pred back) at (length w - 1) (long_last front at)
taken_here false at front back h a = moved_at pred (suc at) front back (below_more at front h) a

pub taken_exact : (kept : Reach → Bool) (at : ℕ) (xs ys : List Reach) (x : Reach) → at ≡ length xs → taken_out (kept x) at (places_by kept (xs ++ x ∷ ys)) ≡ places_by kept (xs ++ ys)
taken_exact kept at xs ys x same =
    let here : 0 + length xs ≡ at = omega arith in
    let front = places_by kept xs in
    let back = places_from kept (suc at) ys in
    let b = kept x in
    let before : places_by kept (xs ++ x ∷ ys) ≡ front ++ cond b (at ∷ back) back = places_append kept 0 xs (x ∷ ys) ∙ ap (λ (n : ℕ). front ++ places_from kept n (x ∷ ys)) here in
    let after : places_by kept (xs ++ ys) ≡ front ++ places_from kept at ys = places_append kept 0 xs ys ∙ ap (λ (n : ℕ). front ++ places_from kept n ys) here in
    ap (λ (v : List ℕ). taken_out b at v) before
    ∙ taken_here b at front back (places_below kept 0 at xs (omega arith)) (places_behind kept (suc at) (suc at) ys (omega arith))
    ∙ ap (λ (v : List ℕ). front ++ v) (places_earlier kept at ys)
    ∙ sym after

-- where the rule is in the list, its place is counted
pub taken_there : (kept : Reach → Bool) (at : ℕ) (xs ys : List Reach) (x : Reach) → at ≡ length xs → kept x ≡ true → count_before (suc at) (places_by kept (xs ++ x ∷ ys)) ≡ length (places_by kept xs) + 1
taken_there kept at xs ys x same h =
    let here : 0 + length xs ≡ at = omega arith in
    let front = places_by kept xs in
    let back = places_from kept (suc at) ys in
    let before : places_by kept (xs ++ x ∷ ys) ≡ (front ++ at ∷ []) ++ back =
    places_append kept 0 xs (x ∷ ys) ∙ ap (λ (n : ℕ). front ++ places_from kept n (x ∷ ys)) here
    ∙ ap (λ (v : List ℕ). front ++ v) (cond-true (kept x) (at ∷ back) back h)
    ∙ sym (append_assoc front (at ∷ []) back) in
    ap (λ (v : List ℕ). count_before (suc at) v) before
    ∙ count_front (suc at) (front ++ at ∷ []) back (below_last at front (places_below kept 0 at xs (omega arith))) (places_behind kept (suc at) (suc at) ys (omega arith))
    ∙ long front where
      long : (front : List ℕ) → length (front ++ at ∷ []) ≡ length front + 1
      long [] = refl
      long (q ∷ front) = let more = long front in omega arith

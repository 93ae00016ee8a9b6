-- No more distinct elements than there are.
use Rattle.std.proofs.Common.{◌≡◌, ◌≤◌, List, [], ◌∷◌, ◌++◌, length, sym, ap, subst, inl, inr, arith, length-append, refl}
use Rattle.ug_types.specs.Elements.{Has, AllDistinct}

-- the list without that element
record Split {X : Type 0} (x : X) (ys : List X) : Type 0 where
  front : List X
  back : List X
  is : ys ≡ front ++ x ∷ back

split : {X : Type 0} (x : X) (ys : List X) → Has ys x → Split x ys
split x [] h = absurd h
split x (y ∷ ys) (inl e) = record { front = []; back = ys; is = ap (λ z. z ∷ ys) e }
split x (y ∷ ys) (inr h) = let s = split x ys h in record { front = y ∷ s.front; back = s.back; is = ap (λ l. y ∷ l) s.is }

-- another element is in what is left
left_there : {X : Type 0} (x z : X) (front back : List X) → (x ≡ z → ⊥) → Has (front ++ x ∷ back) z → Has (front ++ back) z
left_there x z [] back other (inl e) = absurd (other e)
left_there x z [] back other (inr h) = h
left_there x z (y ∷ front) back other (inl e) = inl e
left_there x z (y ∷ front) back other (inr h) = inr (left_there x z front back other h)

same_has : {X : Type 0} (x z : X) (xs : List X) → (Has xs x → ⊥) → Has xs z → x ≡ z → ⊥
same_has x z xs none h e = none (subst (Has xs) (sym e) h)

pub distinct_few : {X : Type 0} (xs ys : List X) → AllDistinct xs → ((z : X) → Has xs z → Has ys z) → length xs ≤ length ys
distinct_few [] ys d h = omega arith
distinct_few (x ∷ xs) ys d h =
    let s = split x ys (h x (inl refl)) in
    let rest = distinct_few xs (s.front ++ s.back) d.1 (λ z a. left_there x z s.front s.back (same_has x z xs d.0 a) (subst (λ l. Has l z) s.is (h z (inr a)))) in
    let whole = ap length s.is in
    let long = length-append s.front (x ∷ s.back) in
    let short = length-append s.front s.back in
    omega (arith, rest, whole, long, short)

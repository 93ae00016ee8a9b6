-- Names stay distinct where they change places.
use Rattle.std.proofs.Common.{◌≡◌, ℕ, Bool, true, false, ◌&&◌, List, [], ◌∷◌, refl, sym, subst, inl, inr}
use Rattle.std.proofs.lemmas.Bool.{both_ways}
use Rattle.std.proofs.lemmas.Bool.Decides.{Decides-eqb}
use Rattle.std.proofs.lemmas.Map.Keys.{IsDistinct-IsPermutation}
use Rattle.std.specs.Cmp.Lexicographic.{pointwise, bytes_decides}
use Rattle.std.specs.List.{AllByRecursion, IsDistinct}
use Rattle.std.specs.List.Sorted.{IsPermutation}
use Rattle.std.specs.Prelude.{nat_eq}
use Rattle.ug_types.specs.Elements.{Has, AllDistinct}
use Rattle.ug_iface.specs.declared.name.IfaceName.{IfaceName}

abbrev same_numbers : IfaceName → IfaceName → Bool
same_numbers a b = nat_eq a.config b.config && nat_eq a.number b.number

abbrev same : IfaceName → IfaceName → Bool
same a b = pointwise nat_eq a.device b.device && same_numbers a b

both : (x y : Bool) → x && y ≡ true → (x ≡ true) × (y ≡ true)
both true true e = (refl, refl)
both true false e = absurd (both_ways false refl e)
both false y e = absurd (both_ways false refl e)

alike : (d e : List ℕ) (c k n m : ℕ) → d ≡ e → c ≡ k → n ≡ m → ◌≡◌ {A = IfaceName} (record { device = d; config = c; number = n }) (record { device = e; config = k; number = m })
alike d e c k n m f g h = cc

same_is : (a b : IfaceName) → same a b ≡ true → a ≡ b
same_is a b e =
    let p = both (pointwise nat_eq a.device b.device) (same_numbers a b) e in
    let q = both (nat_eq a.config b.config) (nat_eq a.number b.number) p.1 in
    alike a.device b.device a.config b.config a.number b.number ((bytes_decides a.device b.device).0 p.0) ((Decides-eqb a.config b.config).0 q.0) ((Decides-eqb a.number b.number).0 q.1)

together : (x y : Bool) → x ≡ true → y ≡ true → x && y ≡ true
together true true e f = refl
together true false e f = f
together false y e f = e

is_same : (a : IfaceName) → same a a ≡ true
is_same a =
    together (pointwise nat_eq a.device a.device) (same_numbers a a) ((bytes_decides a.device a.device).1 refl)
    (together (nat_eq a.config a.config) (nat_eq a.number a.number) ((Decides-eqb a.config a.config).1 refl) ((Decides-eqb a.number a.number).1 refl))

flips : (a b : IfaceName) → same a b ≡ same b a
flips a b = by (same a b) (same b a) refl refl
  where
    by : (v w : Bool) → same a b ≡ v → same b a ≡ w → v ≡ w
    by true true e f = refl
    by false false e f = refl
    by true false e f = absurd (both_ways (same b a) f (subst (λ (c : IfaceName). same b c ≡ true) (sym (same_is a b e)) (is_same b)))
    by false true e f = absurd (both_ways (same a b) e (subst (λ (c : IfaceName). same a c ≡ true) (sym (same_is b a f)) (is_same a)))

apart : (x : IfaceName) (ys : List IfaceName) → (Has ys x → ⊥) → AllByRecursion (λ y. same x y ≡ false) ys
apart x [] n = tt
apart x (y ∷ ys) n = (by (same x y) refl, apart x ys (λ h. n (inr h)))
  where
    by : (v : Bool) → same x y ≡ v → same x y ≡ false
    by true e = absurd (n (inl (sym (same_is x y e))))
    by false e = e

not_there : (x : IfaceName) (ys : List IfaceName) → AllByRecursion (λ y. same x y ≡ false) ys → Has ys x → ⊥
not_there x [] a h = h
not_there x (y ∷ ys) a (inl e) = both_ways (same x y) a.0 (subst (λ (c : IfaceName). same x c ≡ true) (sym e) (is_same x))
not_there x (y ∷ ys) a (inr h) = not_there x ys a.1 h

differ : (xs : List IfaceName) → AllDistinct xs → IsDistinct same xs
unfolding IsDistinct
differ [] d = tt
differ (x ∷ xs) d = (apart x xs d.0, differ xs d.1)

distinct : (xs : List IfaceName) → IsDistinct same xs → AllDistinct xs
unfolding IsDistinct
distinct [] d = tt
distinct (x ∷ xs) d = (not_there x xs d.0, distinct xs d.1)

pub still_distinct : (xs ys : List IfaceName) → IsPermutation xs ys → AllDistinct xs → AllDistinct ys
still_distinct xs ys p d = distinct ys (IsDistinct-IsPermutation same flips xs ys p (differ xs d))

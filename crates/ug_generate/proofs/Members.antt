-- The elements of lists that were joined, and of a list in another order.
use Rattle.std.proofs.Common.{List, [], ◌∷◌, inl, inr, refl, sym, subst}
use Rattle.std.specs.List.{flat_map, AllByRecursion}
use Rattle.std.specs.List.Sorted.{IsPermutation}
use Rattle.std.proofs.lemmas.List.Elements.{All-from_recursion, recursion_from_All}
use Rattle.std.proofs.lemmas.List.Sorted.{All-permutation, IsPermutation-sym}
use Rattle.ug_types.specs.Elements.{Has}
use Rattle.ug_types.proofs.Elements.{has_left, has_right, has_cases}

pub has_flat : {X Y : Type 0} (f : X → List Y) (xs : List X) (x : X) (y : Y) → Has xs x → Has (f x) y → Has (flat_map f xs) y
has_flat f [] x y h k = absurd h
has_flat f (z ∷ xs) x y (inl e) k = has_left (f z) (flat_map f xs) y (subst (λ v. Has (f v) y) (sym e) k)
has_flat f (z ∷ xs) x y (inr h) k = has_right (f z) (flat_map f xs) y (has_flat f xs x y h k)

pub flat_has : {X Y : Type 0} (f : X → List Y) (xs : List X) (y : Y) → Has (flat_map f xs) y → (x : X) × Has xs x × Has (f x) y
flat_has f [] y h = absurd h
flat_has f (z ∷ xs) y h = elim (has_cases (f z) (flat_map f xs) y h) [
  | inl a ↦ (z, inl refl, a)
  | inr b ↦ let k = flat_has f xs y b in (k.0, inr k.1, k.2)
]

each : {X : Type 0} (xs ys : List X) → ((x : X) → Has xs x → Has ys x) → AllByRecursion (Has ys) xs
each [] ys h = tt
each (x ∷ xs) ys h = (h x (inl refl), each xs ys (λ z k. h z (inr k)))

picked : {X : Type 0} (xs ys : List X) (x : X) → AllByRecursion (Has ys) xs → Has xs x → Has ys x
picked [] ys x all h = absurd h
picked (z ∷ xs) ys x all (inl e) = subst (Has ys) e all.0
picked (z ∷ xs) ys x all (inr h) = picked xs ys x all.1 h

pub permuted : {X : Type 0} (xs ys : List X) (x : X) → IsPermutation xs ys → Has xs x → Has ys x
permuted xs ys x p h =
    let all : AllByRecursion (Has ys) xs = recursion_from_All (Has ys) xs (All-permutation (Has ys) ys xs (IsPermutation-sym xs ys p) (All-from_recursion (Has ys) ys (each ys ys (λ z k. k)))) in
    picked xs ys x all h

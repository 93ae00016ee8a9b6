-- The places of the live devices.
use Rattle.std.proofs.Common.{◌≡◌, ℕ, zero, suc, ◌<◌, Bool, true, false, nat_lt, List, [], ◌∷◌, length, Option, Some, None, slice_get, ◌⊎◌, inl, inr, refl, sym, subst, arith}
use Rattle.std.specs.Prelude.{if◌then◌else◌}
use Rattle.std.proofs.lemmas.Bool.{ltb-true, ltb-false}
use Rattle.std.proofs.lemmas.Option.{slice_get_within}
use Rattle.std.specs.Cmp.{IsTotalOrder}
use Rattle.std.specs.Ordering.{nat_cmp}
use Rattle.std.proofs.lemmas.Cmp.{then_total, on_total, nat_cmp_total}
use Rattle.std.proofs.lemmas.List.Sorted.{IsPermutation-sym}
use Rattle.std.proofs.lemmas.Map.Lookups.{exact_pairs, exact_unsigned}
use Rattle.ug_types.specs.Elements.{Has}
use Rattle.ug_types.proofs.Elements.{has_left, has_right, has_cases}
use Rattle.ug_types.specs.Names.{sweep_cmp}
use Rattle.ug_types.specs.Sweep.{sweep_total, sweep_exact}
use Rattle.ug_kernel.specs.Kernel.{Live}
use Rattle.ug_kernel.specs.declared.device.Device.{Device}
use Rattle.ug_generate.specs.Policies.{live_at, live_below, place_cmp, sorted_live_places, AreLiveInOrder}
use Rattle.ug_generate.proofs.Members.{permuted}
use Rattle.ug_generate.proofs.Sorting.{IsExact, sorting_moves, sorting_sorts, sorted_once}

at_place : (ds : List Device) (i : ℕ) (d : Device) → Live ds i d → Has (live_at i (slice_get ds i)) (d.name, i)
at_place ds i d live =
    let p : List ℕ × ℕ = (d.name, i) in
    subst (λ (v : Option Device). Has (live_at i v) p) (sym live.at) (subst (λ (b : Bool). Has (if b then [] else p ∷ []) p) (sym live.here) (inl refl))

last_or_below : (n i : ℕ) → i < suc n → (i ≡ n) ⊎ (i < n)
last_or_below n i lt = by (nat_lt i n) refl
  where
    by : (b : Bool) → nat_lt i n ≡ b → (i ≡ n) ⊎ (i < n)
    by true e = inr (ltb-true i n e)
    by false e = let ge = ltb-false i n e in inl (omega (arith, ge, lt))

has_below : (ds : List Device) (n i : ℕ) (d : Device) → i < n → Live ds i d → Has (live_below ds n) (d.name, i)
has_below ds zero i d lt live = absurd (omega (arith, lt))
has_below ds (suc n) i d lt live =
    let p : List ℕ × ℕ = (d.name, i) in
    elim (last_or_below n i lt) [
      | inl e ↦ has_right (live_below ds n) (live_at n (slice_get ds n)) p (subst (λ (j : ℕ). Has (live_at j (slice_get ds j)) p) e (at_place ds i d live))
      | inr k ↦ has_left (live_below ds n) (live_at n (slice_get ds n)) p (has_below ds n i d k live)
    ]

at_is_live : (ds : List Device) (n : ℕ) (p : List ℕ × ℕ) (found : Option Device) → slice_get ds n ≡ found → Has (live_at n found) p → (d : Device) × Live ds p.1 d
at_is_live ds n p None e h = absurd h
at_is_live ds n p (Some d) e h = by d.gone refl h
  where
    by : (b : Bool) → d.gone ≡ b → Has {X = List ℕ × ℕ} (if b then [] else (d.name, n) ∷ []) p → (d : Device) × Live ds p.1 d
    by true g k = absurd k
    by false g (inl same) = (d, record { at = subst (λ (q : List ℕ × ℕ). slice_get ds q.1 ≡ Some d) same e; here = g })
    by false g (inr k) = absurd k

below_is_live : (ds : List Device) (n : ℕ) (p : List ℕ × ℕ) → Has (live_below ds n) p → (d : Device) × Live ds p.1 d
below_is_live ds zero p h = absurd h
below_is_live ds (suc n) p h = elim (has_cases (live_below ds n) (live_at n (slice_get ds n)) p h) [
  | inl a ↦ below_is_live ds n p a
  | inr b ↦ at_is_live ds n p (slice_get ds n) refl b
]

pub has_place : (ds : List Device) (places : List (List ℕ × ℕ)) (i : ℕ) (d : Device) → AreLiveInOrder ds places → Live ds i d → Has places (d.name, i)
has_place ds places i d o live =
    permuted (live_below ds (length ds)) places (d.name, i) o.all (has_below ds (length ds) i d (slice_get_within ds i d live.at) live)

pub place_is_live : (ds : List Device) (places : List (List ℕ × ℕ)) (p : List ℕ × ℕ) → AreLiveInOrder ds places → Has places p → (d : Device) × Live ds p.1 d
place_is_live ds places p o h =
    below_is_live ds (length ds) p (permuted places (live_below ds (length ds)) p (IsPermutation-sym (live_below ds (length ds)) places o.all) h)

-- ---- their order is one

place_total : IsTotalOrder place_cmp
place_total = then_total (on_total (λ (p : List ℕ × ℕ). p.0) sweep_total) (on_total (λ (p : List ℕ × ℕ). p.1) nat_cmp_total)

place_exact : IsExact place_cmp
place_exact = record { total = place_total; exact = exact_pairs sweep_cmp nat_cmp sweep_exact exact_unsigned }

pub one_order : (ds : List Device) (places : List (List ℕ × ℕ)) → AreLiveInOrder ds places → places ≡ sorted_live_places ds
one_order ds places o = sorted_once place_cmp place_exact (live_below ds (length ds)) places o.all o.order

pub places_in_order : (ds : List Device) → AreLiveInOrder ds (sorted_live_places ds)
places_in_order ds = record { all = sorting_moves place_cmp (live_below ds (length ds)); order = sorting_sorts place_cmp place_total (live_below ds (length ds)) }

-- The index keeps up.
use Rattle.std.proofs.Common.{◌≡◌, ℕ, zero, suc, ◌+◌, ◌-◌, ◌<◌, ◌≤◌, Bool, true, false, cond, if◌then◌else◌, List, [], ◌∷◌, ◌++◌, length, set, get_or, Option, Some, None, nat_eq, vec_capacity, refl, sym, ◌∙◌, ap, subst, arith, length-set, length-append}
use Rattle.std.proofs.lemmas.Bool.{both_ways}
use Rattle.std.proofs.lemmas.Option.{none-some, same_Some, slice_get_within, slice_get-get_or}
use Rattle.std.proofs.lemmas.List.{set-get_or}
use Rattle.std.specs.List.{slice_get}
use Rattle.std.specs.Cmp.Lexicographic.{pointwise}
use Rattle.std.specs.HashMap.{get, spare}
use Rattle.ug_kernel.specs.declared.device.Device.{Device}
use Rattle.ug_kernel.specs.declared.control.Write.{Write}
use Rattle.ug_kernel.specs.Kernel.{live_count}
use Rattle.ug_kernel.specs.Called.{written_to}
use Rattle.ug_kernel.proofs.Sounds.{live_count_set}
use Rattle.ug_sysfs.specs.declared.roster.Roster.TheInside.{Inside}
use Rattle.ug_sysfs.specs.Devices.{IsDistinct, find, with_gone, gone_in}
use Rattle.ug_sysfs.specs.World.{switched_to, switched}
use Rattle.ug_sysfs.specs.Indexed.{HasIndex}
use Rattle.ug_sysfs.proofs.Finds.{find_born, find_gone, find_switched, distinct_push, distinct_gone, distinct_switched}

-- how many are live

pub live_le : (ds : List Device) → live_count ds ≤ length ds
live_le [] = omega arith
live_le (d ∷ ds) = pick d.gone (live_le ds)
  where
    pick : (b : Bool) → live_count ds ≤ length ds → (if b then 0 else 1) + live_count ds ≤ suc (length ds)
    pick true rest = omega (arith, rest)
    pick false rest = omega (arith, rest)

count_born : (ds : List Device) (d : Device) → d.gone ≡ false → live_count (ds ++ d ∷ []) ≡ live_count ds + 1
count_born [] d g = ap (λ (b : Bool). (if b then 0 else 1) + 0) g
count_born (e ∷ ds) d g = let rest = count_born ds d g in omega (arith, rest)

pub count_gone : (ds : List Device) (i : ℕ) (d : Device) → slice_get ds i ≡ Some d → d.gone ≡ false → live_count (set ds i (record d { gone = true })) + 1 ≡ live_count ds
count_gone [] i d at g = absurd (none-some d at)
count_gone (e ∷ ds) zero d at g = pick e.gone (ap (λ (x : Device). x.gone) (same_Some e d at) ∙ g)
  where
    pick : (b : Bool) → b ≡ false → 0 + live_count ds + 1 ≡ (if b then 0 else 1) + live_count ds
    pick true h = absurd (both_ways true h refl)
    pick false h = omega arith
count_gone (e ∷ ds) (suc i) d at g = let rest = count_gone ds i d at g in omega (arith, rest)

pub indexed_born : (r s : Inside) (d : Device) → HasIndex r → 0 < r.room → d.gone ≡ false → find d.name 0 r.all.items ≡ None → ((q : List ℕ) → get (pointwise nat_eq) s.index q ≡ cond (pointwise nat_eq d.name q) (Some (length r.all.items)) (get (pointwise nat_eq) r.index q)) → s.all.items ≡ r.all.items ++ d ∷ [] → s.room ≡ r.room - 1 → vec_capacity s.all ≡ vec_capacity r.all → spare r.index ≤ spare s.index + 1 → s.live ≡ r.live + 1 → HasIndex s
indexed_born r s d h lt g fresh updates items room capacity left live = record {
  index = λ q. updates q ∙ ap (λ o. cond (pointwise nat_eq d.name q) (Some (length r.all.items)) o) (h.index q) ∙ sym (find_born q r.all.items d g fresh) ∙ ap (find q 0) (sym items);
  distinct = subst IsDistinct (sym items) (distinct_push r.all.items d h.distinct fresh);
  places = omega (arith, h.places, ap length items, length-append r.all.items (d ∷ []));
  entries = omega (arith, h.entries);
  live = omega (arith, live, h.live, ap live_count items, count_born r.all.items d g);
}

pub indexed_gone : (r s : Inside) (i : ℕ) (d : Device) → HasIndex r → slice_get r.all.items i ≡ Some d → d.gone ≡ false → ((q : List ℕ) → get (pointwise nat_eq) s.index q ≡ cond (pointwise nat_eq d.name q) None (get (pointwise nat_eq) r.index q)) → s.all.items ≡ set r.all.items i (record d { gone = true }) → s.room ≡ r.room → vec_capacity s.all ≡ vec_capacity r.all → spare r.index ≤ spare s.index → s.live + 1 ≡ r.live → HasIndex s
indexed_gone r s i d h at g updates items room capacity left live = record {
  index = λ q. updates q ∙ ap (λ o. cond (pointwise nat_eq d.name q) None o) (h.index q) ∙ sym (find_gone q r.all.items i d h.distinct at g) ∙ ap (find q 0) (sym items);
  distinct = subst IsDistinct (sym items) (distinct_gone r.all.items i d h.distinct);
  places = omega (arith, h.places, ap length items, length-set r.all.items i (record d { gone = true }));
  entries = omega (arith, h.entries);
  live = omega (arith, live, h.live, ap live_count items, count_gone r.all.items i d at g);
}

pub indexed_switched : (r s : Inside) (i : ℕ) (d : Device) (write : Write) → HasIndex r → slice_get r.all.items i ≡ Some d → s.index ≡ r.index → s.all.items ≡ set r.all.items i (written_to write d) → s.room ≡ r.room → vec_capacity s.all ≡ vec_capacity r.all → s.live ≡ r.live → HasIndex s
indexed_switched r s i d write h at index items room capacity live = record {
  index = λ q. ap (λ m. get (pointwise nat_eq) m q) index ∙ h.index q ∙ sym (find_switched q 0 r.all.items i d write at) ∙ ap (find q 0) (sym items);
  distinct = subst IsDistinct (sym items) (distinct_switched r.all.items i d write at h.distinct);
  places = omega (arith, h.places, ap length items, length-set r.all.items i (written_to write d));
  entries = omega (arith, h.entries, ap spare index);
  live = live ∙ h.live ∙ sym (live_count_set write r.all.items i d at) ∙ ap live_count (sym items);
}

pub gone_at : (ds : List Device) (i : ℕ) (d : Device) → slice_get ds i ≡ Some d → set ds i (record d { gone = true }) ≡ with_gone i ds
gone_at ds i d at = ap (λ o. gone_in i o ds) (sym at)

pub was_gone : (ds : List Device) (i : ℕ) (d : Device) → slice_get ds i ≡ Some d → d.gone ≡ true → ds ≡ with_gone i ds
was_gone ds i d at g =
    let lt = slice_get_within ds i d at in
    let same : get_or ds i d ≡ record d { gone = true } = same_Some (get_or ds i d) d (sym (slice_get-get_or ds i d lt) ∙ at) ∙ (λ j. record d { gone = g j }) in
    sym (set-get_or ds i d) ∙ ap (set ds i) same ∙ gone_at ds i d at

pub switched_at : (write : Write) (i : ℕ) (ds : List Device) (d : Device) → slice_get ds i ≡ Some d → set ds i (written_to write d) ≡ switched write i ds
switched_at write i ds d at = ap (λ o. switched_to write i o ds) (sym at)

-- a write leaves as many live
pub count_switched : (write : Write) (i : ℕ) (ds : List Device) → live_count (switched write i ds) ≡ live_count ds
count_switched write i ds = at (slice_get ds i) refl
  where
    at : (o : Option Device) → slice_get ds i ≡ o → live_count (switched_to write i o ds) ≡ live_count ds
    at None h = refl
    at (Some d) h = live_count_set write ds i d h

-- What a search finds after a change.
use Rattle.std.proofs.Common.{◌≡◌, ℕ, zero, suc, ◌+◌, Bool, true, false, not, ◌&&◌, cond, List, [], ◌∷◌, ◌++◌, length, set, Option, Some, None, nat_eq, refl, sym, ◌∙◌, ap, subst, arith, inl, inr, ◌⊎◌}
use Rattle.std.proofs.lemmas.Bool.{both_ways}
use Rattle.std.proofs.lemmas.Option.{none-some, same_Some}
use Rattle.std.specs.List.{slice_get}
use Rattle.std.specs.Cmp.Lexicographic.{pointwise}
use Rattle.ug_kernel.specs.declared.device.Device.{Device}
use Rattle.ug_kernel.specs.declared.control.Write.{Write}
use Rattle.ug_kernel.specs.Called.{written_to}
use Rattle.ug_kernel.specs.Kernel.{Live}
use Rattle.ug_kernel.proofs.Places.{at_push}
use Rattle.ug_sysfs.specs.Devices.{IsDistinct, is_named, find}
use Rattle.ug_sysfs.specs.Find.{live_named, find_none}

nobody : (q : List ℕ) (n : ℕ) (ds : List Device) → ((i : ℕ) (d : Device) → slice_get ds i ≡ Some d → is_named q d ≡ false) → find q n ds ≡ None
nobody q n [] h = refl
nobody q n (d ∷ ds) h = ap (λ b. cond b (Some n) (find q (n + 1) ds)) (h zero d refl) ∙ nobody q (n + 1) ds (λ i e a. h (suc i) e a)

-- one device more, at the end
find_push : (q : List ℕ) (n : ℕ) (ds : List Device) (d : Device) → (is_named q d ≡ true → find q n ds ≡ None) → find q n (ds ++ d ∷ []) ≡ cond (is_named q d) (Some (length ds + n)) (find q n ds)
find_push q n [] d h = let z : zero + n ≡ n = omega arith in rw z refl
find_push q n (e ∷ ds) d h = pick (is_named q e) refl (is_named q d) refl h (find_push q (n + 1) ds d)
  where
    pick : (b : Bool) → is_named q e ≡ b → (c : Bool) → is_named q d ≡ c → (c ≡ true → cond b (Some n) (find q (n + 1) ds) ≡ None) → ((is_named q d ≡ true → find q (n + 1) ds ≡ None) → find q (n + 1) (ds ++ d ∷ []) ≡ cond (is_named q d) (Some (length ds + (n + 1))) (find q (n + 1) ds)) → cond b (Some n) (find q (n + 1) (ds ++ d ∷ [])) ≡ cond c (Some (suc (length ds) + n)) (cond b (Some n) (find q (n + 1) ds))
    pick true p true r h rest = absurd (none-some n (sym (h refl)))
    pick true p false r h rest = refl
    pick false p true r h rest =
        let more : suc (length ds) + n ≡ length ds + (n + 1) = omega arith in
        rest (λ t. h refl) ∙ ap (λ c. cond c (Some (length ds + (n + 1))) (find q (n + 1) ds)) r ∙ ap Some (sym more)
    pick false p false r h rest = rest (λ t. absurd (both_ways (is_named q d) r t)) ∙ ap (λ c. cond c (Some (length ds + (n + 1))) (find q (n + 1) ds)) r

test_of : (q : List ℕ) (d : Device) → d.gone ≡ false → is_named q d ≡ pointwise nat_eq d.name q
test_of q d g = ap (λ b. not b && pointwise nat_eq d.name q) g

-- as the index sees it
pub find_born : (q : List ℕ) (ds : List Device) (d : Device) → d.gone ≡ false → find d.name 0 ds ≡ None → find q 0 (ds ++ d ∷ []) ≡ cond (pointwise nat_eq d.name q) (Some (length ds)) (find q 0 ds)
find_born q ds d g fresh =
    let z : length ds + 0 ≡ length ds = omega arith in
    find_push q 0 ds d (λ t. subst (λ (x : List ℕ). find x 0 ds ≡ None) (live_named q d t).1 fresh)
    ∙ ap (λ (k : ℕ). cond (is_named q d) (Some k) (find q 0 ds)) z
    ∙ ap (λ (b : Bool). cond b (Some (length ds)) (find q 0 ds)) (test_of q d g)

rest_distinct : (d : Device) (ds : List Device) → IsDistinct (d ∷ ds) → IsDistinct ds
rest_distinct d ds h i j x y a b n = let s : suc i ≡ suc j = h (suc i) (suc j) x y (record { at = a.at; here = a.here }) (record { at = b.at; here = b.here }) n in omega (arith, s)

find_fell : (q : List ℕ) (n : ℕ) (ds : List Device) (i : ℕ) (d : Device) → IsDistinct ds → slice_get ds i ≡ Some d → d.gone ≡ false → find q n (set ds i (record d { gone = true })) ≡ cond (is_named q d) None (find q n ds)
find_fell q n [] i d h a g = absurd (none-some d a)
find_fell q n (e ∷ ds) zero d h a g = pick (is_named q d) refl
  where
    same : e ≡ d
    same = same_Some e d a

    others : is_named q d ≡ true → (i : ℕ) (x : Device) → slice_get ds i ≡ Some x → is_named q x ≡ false
    others t i x b = free (is_named q x) refl
      where
        free : (c : Bool) → is_named q x ≡ c → is_named q x ≡ false
        free false r = r
        free true r =
            let u = live_named q d t in
            let v = live_named q x r in
            let z : zero ≡ suc i = h zero (suc i) d x (record { at = ap Some same; here = g }) (record { at = b; here = v.0 }) (u.1 ∙ sym v.1) in
            absurd (omega (arith, z))

    pick : (b : Bool) → is_named q d ≡ b → find q (n + 1) ds ≡ cond b None (cond (is_named q e) (Some n) (find q (n + 1) ds))
    pick true t = nobody q (n + 1) ds (others t)
    pick false t = ap (λ (c : Bool). cond c (Some n) (find q (n + 1) ds)) (sym (ap (is_named q) same ∙ t))
find_fell q n (e ∷ ds) (suc i) d h a g = pick (is_named q e) refl (is_named q d) refl (find_fell q (n + 1) ds i d (rest_distinct e ds h) a g)
  where
    pick : (b : Bool) → is_named q e ≡ b → (c : Bool) → is_named q d ≡ c → find q (n + 1) (set ds i (record d { gone = true })) ≡ cond (is_named q d) None (find q (n + 1) ds) → cond b (Some n) (find q (n + 1) (set ds i (record d { gone = true }))) ≡ cond c None (cond b (Some n) (find q (n + 1) ds))
    pick true p true r rest =
        let u = live_named q e p in
        let v = live_named q d r in
        let z : zero ≡ suc i = h zero (suc i) e d (record { at = refl; here = u.0 }) (record { at = a; here = g }) (u.1 ∙ sym v.1) in
        absurd (omega (arith, z))
    pick true p false r rest = refl
    pick false p true r rest = rest ∙ ap (λ (c : Bool). cond c None (find q (n + 1) ds)) r
    pick false p false r rest = rest ∙ ap (λ (c : Bool). cond c None (find q (n + 1) ds)) r

pub find_gone : (q : List ℕ) (ds : List Device) (i : ℕ) (d : Device) → IsDistinct ds → slice_get ds i ≡ Some d → d.gone ≡ false → find q 0 (set ds i (record d { gone = true })) ≡ cond (pointwise nat_eq d.name q) None (find q 0 ds)
find_gone q ds i d h a g = find_fell q 0 ds i d h a g ∙ ap (λ (b : Bool). cond b None (find q 0 ds)) (test_of q d g)

-- a device's value changes
pub find_switched : (q : List ℕ) (n : ℕ) (ds : List Device) (i : ℕ) (d : Device) (write : Write) → slice_get ds i ≡ Some d → find q n (set ds i (written_to write d)) ≡ find q n ds
find_switched q n [] i d write h = absurd (none-some d h)
find_switched q n (e ∷ ds) zero d write h = ap (λ (x : Device). cond (is_named q x) (Some n) (find q (n + 1) ds)) (sym (same_Some e d h))
find_switched q n (e ∷ ds) (suc i) d write h = ap (λ (o : Option ℕ). cond (is_named q e) (Some n) o) (find_switched q (n + 1) ds i d write h)

pub distinct_push : (ds : List Device) (x : Device) → IsDistinct ds → find x.name 0 ds ≡ None → IsDistinct (ds ++ x ∷ [])
distinct_push ds x s fresh i j d e a b n = elim (at_push ds x i d a.at) [
  | inl p ↦ elim (at_push ds x j e b.at) [
    | inl q ↦ s i j d e (record { at = p.1; here = a.here }) (record { at = q.1; here = b.here }) n
    | inr q ↦ absurd (find_none x.name 0 ds fresh i d (record { at = p.1; here = a.here }) (n ∙ ap (λ (y : Device). y.name) (sym q.1)))
  ]
  | inr p ↦ elim (at_push ds x j e b.at) [
    | inl q ↦ absurd (find_none x.name 0 ds fresh j e (record { at = q.1; here = b.here }) (sym n ∙ ap (λ (y : Device). y.name) (sym p.1)))
    | inr q ↦ omega arith
  ]
]

at_set : (ds : List Device) (i : ℕ) (x : Device) (j : ℕ) (y : Device) → slice_get (set ds i x) j ≡ Some y → ((j ≡ i) × (x ≡ y)) ⊎ (slice_get ds j ≡ Some y)
at_set [] i x j y h = absurd (none-some y h)
at_set (d ∷ ds) zero x zero y h = inl (refl, same_Some x y h)
at_set (d ∷ ds) zero x (suc j) y h = inr h
at_set (d ∷ ds) (suc i) x zero y h = inr h
at_set (d ∷ ds) (suc i) x (suc j) y h = elim (at_set ds i x j y h) [ inl a ↦ inl (omega arith, a.1) | inr b ↦ inr b ]

-- each live device was one of that name
distinct_back : (ds es : List Device) → IsDistinct ds → ((j : ℕ) (e : Device) → Live es j e → (d : Device) × Live ds j d × (d.name ≡ e.name)) → IsDistinct es
distinct_back ds es s back i j d e a b n =
    let p = back i d a in
    let q = back j e b in
    s i j p.0 q.0 p.1 q.1 (p.2 ∙ n ∙ sym q.2)

pub distinct_gone : (ds : List Device) (i : ℕ) (d : Device) → IsDistinct ds → IsDistinct (set ds i (record d { gone = true }))
distinct_gone ds i d s = distinct_back ds (set ds i (record d { gone = true })) s (λ j e a. elim (at_set ds i (record d { gone = true }) j e a.at) [
  | inl p ↦ absurd (both_ways e.gone a.here (ap (λ (y : Device). y.gone) (sym p.1)))
  | inr p ↦ (e, record { at = p; here = a.here }, refl)
])

pub distinct_switched : (ds : List Device) (i : ℕ) (d : Device) (write : Write) → slice_get ds i ≡ Some d → IsDistinct ds → IsDistinct (set ds i (written_to write d))
distinct_switched ds i d write at s = distinct_back ds (set ds i (written_to write d)) s (λ j e a. elim (at_set ds i (written_to write d) j e a.at) [
  | inl p ↦ (d, record { at = ap (slice_get ds) p.0 ∙ at; here = ap (λ (y : Device). y.gone) p.1 ∙ a.here }, ap (λ (y : Device). y.name) p.1)
  | inr p ↦ (e, record { at = p; here = a.here }, refl)
])

-- Devices by their names and places.
use Rattle.std.proofs.Common.{◌≡◌, ℕ, zero, suc, ◌+◌, Bool, true, false, not, cond, if◌then◌else◌, nat_eq, List, [], ◌∷◌, length, Option, Some, None, refl, sym, ◌∙◌, ap, subst, arith, inl, inr}
use Rattle.std.proofs.lemmas.Bool.{and_parts, and_cases, not-true, both_ways}
use Rattle.std.specs.List.{slice_get}
use Rattle.std.specs.Cmp.Lexicographic.{pointwise, same_text, other_text}
use Rattle.ug_types.specs.Elements.{Has, AllDistinct}
use Rattle.ug_kernel.specs.declared.device.Device.{Device}
use Rattle.ug_kernel.specs.declared.device.HeldFile.{HeldFile}
use Rattle.ug_kernel.specs.Kernel.{Live, live_count}
use Rattle.ug_sysfs.specs.Devices.{is_named, find}
use Rattle.ug_sysfs.specs.World.{live_names, if_live, live_place, live_held}

pub live_named : (name : List ℕ) (d : Device) → is_named name d ≡ true
    → (d.gone ≡ false) × (d.name ≡ name)
live_named name d h =
    let p = and_parts (not d.gone) (pointwise nat_eq d.name name) h in
    (not-true d.gone p.0, same_text d.name name (sym p.1))

named : (name : List ℕ) (d : Device) → d.gone ≡ false → d.name ≡ name → is_named name d ≡ false → ⊥
named name d g n h = elim (and_cases (not d.gone) (pointwise nat_eq d.name name) h) [
  | inl a ↦ both_ways (not d.gone) a (rw g refl)
  | inr b ↦ other_text d.name name (sym b) n
]

pub record FoundDevice (name : List ℕ) (i : ℕ) (ds : List Device) : Type 0 where
  pub device : Device
  pub live : Live ds i device
  pub named : device.name ≡ name

-- one more in front
found_more : (name : List ℕ) (i : ℕ) (d : Device) (ds : List Device) → FoundDevice name i ds
    → FoundDevice name (suc i) (d ∷ ds)
found_more name i d ds f =
    record {
      device = f.device;
      live = record { at = f.live.at; here = f.live.here };
      named = f.named;
    }

record FoundFrom (name : List ℕ) (n i : ℕ) (ds : List Device) : Type 0 where
  place : ℕ
  is : i ≡ place + n
  found : FoundDevice name place ds

find_from : (name : List ℕ) (n i : ℕ) (ds : List Device) → find name n ds ≡ Some i
    → FoundFrom name n i ds
find_from name n i [] h = absurd cc
find_from name n i (d ∷ ds) h = pick (find_from name (n + 1) i ds) (is_named name d) refl h
  where
    pick : (find name (n + 1) ds ≡ Some i → FoundFrom name (n + 1) i ds) → (b : Bool)
        → is_named name d ≡ b → cond b (Some n) (find name (n + 1) ds) ≡ Some i
        → FoundFrom name n i (d ∷ ds)
    pick rest true e h =
        let p = live_named name d e in
        record {
          place = zero;
          is = (let q : n ≡ i = cc in omega (arith, q));
          found = record { device = d; live = record { at = refl; here = p.0 }; named = p.1 };
        }
    pick rest false e h =
        let f = rest h in
        record {
          place = suc f.place;
          is = omega (arith, f.is);
          found = found_more name f.place d ds f.found;
        }

pub find_some : (name : List ℕ) (i : ℕ) (ds : List Device) → find name 0 ds ≡ Some i
    → FoundDevice name i ds
find_some name i ds h =
    let f = find_from name 0 i ds h in
    let P : ℕ → Type 0 = λ j. FoundDevice name j ds in
    subst P (let e : f.place ≡ i = omega (arith, f.is) in e) f.found

pub find_none : (name : List ℕ) (n : ℕ) (ds : List Device) → find name n ds ≡ None
    → (i : ℕ) (d : Device) → Live ds i d → d.name ≡ name → ⊥
find_none name n [] h i d l e = let at = l.at in absurd cc
find_none name n (d ∷ ds) h i d' l e =
    pick (λ h i l. find_none name (n + 1) ds h i d' l e) (is_named name d) refl h i l
  where
    pick : (find name (n + 1) ds ≡ None → (i : ℕ) → Live ds i d' → ⊥) → (b : Bool)
        → is_named name d ≡ b → cond b (Some n) (find name (n + 1) ds) ≡ None → (i : ℕ)
        → Live (d ∷ ds) i d' → ⊥
    pick rest true p h i l = absurd cc
    pick rest false p h zero l =
        let at = l.at in
        let same : d ≡ d' = cc in
        named name d (ap (λ (x : Device). x.gone) same ∙ l.here)
        (ap (λ (x : Device). x.name) same ∙ e) p
    pick rest false p h (suc i) l = rest h i (record { at = l.at; here = l.here })

-- each live name is listed
pub listed_live : (ds : List Device) (i : ℕ) (d : Device) → Live ds i d → Has (live_names ds) d.name
listed_live [] i d l = let at = l.at in absurd cc
listed_live (d ∷ ds) i d' l = pick (λ i l. listed_live ds i d' l) d.gone refl i l
  where
    pick : ((i : ℕ) → Live ds i d' → Has (live_names ds) d'.name) → (b : Bool) → d.gone ≡ b
        → (i : ℕ) → Live (d ∷ ds) i d'
        → Has (cond b (live_names ds) (d.name ∷ live_names ds)) d'.name
    pick rest true g zero l =
        let at = l.at in
        let same : d ≡ d' = cc in
        absurd (both_ways d.gone (ap (λ (x : Device). x.gone) same ∙ l.here) g)
    pick rest false g zero l = let at =
        l.at in inl (let same : d ≡ d' = cc in ap (λ (x : Device). x.name) same)
    pick rest true g (suc i) l = rest i (record { at = l.at; here = l.here })
    pick rest false g (suc i) l = inr (rest i (record { at = l.at; here = l.here }))

pub record HeldLive (h i : ℕ) (held : List HeldFile) (ds : List Device) : Type 0 where
  pub device : Device
  pub file : HeldFile
  pub at : slice_get held h ≡ Some file
  pub is : file.device ≡ i
  pub live : Live ds i device

pub live_held_some : (t i : ℕ) (held : List HeldFile) (ds : List Device)
    → live_held t held ds ≡ Some i → HeldLive t i held ds
live_held_some t i held ds h = at_file (slice_get held t) refl h
  where
    at_device : (j : ℕ) (o : Option Device) → slice_get ds j ≡ o → if_live j o ≡ Some i
        → (d : Device) × (j ≡ i) × Live ds i d
    at_device j None e h = absurd cc
    at_device j (Some d) e h = gone_or d.gone refl h
      where
        gone_or : (b : Bool) → d.gone ≡ b → cond b None (Some j) ≡ Some i
            → (d : Device) × (j ≡ i) × Live ds i d
        gone_or true g h = absurd cc
        gone_or false g h = let same : j ≡ i =
            cc in (
              d,
              same,
              record
                  { at = subst (λ (x : ℕ). slice_get ds x ≡ Some d) same e; here = g },
            )

    at_file : (o : Option HeldFile) → slice_get held t ≡ o → live_place o ds ≡ Some i
        → HeldLive t i held ds
    at_file None e h = absurd cc
    at_file (Some file) e h =
        let p = at_device file.device (slice_get ds file.device) refl h in
        record { device = p.0; file = file; at = e; is = p.1; live = p.2 }

pub live_held_none : (t : ℕ) (held : List HeldFile) (ds : List Device) → live_held t held ds ≡ None
    → (file : HeldFile) (d : Device) → slice_get held t ≡ Some file → Live ds file.device d → ⊥
live_held_none t held ds h file d e l =
    let a : live_place (Some file) ds ≡ None = rw e at h in
    let b : if_live file.device (Some d) ≡ None = rw l.at at a in
    let f : cond false None (Some file.device) ≡ None = rw l.here at b in
    absurd cc

-- each name that is listed is a live one
listed_from : (ds : List Device) (n : List ℕ) → Has (live_names ds) n
    → (i : ℕ) × (d : Device) × Live ds i d × (d.name ≡ n)
listed_from [] n c = absurd c
listed_from (d ∷ ds) n c = pick (listed_from ds n) d.gone refl c
  where
    pick : (Has (live_names ds) n → (i : ℕ) × (e : Device) × Live ds i e × (e.name ≡ n))
        → (b : Bool) → d.gone ≡ b → Has (cond b (live_names ds) (d.name ∷ live_names ds)) n
        → (i : ℕ) × (e : Device) × Live (d ∷ ds) i e × (e.name ≡ n)
    pick rest true g c = let r =
        rest c in (suc r.0, r.1, record { at = r.2.at; here = r.2.here }, r.3)
    pick rest false g c = elim c [
      | inl e ↦ (zero, d, record { at = refl; here = g }, e)
      | inr c ↦ let r = rest c in (suc r.0, r.1, record { at = r.2.at; here = r.2.here }, r.3)
    ]

pub distinct_names : (ds : List Device)
    → ((i j : ℕ) (d e : Device) → Live ds i d → Live ds j e → d.name ≡ e.name → i ≡ j)
    → AllDistinct (live_names ds)
distinct_names [] h = tt
distinct_names (d ∷ ds) h = pick (distinct_names ds (λ i j x y a b n.
    let s : suc i ≡ suc j =
    h (suc i) (suc j) x y (record { at = a.at; here = a.here })
    (record { at = b.at; here = b.here }) n in
    omega (arith, s))) d.gone refl
  where
    pick : AllDistinct (live_names ds) → (b : Bool) → d.gone ≡ b
        → AllDistinct (cond b (live_names ds) (d.name ∷ live_names ds))
    pick rest true g = rest
    pick rest false g = (
      λ c.
          let r = listed_from ds d.name c in
          let z : zero ≡ suc r.0 =
          h zero (suc r.0) d r.1 (record { at = refl; here = g })
          (record { at = r.2.at; here = r.2.here }) (sym r.3) in
          absurd (omega (arith, z)),
      rest,
    )

pub length_names : (ds : List Device) → length (live_names ds) ≡ live_count ds
length_names [] = refl
length_names (d ∷ ds) =
    elim d.gone as
    (λ b. length (cond b (live_names ds) (d.name ∷ live_names ds))
    ≡ (if b then 0 else 1) + live_count ds) [
      | true ↦ omega (arith, length_names ds)
      | false ↦ omega (arith, length_names ds)
    ]

-- An unplugging takes the target and what is below it, and nothing else.
use Rattle.std.proofs.Common.{◌≡◌, ℕ, zero, suc, ◌+◌, ◌<◌, ◌⊎◌, Bool, true, false, ◌||◌, eqb, List, [], ◌∷◌, ◌++◌, length, take, drop, Option, Some, None, refl, sym, ◌∙◌, ap, subst, arith, inl, inr, length-append}
use Rattle.std.proofs.lemmas.Bool.{or_cases, both_ways, eqb-true, or_right, or_left, eq-eqb}
use Rattle.std.proofs.lemmas.List.{length-take-le}
use Rattle.std.proofs.lemmas.Option.{slice_get_past, slice_get_within, none-some, same_Some}
use Rattle.std.specs.List.{slice_get}
use Rattle.ug_kernel.specs.declared.device.Device.{Device}
use Rattle.ug_kernel.specs.Kernel.{Live, IsSound, BeginsWith, Stays}
use Rattle.ug_kernel.proofs.Places.{at_push, at_longer, at_end, in_front, from_drop}
use Rattle.ug_kernel.proofs.Stayed.{stays_at, stayed_here}
use Rattle.ug_kernel.proofs.Sounds.{Kept}
use Rattle.ug_sysfs.specs.Devices.{find, is_unplugged, felled, falls, fall, unplug_at, unplugged}
use Rattle.ug_sysfs.specs.Begins.{begins_unplug}
use Rattle.ug_sysfs.specs.Find.{find_some, find_none}
use Rattle.ug_sysfs.specs.Sound.{IsTree, tree_of, kept_fall, kept_front, length_felled}

-- the target itself, and each device whose parent is below it
pub data Below (ds : List Device) (t : ℕ) : ℕ → Type 0 where
  Itself : Below ds t t
  Under : (i p : ℕ) (d : Device) → slice_get ds i ≡ Some d → d.parent ≡ Some p → Below ds t p
      → Below ds t i

-- these are gone, and of the live devices no other
pub record IsFelled (t : ℕ) (ds fs : List Device) : Type 0 where
  pub all : (i : ℕ) (e : Device) → Below ds t i → slice_get fs i ≡ Some e → e.gone ≡ true
  pub only : (i : ℕ) (d e : Device) → Live ds i d → slice_get fs i ≡ Some e → e.gone ≡ true
      → Below ds t i
  pub facts : BeginsWith ds fs
  pub number : length fs ≡ length ds

-- who is gone was gone, or is below the target
record Marks (t : ℕ) (ds bs : List Device) : Type 0 where
  why : (j : ℕ) (e : Device) → slice_get bs j ≡ Some e → e.gone ≡ true
      → ((d : Device) × (slice_get ds j ≡ Some d) × (d.gone ≡ true)) ⊎ Below ds t j

parent_marks : (t : ℕ) (ds bs : List Device) (n : ℕ) (d : Device) → IsTree ds → Marks t ds bs
    → slice_get ds n ≡ Some d → d.gone ≡ false → (o : Option ℕ) → d.parent ≡ o → falls o bs ≡ true
    → Below ds t n
parent_marks t ds bs n d s m at g None e h = absurd (both_ways false refl h)
parent_marks t ds bs n d s m at g (Some p) e h = seek (slice_get bs p) refl h
  where
    seek : (o : Option Device) → slice_get bs p ≡ o → is_unplugged o ≡ true → Below ds t n
    seek None a h = absurd (both_ways false refl h)
    seek (Some f) a h = elim (m.why p f a h) [
      | inl q ↦
          let up = s.parents n p d (record { at = at; here = g }) e in
          absurd (both_ways q.0.gone
          (ap (λ (x : Device). x.gone) (same_Some q.0 up.0 (sym q.1 ∙ up.1.at)) ∙ up.1.here) q.2)
      | inr q ↦ Under n p d at e q
    ]

marks_push : (t : ℕ) (ds bs : List Device) (d : Device) → IsTree ds
    → slice_get ds (length bs) ≡ Some d → Marks t ds bs → Marks t ds (bs ++ felled t bs d ∷ [])
marks_push t ds bs d s at m = record { why = why }
  where
    here : (b : Bool) → d.gone ≡ b → d.gone || (eqb (length bs) t || falls d.parent bs) ≡ true
        → ((x : Device) × (slice_get ds (length bs) ≡ Some x) × (x.gone ≡ true))
        ⊎ Below ds t (length bs)
    here true g h = inl (d, at, g)
    here false g h = elim (or_cases d.gone _ h) [
      | inl a ↦ absurd (both_ways d.gone g a)
      | inr a ↦ elim (or_cases (eqb (length bs) t) (falls d.parent bs) a) [
        | inl q ↦ inr
            (let same : t
            ≡ length bs = sym (eqb-true (length bs) t q) in subst (Below ds t) same Itself)
        | inr q ↦ inr (parent_marks t ds bs (length bs) d s m at g d.parent refl q)
      ]
    ]

    why : (j : ℕ) (e : Device) → slice_get (bs ++ felled t bs d ∷ []) j ≡ Some e → e.gone ≡ true
        → ((x : Device) × (slice_get ds j ≡ Some x) × (x.gone ≡ true)) ⊎ Below ds t j
    why j e a g = elim (at_push bs (felled t bs d) j e a) [
      | inl q ↦ m.why j e q.1 g
      | inr q ↦
          let P : ℕ → Type 0 =
          λ k. ((x : Device) × (slice_get ds k ≡ Some x) × (x.gone ≡ true)) ⊎ Below ds t k in
          subst P (sym q.0) (here d.gone refl (ap (λ (x : Device). x.gone) q.1 ∙ g))
    ]

marks_fall : (t : ℕ) (ds bs rest : List Device) → IsTree ds
    → ((k : ℕ) → slice_get rest k ≡ slice_get ds (length bs + k)) → Marks t ds bs
    → Marks t ds (fall t bs rest)
marks_fall t ds bs [] s h m = m
marks_fall t ds bs (d ∷ rest) s h m =
    let z : length bs + 0 ≡ length bs = omega arith in
    let at : slice_get ds (length bs) ≡ Some d = ap (slice_get ds) (sym z) ∙ sym (h zero) in
    marks_fall t ds (bs ++ felled t bs d ∷ []) rest s (λ k.
    let e : length bs + suc k ≡ length (bs ++ felled t bs d ∷ []) + k =
    omega (arith, length-append bs (felled t bs d ∷ [])) in
    h (suc k) ∙ ap (slice_get ds) e) (marks_push t ds bs d s at m)

-- what is in front stays in front
in_fall : (t : ℕ) (bs rest : List Device) (i : ℕ) (d : Device) → slice_get bs i ≡ Some d
    → slice_get (fall t bs rest) i ≡ Some d
in_fall t bs [] i d h = h
in_fall t bs (e ∷ rest) i d h =
    in_fall t (bs ++ felled t bs e ∷ []) rest i d (at_longer bs (felled t bs e ∷ []) i d h)

target_goes : (t : ℕ) (bs : List Device) (d : Device) (rest : List Device) → length bs ≡ t
    → (e : Device) → slice_get (fall t bs (d ∷ rest)) t ≡ Some e → e.gone ≡ true
target_goes t bs d rest n e h =
    let there : slice_get (fall t bs (d ∷ rest)) (length bs) ≡ Some (felled t bs d) =
    in_fall t (bs ++ felled t bs d ∷ []) rest (length bs) (felled t bs d)
    (at_end bs (felled t bs d)) in
    let same : felled t bs d ≡ e =
    same_Some _ e (sym there ∙ ap (slice_get (fall t bs (d ∷ rest))) n ∙ h) in
    let gone : d.gone || (eqb (length bs) t || falls d.parent bs) ≡ true =
    or_right d.gone _ (or_left (eqb (length bs) t) _ (eq-eqb (length bs) t n)) in
    sym (ap (λ (x : Device). x.gone) same) ∙ gone

pub all_below : (t : ℕ) (ds fs : List Device) → IsTree ds → BeginsWith ds fs → Kept fs
    → ((e : Device) → slice_get fs t ≡ Some e → e.gone ≡ true) → (i : ℕ) → Below ds t i
    → (e : Device) → slice_get fs i ≡ Some e → e.gone ≡ true
all_below t ds fs s b k top _ Itself e h = top e h
all_below t ds fs s b k top _ (Under i p d at up below) e h =
    pick (λ f a. all_below t ds fs s b k top p below f a) e.gone refl
  where
    pick : ((f : Device) → slice_get fs p ≡ Some f → f.gone ≡ true) → (c : Bool) → e.gone ≡ c
        → e.gone ≡ true
    pick parent true g = g
    pick parent false g =
        let there = stays_at ds fs i d b at in
        let same : there.0 ≡ e = same_Some there.0 e (sym there.1 ∙ h) in
        let was : d.gone ≡ false = stayed_here d e (subst (Stays d) same there.2.stays) g in
        let live = s.parents i p d (record { at = at; here = was }) up in
        let f = stays_at ds fs p live.0 b live.1.at in
        let mine : e.parent ≡ Some p =
        ap (λ (x : Device). x.parent) (sym same) ∙ there.2.stays.parent ∙ up in
        absurd (both_ways f.0.gone
        (k.none i p e f.0 (record { at = h; here = g }) mine (s.below i p d at up) f.1)
        (parent f.0 f.1))

pub felled_exactly : (t : ℕ) (ds : List Device) → t < length ds → IsTree ds
    → IsFelled t ds (fall t (take t ds) (drop t ds))
felled_exactly t ds lt s = record {
  all = λ i e b h.
      all_below t ds (fall t (take t ds) (drop t ds)) s (begins_unplug (Some t) ds)
      (kept_fall t (take t ds) (drop t ds) (kept_front ds t s)) top i b e h;
  only = only;
  facts = begins_unplug (Some t) ds;
  number = length_felled t ds;
}
  where
    long : length (take t ds) ≡ t
    long = length-take-le t ds (omega arith)

    first : (rest : List Device) → drop t ds ≡ rest → (e : Device)
        → slice_get (fall t (take t ds) rest) t ≡ Some e → e.gone ≡ true
    first [] r e h =
        absurd (none-some e
        (let a : slice_get (take t ds) t
        ≡ None = slice_get_past (take t ds) t (omega (arith, long)) in sym a ∙ h))
    first (d ∷ rest) r e h = target_goes t (take t ds) d rest long e h

    top : (e : Device) → slice_get (fall t (take t ds) (drop t ds)) t ≡ Some e → e.gone ≡ true
    top e h = first (drop t ds) refl e h

    marks : Marks t ds (fall t (take t ds) (drop t ds))
    marks = marks_fall t ds (take t ds) (drop t ds) s
        (λ k. from_drop t ds k ∙ ap (λ n. slice_get ds (n + k)) (sym long))
        (record { why = λ j e a g. inl (e, in_front ds t j e a, g) })

    only : (i : ℕ) (d e : Device) → Live ds i d
        → slice_get (fall t (take t ds) (drop t ds)) i ≡ Some e → e.gone ≡ true → Below ds t i
    only i d e l h g = elim (marks.why i e h g) [
      | inl q ↦ absurd
          (both_ways q.0.gone
          (ap (λ (x : Device). x.gone) (same_Some q.0 d (sym q.1 ∙ l.at)) ∙ l.here) q.2)
      | inr q ↦ q
    ]

-- the live device of a name goes
pub unplugged_felled : (name : List ℕ) (ds : List Device) (i : ℕ) (d : Device) → IsSound ds
    → Live ds i d → d.name ≡ name → IsFelled i ds (unplugged name ds)
unplugged_felled name ds i d s l n = at (find name 0 ds) refl
  where
    at : (o : Option ℕ) → find name 0 ds ≡ o → IsFelled i ds (unplug_at o ds)
    at None h = absurd (find_none name 0 ds h i d l n)
    at (Some j) h =
        let f = find_some name j ds h in
        let same : j ≡ i = s.names j i f.device d f.live l (f.named ∙ sym n) in
        subst (λ (k : ℕ). IsFelled k ds (fall j (take j ds) (drop j ds))) same
        (felled_exactly j ds (slice_get_within ds j f.device f.live.at) (tree_of ds s))

-- a name that isn't live changes nothing
pub unplugged_nobody : (name : List ℕ) (ds : List Device)
    → ((i : ℕ) (d : Device) → Live ds i d → d.name ≡ name → ⊥) → unplugged name ds ≡ ds
unplugged_nobody name ds none = at (find name 0 ds) refl
  where
    at : (o : Option ℕ) → find name 0 ds ≡ o → unplug_at o ds ≡ ds
    at None h = refl
    at (Some j) h = let f = find_some name j ds h in absurd (none j f.device f.live f.named)

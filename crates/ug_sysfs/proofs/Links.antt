-- The links among kin keep up, and along them goes just what is below.
use Rattle.std.proofs.Common.{◌≡◌, ℕ, zero, suc, ◌+◌, ◌<◌, ◌≤◌, Bool, true, false, not, nat_lt, List, [], ◌∷◌, ◌++◌, length, set, take, drop, Option, Some, None, refl, sym, ◌∙◌, ap, subst, arith, inl, inr, length-append, length-set}
use Rattle.std.proofs.lemmas.Bool.{both_ways, cases_eq, ltb-true, ltb-false}
use Rattle.std.proofs.lemmas.Option.{none-some, same_Some, slice_get_cases, slice_get_within}
use Rattle.std.specs.List.{slice_get}
use Rattle.ug_kernel.specs.declared.control.Write.{Write}
use Rattle.ug_kernel.specs.declared.device.Device.{Device}
use Rattle.ug_kernel.specs.Called.{written_to}
use Rattle.ug_kernel.specs.Kernel.{Live, BeginsWith, Moved}
use Rattle.ug_kernel.proofs.Places.{at_push, at_longer, at_end, at_set_same, at_set_other}
use Rattle.ug_kernel.proofs.Sounds.{Kept}
use Rattle.ug_kernel.proofs.Stayed.{begins, begins_then, unmoved, stays_at, back_at, live_back}
use Rattle.ug_sysfs.specs.declared.kin.Kin.{Kin}
use Rattle.ug_sysfs.specs.Below.{Below, Itself, Under, IsFelled, all_below, felled_exactly}
use Rattle.ug_sysfs.specs.Counted.{HaveLiveParents}
use Rattle.ug_sysfs.specs.declared.parent.Parent.TheVariants as parent
use Rattle.ug_sysfs.specs.Devices.{fall, find, gone_in, sought, sought_at, with_gone}
use Rattle.ug_sysfs.specs.Find.{find_some}
use Rattle.ug_sysfs.specs.Kin.{Fells, HasKin, IsYoungest, kin_born, led_to, older_in, with_child, youngest_in, youngest_under}
use Rattle.ug_sysfs.specs.Living.{is_live, is_live_at}
use Rattle.ug_sysfs.proofs.Kept.{was_gone}
use Rattle.ug_sysfs.specs.Sound.{IsTree}
use Rattle.ug_sysfs.specs.World.{switched, switched_to}

-- ---- one more device

grow : (ds : List Device) (x : Device) (p m : ℕ) (o : Option ℕ) → m ≤ length ds → IsYoungest ds p m o → IsYoungest (ds ++ x ∷ []) p m o
grow ds x p m o le y = record {
  child = λ c e. let b = y.child c e in (b.0, at_longer ds (x ∷ []) c b.0 b.1, b.2, b.3);
  last = λ j d at up lt. elim (at_push ds x j d at) [
    | inl q ↦ y.last j d q.1 up lt
    | inr q ↦ absurd (omega (arith, q.0, le, lt))
  ];
}

widen : (ds : List Device) (x : Device) (p : ℕ) (o : Option ℕ) → (x.parent ≡ Some p → ⊥) → IsYoungest ds p (length ds) o → IsYoungest (ds ++ x ∷ []) p (length ds + 1) o
widen ds x p o other y = record {
  child = λ c e. let b = y.child c e in (b.0, at_longer ds (x ∷ []) c b.0 b.1, b.2, omega (arith, b.3));
  last = λ j d at up lt. elim (at_push ds x j d at) [
    | inl q ↦ y.last j d q.1 up q.0
    | inr q ↦ absurd (other (ap (λ (z : Device). z.parent) q.1 ∙ up))
  ];
}

newest : (ds : List Device) (x : Device) (p : ℕ) → x.parent ≡ Some p → IsYoungest (ds ++ x ∷ []) p (length ds + 1) (Some (length ds))
newest ds x p up = record {
  child = λ c e.
      let same : length ds ≡ c = same_Some (length ds) c e in
      (x, ap (slice_get (ds ++ x ∷ [])) (sym same) ∙ at_end ds x, up, omega (arith, same));
  last = λ j d at own lt. (length ds, refl, omega (arith, lt));
}

childless : (ds : List Device) (p m : ℕ) → m ≤ p + 1 → ((i q : ℕ) (d : Device) → slice_get ds i ≡ Some d → d.parent ≡ Some q → q < i) → IsYoungest ds p m None
childless ds p m le below = record {
  child = λ c e. absurd (none-some c e);
  last = λ j d at up lt. let under = below j p d at up in absurd (omega (arith, under, lt, le));
}

below_push : (ds : List Device) (x : Device) → ((i q : ℕ) (d : Device) → slice_get ds i ≡ Some d → d.parent ≡ Some q → q < i) → ((q : ℕ) → x.parent ≡ Some q → q < length ds) → (i q : ℕ) (d : Device) → slice_get (ds ++ x ∷ []) i ≡ Some d → d.parent ≡ Some q → q < i
below_push ds x below own i q d at up = elim (at_push ds x i d at) [
  | inl a ↦ below i q d a.1 up
  | inr a ↦ let lt = own q (ap (λ (z : Device). z.parent) a.1 ∙ up) in omega (arith, a.0, lt)
]

-- the links of the others: the parent's youngest is the newest, and the rest is as before
record IsLink (n : ℕ) (parent : Option ℕ) (kin : List Kin) (i : ℕ) (k : Kin) : Type 0 where
  was : Kin
  at : slice_get kin i ≡ Some was
  older : k.older ≡ was.older
  own : parent ≡ Some i → k.youngest ≡ Some n
  other : (parent ≡ Some i → ⊥) → k.youngest ≡ was.youngest

links : (n : ℕ) (parent : Option ℕ) (kin : List Kin) (i : ℕ) (k : Kin) → slice_get (with_child n parent kin) i ≡ Some k → IsLink n parent kin i k
links n None kin i k at = record { was = k; at = at; older = refl; own = λ e. absurd (none-some i e); other = λ f. refl }
links n (Some p) kin i k at = by (slice_get kin p) refl at
  where
    unled : (p ≡ i → ⊥) → slice_get kin i ≡ Some k → IsLink n (Some p) kin i k
    unled differ at = record { was = k; at = at; older = refl; own = λ e. absurd (differ (same_Some p i e)); other = λ f. refl }

    by : (o : Option Kin) → slice_get kin p ≡ o → slice_get (led_to n p o kin) i ≡ Some k → IsLink n (Some p) kin i k
    by None e at = unled (λ same. none-some k (sym e ∙ ap (slice_get kin) same ∙ at)) at
    by (Some was) e at = elim (cases_eq i p) [
      | inl same ↦
          let led : record was { youngest = Some n } ≡ k = same_Some _ k (sym (at_set_same kin p was (record was { youngest = Some n }) e) ∙ ap (slice_get (set kin p (record was { youngest = Some n }))) (sym same) ∙ at) in
          record {
            was = was;
            at = ap (slice_get kin) same ∙ e;
            older = ap (λ (z : Kin). z.older) (sym led);
            own = λ e. ap (λ (z : Kin). z.youngest) (sym led);
            other = λ f. absurd (f (ap Some (sym same)));
          }
      | inr differ ↦ unled (λ same. differ (sym same)) (sym (at_set_other kin p i (record was { youngest = Some n }) differ) ∙ at)
    ]

length_child : (n : ℕ) (parent : Option ℕ) (kin : List Kin) → length (with_child n parent kin) ≡ length kin
length_child n None kin = refl
length_child n (Some p) kin = by (slice_get kin p)
  where
    by : (o : Option Kin) → length (led_to n p o kin) ≡ length kin
    by None = refl
    by (Some k) = length-set kin p (record k { youngest = Some n })

pub length_kin_born : (parent : Option ℕ) (kin : List Kin) → length (kin_born parent kin) ≡ length kin + 1
length_kin_born parent kin = omega (arith, length_child (length kin) parent kin, length-append (with_child (length kin) parent kin) (record { youngest = None; older = youngest_under parent kin } ∷ []))

pub has_kin_born : (kin : List Kin) (ds : List Device) (x : Device) → HasKin kin ds → ((p : ℕ) → x.parent ≡ Some p → p < length ds) → HasKin (kin_born x.parent kin) (ds ++ x ∷ [])
has_kin_born kin ds x h own = record { number = number; youngest = youngest; older = older; below = below }
  where
    last : Kin
    last = record { youngest = None; older = youngest_under x.parent kin }

    front : List Kin
    front = with_child (length kin) x.parent kin

    number : length (front ++ last ∷ []) ≡ length (ds ++ x ∷ [])
    number = omega (arith, h.number, length_child (length kin) x.parent kin, length-append front (last ∷ []), length-append ds (x ∷ []))

    below : (i p : ℕ) (d : Device) → slice_get (ds ++ x ∷ []) i ≡ Some d → d.parent ≡ Some p → p < i
    below = below_push ds x h.below own

    long : length (ds ++ x ∷ []) ≡ length ds + 1
    long = length-append ds (x ∷ [])

    of_others : (p : ℕ) (k : Kin) → slice_get front p ≡ Some k → (o : Option ℕ) → x.parent ≡ o → IsYoungest (ds ++ x ∷ []) p (length ds + 1) k.youngest
    of_others p k at None e =
        let l = links (length kin) x.parent kin p k at in
        let same = l.other (λ f. none-some p (sym e ∙ f)) in
        subst (IsYoungest (ds ++ x ∷ []) p (length ds + 1)) (sym same) (widen ds x p l.was.youngest (λ f. none-some p (sym e ∙ f)) (h.youngest p l.was l.at))
    of_others p k at (Some q) e = elim (cases_eq q p) [
      | inl same ↦
          let l = links (length kin) x.parent kin p k at in
          let up : x.parent ≡ Some p = e ∙ ap Some same in
          subst (IsYoungest (ds ++ x ∷ []) p (length ds + 1)) (ap Some (sym h.number) ∙ sym (l.own up)) (newest ds x p up)
      | inr differ ↦
          let l = links (length kin) x.parent kin p k at in
          let none : x.parent ≡ Some p → ⊥ = λ f. differ (same_Some q p (sym e ∙ f)) in
          subst (IsYoungest (ds ++ x ∷ []) p (length ds + 1)) (sym (l.other none)) (widen ds x p l.was.youngest none (h.youngest p l.was l.at))
    ]

    youngest : (p : ℕ) (k : Kin) → slice_get (front ++ last ∷ []) p ≡ Some k → IsYoungest (ds ++ x ∷ []) p (length (ds ++ x ∷ [])) k.youngest
    youngest p k at = subst (λ (n : ℕ). IsYoungest (ds ++ x ∷ []) p n k.youngest) (sym long) (elim (at_push front last p k at) [
      | inl q ↦ of_others p k q.1 x.parent refl
      | inr q ↦
          let here : p ≡ length ds = omega (arith, q.0, h.number, length_child (length kin) x.parent kin) in
          subst (IsYoungest (ds ++ x ∷ []) p (length ds + 1)) (ap (λ (z : Kin). z.youngest) q.1) (childless (ds ++ x ∷ []) p (length ds + 1) (omega (arith, here)) below)
    ])

    of_newest : (p : ℕ) (o : Option Kin) → x.parent ≡ Some p → slice_get kin p ≡ o → IsYoungest (ds ++ x ∷ []) p (length ds) (youngest_in o)
    of_newest p None up e = elim (slice_get_cases kin p).1 [
      | inl q ↦ absurd (none-some q.0 (sym e ∙ q.2))
      | inr q ↦ let lt = own p up in absurd (omega (arith, q.0, lt, h.number))
    ]
    of_newest p (Some k) up e = grow ds x p (length ds) k.youngest (omega arith) (h.youngest p k e)

    older : (i p : ℕ) (k : Kin) (d : Device) → slice_get (front ++ last ∷ []) i ≡ Some k → slice_get (ds ++ x ∷ []) i ≡ Some d → d.parent ≡ Some p → IsYoungest (ds ++ x ∷ []) p i k.older
    older i p k d at there up = elim (at_push front last i k at) [
      | inl q ↦
          let l = links (length kin) x.parent kin i k q.1 in
          let lt : i < length ds = omega (arith, q.0, h.number, length_child (length kin) x.parent kin) in
          elim (at_push ds x i d there) [
            | inl r ↦ subst (IsYoungest (ds ++ x ∷ []) p i) (sym l.older) (grow ds x p i l.was.older (omega (arith, lt)) (h.older i p l.was d l.at r.1 up))
            | inr r ↦ absurd (omega (arith, r.0, lt))
          ]
      | inr q ↦
          let here : i ≡ length ds = omega (arith, q.0, h.number, length_child (length kin) x.parent kin) in
          elim (at_push ds x i d there) [
            | inl r ↦ absurd (omega (arith, r.0, here))
            | inr r ↦
                let mine : x.parent ≡ Some p = ap (λ (z : Device). z.parent) r.1 ∙ up in
                let young : IsYoungest (ds ++ x ∷ []) p (length ds) (youngest_under x.parent kin) =
                subst (IsYoungest (ds ++ x ∷ []) p (length ds)) (sym (ap (λ (o : Option ℕ). youngest_under o kin) mine)) (of_newest p (slice_get kin p) mine refl) in
                subst (λ (n : ℕ). IsYoungest (ds ++ x ∷ []) p n k.older) (sym here) (subst (IsYoungest (ds ++ x ∷ []) p (length ds)) (ap (λ (z : Kin). z.older) q.1) young)
          ]
    ]

-- ---- devices that went

-- each device of either list has its counterpart with the same parent
pub record HaveParents (ds es : List Device) : Type 0 where
  pub number : length es ≡ length ds
  pub forth : (i : ℕ) (d : Device) → slice_get ds i ≡ Some d → (e : Device) × (slice_get es i ≡ Some e) × (e.parent ≡ d.parent)
  pub back : (i : ℕ) (e : Device) → slice_get es i ≡ Some e → (d : Device) × (slice_get ds i ≡ Some d) × (e.parent ≡ d.parent)

parents_begin : (ds es : List Device) → BeginsWith ds es → length es ≡ length ds → HaveParents ds es
parents_begin ds es b n = record {
  number = n;
  forth = λ i d at. let s = stays_at ds es i d b at in (s.0, s.1, s.2.stays.parent);
  back = λ i e at. let q = back_at ds es b i e at (omega (arith, n, slice_get_within es i e at)) in (q.0, q.1, q.2.stays.parent);
}

young_by : (ds es : List Device) (p m : ℕ) (o : Option ℕ) → HaveParents ds es → IsYoungest ds p m o → IsYoungest es p m o
young_by ds es p m o h y = record {
  child = λ c e.
      let q = y.child c e in
      let s = h.forth c q.0 q.1 in
      (s.0, s.1, s.2 ∙ q.2, q.3);
  last = λ j d at up lt. let q = h.back j d at in y.last j q.0 q.1 (sym q.2 ∙ up) lt;
}

pub has_kin_by : (kin : List Kin) (ds es : List Device) → HaveParents ds es → HasKin kin ds → HasKin kin es
has_kin_by kin ds es b h = record {
  number = h.number ∙ sym b.number;
  youngest = λ p k at. subst (λ (m : ℕ). IsYoungest es p m k.youngest) (sym b.number) (young_by ds es p (length ds) k.youngest b (h.youngest p k at));
  older = λ i p k d at there up. let q = b.back i d there in young_by ds es p i k.older b (h.older i p k q.0 at q.1 (sym q.2 ∙ up));
  below = λ i p d at up. let q = b.back i d at in h.below i p q.0 q.1 (sym q.2 ∙ up);
}

pub has_kin_begins : (kin : List Kin) (ds es : List Device) → BeginsWith ds es → length es ≡ length ds → HasKin kin ds → HasKin kin es
has_kin_begins kin ds es b n h = has_kin_by kin ds es (parents_begin ds es b n) h

below_back : (ds es : List Device) → BeginsWith ds es → length es ≡ length ds → (t i : ℕ) → Below es t i → Below ds t i
below_back ds es b n t _ Itself = Itself
below_back ds es b n t _ (Under i p d at up below) =
    let q = back_at ds es b i d at (omega (arith, n, slice_get_within es i d at)) in
    Under i p q.0 q.1 (sym q.2.stays.parent ∙ up) (below_back ds es b n t p below)

below_child : (ds : List Device) (t c : ℕ) (d : Device) → slice_get ds c ≡ Some d → d.parent ≡ Some t → (i : ℕ) → Below ds c i → Below ds t i
below_child ds t c d at up _ Itself = Under c t d at up Itself
below_child ds t c d at up _ (Under i p e there own below) = Under i p e there own (below_child ds t c d at up p below)

-- ---- a walk over the children of t, of the devices from when t had gone

pub record Felling (t : ℕ) (ds cs : List Device) (next : Option ℕ) : Type 0 where
  pub facts : BeginsWith ds cs
  pub number : length cs ≡ length ds
  pub only : (i : ℕ) (d e : Device) → Live ds i d → slice_get cs i ≡ Some e → e.gone ≡ true → Below ds t i
  pub closed : (i p : ℕ) (d f : Device) → Live cs i d → d.parent ≡ Some p → slice_get cs p ≡ Some f → f.gone ≡ true → (g : Device) × (slice_get ds p ≡ Some g) × (g.gone ≡ true)
  pub m : ℕ
  pub next_is : IsYoungest ds t m next
  pub done : (k : ℕ) (d : Device) → slice_get cs k ≡ Some d → d.parent ≡ Some t → m ≤ k → d.gone ≡ true

live_gone : (ds : List Device) (i : ℕ) (d e : Device) → Live ds i d → slice_get ds i ≡ Some e → e.gone ≡ true → ⊥
live_gone ds i d e l at g = both_ways e.gone (ap (λ (x : Device). x.gone) (same_Some e d (sym at ∙ l.at)) ∙ l.here) g

pub felling_first : (kin : List Kin) (ds : List Device) (t : ℕ) (k : Kin) → HasKin kin ds → slice_get kin t ≡ Some k → Felling t ds ds k.youngest
felling_first kin ds t k h at = record {
  facts = begins ds;
  number = refl;
  only = λ i d e l there g. absurd (live_gone ds i d e l there g);
  closed = λ i p d f l up there g. (f, there, g);
  m = length ds;
  next_is = h.youngest t k at;
  done = λ j d there up le. absurd (omega (arith, le, slice_get_within ds j d there));
}

pub felling_more : (kin : List Kin) (ds cs es : List Device) (t c : ℕ) (k : Kin) → HasKin kin ds → slice_get kin c ≡ Some k → Felling t ds cs (Some c) → Fells c cs es → Felling t ds es k.older
felling_more kin ds cs es t c k h at w f = record {
  facts = begins_then ds cs es w.facts f.facts;
  number = f.number ∙ w.number;
  only = only;
  closed = λ i p d x l up there g.
      let b = live_back cs es f.facts i d l (omega (arith, f.number, slice_get_within es i d l.at)) in
      let q = f.closed i p d x l up there g in
      w.closed i p b.0 q.0 b.1 (sym b.2.stays.parent ∙ up) q.1 q.2;
  m = c;
  next_is = h.older c t k child.0 at child.1 child.2;
  done = done;
}
  where
    child : (d : Device) × (slice_get ds c ≡ Some d) × (d.parent ≡ Some t) × (c < w.m)
    child = w.next_is.child c refl

    only : (i : ℕ) (d e : Device) → Live ds i d → slice_get es i ≡ Some e → e.gone ≡ true → Below ds t i
    only i d e l there g = pick s.0.gone refl
      where
        s : (x : Device) × (slice_get cs i ≡ Some x) × Moved d x
        s = stays_at ds cs i d w.facts l.at

        pick : (b : Bool) → s.0.gone ≡ b → Below ds t i
        pick true was = w.only i d s.0 l s.1 was
        pick false was = below_child ds t c child.0 child.1 child.2 i (below_back ds cs w.facts w.number c i (f.only i s.0 e (record { at = s.1; here = was }) there g))

    done : (j : ℕ) (d : Device) → slice_get es j ≡ Some d → d.parent ≡ Some t → c ≤ j → d.gone ≡ true
    done j d there up le = elim (cases_eq j c) [
      | inl same ↦ f.top d (ap (slice_get es) (sym same) ∙ there)
      | inr differ ↦ further (nat_lt j w.m) refl differ
    ]
      where
        b : (x : Device) × (slice_get cs j ≡ Some x) × Moved x d
        b = back_at cs es f.facts j d there (omega (arith, f.number, slice_get_within es j d there))

        a : (y : Device) × (slice_get ds j ≡ Some y) × Moved y b.0
        a = back_at ds cs w.facts j b.0 b.1 (omega (arith, w.number, slice_get_within cs j b.0 b.1))

        mine : b.0.parent ≡ Some t
        mine = sym b.2.stays.parent ∙ up

        further : (v : Bool) → nat_lt j w.m ≡ v → (j ≡ c → ⊥) → d.gone ≡ true
        further true e differ =
            let q = w.next_is.last j a.0 a.1 (sym a.2.stays.parent ∙ mine) (ltb-true j w.m e) in
            let same = same_Some c q.0 q.1 in
            absurd (differ (omega (arith, q.2, same, le)))
        further false e differ = b.2.stays.gone (w.done j b.0 b.1 mine (ltb-false j w.m e))

-- t has gone in es, and nothing else was changed
pub record WentAlone (t : ℕ) (ds es : List Device) : Type 0 where
  pub facts : BeginsWith ds es
  pub number : length es ≡ length ds
  pub d : Device
  pub at : slice_get es t ≡ Some d
  pub gone : d.gone ≡ true
  pub others : (i : ℕ) → (i ≡ t → ⊥) → slice_get es i ≡ slice_get ds i

pub felling_done : (t : ℕ) (ds es cs : List Device) → WentAlone t ds es → Felling t es cs None → Fells t ds cs
felling_done t ds es cs a w = record {
  facts = begins_then ds es cs a.facts w.facts;
  number = w.number ∙ a.number;
  top = λ e at.
      let s = stays_at es cs t a.d w.facts a.at in
      ap (λ (x : Device). x.gone) (same_Some e s.0 (sym at ∙ s.1)) ∙ s.2.stays.gone a.gone;
  only = λ i d e l at g. elim (cases_eq i t) [
    | inl same ↦ subst (Below ds t) (sym same) Itself
    | inr differ ↦ below_back ds es a.facts a.number t i (w.only i d e (record { at = a.others i differ ∙ l.at; here = l.here }) at g)
  ];
  closed = λ i p d f l up at g. elim (cases_eq p t) [
    | inl same ↦ absurd (child i d l (up ∙ ap Some same))
    | inr differ ↦ let q = w.closed i p d f l up at g in (q.0, sym (a.others p differ) ∙ q.1, q.2)
  ];
}
  where
    child : (i : ℕ) (d : Device) → Live cs i d → d.parent ≡ Some t → ⊥
    child i d l up = by (nat_lt i w.m) refl
      where
        by : (v : Bool) → nat_lt i w.m ≡ v → ⊥
        by true e =
            let b = back_at es cs w.facts i d l.at (omega (arith, w.number, slice_get_within cs i d l.at)) in
            let q = w.next_is.last i b.0 b.1 (sym b.2.stays.parent ∙ up) (ltb-true i w.m e) in
            none-some q.0 q.1
        by false e = both_ways d.gone l.here (w.done i d l.at up (ltb-false i w.m e))

pub fells_none : (t : ℕ) (ds : List Device) (d : Device) → slice_get ds t ≡ Some d → d.gone ≡ true → Fells t ds ds
fells_none t ds d at g = record {
  facts = begins ds;
  number = refl;
  top = λ e there. ap (λ (x : Device). x.gone) (same_Some e d (sym there ∙ at)) ∙ g;
  only = λ i x e l there gone. absurd (live_gone ds i x e l there gone);
  closed = λ i p x f l up there gone. (f, there, gone);
}

went_set : (t : ℕ) (ds : List Device) (d : Device) → slice_get ds t ≡ Some d → WentAlone t ds (set ds t (record d { gone = true }))
went_set t ds d at = record {
  facts = begins_set t ds d at;
  number = length-set ds t (record d { gone = true });
  d = record d { gone = true };
  at = at_set_same ds t d (record d { gone = true }) at;
  gone = refl;
  others = λ i differ. at_set_other ds t i (record d { gone = true }) differ;
}
  where
    goes : (x : Device) → Moved x (record x { gone = true })
    goes x = record {
      stays = record { name = refl; parent = refl; controller = refl; descriptors = refl; product = refl; serial = refl; connect = refl; born_off = refl; gone = λ h. refl };
      on = refl;
      default = refl;
    }

    begins_set : (t : ℕ) (ds : List Device) (d : Device) → slice_get ds t ≡ Some d → BeginsWith ds (set ds t (record d { gone = true }))
    begins_set t [] d at = tt
    begins_set zero (x ∷ ds) d at = (subst (λ (y : Device). Moved x (record y { gone = true })) (same_Some x d at) (goes x), begins ds)
    begins_set (suc t) (x ∷ ds) d at = (unmoved x, begins_set t ds d at)

pub went_alone : (t : ℕ) (ds : List Device) → t < length ds → WentAlone t ds (with_gone t ds)
went_alone t ds lt = by (slice_get ds t) refl
  where
    by : (o : Option Device) → slice_get ds t ≡ o → WentAlone t ds (gone_in t o ds)
    by None e = elim (slice_get_cases ds t).1 [
      | inl q ↦ absurd (none-some q.0 (sym e ∙ q.2))
      | inr q ↦ absurd (omega (arith, q.0, lt))
    ]
    by (Some d) e = went_set t ds d e

-- ---- what went is what a fall takes

moved_is : (d e : Device) → Moved d e → e ≡ record d { gone = e.gone }
moved_is d e m = λ j. record {
  name = m.stays.name j;
  parent = m.stays.parent j;
  controller = m.stays.controller j;
  descriptors = m.stays.descriptors j;
  product = m.stays.product j;
  serial = m.stays.serial j;
  connect = m.stays.connect j;
  gone = e.gone;
  on = m.on j;
  default = m.default j;
  born_off = m.stays.born_off j;
}

same_by : (ds es fs : List Device) → BeginsWith ds es → BeginsWith ds fs → length es ≡ length ds → length fs ≡ length ds → ((i : ℕ) (e f : Device) → slice_get es i ≡ Some e → slice_get fs i ≡ Some f → e.gone ≡ f.gone) → es ≡ fs
same_by [] [] [] b c n k g = refl
same_by [] (e ∷ es) fs b c n k g = absurd (omega (arith, n))
same_by [] [] (f ∷ fs) b c n k g = absurd (omega (arith, k))
same_by (d ∷ ds) [] fs b c n k g = absurd b
same_by (d ∷ ds) (e ∷ es) [] b c n k g = absurd c
same_by (d ∷ ds) (e ∷ es) (f ∷ fs) b c n k g =
    let one : e ≡ f = moved_is d e b.0 ∙ ap (λ (v : Bool). record d { gone = v }) (g zero e f refl refl) ∙ sym (moved_is d f c.0) in
    ap (λ (x : Device). x ∷ es) one
    ∙ ap (λ (xs : List Device). f ∷ xs) (same_by ds es fs b.1 c.1 (omega (arith, n)) (omega (arith, k)) (λ i x y at there. g (suc i) x y at there))

pub kept_fells : (t : ℕ) (ds es : List Device) → IsTree ds → Fells t ds es → Kept es
kept_fells t ds es tree w = record { none = λ i p e f l up lt at. by i p e f l up at f.gone refl }
  where
    by : (i p : ℕ) (e f : Device) → Live es i e → e.parent ≡ Some p → slice_get es p ≡ Some f → (v : Bool) → f.gone ≡ v → f.gone ≡ false
    by i p e f l up at true g =
        let q = w.closed i p e f l up at g in
        let b = live_back ds es w.facts i e l (omega (arith, w.number, slice_get_within es i e l.at)) in
        let u = tree.parents i p b.0 b.1 (sym b.2.stays.parent ∙ up) in
        absurd (live_gone ds p u.0 q.0 u.1 q.1 q.2)
    by i p e f l up at false g = g

pub tree_fells : (t : ℕ) (ds es : List Device) → IsTree ds → Fells t ds es → IsTree es
tree_fells t ds es tree w = record {
  below = λ i p d at up.
      let b = back_at ds es w.facts i d at (omega (arith, w.number, slice_get_within es i d at)) in
      tree.below i p b.0 b.1 (sym b.2.stays.parent ∙ up);
  parents = λ i p d l up.
      let b = live_back ds es w.facts i d l (omega (arith, w.number, slice_get_within es i d l.at)) in
      let mine = sym b.2.stays.parent ∙ up in
      let u = tree.parents i p b.0 b.1 mine in
      let s = stays_at ds es p u.0 w.facts u.1.at in
      (s.0, record { at = s.1; here = (kept_fells t ds es tree w).none i p d s.0 l up (tree.below i p b.0 b.1.at mine) s.1 });
}

pub fells_fall : (t : ℕ) (ds es : List Device) → t < length ds → IsTree ds → Fells t ds es → es ≡ fall t (take t ds) (drop t ds)
fells_fall t ds es lt tree w = same_by ds es fs w.facts other.facts w.number other.number gone
  where
    fs : List Device
    fs = fall t (take t ds) (drop t ds)

    one : IsFelled t ds es
    one = record {
      all = λ i e b at. all_below t ds es tree w.facts (kept_fells t ds es tree w) w.top i b e at;
      only = w.only;
      facts = w.facts;
      number = w.number;
    }

    other : IsFelled t ds fs
    other = felled_exactly t ds lt tree

    gone : (i : ℕ) (e f : Device) → slice_get es i ≡ Some e → slice_get fs i ≡ Some f → e.gone ≡ f.gone
    gone i e f at there = was b.0.gone refl
      where
        b : (d : Device) × (slice_get ds i ≡ Some d) × Moved d e
        b = back_at ds es w.facts i e at (omega (arith, w.number, slice_get_within es i e at))

        c : (x : Device) × (slice_get fs i ≡ Some x) × Moved b.0 x
        c = stays_at ds fs i b.0 other.facts b.1

        same : c.0 ≡ f
        same = same_Some c.0 f (sym c.1 ∙ there)

        now : b.0.gone ≡ false → (u v : Bool) → e.gone ≡ u → f.gone ≡ v → u ≡ v
        now here true true g h = refl
        now here false false g h = refl
        now here true false g h = absurd (both_ways f.gone h (other.all i f (one.only i b.0 e (record { at = b.1; here = here }) at g) there))
        now here false true g h = absurd (both_ways e.gone g (one.all i e (other.only i b.0 f (record { at = b.1; here = here }) there h) at))

        was : (v : Bool) → b.0.gone ≡ v → e.gone ≡ f.gone
        was true g = b.2.stays.gone g ∙ sym (sym (ap (λ (x : Device). x.gone) same) ∙ c.2.stays.gone g)
        was false g = now g e.gone f.gone refl refl

-- ---- a write

record Alike (d e : Device) : Type 0 where
  parent : e.parent ≡ d.parent
  gone : e.gone ≡ d.gone

record AreAlike (ds es : List Device) : Type 0 where
  number : length es ≡ length ds
  forth : (i : ℕ) (d : Device) → slice_get ds i ≡ Some d → (e : Device) × (slice_get es i ≡ Some e) × Alike d e
  back : (i : ℕ) (e : Device) → slice_get es i ≡ Some e → (d : Device) × (slice_get ds i ≡ Some d) × Alike d e

alike : (d : Device) → Alike d d
alike d = record { parent = refl; gone = refl }

alike_switched : (write : Write) (i : ℕ) (ds : List Device) → AreAlike ds (switched write i ds)
alike_switched write i ds = by (slice_get ds i) refl
  where
    written : (d : Device) → slice_get ds i ≡ Some d → AreAlike ds (set ds i (written_to write d))
    written d at = record {
      number = length-set ds i (written_to write d);
      forth = λ j e there. elim (cases_eq j i) [
        | inl same ↦
            let one : d ≡ e = same_Some d e (sym at ∙ ap (slice_get ds) (sym same) ∙ there) in
            (written_to write d, ap (slice_get (set ds i (written_to write d))) same ∙ at_set_same ds i d (written_to write d) at, subst (λ (x : Device). Alike x (written_to write d)) one (record { parent = refl; gone = refl }))
        | inr differ ↦ (e, at_set_other ds i j (written_to write d) differ ∙ there, alike e)
      ];
      back = λ j e there. elim (cases_eq j i) [
        | inl same ↦
            let one : written_to write d ≡ e = same_Some (written_to write d) e (sym (at_set_same ds i d (written_to write d) at) ∙ ap (slice_get (set ds i (written_to write d))) (sym same) ∙ there) in
            (d, ap (slice_get ds) same ∙ at, subst (Alike d) one (record { parent = refl; gone = refl }))
        | inr differ ↦ (e, sym (at_set_other ds i j (written_to write d) differ) ∙ there, alike e)
      ];
    }

    by : (o : Option Device) → slice_get ds i ≡ o → AreAlike ds (switched_to write i o ds)
    by None e = record {
      number = refl;
      forth = λ j d at. (d, at, alike d);
      back = λ j d at. (d, at, alike d);
    }
    by (Some d) e = written d e

pub has_kin_switched : (kin : List Kin) (write : Write) (i : ℕ) (ds : List Device) → HasKin kin ds → HasKin kin (switched write i ds)
has_kin_switched kin write i ds h =
    let a = alike_switched write i ds in
    has_kin_by kin ds (switched write i ds) (record {
      number = a.number;
      forth = λ j d at. let q = a.forth j d at in (q.0, q.1, q.2.parent);
      back = λ j e at. let q = a.back j e at in (q.0, q.1, q.2.parent);
    }) h

pub live_parents_switched : (write : Write) (i : ℕ) (ds : List Device) → HaveLiveParents ds → HaveLiveParents (switched write i ds)
live_parents_switched write i ds h j p d l up =
    let a = alike_switched write i ds in
    let q = a.back j d l.at in
    let u = h j p q.0 (record { at = q.1; here = sym q.2.gone ∙ l.here }) (sym q.2.parent ∙ up) in
    let r = a.forth p u.0 u.1.at in
    (r.0, record { at = r.1; here = r.2.gone ∙ u.1.here })

-- ---- live parents

pub live_parents_push : (ds : List Device) (x : Device) → HaveLiveParents ds → ((p : ℕ) → x.parent ≡ Some p → (e : Device) × Live ds p e) → HaveLiveParents (ds ++ x ∷ [])
live_parents_push ds x h own i p d l up = elim (at_push ds x i d l.at) [
  | inl q ↦ let u = h i p d (record { at = q.1; here = l.here }) up in (u.0, record { at = at_longer ds (x ∷ []) p u.0 u.1.at; here = u.1.here })
  | inr q ↦ let u = own p (ap (λ (z : Device). z.parent) q.1 ∙ up) in (u.0, record { at = at_longer ds (x ∷ []) p u.0 u.1.at; here = u.1.here })
]

pub tree_of_kin : (kin : List Kin) (ds : List Device) → HasKin kin ds → HaveLiveParents ds → IsTree ds
tree_of_kin kin ds h parents = record { below = h.below; parents = parents }

pub sought_lives : (o : Option (List ℕ)) (ds : List Device) (i : ℕ) → sought o ds ≡ parent.Live i → (e : Device) × Live ds i e
sought_lives None ds i h = let none : ⊥ = cc in absurd none
sought_lives (Some name) ds i h = by (find name 0 ds) refl h
  where
    by : (o : Option ℕ) → find name 0 ds ≡ o → sought_at o ≡ parent.Live i → (e : Device) × Live ds i e
    by None e k = let none : ⊥ = cc in absurd none
    by (Some j) e k =
        let same : j ≡ i = cc in
        let f = find_some name j ds e in
        (f.device, subst (λ (n : ℕ). Live ds n f.device) same f.live)

abbrev pub still_left : Option ℕ → ℕ
still_left None = 0
still_left (Some c) = c + 1

no_link : {X : Type 0} (kin : List Kin) (t : ℕ) → slice_get kin t ≡ None → t < length kin → X
no_link {X} kin t e lt = elim (slice_get_cases kin t).1 [
  | inl q ↦ absurd (none-some q.0 (sym e ∙ q.2))
  | inr q ↦ absurd (omega (arith, q.0, lt))
]

pub first_walk : (kin : List Kin) (ds : List Device) (t : ℕ) → HasKin kin ds → t < length ds → Felling t ds ds (youngest_in (slice_get kin t))
first_walk kin ds t h lt = by (slice_get kin t) refl
  where
    by : (o : Option Kin) → slice_get kin t ≡ o → Felling t ds ds (youngest_in o)
    by None e = no_link kin t e (omega (arith, lt, h.number))
    by (Some k) e = felling_first kin ds t k h e

pub child_places : (kin : List Kin) (ds cs : List Device) (t c : ℕ) → HasKin kin ds → Felling t ds cs (Some c) → (t < c) × (c < length cs)
child_places kin ds cs t c h w =
    let d = w.next_is.child c refl in
    let lt = slice_get_within ds c d.0 d.1 in
    (h.below c t d.0 d.1 d.2, omega (arith, lt, w.number))

pub next_walk : (kin : List Kin) (ds cs es : List Device) (t c : ℕ) → HasKin kin ds → Felling t ds cs (Some c) → Fells c cs es → Felling t ds es (older_in (slice_get kin c))
next_walk kin ds cs es t c h w f = by (slice_get kin c) refl
  where
    by : (o : Option Kin) → slice_get kin c ≡ o → Felling t ds es (older_in o)
    by None e = let p = child_places kin ds cs t c h w in no_link kin c e (omega (arith, p.1, w.number, h.number))
    by (Some k) e = felling_more kin ds cs es t c k h e w f

pub next_smaller : (kin : List Kin) (ds cs : List Device) (t c : ℕ) → HasKin kin ds → Felling t ds cs (Some c) → still_left (older_in (slice_get kin c)) < still_left (Some c)
next_smaller kin ds cs t c h w = by (slice_get kin c) refl
  where
    older : (o : Option ℕ) → IsYoungest ds t c o → still_left o < c + 1
    older None y = omega arith
    older (Some k) y = let q = y.child k refl in omega (arith, q.3)

    by : (o : Option Kin) → slice_get kin c ≡ o → still_left (older_in o) < c + 1
    by None e = omega arith
    by (Some k) e = let d = w.next_is.child c refl in older k.older (h.older c t k d.0 e d.1 d.2)

pub fells_unless : (t : ℕ) (ds es : List Device) → t < length ds → es ≡ with_gone t ds → is_live_at ds t ≡ false → Fells t ds es
fells_unless t ds es lt is dead = by (slice_get ds t) refl
  where
    by : (o : Option Device) → slice_get ds t ≡ o → Fells t ds es
    by None e = elim (slice_get_cases ds t).1 [
      | inl q ↦ absurd (none-some q.0 (sym e ∙ q.2))
      | inr q ↦ absurd (omega (arith, q.0, lt))
    ]
    by (Some d) e =
        let g : d.gone ≡ true = not-false d.gone (sym (ap is_live e) ∙ dead) in
        subst (Fells t ds) (was_gone ds t d e g ∙ sym is) (fells_none t ds d e g)
      where
        not-false : (b : Bool) → not b ≡ false → b ≡ true
        not-false true h = refl
        not-false false h = absurd (both_ways true h refl)

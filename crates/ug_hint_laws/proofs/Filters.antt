-- What is done for a standing of a live name commutes with the choice of the standings of live names.
use Rattle.std.proofs.Common.{◌≡◌, ℕ, ◌+◌, Bool, true, false, not, cond, List, [], ◌∷◌, map, Option, Some, refl, sym, ◌∙◌, ap, subst, inl, inr, add-one, true≢false}
use Rattle.std.proofs.lemmas.Bool.{cond_both, false_from_ne_true}
use Rattle.std.specs.declared.cmp.Ordering.{Ordering}
use Rattle.std.specs.declared.cmp.Ordering.TheVariants.{Less, Greater}
use Rattle.std.specs.Ordering.{ordering_reverse}
use Rattle.std.specs.Ordering.{is_lt, is_gt}
use Rattle.std.specs.List.{filter, insert}
use Rattle.ug_types.specs.Elements.{Has}
use Rattle.ug_types.specs.Names.{sweep_cmp}
use Rattle.ug_types.specs.Sweep.{sweep_total}
use Rattle.ug_types.proofs.Elements.{filter_has, has_map}
use Rattle.ug_table.specs.Settle.{tried_standings, kept_standings}
use Rattle.ug_table.specs.Standings.{standing_of, known_of, named, same_name, without, marked, with_default, did_default, place_for, with_standing, settled_standing}
use Rattle.ug_table.specs.Sweep.{names_of}
use Rattle.ug_table.specs.Laws.{AreInOrder, swept_before}
use Rattle.ug_table.specs.declared.standing.Standing.{Standing}
use Rattle.ug_table.specs.declared.standing.Known.{Known}
use Rattle.ug_table.specs.declared.standing.Settled.{Settled}
use Rattle.ug_table.proofs.Standings.{other_test}

-- filters and maps

pub filter_map : (test : Standing → Bool) (f : Standing → Standing) → ((s : Standing) → test (f s) ≡ test s) → (ss : List Standing) → filter test (map f ss) ≡ map f (filter test ss)
filter_map test f same [] = refl
filter_map test f same (s ∷ ss) =
    ap (λ (b : Bool). cond b (f s ∷ filter test (map f ss)) (filter test (map f ss))) (same s)
    ∙ ap (λ (v : List Standing). cond (test s) (f s ∷ v) v) (filter_map test f same ss)
    ∙ by (test s)
  where
    by : (b : Bool) → cond b (f s ∷ map f (filter test ss)) (map f (filter test ss)) ≡ map f (cond b (s ∷ filter test ss) (filter test ss))
    by true = refl
    by false = refl

pub filter_filter : (p q : Standing → Bool) (ss : List Standing) → filter p (filter q ss) ≡ filter q (filter p ss)
filter_filter p q [] = refl
filter_filter p q (s ∷ ss) = by (filter_filter p q ss) (p s) refl (q s) refl
  where
    by : filter p (filter q ss) ≡ filter q (filter p ss) → (a : Bool) → p s ≡ a → (b : Bool) → q s ≡ b → filter p (cond b (s ∷ filter q ss) (filter q ss)) ≡ filter q (cond a (s ∷ filter p ss) (filter p ss))
    by rest true e true f =
        ap (λ (v : Bool). cond v (s ∷ filter p (filter q ss)) (filter p (filter q ss))) e ∙ ap (λ (v : List Standing). s ∷ v) rest
        ∙ sym (ap (λ (v : Bool). cond v (s ∷ filter q (filter p ss)) (filter q (filter p ss))) f)
    by rest true e false f = rest ∙ sym (ap (λ (v : Bool). cond v (s ∷ filter q (filter p ss)) (filter q (filter p ss))) f)
    by rest false e true f = ap (λ (v : Bool). cond v (s ∷ filter p (filter q ss)) (filter p (filter q ss))) e ∙ rest
    by rest false e false f = rest

-- order

less_is : (r : Ordering) → is_lt r ≡ true → r ≡ Less
less_is Less e = refl
less_is x e = absurd (true≢false (sym e))

lt_turned : (r : Ordering) → is_gt r ≡ true → is_lt (ordering_reverse r) ≡ true
lt_turned Greater e = refl
lt_turned x e = absurd (true≢false (sym e))

gt_turned : (r : Ordering) → is_lt r ≡ true → is_gt (ordering_reverse r) ≡ true
gt_turned Less e = refl
gt_turned x e = absurd (true≢false (sym e))

pub before_greater : (x y : List ℕ) → is_gt (sweep_cmp x y) ≡ true → swept_before y x ≡ true
before_greater x y h = ap is_lt (sweep_total.antisymm y x) ∙ lt_turned (sweep_cmp x y) h

pub greater_after : (x y : List ℕ) → swept_before y x ≡ true → is_gt (sweep_cmp x y) ≡ true
greater_after x y h = ap is_gt (sweep_total.antisymm x y) ∙ gt_turned (sweep_cmp y x) h

pub before_trans : (x y z : List ℕ) → swept_before x y ≡ true → swept_before y z ≡ true → swept_before x z ≡ true
before_trans x y z a b = ap is_lt (sweep_total.trans x y z (less_is (sweep_cmp x y) a) (less_is (sweep_cmp y z) b))

-- one that comes before all is the first
first_with : (x : Standing) (zs : List Standing) → ((z : Standing) → Has zs z → is_gt (sweep_cmp x.name z.name) ≡ false) → with_standing x zs ≡ x ∷ zs
first_with x [] h = refl
first_with x (z ∷ zs) h = ap (λ (b : Bool). insert (z ∷ zs) (cond b (place_for x.name zs + 1) 0) x) (h z (inl refl))

further_with : (x y : Standing) (zs : List Standing) → is_gt (sweep_cmp x.name y.name) ≡ true → with_standing x (y ∷ zs) ≡ y ∷ with_standing x zs
further_with x y zs e =
    ap (λ (b : Bool). insert (y ∷ zs) (cond b (place_for x.name zs + 1) 0) x) e
    ∙ ap (λ (k : ℕ). insert (y ∷ zs) k x) (add-one (place_for x.name zs))

pub filter_with : (test : Standing → Bool) (x : Standing) (ss : List Standing) → test x ≡ true → AreInOrder (names_of ss) → filter test (with_standing x ss) ≡ with_standing x (filter test ss)
filter_with test x [] own o = ap (λ (b : Bool). cond b (x ∷ []) []) own
filter_with test x (y ∷ ys) own o = by (filter_with test x ys own o.1) (is_gt (sweep_cmp x.name y.name)) refl
  where
    rest : List Standing
    rest = filter test ys

    here : (b : Bool) → is_gt (sweep_cmp x.name y.name) ≡ true → cond b (y ∷ with_standing x rest) (with_standing x rest) ≡ with_standing x (cond b (y ∷ rest) rest)
    here true e = sym (further_with x y rest e)
    here false e = refl

    low : is_gt (sweep_cmp x.name y.name) ≡ false → (z : Standing) → Has (y ∷ ys) z → is_gt (sweep_cmp x.name z.name) ≡ false
    low e z (inl is) = subst (λ (v : Standing). is_gt (sweep_cmp x.name v.name) ≡ false) is e
    low e z (inr a) = false_from_ne_true (is_gt (sweep_cmp x.name z.name)) (λ g. true≢false (sym (greater_after x.name y.name (before_trans y.name z.name x.name (o.0 z.name (has_map (λ (s : Standing). s.name) ys z a)) (before_greater x.name z.name g))) ∙ e))

    by : filter test (with_standing x ys) ≡ with_standing x (filter test ys) → (b : Bool) → is_gt (sweep_cmp x.name y.name) ≡ b → filter test (with_standing x (y ∷ ys)) ≡ with_standing x (filter test (y ∷ ys))
    by rest_is true e =
        ap (filter test) (further_with x y ys e)
        ∙ ap (λ (v : List Standing). cond (test y) (y ∷ v) v) rest_is
        ∙ here (test y) e
    by rest_is false e =
        ap (filter test) (first_with x (y ∷ ys) (low e))
        ∙ ap (λ (b : Bool). cond b (x ∷ filter test (y ∷ ys)) (filter test (y ∷ ys))) own
        ∙ sym (first_with x (filter test (y ∷ ys)) (λ z a. low e z (filter_has test (y ∷ ys) z a).0))

-- standings of live names

module _ (alive : List ℕ → Bool) where
  abbrev pub of_live : List Standing → List Standing
  of_live ss = filter (λ s. alive s.name) ss

  both_ways : (b : Bool) → b ≡ false → b ≡ true → ⊥
  both_ways b e f = true≢false (sym f ∙ e)

  pub live_stand : (name : List ℕ) (ss : List Standing) → alive name ≡ true → standing_of name (of_live ss) ≡ standing_of name ss
  live_stand name [] has = refl
  live_stand name (s ∷ ss) has = cond_both (alive s.name) (s ∷ of_live ss) (of_live ss)
      (λ (l : List Standing). standing_of name l ≡ standing_of name (s ∷ ss))
      (λ e. ap (λ (v : Option Known). cond (same_name s.name name) (Some (known_of s)) v) (live_stand name ss has))
      (λ e. live_stand name ss has ∙ sym (ap (λ (v : Bool). cond v (Some (known_of s)) (standing_of name ss)) (other_test s.name name (λ f. both_ways (alive s.name) e (ap alive f ∙ has)))))

  pub live_named : (name : List ℕ) (ss : List Standing) → alive name ≡ true → named name (of_live ss) ≡ named name ss
  live_named name [] has = refl
  live_named name (s ∷ ss) has = cond_both (alive s.name) (s ∷ of_live ss) (of_live ss)
      (λ (l : List Standing). named name l ≡ named name (s ∷ ss))
      (λ e. ap (λ (v : Option Standing). cond (same_name s.name name) (Some s) v) (live_named name ss has))
      (λ e. live_named name ss has ∙ sym (ap (λ (v : Bool). cond v (Some s) (named name ss)) (other_test s.name name (λ f. both_ways (alive s.name) e (ap alive f ∙ has)))))

  pub live_tried : (name : List ℕ) (d : Bool) (how : Settled) (ss : List Standing) → of_live (tried_standings (did_default name d ss) name how) ≡ tried_standings (did_default name d (of_live ss)) name how
  live_tried name d how ss = outer how (did_default name d ss) ∙ ap (λ (v : List Standing). tried_standings v name how) (inner d)
    where
      outer : (r : Settled) (rs : List Standing) → of_live (tried_standings rs name r) ≡ tried_standings (of_live rs) name r
      outer Settled.Nobody rs = filter_filter (λ s. alive s.name) (λ s. not (same_name s.name name)) rs
      outer Settled.Stands rs = filter_map (λ s. alive s.name) (marked name true) (λ s. refl) rs
      outer (Settled.Fault failed) rs = filter_map (λ s. alive s.name) (marked name false) (λ s. refl) rs
      outer Settled.Memory rs = filter_map (λ s. alive s.name) (marked name false) (λ s. refl) rs

      inner : (b : Bool) → of_live (did_default name b ss) ≡ did_default name b (of_live ss)
      inner true = filter_map (λ s. alive s.name) (with_default name) (λ s. refl) ss
      inner false = refl

  pub live_kept : (x : Standing) (how : Settled) (ss : List Standing) → alive x.name ≡ true → AreInOrder (names_of ss) → of_live (kept_standings ss x how) ≡ kept_standings (of_live ss) x how
  live_kept x Settled.Nobody ss own o = refl
  live_kept x Settled.Stands ss own o = filter_with (λ s. alive s.name) (settled_standing x) ss own o
  live_kept x (Settled.Fault failed) ss own o = filter_with (λ s. alive s.name) x ss own o
  live_kept x Settled.Memory ss own o = filter_with (λ s. alive s.name) x ss own o

  pub live_without : (name : List ℕ) (ss : List Standing) → of_live (without name ss) ≡ without name (of_live ss)
  live_without name ss = filter_filter (λ s. alive s.name) (λ s. not (same_name s.name name)) ss

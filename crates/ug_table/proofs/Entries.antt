-- Slots, and the list of the standings that they hold.
use Rattle.std.proofs.Common.{◌≡◌, ℕ, ◌+◌, Bool, true, false, not, cond, List, [], ◌∷◌, map, Option, Some, None, refl, sym, ◌∙◌, ap, subst, add-one, inl, inr, ◌⊎◌}
use Rattle.std.proofs.lemmas.Bool.{cond_both, cases_Bool}
use Rattle.std.proofs.lemmas.Cmp.{nat_list_eq_equiv}
use Rattle.std.proofs.lemmas.Map.Keys.{sorted_head, sorted_tail}
use Rattle.std.specs.BTreeMap.{is_at, insert_entry}
use Rattle.std.specs.Map.{keys_of, remove_entry, set_value}
use Rattle.std.specs.Prelude.{OnOk, OnErr, Result, Ok, Err, is_ok, length}
use Rattle.std.proofs.Common.{arith}
use native.Mathlib.Decide.{dec_lt}
use Prim.{yes, no}
use Rattle.std.proofs.lemmas.List.Folds.{list_any_at, list_any_none}
use Rattle.std.proofs.lemmas.List.Sorted.{searchable_from_sorted}
use Rattle.std.specs.List.{AllByRecursion, filter, insert}
use Rattle.std.specs.List.Sorted.{IsStrictlySortedBy, IsSorted, IsSearchInRange, IsBinarySearchResult}
use Rattle.std.specs.Ordering.{is_eq, is_gt, match_ordering, ordering_reverse}
use Rattle.std.specs.declared.cmp.Ordering.{Ordering}
use Rattle.std.specs.declared.cmp.Ordering.TheVariants.{Less, Equal, Greater}
use Rattle.ug_types.specs.Elements.{Has}
use Rattle.ug_types.specs.Names.{sweep_cmp}
use Rattle.ug_types.specs.Sweep.{sweep_total, sweep_exact, sweep_ties}
use Rattle.ug_table.specs.declared.standing.Standing.{Standing}
use Rattle.ug_table.specs.Standings.{same_name, named, without, place_for, with_standing, lists, marked, with_default}
use Rattle.ug_table.specs.Bring.{is_reject}
use Rattle.std.proofs.Common.{◌||◌, ◌&&◌, get_or}
use Rattle.ug_table.specs.Slots.{Slot, before, filled, slot_of, empty_of, IsNameOf, AllNamed}

-- keys in order
abbrev pub Sorted : List Slot → Type 0
Sorted es = IsStrictlySortedBy sweep_cmp (keys_of es)

-- each key comes behind the name
abbrev pub AllBehind : List ℕ → List Slot → Type 0
AllBehind name es = AllByRecursion (λ k. sweep_cmp name k ≡ Less) (keys_of es)

pub same_at : (name k : List ℕ) → same_name k name ≡ is_at (sweep_cmp name) k
same_at name k = nat_list_eq_equiv.symm k name ∙ sweep_ties name k

apart_at : (name k : List ℕ) → sweep_cmp name k ≡ Less → same_name k name ≡ false
apart_at name k e = same_at name k ∙ ap is_eq e

pub at_is : (name k : List ℕ) → is_at (sweep_cmp name) k ≡ true → name ≡ k
at_is name k e = sweep_exact name k (is_equal (sweep_cmp name k) e)
  where
    is_equal : (o : Ordering) → is_eq o ≡ true → o ≡ Equal
    is_equal Equal h = refl
    is_equal Less h = let none : ⊥ = cc in absurd none
    is_equal Greater h = let none : ⊥ = cc in absurd none

pub behind_of : (name : List ℕ) (e : Slot) (es : List Slot) → Sorted (e ∷ es) → is_at (sweep_cmp name) e.0 ≡ true → AllBehind name es
behind_of name e es s at = subst (λ (k : List ℕ). AllBehind k es) (sym (at_is name e.0 at)) (sorted_head sweep_cmp e.0 (keys_of es) s)

pub same_refl : (name : List ℕ) → same_name name name ≡ true
same_refl name = nat_list_eq_equiv.refl name

pub name_same : (a b : List ℕ) → same_name a b ≡ true → a ≡ b
name_same a b e = at_is a b (sym (sweep_ties a b) ∙ e)

-- where a standing may be by its slot
abbrev pub flat : Option (Option Standing) → Option Standing
flat None = None
flat (Some o) = o

-- no standing of a name before all keys
pub named_behind : (name : List ℕ) (es : List Slot) → AllBehind name es → AllNamed es → named name (filled es) ≡ None
named_behind name [] a b = refl
named_behind name ((k, None) ∷ es) a b = named_behind name es a.1 b.1
named_behind name ((k, Some s) ∷ es) a b = ap (λ (t : Bool). cond t (Some s) (named name (filled es))) (ap (λ (v : List ℕ). same_name v name) b.0 ∙ apart_at name k a.0) ∙ named_behind name es a.1 b.1

place_behind : (name : List ℕ) (es : List Slot) → AllBehind name es → AllNamed es → place_for name (filled es) ≡ 0
place_behind name [] a b = refl
place_behind name ((k, None) ∷ es) a b = place_behind name es a.1 b.1
place_behind name ((k, Some s) ∷ es) a b = ap (λ (t : Bool). cond t (place_for name (filled es) + 1) 0) (ap (λ (v : List ℕ). is_gt (sweep_cmp name v)) b.0 ∙ ap is_gt a.0)

without_behind : (name : List ℕ) (es : List Slot) → AllBehind name es → AllNamed es → without name (filled es) ≡ filled es
without_behind name [] a b = refl
without_behind name ((k, None) ∷ es) a b = without_behind name es a.1 b.1
without_behind name ((k, Some s) ∷ es) a b =
    ap (λ (t : Bool). cond (not t) (s ∷ without name (filled es)) (without name (filled es))) (ap (λ (v : List ℕ). same_name v name) b.0 ∙ apart_at name k a.0)
    ∙ ap (λ (v : List Standing). s ∷ v) (without_behind name es a.1 b.1)

-- the test of a standing is that of its slot
test_of : (name k : List ℕ) (s : Standing) → s.name ≡ k → same_name s.name name ≡ is_at (sweep_cmp name) k
test_of name k s e = ap (λ (v : List ℕ). same_name v name) e ∙ same_at name k

-- what a look-up finds
pub named_slot : (name : List ℕ) (es : List Slot) → Sorted es → AllNamed es → named name (filled es) ≡ flat (slot_of name es)
named_slot name [] s b = refl
named_slot name ((k, None) ∷ es) s b = cond_both (is_at (sweep_cmp name) k) (Some None) (slot_of name es) (λ (o : Option (Option Standing)). named name (filled es) ≡ flat o)
    (λ at. named_behind name es (behind_of name (k, None) es s at) b.1)
    (λ off. named_slot name es (sorted_tail sweep_cmp k (keys_of es) s) b.1)
named_slot name ((k, Some x) ∷ es) s b =
    ap (λ (t : Bool). cond t (Some x) (named name (filled es))) (test_of name k x b.0)
    ∙ cond_both (is_at (sweep_cmp name) k) (Some (Some x)) (slot_of name es) (λ (o : Option (Option Standing)). cond (is_at (sweep_cmp name) k) (Some x) (named name (filled es)) ≡ flat o)
    (λ at. ap (λ (t : Bool). cond t (Some x) (named name (filled es))) at)
    (λ off. ap (λ (t : Bool). cond t (Some x) (named name (filled es))) off ∙ named_slot name es (sorted_tail sweep_cmp k (keys_of es) s) b.1)

-- a slot that is taken out
pub without_slot : (name : List ℕ) (es : List Slot) → Sorted es → AllNamed es → filled (remove_entry (is_at (sweep_cmp name)) es) ≡ without name (filled es)
without_slot name [] s b = refl
without_slot name ((k, None) ∷ es) s b = cond_both (is_at (sweep_cmp name) k) es ((k, None) ∷ remove_entry (is_at (sweep_cmp name)) es) (λ (v : List Slot). filled v ≡ without name (filled es))
    (λ at. sym (without_behind name es (behind_of name (k, None) es s at) b.1))
    (λ off. without_slot name es (sorted_tail sweep_cmp k (keys_of es) s) b.1)
without_slot name ((k, Some x) ∷ es) s b =
    cond_both (is_at (sweep_cmp name) k) es ((k, Some x) ∷ remove_entry (is_at (sweep_cmp name)) es) (λ (v : List Slot). filled v ≡ cond (not (is_at (sweep_cmp name) k)) (x ∷ without name (filled es)) (without name (filled es)))
    (λ at. sym (without_behind name es (behind_of name (k, Some x) es s at) b.1) ∙ sym (ap (λ (t : Bool). cond (not t) (x ∷ without name (filled es)) (without name (filled es))) at))
    (λ off. ap (λ (v : List Standing). x ∷ v) (without_slot name es (sorted_tail sweep_cmp k (keys_of es) s) b.1) ∙ sym (ap (λ (t : Bool). cond (not t) (x ∷ without name (filled es)) (without name (filled es))) off))
    ∙ sym (ap (λ (t : Bool). cond (not t) (x ∷ without name (filled es)) (without name (filled es))) (test_of name k x b.0))

-- what changes the standing of a name alone
pub map_behind_of : (f : Standing → Standing) (name : List ℕ) (es : List Slot) → ((s : Standing) → Has (filled es) s → same_name s.name name ≡ false → f s ≡ s) → AllBehind name es → AllNamed es → map f (filled es) ≡ filled es
map_behind_of f name [] own a b = refl
map_behind_of f name ((k, None) ∷ es) own a b = map_behind_of f name es own a.1 b.1
map_behind_of f name ((k, Some s) ∷ es) own a b =
    ap (λ (v : Standing). v ∷ map f (filled es)) (own s (inl refl) (ap (λ (v : List ℕ). same_name v name) b.0 ∙ apart_at name k a.0))
    ∙ ap (λ (v : List Standing). s ∷ v) (map_behind_of f name es (λ t h. own t (inr h)) a.1 b.1)

pub map_slot_of : (f : Standing → Standing) (name : List ℕ) (x : Standing) (es : List Slot) → ((s : Standing) → Has (filled es) s → same_name s.name name ≡ false → f s ≡ s) → Sorted es → AllNamed es → slot_of name es ≡ Some (Some x) → filled (set_value (is_at (sweep_cmp name)) es (Some (f x))) ≡ map f (filled es)
map_slot_of f name x [] own s b h = let none : ⊥ = cc in absurd none
map_slot_of f name x ((k, None) ∷ es) own s b h =
    cond_both (is_at (sweep_cmp name) k) (Some None) (slot_of name es)
    (λ (v : Option (Option Standing)). v ≡ Some (Some x) → filled (cond (is_at (sweep_cmp name) k) ((k, Some (f x)) ∷ es) ((k, None) ∷ set_value (is_at (sweep_cmp name)) es (Some (f x)))) ≡ map f (filled es))
    (λ at v. let none : ⊥ = cc in absurd none)
    (λ off v.
    ap (λ (t : Bool). filled (cond t ((k, Some (f x)) ∷ es) ((k, None) ∷ set_value (is_at (sweep_cmp name)) es (Some (f x))))) off
    ∙ map_slot_of f name x es own (sorted_tail sweep_cmp k (keys_of es) s) b.1 v) h
map_slot_of f name x ((k, Some y) ∷ es) own s b h =
    cond_both (is_at (sweep_cmp name) k) (Some (Some y)) (slot_of name es)
    (λ (v : Option (Option Standing)). v ≡ Some (Some x) → filled (cond (is_at (sweep_cmp name) k) ((k, Some (f x)) ∷ es) ((k, Some y) ∷ set_value (is_at (sweep_cmp name)) es (Some (f x)))) ≡ f y ∷ map f (filled es))
    (λ at v.
    let is : x ≡ y = cc in
    ap (λ (t : Bool). filled (cond t ((k, Some (f x)) ∷ es) ((k, Some y) ∷ set_value (is_at (sweep_cmp name)) es (Some (f x))))) at
    ∙ ap (λ (v : Standing). f v ∷ filled es) is
    ∙ ap (λ (v : List Standing). f y ∷ v) (sym (map_behind_of f name es (λ t h. own t (inr h)) (behind_of name (k, Some y) es s at) b.1)))
    (λ off v.
    ap (λ (t : Bool). filled (cond t ((k, Some (f x)) ∷ es) ((k, Some y) ∷ set_value (is_at (sweep_cmp name)) es (Some (f x))))) off
    ∙ ap (λ (v : Standing). v ∷ filled (set_value (is_at (sweep_cmp name)) es (Some (f x)))) (sym (own y (inl refl) (test_of name k y b.0 ∙ off)))
    ∙ ap (λ (v : List Standing). f y ∷ v) (map_slot_of f name x es (λ t h. own t (inr h)) (sorted_tail sweep_cmp k (keys_of es) s) b.1 v)) h

pub map_slot : (f : Standing → Standing) (name : List ℕ) (x : Standing) (es : List Slot) → ((s : Standing) → same_name s.name name ≡ false → f s ≡ s) → Sorted es → AllNamed es → slot_of name es ≡ Some (Some x) → filled (set_value (is_at (sweep_cmp name)) es (Some (f x))) ≡ map f (filled es)
map_slot f name x es own = map_slot_of f name x es (λ s h. own s)

-- a place that is made changes no standing
pub place_slot : (name : List ℕ) (es : List Slot) → Sorted es → AllNamed es → named name (filled es) ≡ None → filled (insert_entry sweep_cmp es name None) ≡ filled es
place_slot name [] s b h = refl
place_slot name (e ∷ es) s b h = by (place_slot name es (sorted_tail sweep_cmp e.0 (keys_of es) s) b.1) (sweep_cmp name e.0) refl
  where
    by : (named name (filled es) ≡ None → filled (insert_entry sweep_cmp es name None) ≡ filled es) → (o : Ordering) → sweep_cmp name e.0 ≡ o → filled (match_ordering o ((name, None) ∷ e ∷ es) ((e.0, None) ∷ es) (e ∷ insert_entry sweep_cmp es name None)) ≡ filled (e ∷ es)
    by rest Less q = refl
    by rest Equal q = empty e.1 (sym (named_slot name (e ∷ es) s b) ∙ h)
      where
        empty : (o : Option Standing) → flat (cond (is_eq (sweep_cmp name e.0)) (Some o) (slot_of name es)) ≡ None → filled es ≡ before o (filled es)
        empty None f = refl
        empty (Some x) f = let at : is_eq (sweep_cmp name e.0) ≡ true = ap is_eq q in let found : Some x ≡ None = sym (ap (λ (t : Bool). flat (cond t (Some (Some x)) (slot_of name es))) at) ∙ f in let none : ⊥ = cc in absurd none
    by rest Greater q = ap (before e.1) (rest (later e.1 b.0 h))
      where
        later : (o : Option Standing) → IsNameOf e.0 o → named name (before o (filled es)) ≡ None → named name (filled es) ≡ None
        later None bears f = f
        later (Some x) bears f = sym (ap (λ (t : Bool). cond t (Some x) (named name (filled es))) (test_of name e.0 x bears ∙ ap is_eq q)) ∙ f

-- a place that is filled
in_front : (x s : Standing) (xs : List Standing) (n : ℕ) → insert (x ∷ xs) (n + 1) s ≡ x ∷ insert xs n s
in_front x s xs n = rw add-one refl

less_found : (k name : List ℕ) (o : Option Standing) (es : List Slot) → AllBehind k es → slot_of name es ≡ Some o → sweep_cmp k name ≡ Less
less_found k name o [] a h = let none : ⊥ = cc in absurd none
less_found k name o (e ∷ es) a h = cond_both (is_at (sweep_cmp name) e.0) (Some e.1) (slot_of name es) (λ (v : Option (Option Standing)). v ≡ Some o → sweep_cmp k name ≡ Less)
    (λ at v. subst (λ (w : List ℕ). sweep_cmp k w ≡ Less) (sym (at_is name e.0 at)) a.0)
    (λ off v. less_found k name o es a.1 v) h

pub fill_slot : (name : List ℕ) (x : Standing) (es : List Slot) → x.name ≡ name → Sorted es → AllNamed es → slot_of name es ≡ Some None → filled (set_value (is_at (sweep_cmp name)) es (Some x)) ≡ with_standing x (filled es)
fill_slot name x [] named s b h = let none : ⊥ = cc in absurd none
fill_slot name x ((k, o) ∷ es) named s b h =
    cond_both (is_at (sweep_cmp name) k) (Some o) (slot_of name es)
    (λ (v : Option (Option Standing)). v ≡ Some None → filled (cond (is_at (sweep_cmp name) k) ((k, Some x) ∷ es) ((k, o) ∷ set_value (is_at (sweep_cmp name)) es (Some x))) ≡ with_standing x (before o (filled es)))
    (λ at v.
    let none : None ≡ o = cc in
    ap (λ (t : Bool). filled (cond t ((k, Some x) ∷ es) ((k, o) ∷ set_value (is_at (sweep_cmp name)) es (Some x)))) at
    ∙ sym (ap (λ (n : ℕ). insert (filled es) n x) (ap (λ (w : List ℕ). place_for w (filled es)) named ∙ place_behind name es (behind_of name (k, o) es s at) b.1))
    ∙ ap (λ (w : Option Standing). with_standing x (before w (filled es))) none)
    (λ off v.
    ap (λ (t : Bool). filled (cond t ((k, Some x) ∷ es) ((k, o) ∷ set_value (is_at (sweep_cmp name)) es (Some x)))) off
    ∙ ap (before o) (fill_slot name x es named (sorted_tail sweep_cmp k (keys_of es) s) b.1 v)
    ∙ later o b.0 (gt off (less_found k name None es (sorted_head sweep_cmp k (keys_of es) s) v)))
    h
  where
    gt : is_at (sweep_cmp name) k ≡ false → sweep_cmp k name ≡ Less → is_gt (sweep_cmp name k) ≡ true
    gt off less = ap is_gt (sweep_total.antisymm name k ∙ ap ordering_reverse less)

    later : (o : Option Standing) → IsNameOf k o → is_gt (sweep_cmp name k) ≡ true → before o (with_standing x (filled es)) ≡ with_standing x (before o (filled es))
    later None bears g = refl
    later (Some y) bears g =
        let test : is_gt (sweep_cmp x.name y.name) ≡ true = ap (λ (w : List ℕ). is_gt (sweep_cmp w y.name)) named ∙ ap (λ (w : List ℕ). is_gt (sweep_cmp name w)) bears ∙ g in
        sym (ap (λ (t : Bool). insert (y ∷ filled es) (cond t (place_for x.name (filled es) + 1) 0) x) test ∙ in_front y x (filled es) (place_for x.name (filled es)))

-- what a test of the names keeps
pub filter_slot : (p : List ℕ → Bool) (es : List Slot) → AllNamed es → filled (filter (λ (e : Slot). p e.0) es) ≡ filter (λ (s : Standing). p s.name) (filled es)
filter_slot p [] b = refl
filter_slot p ((k, None) ∷ es) b = cond_both (p k) ((k, None) ∷ filter (λ (e : Slot). p e.0) es) (filter (λ (e : Slot). p e.0) es) (λ (v : List Slot). filled v ≡ filter (λ (s : Standing). p s.name) (filled es)) (λ e. filter_slot p es b.1) (λ e. filter_slot p es b.1)
filter_slot p ((k, Some x) ∷ es) b =
    let rest = filter_slot p es b.1 in
    let test : p x.name ≡ p k = ap p b.0 in
    elim (cases_Bool (p k)) [
      | inl e ↦ ap (λ (t : Bool). filled (cond t ((k, Some x) ∷ filter (λ (e : Slot). p e.0) es) (filter (λ (e : Slot). p e.0) es))) e ∙ ap (λ (v : List Standing). x ∷ v) rest ∙ sym (ap (λ (t : Bool). cond t (x ∷ filter (λ (s : Standing). p s.name) (filled es)) (filter (λ (s : Standing). p s.name) (filled es))) (test ∙ e))
      | inr e ↦ ap (λ (t : Bool). filled (cond t ((k, Some x) ∷ filter (λ (e : Slot). p e.0) es) (filter (λ (e : Slot). p e.0) es))) e ∙ rest ∙ sym (ap (λ (t : Bool). cond t (x ∷ filter (λ (s : Standing). p s.name) (filled es)) (filter (λ (s : Standing). p s.name) (filled es))) (test ∙ e))
    ]

-- what changes the standing of a name alone, where there is none
pub map_absent : (f : Standing → Standing) (name : List ℕ) (ss : List Standing) → ((s : Standing) → same_name s.name name ≡ false → f s ≡ s) → named name ss ≡ None → map f ss ≡ ss
map_absent f name [] own h = refl
map_absent f name (s ∷ ss) own h = cond_both (same_name s.name name) (Some s) (named name ss) (λ (o : Option Standing). o ≡ None → f s ∷ map f ss ≡ s ∷ ss)
    (λ at v. let none : ⊥ = cc in absurd none)
    (λ off v. ap (λ (x : Standing). x ∷ map f ss) (own s off) ∙ ap (λ (xs : List Standing). s ∷ xs) (map_absent f name ss own v)) h

-- slots bear their names through each change
pub bear_set : (name : List ℕ) (es : List Slot) (w : Option Standing) → AllNamed es → IsNameOf name w → AllNamed (set_value (is_at (sweep_cmp name)) es w)
bear_set name [] w b h = tt
bear_set name (e ∷ es) w b h = cond_both (is_at (sweep_cmp name) e.0) ((e.0, w) ∷ es) (e ∷ set_value (is_at (sweep_cmp name)) es w) AllNamed
    (λ at. (subst (λ (k : List ℕ). IsNameOf k w) (at_is name e.0 at) h, b.1))
    (λ off. (b.0, bear_set name es w b.1 h))

pub bear_remove : (name : List ℕ) (es : List Slot) → AllNamed es → AllNamed (remove_entry (is_at (sweep_cmp name)) es)
bear_remove name [] b = tt
bear_remove name (e ∷ es) b = cond_both (is_at (sweep_cmp name) e.0) es (e ∷ remove_entry (is_at (sweep_cmp name)) es) AllNamed (λ at. b.1) (λ off. (b.0, bear_remove name es b.1))

pub bear_place : (name : List ℕ) (es : List Slot) → AllNamed es → AllNamed (insert_entry sweep_cmp es name None)
bear_place name [] b = (tt, tt)
bear_place name (e ∷ es) b = by (bear_place name es b.1) (sweep_cmp name e.0)
  where
    by : AllNamed (insert_entry sweep_cmp es name None) → (o : Ordering) → AllNamed (match_ordering o ((name, None) ∷ e ∷ es) ((e.0, None) ∷ es) (e ∷ insert_entry sweep_cmp es name None))
    by rest Less = (tt, b)
    by rest Equal = (tt, b.1)
    by rest Greater = (b.0, rest)

pub bear_filter : (p : Slot → Bool) (es : List Slot) → AllNamed es → AllNamed (filter p es)
bear_filter p [] b = tt
bear_filter p (e ∷ es) b = cond_both (p e) (e ∷ filter p es) (filter p es) AllNamed (λ t. (b.0, bear_filter p es b.1)) (λ f. bear_filter p es b.1)

-- what a slot bears is its name's
pub bears_found : (name : List ℕ) (es : List Slot) (o : Option Standing) → AllNamed es → slot_of name es ≡ Some o → IsNameOf name o
bears_found name [] o b h = let none : ⊥ = cc in absurd none
bears_found name (e ∷ es) o b h = cond_both (is_at (sweep_cmp name) e.0) (Some e.1) (slot_of name es) (λ (v : Option (Option Standing)). v ≡ Some o → IsNameOf name o)
    (λ at v. let is : e.1 ≡ o = cc in subst (λ (w : Option Standing). IsNameOf name w) is (subst (λ (k : List ℕ). IsNameOf k e.1) (sym (at_is name e.0 at)) b.0))
    (λ off v. bears_found name es o b.1 v) h

-- which slots are empty, through each change

pub empty_set : (name : List ℕ) (x y : Standing) (es : List Slot) → slot_of name es ≡ Some (Some x) → empty_of (set_value (is_at (sweep_cmp name)) es (Some y)) ≡ empty_of es
empty_set name x y [] h = refl
empty_set name x y ((k, None) ∷ es) h =
    cond_both (is_at (sweep_cmp name) k) (Some None) (slot_of name es)
    (λ (v : Option (Option Standing)). v ≡ Some (Some x) → empty_of (cond (is_at (sweep_cmp name) k) ((k, Some y) ∷ es) ((k, None) ∷ set_value (is_at (sweep_cmp name)) es (Some y))) ≡ k ∷ empty_of es)
    (λ at v. let none : ⊥ = cc in absurd none)
    (λ off v.
    ap (λ (t : Bool). empty_of (cond t ((k, Some y) ∷ es) ((k, None) ∷ set_value (is_at (sweep_cmp name)) es (Some y)))) off
    ∙ ap (λ (ns : List (List ℕ)). k ∷ ns) (empty_set name x y es v)) h
empty_set name x y ((k, Some z) ∷ es) h =
    cond_both (is_at (sweep_cmp name) k) (Some (Some z)) (slot_of name es)
    (λ (v : Option (Option Standing)). v ≡ Some (Some x) → empty_of (cond (is_at (sweep_cmp name) k) ((k, Some y) ∷ es) ((k, Some z) ∷ set_value (is_at (sweep_cmp name)) es (Some y))) ≡ empty_of es)
    (λ at v. ap (λ (t : Bool). empty_of (cond t ((k, Some y) ∷ es) ((k, Some z) ∷ set_value (is_at (sweep_cmp name)) es (Some y)))) at)
    (λ off v. ap (λ (t : Bool). empty_of (cond t ((k, Some y) ∷ es) ((k, Some z) ∷ set_value (is_at (sweep_cmp name)) es (Some y)))) off ∙ empty_set name x y es v) h

abbrev others : List ℕ → List (List ℕ) → List (List ℕ)
others name ns = filter (λ (n : List ℕ). not (same_name n name)) ns

empty_behind : (name : List ℕ) (es : List Slot) → AllBehind name es → others name (empty_of es) ≡ empty_of es
empty_behind name [] a = refl
empty_behind name ((k, None) ∷ es) a = ap (λ (t : Bool). cond (not t) (k ∷ others name (empty_of es)) (others name (empty_of es))) (apart_at name k a.0) ∙ ap (λ (ns : List (List ℕ)). k ∷ ns) (empty_behind name es a.1)
empty_behind name ((k, Some s) ∷ es) a = empty_behind name es a.1

pub empty_remove : (name : List ℕ) (es : List Slot) → Sorted es → empty_of (remove_entry (is_at (sweep_cmp name)) es) ≡ filter (λ (n : List ℕ). not (same_name n name)) (empty_of es)
empty_remove name [] s = refl
empty_remove name ((k, None) ∷ es) s =
    cond_both (is_at (sweep_cmp name) k) es ((k, None) ∷ remove_entry (is_at (sweep_cmp name)) es) (λ (v : List Slot). empty_of v ≡ cond (not (is_at (sweep_cmp name) k)) (k ∷ others name (empty_of es)) (others name (empty_of es)))
    (λ at. sym (empty_behind name es (behind_of name (k, None) es s at)) ∙ sym (ap (λ (t : Bool). cond (not t) (k ∷ others name (empty_of es)) (others name (empty_of es))) at))
    (λ off. ap (λ (ns : List (List ℕ)). k ∷ ns) (empty_remove name es (sorted_tail sweep_cmp k (keys_of es) s)) ∙ sym (ap (λ (t : Bool). cond (not t) (k ∷ others name (empty_of es)) (others name (empty_of es))) off))
    ∙ sym (ap (λ (t : Bool). cond (not t) (k ∷ others name (empty_of es)) (others name (empty_of es))) (same_at name k))
empty_remove name ((k, Some x) ∷ es) s =
    cond_both (is_at (sweep_cmp name) k) es ((k, Some x) ∷ remove_entry (is_at (sweep_cmp name)) es) (λ (v : List Slot). empty_of v ≡ others name (empty_of es))
    (λ at. sym (empty_behind name es (behind_of name (k, Some x) es s at)))
    (λ off. empty_remove name es (sorted_tail sweep_cmp k (keys_of es) s))

pub empty_place : (name : List ℕ) (es : List Slot) → empty_of es ≡ [] → empty_of (insert_entry sweep_cmp es name None) ≡ name ∷ []
empty_place name [] h = refl
empty_place name ((k, None) ∷ es) h = let none : ⊥ = cc in absurd none
empty_place name ((k, Some x) ∷ es) h = by (empty_place name es h) (sweep_cmp name k) refl
  where
    by : empty_of (insert_entry sweep_cmp es name None) ≡ name ∷ [] → (o : Ordering) → sweep_cmp name k ≡ o → empty_of (match_ordering o ((name, None) ∷ (k, Some x) ∷ es) ((k, None) ∷ es) ((k, Some x) ∷ insert_entry sweep_cmp es name None)) ≡ name ∷ []
    by rest Less q = ap (λ (ns : List (List ℕ)). name ∷ ns) h
    by rest Equal q = ap (λ (w : List ℕ). w ∷ empty_of es) (sym (sweep_exact name k q)) ∙ ap (λ (ns : List (List ℕ)). name ∷ ns) h
    by rest Greater q = rest

less_empty : (k name : List ℕ) (es : List Slot) → AllBehind k es → empty_of es ≡ name ∷ [] → sweep_cmp k name ≡ Less
less_empty k name [] a h = let none : ⊥ = cc in absurd none
less_empty k name ((j, None) ∷ es) a h = let is : j ≡ name = cc in subst (λ (w : List ℕ). sweep_cmp k w ≡ Less) is a.0
less_empty k name ((j, Some x) ∷ es) a h = less_empty k name es a.1 h

at_same : (name k : List ℕ) → k ≡ name → is_at (sweep_cmp name) k ≡ true
at_same name k e = sym (same_at name k) ∙ ap (λ (v : List ℕ). same_name v name) e ∙ same_refl name

-- the slot of the one name whose slot is empty
pub empty_slot : (name : List ℕ) (es : List Slot) → Sorted es → empty_of es ≡ name ∷ [] → slot_of name es ≡ Some None
empty_slot name [] s h = let none : ⊥ = cc in absurd none
empty_slot name ((k, None) ∷ es) s h = let is : k ≡ name = cc in ap (λ (t : Bool). cond t (Some None) (slot_of name es)) (at_same name k is)
empty_slot name ((k, Some x) ∷ es) s h =
    let less = less_empty k name es (sorted_head sweep_cmp k (keys_of es) s) h in
    ap (λ (t : Bool). cond t (Some (Some x)) (slot_of name es)) (ap is_eq (sweep_total.antisymm name k ∙ ap ordering_reverse less))
    ∙ empty_slot name es (sorted_tail sweep_cmp k (keys_of es) s) h

pub empty_fill : (name : List ℕ) (x : Standing) (es : List Slot) → empty_of es ≡ name ∷ [] → slot_of name es ≡ Some None → empty_of (set_value (is_at (sweep_cmp name)) es (Some x)) ≡ []
empty_fill name x [] h f = let none : ⊥ = cc in absurd none
empty_fill name x ((k, None) ∷ es) h f =
    let is : k ≡ name = cc in
    let rest : empty_of es ≡ [] = cc in
    ap (λ (t : Bool). empty_of (cond t ((k, Some x) ∷ es) ((k, None) ∷ set_value (is_at (sweep_cmp name)) es (Some x)))) (at_same name k is) ∙ rest
empty_fill name x ((k, Some y) ∷ es) h f =
    cond_both (is_at (sweep_cmp name) k) (Some (Some y)) (slot_of name es)
    (λ (v : Option (Option Standing)). v ≡ Some None → empty_of (cond (is_at (sweep_cmp name) k) ((k, Some x) ∷ es) ((k, Some y) ∷ set_value (is_at (sweep_cmp name)) es (Some x))) ≡ [])
    (λ at v. let none : ⊥ = cc in absurd none)
    (λ off v. ap (λ (t : Bool). empty_of (cond t ((k, Some x) ∷ es) ((k, Some y) ∷ set_value (is_at (sweep_cmp name)) es (Some x)))) off ∙ empty_fill name x es h v) f

pub empty_filter : (p : List ℕ → Bool) (es : List Slot) → empty_of (filter (λ (e : Slot). p e.0) es) ≡ filter p (empty_of es)
empty_filter p [] = refl
empty_filter p ((k, None) ∷ es) =
    let rest = empty_filter p es in
    elim (cases_Bool (p k)) [
      | inl e ↦ ap (λ (t : Bool). empty_of (cond t ((k, None) ∷ filter (λ (e : Slot). p e.0) es) (filter (λ (e : Slot). p e.0) es))) e ∙ ap (λ (ns : List (List ℕ)). k ∷ ns) rest ∙ sym (ap (λ (t : Bool). cond t (k ∷ filter p (empty_of es)) (filter p (empty_of es))) e)
      | inr e ↦ ap (λ (t : Bool). empty_of (cond t ((k, None) ∷ filter (λ (e : Slot). p e.0) es) (filter (λ (e : Slot). p e.0) es))) e ∙ rest ∙ sym (ap (λ (t : Bool). cond t (k ∷ filter p (empty_of es)) (filter p (empty_of es))) e)
    ]
empty_filter p ((k, Some x) ∷ es) = cond_both (p k) ((k, Some x) ∷ filter (λ (e : Slot). p e.0) es) (filter (λ (e : Slot). p e.0) es) (λ (v : List Slot). empty_of v ≡ filter p (empty_of es)) (λ e. empty_filter p es) (λ e. empty_filter p es)

-- a search among names in order
tells : (y name : List ℕ) (o : Ordering) → sweep_cmp y name ≡ o → same_name y name ≡ is_eq o
tells y name o e = sweep_ties y name ∙ ap is_eq e

pub search_lists : (names : List (List ℕ)) (name : List ℕ) (r : Result ℕ ℕ) → IsSorted sweep_cmp names → IsSearchInRange r (length names) → IsBinarySearchResult (λ y. sweep_cmp y name) names r → is_ok r ≡ lists names name
search_lists names name (Ok i) s range h =
    sym (list_any_at (λ n. same_name n name) names i [] range (tells (get_or names i []) name Equal (h [])))
search_lists names name (Err i) s range h =
    let cut = h (searchable_from_sorted sweep_total (λ (n : List ℕ). n) names name s) in
    sym (list_any_none (λ n. same_name n name) names (λ j d lt. by (get_or names j d) (elim (dec_lt j i) [
      | yes below ↦ inl (cut.0 j d (omega arith) below)
      | no above ↦ inr (cut.1 j d (omega (arith, above)) lt)
    ])))
  where
    by : (y : List ℕ) → (sweep_cmp y name ≡ Less) ⊎ (sweep_cmp y name ≡ Greater) → same_name y name ≡ false
    by y (inl e) = tells y name Less e
    by y (inr e) = tells y name Greater e

-- marks
pub marked_other : (name : List ℕ) (settled : Bool) (s : Standing) → same_name s.name name ≡ false → marked name settled s ≡ s
marked_other name settled s e = ap (λ (t : Bool). record s { settled = cond t settled s.settled; removed = cond t (s.removed || (settled && is_reject s.verdict)) s.removed }) e

pub marked_own : (name : List ℕ) (settled : Bool) (s : Standing) → s.name ≡ name → marked name settled s ≡ record s { settled = settled; removed = s.removed || (settled && is_reject s.verdict) }
marked_own name settled s e = ap (λ (t : Bool). record s { settled = cond t settled s.settled; removed = cond t (s.removed || (settled && is_reject s.verdict)) s.removed })
    (ap (λ (v : List ℕ). same_name v name) e ∙ nat_list_eq_equiv.refl name)

pub default_other : (name : List ℕ) (s : Standing) → same_name s.name name ≡ false → with_default name s ≡ s
default_other name s e = ap (λ (t : Bool). record s { defaulted = t || s.defaulted }) e

pub default_own : (name : List ℕ) (s : Standing) → s.name ≡ name → with_default name s ≡ record s { defaulted = true }
default_own name s e = ap (λ (t : Bool). record s { defaulted = t || s.defaulted }) (ap (λ (v : List ℕ). same_name v name) e ∙ nat_list_eq_equiv.refl name)

-- what both answers lead to
pub either_way : {A E : Type 0} (r : Result A E) (P Q R : Type 0) → OnOk r P → OnErr r Q → (P → R) → (Q → R) → R
either_way (Ok x) P Q R p q f g = f p
either_way (Err e) P Q R p q f g = g q

pub when_ok : {A E : Type 0} (r : Result A E) (P : Type 0) → is_ok r ≡ true → OnOk r P → P
when_ok (Ok x) P e h = h
when_ok (Err y) P e h = let none : ⊥ = cc in absurd none

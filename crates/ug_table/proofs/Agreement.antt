-- What keeps the maps in agreement.
use Rattle.std.proofs.Common.{◌≡◌, ℕ, ◌<◌, ◌≤◌, Bool, true, false, not, cond, List, [], ◌∷◌, map, length, Option, Some, None, refl, sym, ◌∙◌, ap, subst, inl, inr, nat_eq, arith}
use Rattle.std.proofs.lemmas.Bool.{cond_both, cases_Bool, both_ways, false_from_ne_true}
use Rattle.std.specs.List.{filter}
use Rattle.ug_types.specs.Elements.{Has, AllDistinct}
use Rattle.ug_types.proofs.Elements.{filter_has, has_filter, map_has, has_map, insert_has, has_new, has_old}
use Rattle.ug_table.specs.declared.standing.Standing.{Standing}
use Rattle.ug_table.specs.Standings.{same_name, known_of, standing_of, named, numbered, without, marked, with_default, place_for, with_standing}
use Rattle.ug_table.specs.Sweep.{names_of}
use Rattle.ug_table.specs.Orders.{ordered_standing, with_order}
use Rattle.ug_types.specs.Principals.{Named}
use Rattle.ug_types.specs.declared.verdict.Cause.TheVariants as Cause
use Rattle.ug_types.specs.declared.verdict.Target.{Target}
use Rattle.ug_table.specs.declared.standing.Known.{Known}
use Rattle.ug_table.specs.declared.standing.Place.{Place}
use Rattle.ug_table.specs.Slots.{Slot, filled, slot_of, empty_of, named_by, place_of, BearBoth, AllNamed, IsRetry, noted, Agree}
use Rattle.ug_table.proofs.Entries.{Sorted, same_refl, name_same, flat, named_slot, empty_slot, map_slot_of}
use Rattle.std.specs.Prelude.{Result, Ok, Err, is_err, is_some, OnOk}
use Rattle.std.proofs.lemmas.Map.Entries.{option_filter}
use Rattle.std.specs.BTreeMap.{BTreeMap, IsOrdered, get, is_at}
use Rattle.std.specs.Ordering.{nat_cmp, is_eq}
use Rattle.std.specs.declared.cmp.Ordering.{Ordering}
use Rattle.std.specs.declared.cmp.Ordering.TheVariants.{Less, Equal, Greater}
use Rattle.std.proofs.lemmas.Cmp.{eq_by_cmp_equiv, nat_cmp_total}
use Rattle.std.proofs.lemmas.Map.Lookups.{exact_unsigned}
use Rattle.std.specs.Map.{set_value}
use Rattle.ug_types.specs.Names.{sweep_cmp}
use Rattle.ug_table.proofs.MapChanges.{own_is, own_number, retry_forgotten, settled_out, retry_marked, found_has, number_is, is_number, named_has, unnamed, unnumbered, numbered_none, distinct_names, Numbers, some_same, numbered_empty, numbered_found, named_is, retry_put, retry_kept, retry_few, retry_fewer, filled_few, filled_fewer}

-- The maps through each call.

abbrev Names : Type 0
Names = BTreeMap (List ℕ) (Option Standing)

pub without_absent : (name : List ℕ) (ss : List Standing) → named name ss ≡ None → without name ss ≡ ss
without_absent name [] h = refl
without_absent name (s ∷ ss) h = cond_both (same_name s.name name) (Some s) (named name ss) (λ (o : Option Standing). o ≡ None → without name (s ∷ ss) ≡ s ∷ ss)
    (λ t e. let none : ⊥ = cc in absurd none)
    (λ t e. ap (λ (b : Bool). cond (not b) (s ∷ without name ss) (without name ss)) t ∙ ap (λ (v : List Standing). s ∷ v) (without_absent name ss e)) h

-- the number and the name of a place
pub place_number : (p : Place) (name : List ℕ) (q : ℕ) → Some p ≡ place_of name q → p.number ≡ q
place_number p name q e = cc

pub place_name : (p : Place) (name : List ℕ) (q : ℕ) → Some p ≡ place_of name q → p.name ≡ name
place_name p name q e = cc

no_place : {A : Type 0} (name : List ℕ) (q : ℕ) → None ≡ place_of name q → A
no_place name q e = let none : ⊥ = cc in absurd none

-- whose each number is
abbrev pub Only : List Standing → (ℕ → Option (List ℕ)) → Option Place → Type 0
Only ss num place = (q : ℕ) (name : List ℕ) → num q ≡ Some name → BearBoth ss place q name

-- where that number leads
abbrev pub Held : (ℕ → Option (List ℕ)) → Option Place → Type 0
Held num place = (p : Place) → place ≡ Some p → num p.number ≡ Some p.name

held_none : (num : ℕ → Option (List ℕ)) → Held num None
held_none num p e = let none : ⊥ = cc in absurd none

pub agree_named : (m : Names) (n : BTreeMap ℕ (List ℕ)) (place : Option Place) (retry : List ℕ) (most : ℕ) (name : List ℕ) → Agree m n place retry most → named name (filled m.entries) ≡ flat (slot_of name m.entries)
agree_named m n place retry most name a = named_slot name m.entries a.ordered a.bear

pub agree_distinct : (m : Names) (n : BTreeMap ℕ (List ℕ)) (place : Option Place) (retry : List ℕ) (most : ℕ) → Agree m n place retry most → AllDistinct (names_of (filled m.entries))
agree_distinct m n place retry most a = distinct_names m.entries a.ordered a.bear

-- the slot of the place is empty, and no standing has its name
pub held_slot : (m : Names) (n : BTreeMap ℕ (List ℕ)) (place : Option Place) (retry : List ℕ) (most : ℕ) (p : Place) → Agree m n place retry most → place ≡ Some p → slot_of p.name m.entries ≡ Some None
held_slot m n place retry most p a e = empty_slot p.name m.entries a.ordered (a.empty ∙ ap named_by e)

pub held_unnamed : (m : Names) (n : BTreeMap ℕ (List ℕ)) (place : Option Place) (retry : List ℕ) (most : ℕ) (p : Place) → Agree m n place retry most → place ≡ Some p → named p.name (filled m.entries) ≡ None
held_unnamed m n place retry most p a e = agree_named m n place retry most p.name a ∙ ap flat (held_slot m n place retry most p a e)

-- what a number leads to is the standing of both
pub numbered_by : (m : Names) (n : BTreeMap ℕ (List ℕ)) (place : Option Place) (retry : List ℕ) (most : ℕ) (q : ℕ) (name : List ℕ) → Agree m n place retry most → get nat_cmp n q ≡ Some name → numbered q (filled m.entries) ≡ named name (filled m.entries)
numbered_by m n place retry most q name a g =
    let ss = filled m.entries in
    let d = agree_distinct m n place retry most a in
    elim (a.only q name g) [
      | inl k ↦ (let is = named_is name ss k.0 d k.1 k.3 in numbered_found q name k.0 ss (get nat_cmp n) d a.numbers is k.2 ∙ sym is)
      | inr e ↦ (let none = held_unnamed m n place retry most (record { name = name; number = q }) a e in numbered_empty q name ss (get nat_cmp n) a.numbers g none ∙ sym none)
    ]

-- a new number is on no list
pub not_yet : (m : Names) (n : BTreeMap ℕ (List ℕ)) (place : Option Place) (retry : List ℕ) (most : ℕ) (p : Place) → Agree m n place retry most → place ≡ Some p → Has retry p.number → ⊥
not_yet m n place retry most p a e b =
    let k = a.retry.only p.number b in
    unnamed p.name (filled m.entries) k.0 (held_unnamed m n place retry most p a e) k.1 (some_same k.0.name p.name (sym (a.numbers k.0 k.1) ∙ ap (get nat_cmp n) k.2 ∙ a.held p e))

pub agree_put : (m m' : Names) (n : BTreeMap ℕ (List ℕ)) (place : Option Place) (retry retry' : List ℕ) (most most' : ℕ) (x : Standing) → Agree m n place retry most → place ≡ place_of x.name x.number → filled m'.entries ≡ with_standing x (filled m.entries) → IsOrdered sweep_cmp m' → AllNamed m'.entries → empty_of m'.entries ≡ [] → length m'.entries ≡ length m.entries → retry' ≡ noted x.number true x.settled retry → most' ≡ most → Agree m' n None retry' most'
agree_put m m' n place retry retry' most most' x a at items o b empty len again cap =
    let ss = filled m.entries in
    let i = place_for x.name ss in
    let room = a.room in
    let own : Place = record { name = x.name; number = x.number } in
    let num = a.held own at in
    let left : Only (with_standing x ss) (get nat_cmp n) None = λ q name g. elim (a.only q name g) [
      | inl k ↦ inl (k.0, has_old ss i x k.0 k.1, k.2, k.3)
      | inr e ↦ inl (x, has_new ss i x, place_number own name q (sym at ∙ e), place_name own name q (sym at ∙ e))
    ] in
    record {
      ordered = o;
      bear = b;
      empty = empty;
      numbers = subst (λ (v : List Standing). Numbers v (get nat_cmp n)) (sym items) (λ s h. elim (insert_has ss i x s h) [ inl is ↦ subst (λ (v : Standing). get nat_cmp n v.number ≡ Some v.name) is num | inr k ↦ a.numbers s k ]);
      held = held_none (get nat_cmp n);
      only = subst (λ (v : List Standing). Only v (get nat_cmp n) None) (sym items) left;
      retry = subst (λ (v : List Standing). IsRetry v retry') (sym items) (subst (λ (r : List ℕ). IsRetry (with_standing x ss) r) (sym again) (retry_put ss retry i x a.retry (not_yet m n place retry most own a at)));
      room = omega (arith, room, len, cap);
    }

pub number_at : (a b : ℕ) → is_at (nat_cmp a) b ≡ true → a ≡ b
number_at a b t = exact_unsigned a b (equal (nat_cmp a b) t)
  where
    equal : (o : Ordering) → is_eq o ≡ true → o ≡ Equal
    equal Equal h = refl
    equal Less h = let none : ⊥ = cc in absurd none
    equal Greater h = let none : ⊥ = cc in absurd none

pub at_number : (a b : ℕ) → a ≡ b → is_at (nat_cmp a) b ≡ true
at_number a b e = subst (λ (v : ℕ). is_at (nat_cmp a) v ≡ true) e ((eq_by_cmp_equiv nat_cmp_total).refl a)

pub off : (a b : ℕ) → (a ≡ b → ⊥) → is_at (nat_cmp a) b ≡ false
off a b ne = false_from_ne_true (is_at (nat_cmp a) b) (λ t. ne (number_at a b t))

-- what a number leads to once another's was set
set_other : (a q : ℕ) (w o : Option (List ℕ)) → (a ≡ q → ⊥) → cond (is_at (nat_cmp a) q) w o ≡ o
set_other a q w o ne = ap (λ (t : Bool). cond t w o) (off a q ne)

-- the place is given up
pub agree_release : (m m' : Names) (n n' : BTreeMap ℕ (List ℕ)) (place : Option Place) (retry : List ℕ) (most : ℕ) (p : Place) → Agree m n place retry most → place ≡ Some p → filled m'.entries ≡ without p.name (filled m.entries) → IsOrdered sweep_cmp m' → AllNamed m'.entries → empty_of m'.entries ≡ filter (λ (k : List ℕ). not (same_name k p.name)) (empty_of m.entries) → length m'.entries ≤ length m.entries → ((q : ℕ) → get nat_cmp n' q ≡ cond (is_at (nat_cmp p.number) q) None (get nat_cmp n q)) → Agree m' n' None retry most
agree_release m m' n n' place retry most p a at items o b empty len set =
    let ss = filled m.entries in
    let room = a.room in
    let free = held_unnamed m n place retry most p a at in
    let same = items ∙ without_absent p.name ss free in
    let apart : (s : Standing) → Has ss s → p.number ≡ s.number → ⊥ = λ s h e. unnamed p.name ss s free h (some_same s.name p.name (sym (a.numbers s h) ∙ ap (get nat_cmp n) (sym e) ∙ a.held p at)) in
    let left : Only ss (get nat_cmp n') None = λ q name g. cond_both (is_at (nat_cmp p.number) q) None (get nat_cmp n q) (λ (w : Option (List ℕ)). w ≡ Some name → BearBoth ss None q name)
    (λ t e. let none : ⊥ = cc in absurd none)
    (λ f e. elim (a.only q name e) [
      | inl k ↦ inl k
      | inr h ↦ (let none : ⊥ = both_ways (is_at (nat_cmp p.number) q) f (at_number p.number q (place_number p name q (sym at ∙ h))) in absurd none)
    ])
    (sym (set q) ∙ g) in
    record {
      ordered = o;
      bear = b;
      empty = empty ∙ ap (λ (ns : List (List ℕ)). filter (λ (k : List ℕ). not (same_name k p.name)) ns) (a.empty ∙ ap named_by at) ∙ ap (λ (t : Bool). cond (not t) (p.name ∷ []) []) (same_refl p.name);
      numbers = subst (λ (v : List Standing). Numbers v (get nat_cmp n')) (sym same) (λ s h. set s.number ∙ set_other p.number s.number None (get nat_cmp n s.number) (apart s h) ∙ a.numbers s h);
      held = held_none (get nat_cmp n');
      only = subst (λ (v : List Standing). Only v (get nat_cmp n') None) (sym same) left;
      retry = subst (λ (v : List Standing). IsRetry v retry) (sym same) a.retry;
      room = omega (arith, room, len);
    }

-- a place is made
place_alone : (m m' : Names) (n n' : BTreeMap ℕ (List ℕ)) (retry : List ℕ) (most most' : ℕ) (name : List ℕ) (number : ℕ) → Agree m n None retry most → numbered number (filled m.entries) ≡ None → filled m'.entries ≡ filled m.entries → IsOrdered sweep_cmp m' → AllNamed m'.entries → empty_of m'.entries ≡ name ∷ [] → length m'.entries ≤ most' → ((q : ℕ) → get nat_cmp n' q ≡ cond (is_at (nat_cmp number) q) (Some name) (get nat_cmp n q)) → Agree m' n' (place_of name number) retry most'
place_alone m m' n n' retry most most' name number a free items o b empty room set =
    let ss = filled m.entries in
    let apart : (s : Standing) → Has ss s → number ≡ s.number → ⊥ = λ s h e. unnumbered number ss s free h (sym e) in
    let left : Only ss (get nat_cmp n') (place_of name number) = λ q k g. cond_both (is_at (nat_cmp number) q) (Some name) (get nat_cmp n q) (λ (w : Option (List ℕ)). w ≡ Some k → BearBoth ss (place_of name number) q k)
    (λ t e. inr (ap (λ (r : ℕ). place_of name r) (number_at number q t) ∙ ap (λ (v : List ℕ). place_of v q) (some_same name k e)))
    (λ f e. elim (a.only q k e) [
      | inl h ↦ inl h
      | inr h ↦ no_place k q h
    ])
    (sym (set q) ∙ g) in
    let held : Held (get nat_cmp n') (place_of name number) = λ p e.
    let same_number = place_number p name number (sym e) in
    let same_name = place_name p name number (sym e) in
    ap (get nat_cmp n') same_number ∙ set number ∙ ap (λ (t : Bool). cond t (Some name) (get nat_cmp n number)) (at_number number number refl) ∙ ap (λ (v : List ℕ). Some v) (sym same_name) in
    record {
      ordered = o;
      bear = b;
      empty = empty;
      numbers = subst (λ (v : List Standing). Numbers v (get nat_cmp n')) (sym items) (λ s h. set s.number ∙ set_other number s.number (Some name) (get nat_cmp n s.number) (apart s h) ∙ a.numbers s h);
      held = held;
      only = subst (λ (v : List Standing). Only v (get nat_cmp n') (place_of name number)) (sym items) left;
      retry = subst (λ (v : List Standing). IsRetry v retry) (sym items) a.retry;
      room = room;
    }

-- a place that isn't made leaves no number
refused_alone : (m m' : Names) (n n' n'' : BTreeMap ℕ (List ℕ)) (retry : List ℕ) (most most' : ℕ) (name : List ℕ) (number : ℕ) → Agree m n None retry most → numbered number (filled m.entries) ≡ None → m'.entries ≡ m.entries → IsOrdered sweep_cmp m' → length m'.entries ≤ most' → ((q : ℕ) → get nat_cmp n' q ≡ cond (is_at (nat_cmp number) q) (Some name) (get nat_cmp n q)) → ((q : ℕ) → get nat_cmp n'' q ≡ cond (is_at (nat_cmp number) q) None (get nat_cmp n' q)) → Agree m' n'' None retry most'
refused_alone m m' n n' n'' retry most most' name number a free same o room set reset =
    let ss = filled m.entries in
    let items = ap filled same in
    let back : (q : ℕ) → (number ≡ q → ⊥) → get nat_cmp n'' q ≡ get nat_cmp n q = λ q ne. reset q ∙ set_other number q None (get nat_cmp n' q) ne ∙ set q ∙ set_other number q (Some name) (get nat_cmp n q) ne in
    let apart : (s : Standing) → Has ss s → number ≡ s.number → ⊥ = λ s h e. unnumbered number ss s free h (sym e) in
    let left : Only ss (get nat_cmp n'') None = λ q k g. cond_both (is_at (nat_cmp number) q) None (get nat_cmp n' q) (λ (w : Option (List ℕ)). w ≡ Some k → BearBoth ss None q k)
    (λ t e. let none : ⊥ = cc in absurd none)
    (λ f e. a.only q k (sym (back q (λ is. both_ways (is_at (nat_cmp number) q) f (at_number number q is))) ∙ g))
    (sym (reset q) ∙ g) in
    record {
      ordered = o;
      bear = subst AllNamed (sym same) a.bear;
      empty = ap empty_of same ∙ a.empty;
      numbers = subst (λ (v : List Standing). Numbers v (get nat_cmp n'')) (sym items) (λ s h. back s.number (apart s h) ∙ a.numbers s h);
      held = held_none (get nat_cmp n'');
      only = subst (λ (v : List Standing). Only v (get nat_cmp n'') None) (sym items) left;
      retry = subst (λ (v : List Standing). IsRetry v retry) (sym items) a.retry;
      room = room;
    }

-- the same where no place was held
pub agree_place : (place : Option Place) (m m' : Names) (n n' : BTreeMap ℕ (List ℕ)) (retry : List ℕ) (most most' : ℕ) (name : List ℕ) (number : ℕ) → place ≡ None → Agree m n place retry most → numbered number (filled m.entries) ≡ None → filled m'.entries ≡ filled m.entries → IsOrdered sweep_cmp m' → AllNamed m'.entries → empty_of m'.entries ≡ name ∷ [] → length m'.entries ≤ most' → ((q : ℕ) → get nat_cmp n' q ≡ cond (is_at (nat_cmp number) q) (Some name) (get nat_cmp n q)) → Agree m' n' (place_of name number) retry most'
agree_place None m m' n n' retry most most' name number e = place_alone m m' n n' retry most most' name number
agree_place (Some p) m m' n n' retry most most' name number e = let none : ⊥ = cc in absurd none

pub agree_refused : (place : Option Place) (m m' : Names) (n n' n'' : BTreeMap ℕ (List ℕ)) (retry : List ℕ) (most most' : ℕ) (name : List ℕ) (number : ℕ) → place ≡ None → Agree m n place retry most → numbered number (filled m.entries) ≡ None → m'.entries ≡ m.entries → IsOrdered sweep_cmp m' → length m'.entries ≤ most' → ((q : ℕ) → get nat_cmp n' q ≡ cond (is_at (nat_cmp number) q) (Some name) (get nat_cmp n q)) → ((q : ℕ) → get nat_cmp n'' q ≡ cond (is_at (nat_cmp number) q) None (get nat_cmp n' q)) → Agree m' n'' place retry most'
agree_refused None m m' n n' n'' retry most most' name number e = refused_alone m m' n n' n'' retry most most' name number
agree_refused (Some p) m m' n n' n'' retry most most' name number e = let none : ⊥ = cc in absurd none

pub agree_forget : (m m' : Names) (n n' : BTreeMap ℕ (List ℕ)) (place : Option Place) (retry retry' : List ℕ) (most most' : ℕ) (name : List ℕ) (x : Standing) → Agree m n place retry most → named name (filled m.entries) ≡ Some x → filled m'.entries ≡ without name (filled m.entries) → IsOrdered sweep_cmp m' → AllNamed m'.entries → empty_of m'.entries ≡ filter (λ (k : List ℕ). not (same_name k name)) (empty_of m.entries) → length m'.entries ≤ length m.entries → ((q : ℕ) → get nat_cmp n' q ≡ cond (is_at (nat_cmp x.number) q) None (get nat_cmp n q)) → retry' ≡ noted x.number x.settled true retry → most' ≡ most → Agree m' n' place retry' most'
agree_forget m m' n n' place retry retry' most most' name x a at items o b empty len set again cap =
    let ss = filled m.entries in
    let d = agree_distinct m n place retry most a in
    let own = named_has name ss x at in
    let room = a.room in
    let kept : (s : Standing) → Has ss s → (x.number ≡ s.number → ⊥) → not (same_name s.name name) ≡ true = λ s h ne. ap not (false_from_ne_true (same_name s.name name) (λ t. ne (ap (λ (v : Standing). v.number) (sym (own_is ss (get nat_cmp n) name x retry d a.numbers at a.retry s h (name_same s.name name t)))))) in
    let numbers : Numbers (without name ss) (get nat_cmp n') = λ s h.
    let k = filter_has (λ (s : Standing). not (same_name s.name name)) ss s h in
    let ne : x.number ≡ s.number → ⊥ = λ q. let is = own_number ss (get nat_cmp n) name x retry d a.numbers at a.retry s k.0 (sym q) in let t : same_name s.name name ≡ true = ap (λ (v : List ℕ). same_name v name) is ∙ same_refl name in let none : ⊥ = grind (arith, t, k.1) in none in
    set s.number ∙ set_other x.number s.number None (get nat_cmp n s.number) ne ∙ a.numbers s k.0 in
    let away : (p : Place) → place ≡ Some p → p.name ≡ name → ⊥ = λ p e is. unnamed p.name ss x (held_unnamed m n place retry most p a e) own.0 (own.1 ∙ sym is) in
    let held : Held (get nat_cmp n') place = λ p e. set p.number ∙ set_other x.number p.number None (get nat_cmp n p.number) (λ is. away p e (some_same p.name name (sym (a.held p e) ∙ ap (get nat_cmp n) (sym is) ∙ a.numbers x own.0 ∙ ap (λ (v : List ℕ). Some v) own.1))) ∙ a.held p e in
    let only : Only (without name ss) (get nat_cmp n') place = λ q k g. cond_both (is_at (nat_cmp x.number) q) None (get nat_cmp n q) (λ (w : Option (List ℕ)). w ≡ Some k → BearBoth (without name ss) place q k)
    (λ t e. let none : ⊥ = cc in absurd none)
    (λ f e. elim (a.only q k e) [
      | inl h ↦ inl (h.0, has_filter (λ (s : Standing). not (same_name s.name name)) ss h.0 h.1 (kept h.0 h.1 (λ is. both_ways (is_at (nat_cmp x.number) q) f (at_number x.number q (is ∙ h.2)))), h.2, h.3)
      | inr h ↦ inr h
    ])
    (sym (set q) ∙ g) in
    record {
      ordered = o;
      bear = b;
      empty = empty ∙ ap (λ (ns : List (List ℕ)). filter (λ (k : List ℕ). not (same_name k name)) ns) a.empty ∙ others_all name place away;
      numbers = subst (λ (v : List Standing). Numbers v (get nat_cmp n')) (sym items) numbers;
      held = held;
      only = subst (λ (v : List Standing). Only v (get nat_cmp n') place) (sym items) only;
      retry = subst (λ (v : List Standing). IsRetry v retry') (sym items) (subst (λ (r : List ℕ). IsRetry (without name ss) r) (sym again) (retry_forgotten ss (get nat_cmp n) name x retry d a.numbers at a.retry));
      room = omega (arith, room, len, cap);
    }
  where
    others_all : (name : List ℕ) (o : Option Place) → ((p : Place) → o ≡ Some p → p.name ≡ name → ⊥) → filter (λ (k : List ℕ). not (same_name k name)) (named_by o) ≡ named_by o
    others_all name None away = refl
    others_all name (Some p) away = ap (λ (t : Bool). cond (not t) (p.name ∷ []) []) (false_from_ne_true (same_name p.name name) (λ t. away p refl (name_same p.name name t)))

-- standings that bear the names and numbers of those before
only_map : (f : Standing → Standing) → ((s : Standing) → (f s).name ≡ s.name) → ((s : Standing) → (f s).number ≡ s.number) → (ss : List Standing) (num : ℕ → Option (List ℕ)) (place : Option Place) → Only ss num place → Only (map f ss) num place
only_map f named numbered ss num place only q name g = elim (only q name g) [
  | inl k ↦ inl (f k.0, has_map f ss k.0 k.1, numbered k.0 ∙ k.2, named k.0 ∙ k.3)
  | inr e ↦ inr e
]

pub agree_mark : (m m' : Names) (n : BTreeMap ℕ (List ℕ)) (place : Option Place) (retry retry' : List ℕ) (most most' : ℕ) (name : List ℕ) (now : Bool) (x : Standing) → Agree m n place retry most → named name (filled m.entries) ≡ Some x → filled m'.entries ≡ map (marked name now) (filled m.entries) → IsOrdered sweep_cmp m' → AllNamed m'.entries → empty_of m'.entries ≡ empty_of m.entries → length m'.entries ≡ length m.entries → retry' ≡ noted x.number x.settled now retry → most' ≡ most → Agree m' n place retry' most'
agree_mark m m' n place retry retry' most most' name now x a at items o b empty len again cap =
    let ss = filled m.entries in
    let d = agree_distinct m n place retry most a in
    let room = a.room in
    let left : Numbers (map (marked name now) ss) (get nat_cmp n) = λ s h. let k = map_has (marked name now) ss s h in subst (λ (v : Standing). get nat_cmp n v.number ≡ Some v.name) k.2 (a.numbers k.0 k.1) in
    record {
      ordered = o;
      bear = b;
      empty = empty ∙ a.empty;
      numbers = subst (λ (v : List Standing). Numbers v (get nat_cmp n)) (sym items) left;
      held = a.held;
      only = subst (λ (v : List Standing). Only v (get nat_cmp n) place) (sym items) (only_map (marked name now) (λ s. refl) (λ s. refl) ss (get nat_cmp n) place a.only);
      retry = subst (λ (v : List Standing). IsRetry v retry') (sym items) (subst (λ (r : List ℕ). IsRetry (map (marked name now) ss) r) (sym again) (retry_marked ss (get nat_cmp n) name x retry d a.numbers at a.retry now));
      room = omega (arith, room, len, cap);
    }

-- room for a mark that is lost
pub mark_fits : (m : Names) (n : BTreeMap ℕ (List ℕ)) (place : Option Place) (retry : List ℕ) (most : ℕ) (name : List ℕ) (x : Standing) → Agree m n place retry most → named name (filled m.entries) ≡ Some x → x.settled ≡ true → length retry < most
mark_fits m n place retry most name x a at t =
    let ss = filled m.entries in
    let own = named_has name ss x at in
    let lt = retry_fewer ss retry x a.retry own.0 (settled_out ss (get nat_cmp n) name x retry (agree_distinct m n place retry most a) a.numbers at a.retry t) in
    let le = filled_few m.entries in
    let room = a.room in
    omega (arith, lt, le, room)

pub put_fits : (m : Names) (n : BTreeMap ℕ (List ℕ)) (place : Option Place) (retry : List ℕ) (most : ℕ) (p : Place) → Agree m n place retry most → place ≡ Some p → length retry < most
put_fits m n place retry most p a e =
    let lt = filled_fewer p.name m.entries (held_slot m n place retry most p a e) in
    let le = retry_few (filled m.entries) retry a.retry in
    let room = a.room in
    omega (arith, lt, le, room)

-- where an answer isn't an error
pub ok_from : {A E : Type 0} (r : Result A E) (P : Type 0) → is_err r ≡ false → OnOk r P → P
ok_from (Ok x) P e h = h
ok_from (Err y) P e h = let none : ⊥ = cc in absurd none

-- those that are listed
listed_alone : (m m' : Names) (n n' : BTreeMap ℕ (List ℕ)) (retry retry' : List ℕ) (most most' : ℕ) (p : List ℕ → Bool) → Agree m n None retry most → filled m'.entries ≡ filter (λ (s : Standing). p s.name) (filled m.entries) → IsOrdered sweep_cmp m' → AllNamed m'.entries → empty_of m'.entries ≡ filter p (empty_of m.entries) → length m'.entries ≤ length m.entries → ((q : ℕ) → get nat_cmp n' q ≡ option_filter p (get nat_cmp n q)) → retry' ≡ filter (λ (q : ℕ). is_some (get nat_cmp n' q)) retry → most' ≡ most → Agree m' n' None retry' most'
listed_alone m m' n n' retry retry' most most' p a items o b empty len num again cap =
    let ss = filled m.entries in
    let room = a.room in
    let at : (s : Standing) → Has ss s → get nat_cmp n' s.number ≡ cond (p s.name) (Some s.name) None = λ s h. num s.number ∙ ap (option_filter p) (a.numbers s h) in
    let left : Numbers (filter (λ (s : Standing). p s.name) ss) (get nat_cmp n') = λ s h. let k = filter_has (λ (s : Standing). p s.name) ss s h in at s k.0 ∙ ap (λ (t : Bool). cond t (Some s.name) None) k.1 in
    let only : Only (filter (λ (s : Standing). p s.name) ss) (get nat_cmp n') None = λ q name g.
    let was = passes (get nat_cmp n q) name (sym (num q) ∙ g) in
    elim (a.only q name was.0) [
      | inl k ↦ inl (k.0, has_filter (λ (s : Standing). p s.name) ss k.0 k.1 (ap p k.3 ∙ was.1), k.2, k.3)
      | inr h ↦ no_place name q h
    ] in
    record {
      ordered = o;
      bear = b;
      empty = empty ∙ ap (filter p) a.empty;
      numbers = subst (λ (v : List Standing). Numbers v (get nat_cmp n')) (sym items) left;
      held = held_none (get nat_cmp n');
      only = subst (λ (v : List Standing). Only v (get nat_cmp n') None) (sym items) only;
      retry = subst (λ (v : List Standing). IsRetry v retry') (sym items) (subst (λ (r : List ℕ). IsRetry (filter (λ (s : Standing). p s.name) ss) r) (sym again)
          (retry_kept ss retry (λ (s : Standing). p s.name) (λ (q : ℕ). is_some (get nat_cmp n' q)) a.retry (λ s h f. sym (ap is_some (at s h) ∙ test (p s.name) s.name))));
      room = omega (arith, room, len, cap);
    }
  where
    test : (t : Bool) (name : List ℕ) → is_some (cond t (Some name) None) ≡ t
    test true name = refl
    test false name = refl

    passes : (o : Option (List ℕ)) (name : List ℕ) → option_filter p o ≡ Some name → (o ≡ Some name) × (p name ≡ true)
    passes None name e = let none : ⊥ = cc in absurd none
    passes (Some k) name e = cond_both (p k) (Some k) None (λ (w : Option (List ℕ)). w ≡ Some name → (Some k ≡ Some name) × (p name ≡ true))
        (λ t g. (g, subst (λ (v : List ℕ). p v ≡ true) (some_same k name g) t))
        (λ f g. let none : ⊥ = cc in absurd none) e

pub agree_listed : (place : Option Place) (m m' : Names) (n n' : BTreeMap ℕ (List ℕ)) (retry retry' : List ℕ) (most most' : ℕ) (p : List ℕ → Bool) → place ≡ None → Agree m n place retry most → filled m'.entries ≡ filter (λ (s : Standing). p s.name) (filled m.entries) → IsOrdered sweep_cmp m' → AllNamed m'.entries → empty_of m'.entries ≡ filter p (empty_of m.entries) → length m'.entries ≤ length m.entries → ((q : ℕ) → get nat_cmp n' q ≡ option_filter p (get nat_cmp n q)) → retry' ≡ filter (λ (q : ℕ). is_some (get nat_cmp n' q)) retry → most' ≡ most → Agree m' n' place retry' most'
agree_listed None m m' n n' retry retry' most most' p e = listed_alone m m' n n' retry retry' most most' p
agree_listed (Some q) m m' n n' retry retry' most most' p e = let none : ⊥ = cc in absurd none

pub numbered_has : (n : ℕ) (ss : List Standing) (x : Standing) → numbered n ss ≡ Some x → Has ss x × (x.number ≡ n)
numbered_has n ss x h = let k = found_has (λ (s : Standing). nat_eq s.number n) ss x h in (k.0, number_is n x k.1)

-- what is known of the standing of a name
abbrev pub known_some : Option Standing → Option Known
known_some None = None
known_some (Some s) = Some (known_of s)

pub known_named : (name : List ℕ) (ss : List Standing) → standing_of name ss ≡ known_some (named name ss)
known_named name [] = refl
known_named name (s ∷ ss) = elim (cases_Bool (same_name s.name name)) [
  | inl t ↦ ap (λ (b : Bool). cond b (Some (known_of s)) (standing_of name ss)) t ∙ sym (ap (λ (b : Bool). known_some (cond b (Some s) (named name ss))) t)
  | inr f ↦ ap (λ (b : Bool). cond b (Some (known_of s)) (standing_of name ss)) f ∙ known_named name ss ∙ sym (ap (λ (b : Bool). known_some (cond b (Some s) (named name ss))) f)
]

pub unknown_named : (name : List ℕ) (ss : List Standing) → standing_of name ss ≡ None → named name ss ≡ None
unknown_named name ss h = by (named name ss) (sym (known_named name ss) ∙ h)
  where
    by : (o : Option Standing) → known_some o ≡ None → o ≡ None
    by None e = refl
    by (Some s) e = let none : ⊥ = cc in absurd none

-- a number that was not given out
pub next_unnumbered : (next : ℕ) (ss : List Standing) → ((s : Standing) → Has ss s → s.number < next) → numbered next ss ≡ None
next_unnumbered next ss h = numbered_none next ss (λ s a e. let lt = h s a in omega (arith, lt, e))

-- how many there are
pub filter_few : (p : Standing → Bool) (ss : List Standing) → length (filter p ss) ≤ length ss
filter_few p [] = omega arith
filter_few p (s ∷ ss) = let rest = filter_few p ss in cond_both (p s) (s ∷ filter p ss) (filter p ss) (λ (v : List Standing). length v ≤ length (s ∷ ss)) (λ t. omega (arith, rest)) (λ t. omega (arith, rest))

pub without_few : (name : List ℕ) (ss : List Standing) → length (without name ss) ≤ length ss
without_few name ss = filter_few (λ (s : Standing). not (same_name s.name name)) ss

pub unordered : (number : ℕ) (verdict : Target) (who : Named) (y : Standing) → (y.number ≡ number → ⊥) → ordered_standing number verdict who y ≡ y
unordered number verdict who y ne = ap (λ (t : Bool). record y { verdict = cond t verdict y.verdict; cause = cond t (Cause.Order who) y.cause }) (false_from_ne_true (nat_eq y.number number) (λ t. ne (number_is number y t)))

-- an order on the standing of a number
pub order_slot : (number : ℕ) (verdict : Target) (who : Named) (name : List ℕ) (x : Standing) (es : List Slot) → Sorted es → AllNamed es → ((s : Standing) → Has (filled es) s → same_name s.name name ≡ false → s.number ≡ number → ⊥) → slot_of name es ≡ Some (Some x) → filled (set_value (is_at (sweep_cmp name)) es (Some (ordered_standing number verdict who x))) ≡ with_order number verdict who (filled es)
order_slot number verdict who name x es s b own h = map_slot_of (ordered_standing number verdict who) name x es (λ y a f. unordered number verdict who y (own y a f)) s b h

pub order_absent : (number : ℕ) (verdict : Target) (who : Named) (name : List ℕ) (ss : List Standing) → ((s : Standing) → Has ss s → same_name s.name name ≡ false → s.number ≡ number → ⊥) → named name ss ≡ None → with_order number verdict who ss ≡ ss
order_absent number verdict who name [] own h = refl
order_absent number verdict who name (s ∷ ss) own h = cond_both (same_name s.name name) (Some s) (named name ss) (λ (o : Option Standing). o ≡ None → with_order number verdict who (s ∷ ss) ≡ s ∷ ss)
    (λ t e. let none : ⊥ = cc in absurd none)
    (λ t e. ap (λ (v : Standing). v ∷ with_order number verdict who ss) (unordered number verdict who s (own s (inl refl) t)) ∙ ap (λ (v : List Standing). s ∷ v) (order_absent number verdict who name ss (λ x a. own x (inr a)) e)) h

pub own_order : (number : ℕ) (verdict : Target) (who : Named) (name : List ℕ) (s : Standing) (es : List Slot) → Sorted es → AllNamed es → slot_of name es ≡ Some (Some s) → ((x : Standing) → Has (filled es) x → same_name x.name name ≡ true → x.number ≡ number) → record s { verdict = verdict; cause = Cause.Order who } ≡ ordered_standing number verdict who s
own_order number verdict who name s es sorted b found own =
    let k = named_has name (filled es) s (named_slot name es sorted b ∙ ap flat found) in
    let t = is_number number s (own s k.0 (subst (λ (v : List ℕ). same_name v name ≡ true) (sym k.1) (same_refl name))) in
    sym (ap (λ (t : Bool). record s { verdict = cond t verdict s.verdict; cause = cond t (Cause.Order who) s.cause }) t)

pub order_none : (number : ℕ) (verdict : Target) (who : Named) (ss : List Standing) → numbered number ss ≡ None → with_order number verdict who ss ≡ ss
order_none number verdict who ss h = by ss (λ s a. unordered number verdict who s (unnumbered number ss s h a))
  where
    by : (rs : List Standing) → ((s : Standing) → Has rs s → ordered_standing number verdict who s ≡ s) → with_order number verdict who rs ≡ rs
    by [] f = refl
    by (s ∷ rs) f = ap (λ (v : Standing). v ∷ with_order number verdict who rs) (f s (inl refl)) ∙ ap (λ (v : List Standing). s ∷ v) (by rs (λ x a. f x (inr a)))

-- what keeps names, numbers and marks keeps the maps in agreement
agree_map : (f : Standing → Standing) → ((s : Standing) → (f s).name ≡ s.name) → ((s : Standing) → (f s).number ≡ s.number) → ((s : Standing) → (f s).settled ≡ s.settled) → (m m' : Names) (n : BTreeMap ℕ (List ℕ)) (place : Option Place) (retry : List ℕ) (most : ℕ) → Agree m n place retry most → filled m'.entries ≡ map f (filled m.entries) → IsOrdered sweep_cmp m' → AllNamed m'.entries → empty_of m'.entries ≡ empty_of m.entries → length m'.entries ≡ length m.entries → Agree m' n place retry most
agree_map f named numbered settled m m' n place retry most a items o b empty len =
    let ss = filled m.entries in
    let room = a.room in
    let left : Numbers (map f ss) (get nat_cmp n) = λ s h. let k = map_has f ss s h in subst (λ (v : Standing). get nat_cmp n v.number ≡ Some v.name) k.2 (ap (get nat_cmp n) (numbered k.0) ∙ a.numbers k.0 k.1 ∙ ap (λ (v : List ℕ). Some v) (sym (named k.0))) in
    let again : IsRetry (map f ss) retry = record {
      each = λ s h e. let k = map_has f ss s h in subst (λ (q : ℕ). Has retry q) (sym (numbered k.0) ∙ ap (λ (v : Standing). v.number) k.2) (a.retry.each k.0 k.1 (sym (settled k.0) ∙ ap (λ (v : Standing). v.settled) k.2 ∙ e));
      only = λ q h. let k = a.retry.only q h in (f k.0, has_map f ss k.0 k.1, numbered k.0 ∙ k.2, settled k.0 ∙ k.3);
      distinct = a.retry.distinct;
    } in
    record {
      ordered = o;
      bear = b;
      empty = empty ∙ a.empty;
      numbers = subst (λ (v : List Standing). Numbers v (get nat_cmp n)) (sym items) left;
      held = a.held;
      only = subst (λ (v : List Standing). Only v (get nat_cmp n) place) (sym items) (only_map f named numbered ss (get nat_cmp n) place a.only);
      retry = subst (λ (v : List Standing). IsRetry v retry) (sym items) again;
      room = omega (arith, room, len);
    }

pub agree_order : (m m' : Names) (n : BTreeMap ℕ (List ℕ)) (place : Option Place) (retry : List ℕ) (most : ℕ) (number : ℕ) (verdict : Target) (who : Named) → Agree m n place retry most → filled m'.entries ≡ with_order number verdict who (filled m.entries) → IsOrdered sweep_cmp m' → AllNamed m'.entries → empty_of m'.entries ≡ empty_of m.entries → length m'.entries ≡ length m.entries → Agree m' n place retry most
agree_order m m' n place retry most number verdict who = agree_map (ordered_standing number verdict who) (λ s. refl) (λ s. refl) (λ s. refl) m m' n place retry most

pub agree_default : (m m' : Names) (n : BTreeMap ℕ (List ℕ)) (place : Option Place) (retry : List ℕ) (most : ℕ) (name : List ℕ) → Agree m n place retry most → filled m'.entries ≡ map (with_default name) (filled m.entries) → IsOrdered sweep_cmp m' → AllNamed m'.entries → empty_of m'.entries ≡ empty_of m.entries → length m'.entries ≡ length m.entries → Agree m' n place retry most
agree_default m m' n place retry most name = agree_map (with_default name) (λ s. refl) (λ s. refl) (λ s. refl) m m' n place retry most

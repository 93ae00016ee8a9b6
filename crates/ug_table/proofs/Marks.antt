-- Marks and the order of standings.
use Rattle.std.proofs.Common.{◌≡◌, ℕ, Bool, true, false, not, cond, List, [], ◌∷◌, ◌++◌, map, Option, inl, inr, refl, sym, ◌∙◌, ap, subst, Some, append_assoc, ◌⊎◌, ◌+◌, add-one, true≢false, ◌<◌, ◌≤◌, None, length, min, take, get_or, arith}
use Rattle.ug_table.proofs.Common.{Has, AllDistinct, Bound, Binding, Entry, State, Answers, Laters, same_name, without, did_default, with_default, Terms, Write, marked, place_for, with_standing, known_of, standing_of, lists, farewells, IsNamed, IsMarked, IsUnlisted, IsListed, swept_before, AreInOrder, Tries, IsMarkedIn, AreMarkedIn, numbers_of, Standing, Known, Settled, Made, Along, Fault, EndsUnsettled, sweep_cmp, in_sweep_place, in_sweep_order, sweep_total, sweep_exact, Kernel, Runs, calls, names_of, parted, sweeping, unsettled_by, kept_standings, tried_standings, dropped, has_left, has_right, has_cases, filter_has, map_has, has_map, cancel, last_is, distinct_filter, distinct_insert, filter, insert, whys, why_of, StandInOrder, KeepsOrder, IsNextNumbered, is_nearer}
use Rattle.ug_table.proofs.Shapes.{Unbound_end, Absent_so, Flat, Unprobed, Tried, Stopped, Unbound, No_place, Judged_so, opening_absent, flat_rest, new_known}
use Rattle.ug_table.proofs.NamedStandings.{farewells_by, is_same, missing, missing_without, found, lists_has, either_listed, same_is, fields_stay}
use Rattle.ug_table.proofs.Standings.{known_as, did_stands, kept_tried, each_with, others_have, tried_own}
use Rattle.ug_table.proofs.OnePart.{flat_is_part, flat_whys, told_in}
use Rattle.ug_table.proofs.Says.{Each, NamesOnly, each_has, each_append, each_map, NamesNone, none_named}
use Rattle.std.specs.Ordering.{is_gt, is_lt, ordering_reverse}
use Rattle.ug_table.proofs.Chains.{Chain, Over, First, Goes, Listed, Unlisted, goes_entries, sweeping_run}
use Rattle.std.specs.declared.cmp.Ordering.{Ordering}
use Rattle.std.specs.declared.cmp.Ordering.TheVariants.{Less, Equal, Greater}
use Rattle.std.proofs.lemmas.Bool.{cond_both}
use Rattle.std.proofs.lemmas.Cmp.{tied_itself}
use Rattle.std.proofs.lemmas.List.Sorted.{ranks_by}
use Rattle.std.proofs.Math.Nat.{min-le_right}
use Rattle.std.proofs.lemmas.List.{take_more}

-- What settling a name tells as unsettled, and how it leaves the marks, whatever the kernel answers.

-- no name is told without why
pub unnamed : (es : List Entry) (name : List ℕ) → whys es ≡ [] → IsNamed es name → ⊥
unnamed es name e a = subst (λ (v : List Fault). Has v a.0) e (told_in name a.0 es a.1)

-- an entry that tells it unsettled is the last, and names it
pub ends_only : (name : List ℕ) (es : List Entry) → EndsUnsettled name es → Each (NamesOnly name) es
ends_only name [] h = tt
ends_only name (Entry.Unsettled n why ∷ es) h = (h.0.0, ends_only name es h.1)
ends_only name (Entry.UnsettledAll why ∷ es) h = absurd h.0
ends_only name (e ∷ es) h = (tt, ends_only name es h.1)

why_named : (name : List ℕ) (es : List Entry) (why : Fault) → EndsUnsettled name es → whys es ≡ why ∷ [] → IsNamed es name
why_named name [] why h e = let none : ⊥ = cc in absurd none
why_named name (Entry.Unsettled n x ∷ es) why h e = (x, inl (ap (λ (v : List ℕ). Entry.Unsettled v x) h.0.0))
why_named name (Entry.UnsettledAll x ∷ es) why h e = absurd h.0
why_named name (x ∷ es) why h e = let k = why_named name es why h.1 e in (k.0, inr k.1)

-- what the entries say of a name, by how it was settled
abbrev Tells : Settled → List ℕ → List Entry → Type 0
Tells Settled.Stands name rest = IsNamed rest name → ⊥
Tells Settled.Nobody name rest = Unit {0}
Tells how name rest = IsNamed rest name

tells_how : (how : Settled) (name : List ℕ) (es : List Entry) → EndsUnsettled name es → whys es ≡ why_of how → Tells how name es
tells_how Settled.Stands name es h e = unnamed es name e
tells_how Settled.Nobody name es h e = tt
tells_how (Settled.Fault failed) name es h e = why_named name es (Fault.Call failed) h e
tells_how Settled.Memory name es h e = why_named name es Fault.Memory h e

-- the standings

-- other names' standings are as they were; its own is marked by what is told
pub record Part (name : List ℕ) (ss : List Standing) (rest : List Entry) (rs : List Standing) : Type 0 where
  pub only : Each (NamesOnly name) rest
  pub others : (s : Standing) → Has rs s → (s.name ≡ name → ⊥) → Has ss s
  pub mark : (s : Standing) → Has rs s → s.name ≡ name → IsMarked rest s

pub marked_left : (es fs : List Entry) (s : Standing) → (IsNamed es s.name → ⊥) → IsMarked fs s → IsMarked (es ++ fs) s
marked_left es fs s none (inl h) = inl (h.0, λ a. elim (has_cases es fs (Entry.Unsettled s.name a.0) a.1) [ inl b ↦ none (a.0, b) | inr b ↦ h.1 (a.0, b) ])
marked_left es fs s none (inr h) = inr (h.0, (h.1.0, has_right es fs (Entry.Unsettled s.name h.1.0) h.1.1))

pub marked_right : (es fs : List Entry) (s : Standing) → (IsNamed fs s.name → ⊥) → IsMarked es s → IsMarked (es ++ fs) s
marked_right es fs s none (inl h) = inl (h.0, λ a. elim (has_cases es fs (Entry.Unsettled s.name a.0) a.1) [ inl b ↦ h.1 (a.0, b) | inr b ↦ none (a.0, b) ])
marked_right es fs s none (inr h) = inr (h.0, (h.1.0, has_left es fs (Entry.Unsettled s.name h.1.0) h.1.1))

-- a standing that is tried again

marked_mark : (ss : List Standing) (name : List ℕ) (b : Bool) (s : Standing) → Has (map (marked name b) ss) s → s.name ≡ name → s.settled ≡ b
marked_mark ss name b s a e =
    let m = map_has (marked name b) ss s a in
    let test : same_name m.0.name name ≡ true = is_same m.0.name name (ap (λ (v : Standing). v.name) m.2 ∙ e) in
    sym (ap (λ (v : Standing). v.settled) m.2) ∙ ap (λ (t : Bool). cond t b m.0.settled) test

tried_mark : (ss : List Standing) (name : List ℕ) (how : Settled) (rest : List Entry) (s : Standing) → Tells how name rest → Has (tried_standings ss name how) s → s.name ≡ name → IsMarked rest s
tried_mark ss name Settled.Nobody rest s t a e = absurd (missing_without name ss (subst (λ (v : List ℕ). Has (names_of (without name ss)) v) e (has_map (λ (v : Standing). v.name) (without name ss) s a)))
tried_mark ss name Settled.Stands rest s t a e = inl (marked_mark ss name true s a e, subst (λ (v : List ℕ). IsNamed rest v → ⊥) (sym e) t)
tried_mark ss name how rest s t a e = inr (marked_mark ss name false s a e, subst (λ (v : List ℕ). IsNamed rest v) (sym e) t)

-- a standing of the name
own_name : (ss : List Standing) (name : List ℕ) (s : Standing) → Has ss s → s.name ≡ name → Has (names_of ss) name
own_name ss name s a e = subst (λ (v : List ℕ). Has (names_of ss) v) e (has_map (λ (v : Standing). v.name) ss s a)

flat_mark : {hub : Option Write} {binds : Bool} {given : List Standing → Bound → Standing → Type 0} {name : List ℕ} {ss : List Standing} {ok : Bool} {ms : List Made} {rest : List Entry} {how : Settled} {rs : List Standing} {o : Option (List Standing × Bound)} → Tells how name rest → Flat hub binds given name ss ok ms rest how rs o → (s : Standing) → Has rs s → s.name ≡ name → IsMarked rest s
flat_mark {name = name} {ss = ss} t (Unprobed known failed at) s a is = tried_mark ss name (Settled.Fault failed) (Entry.Unsettled name (Fault.Call failed) ∷ []) s t a is
flat_mark {name = name} {ss = ss} t (Tried known on failed d ms es how at b) s a is = tried_mark (did_default name d ss) name how (es ++ unsettled_by name how) s t a is
flat_mark {name = name} t (Stopped ms es rs f opening) s a is = absurd (opening_absent opening (own_name rs name s a is))
flat_mark {name = name} t (Unbound ms ns es fs rs r how f opening way end) s a is = absurd (opening_absent opening (own_name rs name s a is))
flat_mark {name = name} t (No_place ms ns es rs b shut f opening way) s a is = absurd (opening_absent opening (own_name rs name s a is))
flat_mark {name = name} {rest = rest} t (Judged_so ms ns os es fs rs b x d how f opening way given new brought) s a is = tried_mark (did_default name d (with_standing x rs)) name how rest s t a is

pub flat_part : {hub : Option Write} {binds : Bool} {given : List Standing → Bound → Standing → Type 0} {name : List ℕ} {ss : List Standing} {ok : Bool} {ms : List Made} {rest : List Entry} {how : Settled} {rs : List Standing} {o : Option (List Standing × Bound)} → Flat hub binds given name ss ok ms rest how rs o → Part name ss rest rs
flat_part {name = name} {ss = ss} {rest = rest} {how = how} {rs = rs} f =
    let last = (flat_is_part f).last in
    record { only = ends_only name rest last; others = λ s. others_have name rs ss s (flat_rest f); mark = flat_mark (tells_how how name rest last (flat_whys f)) f }

-- the answer says whether the name has a standing

pub known_has : (name : List ℕ) (ss : List Standing) (known : Known)
    → standing_of name ss ≡ Some known → Has (names_of ss) name
known_has name ss known e =
    let s = found name ss known e in own_name ss name s.s s.has s.named

tried_stands : (name : List ℕ) (ss : List Standing) (known : Known) (how : Settled) → standing_of name ss ≡ Some known → how ≡ Settled.Stands → Has (names_of (tried_standings ss name how)) name
tried_stands name ss known how at e =
    let k = tried_own name ss how known at (λ n. let none : ⊥ = cc in none) in
    known_has name (tried_standings ss name how) k.0 k.1

pub tried_nobody : (ss : List Standing) (name : List ℕ) (how : Settled) → how ≡ Settled.Nobody → Has (names_of (tried_standings ss name how)) name → ⊥
tried_nobody ss name Settled.Nobody e = missing_without name ss
tried_nobody ss name how e = let none : ⊥ = cc in absurd none

unbound_stands : {name : List ℕ} {r : Binding} {es : List Entry} {how : Settled}
    → Unbound_end name r es how → how ≡ Settled.Stands → ⊥
unbound_stands Absent_so e = let none : ⊥ = cc in none
unbound_stands x e = let none : ⊥ = cc in none

pub flat_stands : {hub : Option Write} {binds : Bool} {given : List Standing → Bound → Standing → Type 0} {name : List ℕ} {ss : List Standing} {ok : Bool} {ms : List Made} {rest : List Entry} {how : Settled} {rs : List Standing} {o : Option (List Standing × Bound)} → Flat hub binds given name ss ok ms rest how rs o → how ≡ Settled.Stands → Has (names_of rs) name
flat_stands {name = name} {ss = ss} (Tried known on failed d ms es how at b) e = tried_stands name (did_default name d ss) (known_as d known) how (did_stands name d ss known at) e
flat_stands (Unbound ms ns es fs rs r how t opening way end) e = absurd (unbound_stands end e)
flat_stands {name = name} (Judged_so ms ns os es fs rs b x d how t opening way given new brought) e = tried_stands name (did_default name d (with_standing x rs)) (known_as d (known_of x)) how (did_stands name d (with_standing x rs) (known_of x) (new_known opening new)) e
flat_stands x e = let none : ⊥ = cc in absurd none

pub flat_nobody : {hub : Option Write} {binds : Bool} {given : List Standing → Bound → Standing → Type 0} {name : List ℕ} {ss : List Standing} {ok : Bool} {ms : List Made} {rest : List Entry} {how : Settled} {rs : List Standing} {o : Option (List Standing × Bound)} → Flat hub binds given name ss ok ms rest how rs o → how ≡ Settled.Nobody → Has (names_of rs) name → ⊥
flat_nobody (Unprobed known failed at) e = let none : ⊥ = cc in absurd none
flat_nobody {name = name} {ss = ss} (Tried known on failed d ms es how at b) e = tried_nobody (did_default name d ss) name how e
flat_nobody (Stopped ms es rs f opening) e = opening_absent opening
flat_nobody (Unbound ms ns es fs rs r how t opening way end) e = opening_absent opening
flat_nobody (No_place ms ns es rs b shut t opening way) e = opening_absent opening
flat_nobody {name = name} (Judged_so ms ns os es fs rs b x d how t opening way given new brought) e = tried_nobody (did_default name d (with_standing x rs)) name how e

-- The marks at the end of a sweep, and whether a listing has succeeded.

-- it names none but these as unsettled, and no listing
abbrev pub NamesIn : List (List ℕ) → Entry → Type 0
NamesIn names (Entry.Unsettled n why) = Has names n
NamesIn names (Entry.UnsettledAll why) = ⊥
NamesIn names e = Unit {0}

-- what settling these names tells, and how it leaves the marks
pub record Parts (names : List (List ℕ)) (ss : List Standing) (rest : List Entry) (rs : List Standing) : Type 0 where
  pub only : Each (NamesIn names) rest
  pub others : (s : Standing) → Has rs s → (Has names s.name → ⊥) → Has ss s
  pub mark : (s : Standing) → Has rs s → Has names s.name → IsMarked rest s

pub named_only : (n name : List ℕ) (es : List Entry) → Each (NamesOnly n) es → IsNamed es name → name ≡ n
named_only n name es h a = each_has (NamesOnly n) es (Entry.Unsettled name a.0) h a.1

only_first : (n : List ℕ) (names : List (List ℕ)) (e : Entry) → NamesOnly n e → NamesIn (n ∷ names) e
only_first n names (Entry.Unsettled m why) h = inl (sym h)
only_first n names x h = h

only_later : (n : List ℕ) (names : List (List ℕ)) (e : Entry) → NamesIn names e → NamesIn (n ∷ names) e
only_later n names (Entry.Unsettled m why) h = inr h
only_later n names e h = h

-- one name more
parts_more : (n : List ℕ) (names : List (List ℕ)) (ss ms rs : List Standing) (es fs : List Entry) → AllDistinct (n ∷ names) → Part n ss es ms → Parts names ms fs rs → Parts (n ∷ names) ss (es ++ fs) rs
parts_more n names ss ms rs es fs distinct a b =
    let mark : (s : Standing) → Has rs s → (n ≡ s.name) ⊎ Has names s.name → IsMarked (es ++ fs) s = λ s h c. elim c [
      | inl e ↦
          let apart : Has names s.name → ⊥ = λ x. distinct.0 (subst (λ (v : List ℕ). Has names v) (sym e) x) in
          marked_right es fs s (λ x. apart (each_has (NamesIn names) fs (Entry.Unsettled s.name x.0) b.only x.1)) (a.mark s (b.others s h apart) (sym e))
      | inr x ↦ marked_left es fs s (λ y. distinct.0 (subst (λ (v : List ℕ). Has names v) (named_only n s.name es a.only y) x)) (b.mark s h x)
    ] in
    record {
      only = each_append (NamesIn (n ∷ names)) es fs (each_map (NamesOnly n) (NamesIn (n ∷ names)) es (only_first n names) a.only) (each_map (NamesIn names) (NamesIn (n ∷ names)) fs (only_later n names) b.only);
      others = λ s h ne. a.others s (b.others s h (λ x. ne (inr x))) (λ e. ne (inl (sym e)));
      mark = λ s h c. mark s h c;
    }

pub chain_parts : {J : Type 0} {answer : Answers J} {later : Laters J} {binds : Bool} {terms : Terms}
    {names : List (List ℕ)} {w v : State J} {ok : Bool} {ms : List Made} {es : List Entry}
    → AllDistinct names → Chain answer later binds terms names w ok ms es v
    → Parts names w.standings es v.standings × (v.listed ≡ w.listed)
chain_parts distinct (Over w) = (record { only = tt; others = λ s a ne. a; mark = λ s a h. absurd h }, refl)
chain_parts distinct (First n names how w x v ok more ms ns es p c) =
    let rest = chain_parts distinct.1 c in
    (parts_more n names w.standings x.standings v.standings p.rest es distinct (flat_part p.flat) rest.0, rest.1 ∙ p.listed)

-- the order of a sweep has each name once

pub place_has : (name : List ℕ) (names : List (List ℕ)) (x : List ℕ) → Has (in_sweep_place name names) x → (name ≡ x) ⊎ Has names x
place_has name [] x h = h
place_has name (first ∷ names) x h = cond_both (is_gt (sweep_cmp name first)) (first ∷ in_sweep_place name names) (name ∷ first ∷ names) (λ (l : List (List ℕ)). Has l x → (name ≡ x) ⊎ Has (first ∷ names) x)
    (λ b k. elim k [ inl e ↦ inr (inl e) | inr a ↦ elim (place_has name names x a) [ inl e ↦ inl e | inr c ↦ inr (inr c) ] ])
    (λ b k. k) h

pub order_has : (names : List (List ℕ)) (x : List ℕ) → Has (in_sweep_order names) x → Has names x
order_has [] x h = h
order_has (name ∷ names) x h = elim (place_has name (in_sweep_order names) x h) [ inl e ↦ inl e | inr a ↦ inr (order_has names x a) ]

less_is : (r : Ordering) → is_lt r ≡ true → r ≡ Less
less_is Less e = refl
less_is x e = absurd (true≢false (sym e))

pub not_behind : (x y : List ℕ) → swept_before x y ≡ true → swept_before y x ≡ false
not_behind x y h = (ranks_by sweep_total (λ (v : List ℕ). v)).one_way x y h

pub not_itself : (x : List ℕ) → swept_before x x ≡ false
not_itself x = ap is_lt (tied_itself sweep_total x)

further : (x y z : List ℕ) → swept_before x y ≡ true → swept_before y z ≡ true → swept_before x z ≡ true
further x y z a b = ap is_lt (sweep_total.trans x y z (less_is (sweep_cmp x y) a) (less_is (sweep_cmp y z) b))

greater_turned : (r : Ordering) → is_gt r ≡ true → is_lt (ordering_reverse r) ≡ true
greater_turned Greater e = refl
greater_turned x e = absurd (true≢false (sym e))

greater_before : (x y : List ℕ) → is_gt (sweep_cmp x y) ≡ true → swept_before y x ≡ true
greater_before x y h = ap is_lt (sweep_total.antisymm y x) ∙ greater_turned (sweep_cmp x y) h

less_or : (r : Ordering) → is_gt r ≡ false → (r ≡ Equal → ⊥) → is_lt r ≡ true
less_or Less e ne = refl
less_or Equal e ne = absurd (ne refl)
less_or Greater e ne = absurd (true≢false e)

placed_order : (x : List ℕ) (ys : List (List ℕ)) → (Has ys x → ⊥) → AreInOrder ys → AreInOrder (in_sweep_place x ys)
placed_order x [] none o = (λ z h. absurd h, tt)
placed_order x (y ∷ ys) none o = cond_both (is_gt (sweep_cmp x y)) (y ∷ in_sweep_place x ys) (x ∷ y ∷ ys) AreInOrder
    (λ e. (λ z h. elim (place_has x ys z h) [ inl is ↦ subst (λ (v : List ℕ). swept_before y v ≡ true) is (greater_before x y e) | inr a ↦ o.0 z a ], placed_order x ys (λ h. none (inr h)) o.1))
    (λ e.
    let first : swept_before x y ≡ true = less_or (sweep_cmp x y) e (λ f. none (inl (sym (sweep_exact x y f)))) in
    (λ z h. elim h [ inl is ↦ subst (λ (v : List ℕ). swept_before x v ≡ true) is first | inr a ↦ further x y z first (o.0 z a) ], o))

-- names in order are distinct
pub names_distinct : (names : List (List ℕ)) → AreInOrder names → AllDistinct names
names_distinct [] o = tt
names_distinct (name ∷ names) o = (λ a. true≢false (sym (o.0 name a) ∙ not_itself name), names_distinct names o.1)

pub sweep_in_order : (names : List (List ℕ)) → AllDistinct names → AreInOrder (in_sweep_order names)
sweep_in_order [] d = tt
sweep_in_order (x ∷ names) d = placed_order x (in_sweep_order names) (λ a. d.0 (order_has names x a)) (sweep_in_order names d.1)

pub order_distinct : (names : List (List ℕ)) → AllDistinct names → AllDistinct (in_sweep_order names)
order_distinct names d = names_distinct (in_sweep_order names) (sweep_in_order names d)

-- the whole sweep

abbrev Ends : {J : Type 0} → State J → State J → List Entry → Type 0
Ends w v rest = IsListed rest w.listed v.listed × ((s : Standing) → Has v.standings s → IsMarked rest s)

pub farewell_none : (names : List (List ℕ)) (ss : List Standing) → Each NamesNone (farewells names ss)
farewell_none names ss = farewells_by (Each NamesNone) tt (λ number name es h. (tt, h)) names ss

-- each standing at the end has one of the names
stands_in : (names : List (List ℕ)) (P : Standing → Type 0) (rs : List Standing) → ((s : Standing) → P s → Has names s.name) → ((s : Standing) → Has rs s → (Has names s.name → ⊥) → P s) → (s : Standing) → Has rs s → Has names s.name
stands_in names P rs named others s a = elim (either_listed names s.name) [ inl h ↦ h | inr ne ↦ named s (others s a ne) ]

goes_ends : {J : Type 0} {answer : Answers J} {later : Laters J} {w v : State J} {ok : Bool}
    {ms : List Made} {es : List Entry} (k l : Kernel) → AllDistinct (names_of w.standings)
    → Goes answer later w ok ms es v → Along calls k ms l → Ends w v es
goes_ends {w = w} {v = v} k l known (Listed found failed ok shut made es _ closings chain) a =
    let names = in_sweep_order found in
    let bye = farewells names w.standings in
    let listed : Standing → Bool = λ s. lists names s.name in
    let h = chain_parts (order_distinct found a.1.says.1) chain in
    let none = farewell_none names w.standings in
    let told : IsUnlisted (bye ++ es) → ⊥ = λ n. elim (has_cases bye es (Entry.UnsettledAll n.0) n.1) [
      | inl b ↦ each_has NamesNone bye (Entry.UnsettledAll n.0) none b
      | inr b ↦ each_has (NamesIn names) es (Entry.UnsettledAll n.0) h.0.only b
    ] in
    let named = stands_in names (Has (filter listed w.standings)) v.standings (λ s b. lists_has names s.name (filter_has listed w.standings s b).1) h.0.others in
    (inl (told, h.1), λ s b. marked_left bye es s (none_named bye s.name none) (h.0.mark s b (named s b)))
goes_ends {w = w} {v = v} k l known (Unlisted list failed room why ok made es _ by chain) a =
    let names = names_of w.standings in
    let h = chain_parts known chain in
    let named = stands_in names (Has w.standings) v.standings (λ s b. has_map (λ (x : Standing). x.name) w.standings s b) h.0.others in
    (inr ((why, inl refl), h.1), λ s b. marked_left (Entry.UnsettledAll why ∷ []) es s (λ n. elim n.1 [ inl q ↦ let none : ⊥ = cc in none | inr none ↦ none ]) (h.0.mark s b (named s b)))

-- whatever the entries that were added
pub sweeping_marks : {J : Type 0} (answer : Answers J) (later : Laters J) (w : State J)
    (k l : Kernel) (v : State J) (rest : List Entry) → AllDistinct (names_of w.standings)
    → Runs calls k (sweeping answer later w) v l → v.entries ≡ w.entries ++ rest → Ends w v rest
sweeping_marks answer later w k l v rest known r e =
    let x = sweeping_run calls answer later k w l v r in
    subst (Ends w v) (cancel w.entries x.so.0 rest (sym (goes_entries x.so.1) ∙ e)) (goes_ends k l known x.so.1 x.along)

-- Standings in sweep order of their names.

-- those that a test leaves
pub order_filter : (test : Standing → Bool) (ss : List Standing) → AreInOrder (names_of ss) → AreInOrder (names_of (filter test ss))
order_filter test [] o = tt
order_filter test (s ∷ ss) o =
    let rest = order_filter test ss o.1 in
    let below : (n : List ℕ) → Has (names_of (filter test ss)) n → swept_before s.name n ≡ true = λ n a.
    let m = map_has (λ (v : Standing). v.name) (filter test ss) n a in
    subst (λ (v : List ℕ). swept_before s.name v ≡ true) m.2 (o.0 m.0.name (has_map (λ (v : Standing). v.name) ss m.0 (filter_has test ss m.0 m.1).0)) in
    elim (test s) as (λ (b : Bool). AreInOrder (names_of (cond b (s ∷ filter test ss) (filter test ss)))) [ true ↦ (below, rest) | false ↦ rest ]

-- the names with a new standing
names_with : (s : Standing) (ss : List Standing) → names_of (with_standing s ss) ≡ in_sweep_place s.name (names_of ss)
names_with s [] = refl
names_with s (x ∷ ss) =
    let rest = ap (λ (v : List (List ℕ)). x.name ∷ v) (names_with s ss) in
    elim (is_gt (sweep_cmp s.name x.name)) as (λ (b : Bool). names_of (insert (x ∷ ss) (cond b (place_for s.name ss + 1) 0) s) ≡ cond b (x.name ∷ in_sweep_place s.name (names_of ss)) (s.name ∷ x.name ∷ names_of ss)) [
      | true ↦ ap (λ (k : ℕ). names_of (insert (x ∷ ss) k s)) (add-one (place_for s.name ss)) ∙ rest
      | false ↦ refl
    ]

pub order_with : (s : Standing) (ss : List Standing) → AreInOrder (names_of ss) → (Has (names_of ss) s.name → ⊥) → AreInOrder (names_of (with_standing s ss))
order_with s ss o absent = subst (λ (v : List (List ℕ)). AreInOrder v) (sym (names_with s ss)) (placed_order s.name (names_of ss) absent o)

-- The marks of standings within a sweep.

-- the state's standings are marked as they are in the part of that name, since the state w
abbrev pub AreIn : {J : Type 0} → Tries → List ℕ → State J → State J → Type 0
AreIn tried name w u = (rest : List Entry) → u.entries ≡ w.entries ++ rest → AreMarkedIn tried name w.standings rest u.standings

-- the part of each of these names comes to its end before those of the names behind it begin
abbrev pub AreTried : Tries → List (List ℕ) → Type 0
AreTried tried [] = Unit {0}
AreTried tried (name ∷ names) =
    ((n : List ℕ) → Has names n → tried name n ≡ true) × ((n : List ℕ) → Has (name ∷ names) n → tried n name ≡ false) × AreTried tried names

-- where these names are still to come: each standing is of a name whose part comes to its end before theirs, marked as is told; or
-- of one of them, or of a name that has no part, and as it was
abbrev pub IsSplit : Tries → List (List ℕ) → List Standing → List Entry → Standing → Type 0
IsSplit tried names before rest s =
    (((n : List ℕ) → Has names n → tried s.name n ≡ true) × IsMarked rest s)
    ⊎ ((Has names s.name ⊎ ((n : List ℕ) → tried s.name n ≡ false)) × Has before s)

abbrev pub AreSplit : {J : Type 0} → Tries → List (List ℕ) → State J → State J → Type 0
AreSplit tried names w u = (rest : List Entry) → u.entries ≡ w.entries ++ rest → (s : Standing) → Has u.standings s → IsSplit tried names w.standings rest s

-- and none of these names was told
abbrev pub AreFresh : {J : Type 0} → List (List ℕ) → State J → State J → Type 0
AreFresh names w u = (rest : List Entry) → u.entries ≡ w.entries ++ rest → (n : List ℕ) → Has names n → IsNamed rest n → ⊥

pub not_first : (name : List ℕ) (names : List (List ℕ)) (n : List ℕ) → AreInOrder (name ∷ names) → Has (name ∷ names) n → swept_before n name ≡ false
not_first name names n o (inl e) = subst (λ (v : List ℕ). swept_before v name ≡ false) e (not_itself name)
not_first name names n o (inr a) = not_behind name n (o.0 n a)

-- names in sweep order are tried so
pub sweep_tried : (names : List (List ℕ)) → AreInOrder names → AreTried swept_before names
sweep_tried [] o = tt
sweep_tried (name ∷ names) o = (o.0, λ n a. not_first name names n o a, sweep_tried names o.1)

-- at the first of them
pub split_in : {J : Type 0} (tried : Tries) (name : List ℕ) (names : List (List ℕ)) (w u : State J) → AreTried tried (name ∷ names) → AreSplit tried (name ∷ names) w u → AreIn tried name w u
split_in tried name names w u o split rest e s a = elim (split rest e s a) [
  | inl h ↦ inl (h.0 name (inl refl), h.1)
  | inr h ↦ inr (elim h.0 [ inl b ↦ o.1 s.name b | inr f ↦ f name ], h.1)
]

added_rest : (es fs gs rest : List Entry) (more : List Entry) → fs ≡ es ++ gs → fs ++ more ≡ es ++ rest → gs ++ more ≡ rest
added_rest es fs gs rest more e f = cancel es (gs ++ more) rest (sym (append_assoc es gs more) ∙ ap (λ (v : List Entry). v ++ more) (sym e) ∙ f)

-- a standing is dropped
pub dropped_in : {J : Type 0} (tried : Tries) (w u : State J) (name : List ℕ) (number : ℕ) (gs : List Entry) → u.entries ≡ w.entries ++ gs → AreIn tried name w u → AreIn tried name w (dropped u name number)
dropped_in tried w u name number gs e so rest f s a =
    let e1 = Entry.Gone number name ∷ [] in
    let was = so gs e s (filter_has (λ (v : Standing). not (same_name v.name name)) u.standings s a).0 in
    subst (λ (v : List Entry). IsMarkedIn tried name w.standings v s) (added_rest w.entries u.entries gs rest e1 e f) (elim was [
      | inl h ↦ inl (h.0, marked_right gs e1 s (none_named e1 s.name (tt, tt)) h.1)
      | inr h ↦ inr h
    ])

-- the standings that are listed
pub parted_split : {J : Type 0} (tried : Tries) (names : List (List ℕ)) (w : State J) → AreSplit tried names w (parted names w)
parted_split tried names w rest e s a =
    let f = filter_has (λ (v : Standing). lists names v.name) w.standings s a in
    inr (inl (lists_has names s.name f.1), f.0)

pub parted_fresh : {J : Type 0} (names : List (List ℕ)) (w : State J) → AreFresh names w (parted names w)
parted_fresh names w rest e n a named =
    let bye = farewells names w.standings in
    let same : bye ≡ rest = cancel w.entries bye rest e in
    none_named bye n (farewell_none names w.standings) (subst (λ (v : List Entry). IsNamed v n) (sym same) named)

-- one name's part
part_mark : {J : Type 0} (tried : Tries) (w u : State J) (name : List ℕ) (names : List (List ℕ)) (gs more : List Entry) (z : State J) (s : Standing) (b : Bool) → same_name s.name name ≡ b → AreTried tried (name ∷ names) → ((s : Standing) → Has u.standings s → IsSplit tried (name ∷ names) w.standings gs s) → (IsNamed gs name → ⊥) → Part name u.standings more z.standings → Has z.standings s → IsSplit tried names w.standings (gs ++ more) s
part_mark tried w u name names gs more z s true is o split fresh x a =
    let e = same_is s.name name is in
    inl (λ n h. subst (λ (v : List ℕ). tried v n ≡ true) (sym e) (o.0 n h), marked_left gs more s (λ n. fresh (subst (λ (v : List ℕ). IsNamed gs v) e n)) (x.mark s a e))
part_mark tried w u name names gs more z s false is o split fresh x a =
    let ne : s.name ≡ name → ⊥ = λ e. let same = is_same s.name name e in let none : ⊥ = cc in none in
    elim (split s (x.others s a ne)) [
      | inl h ↦ inl (λ n b. h.0 n (inr b), marked_right gs more s (λ n. ne (named_only name s.name more x.only n)) h.1)
      | inr h ↦ elim h.0 [
        | inl c ↦ elim c [ inl e ↦ absurd (ne (sym e)) | inr b ↦ inr (inl b, h.1) ]
        | inr f ↦ inr (inr f, h.1)
      ]
    ]

pub part_split : {J : Type 0} (tried : Tries) (w u : State J) (name : List ℕ) (names : List (List ℕ)) (gs more : List Entry) (z : State J) → u.entries ≡ w.entries ++ gs → z.entries ≡ u.entries ++ more → AreTried tried (name ∷ names) → AreSplit tried (name ∷ names) w u → (IsNamed gs name → ⊥) → Part name u.standings more z.standings → AreSplit tried names w z
part_split tried w u name names gs more z e d o split fresh x rest f s a =
    subst (λ (v : List Entry). IsSplit tried names w.standings v s) (added_rest w.entries u.entries gs rest more e (sym d ∙ f)) (part_mark tried w u name names gs more z s (same_name s.name name) refl o (split gs e) fresh x a)

pub part_fresh : {J : Type 0} (w u : State J) (name : List ℕ) (names : List (List ℕ)) (gs more : List Entry) (z : State J) → u.entries ≡ w.entries ++ gs → z.entries ≡ u.entries ++ more → AllDistinct (name ∷ names) → AreFresh (name ∷ names) w u → Part name u.standings more z.standings → AreFresh names w z
part_fresh w u name names gs more z e d distinct fresh x rest f n a named =
    let same = added_rest w.entries u.entries gs rest more e (sym d ∙ f) in
    let told = subst (λ (v : List Entry). IsNamed v n) (sym same) named in
    elim (has_cases gs more (Entry.Unsettled n told.0) told.1) [
      | inl b ↦ fresh gs e n (inr a) (told.0, b)
      | inr b ↦ distinct.0 (subst (λ (v : List ℕ). Has names v) (named_only name n more x.only (told.0, b)) a)
    ]

-- What is done to a table's standings keeps them in order.

pub keeps_filter : (test : Standing → Bool) (ss : List Standing) → KeepsOrder ss (filter test ss)
keeps_filter test ss next o = record {
  order = order_filter test ss o.order;
  distinct = distinct_filter (λ (s : Standing). s.number) test ss o.distinct;
  numbers = λ s a. o.numbers s (filter_has test ss s a).0;
}

-- what is done to each leaves its name and number
pub keeps_map : (f : Standing → Standing) (ss : List Standing) → ((s : Standing) → (f s).name ≡ s.name) → ((s : Standing) → (f s).number ≡ s.number) → KeepsOrder ss (map f ss)
keeps_map f ss named numbered next o = record {
  order = subst (λ (v : List (List ℕ)). AreInOrder v) (sym (fields_stay f (λ (s : Standing). s.name) ss named)) o.order;
  distinct = subst (λ (v : List ℕ). AllDistinct v) (sym (fields_stay f (λ (s : Standing). s.number) ss numbered)) o.distinct;
  numbers = λ s a. let m = map_has f ss s a in subst (λ (v : ℕ). v < next) (sym (numbered m.0) ∙ ap (λ (v : Standing). v.number) m.2) (o.numbers m.0 m.1);
}

pub keeps_marked : (name : List ℕ) (mark : Bool) (ss : List Standing) → KeepsOrder ss (map (marked name mark) ss)
keeps_marked name mark ss = keeps_map (marked name mark) ss (λ s. refl) (λ s. refl)

-- one that is tried again
pub keeps_tried : (name : List ℕ) (how : Settled) (ss : List Standing) → KeepsOrder ss (tried_standings ss name how)
keeps_tried name Settled.Nobody ss = keeps_filter (λ (s : Standing). not (same_name s.name name)) ss
keeps_tried name Settled.Stands ss = keeps_marked name true ss
keeps_tried name how ss = keeps_marked name false ss

-- and one whose default was written
pub keeps_did : (name : List ℕ) (d : Bool) (ss : List Standing) → KeepsOrder ss (did_default name d ss)
keeps_did name true ss = keeps_map (with_default name) ss (λ s. refl) (λ s. refl)
keeps_did name false ss = λ next o. o

pub keeps_treated : (name : List ℕ) (d : Bool) (how : Settled) (ss : List Standing) → KeepsOrder ss (tried_standings (did_default name d ss) name how)
keeps_treated name d how ss = λ next o. keeps_tried name how (did_default name d ss) next (keeps_did name d ss next o)

-- a new one
pub order_new : (next : ℕ) (ss : List Standing) (s : Standing) → s.number ≡ next → (Has (names_of ss) s.name → ⊥) → StandInOrder next ss → StandInOrder (next + 1) (with_standing s ss)
order_new next ss s is absent o =
    let none : Has (numbers_of ss) s.number → ⊥ = λ a.
    let m = map_has (λ (v : Standing). v.number) ss s.number a in
    omega (arith, o.numbers m.0 m.1, m.2, is) in
    record {
      order = order_with s ss o.order absent;
      distinct = distinct_insert (λ (v : Standing). v.number) ss (place_for s.name ss) s o.distinct none;
      numbers = each_with (λ (v : Standing). v.number < next + 1) s ss (omega (arith, is)) (λ t b. let below = o.numbers t b in omega (arith, below));
    }

pub kept_as : (before made after : List Standing) → after ≡ made → KeepsOrder before made → KeepsOrder before after
kept_as before made after e k = subst (λ (v : List Standing). KeepsOrder before v) (sym e) k

-- what a table's fields are after its list was changed
pub kept_fields : (next cap : ℕ) (before after : List Standing) → KeepsOrder before after → length after ≤ length before → StandInOrder next before × (length before ≤ cap) → StandInOrder next after × (length after ≤ cap)
kept_fields next cap before after keeps len h = (keeps next h.0, let most = h.1 in omega (arith, len, most))

pub kept_more : (next cap other room : ℕ) (ss rs after : List Standing) (s : Standing) (how : Settled) → s.number ≡ next → s.settled ≡ false → ss ≡ rs → standing_of s.name rs ≡ None → min other cap ≡ room → length rs < room → after ≡ kept_standings ss s how → length after ≤ length ss + 1 → StandInOrder next ss → StandInOrder (next + 1) after × (length after ≤ cap)
kept_more next cap other room ss rs after s how is fresh same none e place made len o =
    let at = ap (λ (v : List Standing). standing_of s.name v) same ∙ none in
    let new = order_new next ss s is (missing s.name ss at) o in (
      kept_as (with_standing s ss) _ after (made ∙ kept_tried ss s how fresh at) (keeps_tried s.name how (with_standing s ss)) (next + 1) new,
      let as_long = ap length same in omega (arith, min-le_right other cap, e, place, len, as_long),
    )

-- the standing with the next number, as one more is looked at

-- what holds of those that were there and of the new one
added_all : (P : Standing → Type 0) (ss : List Standing) (x : Standing) → ((s : Standing) → Has ss s → P s) → P x → (s : Standing) → Has (ss ++ x ∷ []) s → P s
added_all P ss x rest own s a = elim (last_is ss x s a) [ inl b ↦ rest s b | inr is ↦ subst P is own ]

nearer_found : (ss : List Standing) (number : ℕ) (found : Option Standing) (x : Standing) → is_nearer number found x ≡ true → IsNextNumbered ss number found → IsNextNumbered (ss ++ x ∷ []) number (Some x)
nearer_found ss number None x e h =
    (has_right ss (x ∷ []) x (inl refl), grind (arith, e), added_all (λ (s : Standing). number < s.number → x.number ≤ s.number) ss x (λ s b above. absurd (omega (arith, h s b, above))) (λ above. omega arith))
nearer_found ss number (Some found) x e h =
    let less : x.number < found.number = grind (arith, e) in
    (has_right ss (x ∷ []) x (inl refl), grind (arith, e), added_all (λ (s : Standing). number < s.number → x.number ≤ s.number) ss x (λ s b above. omega (arith, h.2 s b above, less)) (λ above. omega arith))

no_nearer_found : (ss : List Standing) (number : ℕ) (found : Option Standing) (x : Standing) → is_nearer number found x ≡ false → IsNextNumbered ss number found → IsNextNumbered (ss ++ x ∷ []) number found
no_nearer_found ss number None x e h = added_all (λ (s : Standing). s.number ≤ number) ss x h (grind (arith, e))
no_nearer_found ss number (Some found) x e h =
    (has_left ss (x ∷ []) found h.0, h.1, added_all (λ (s : Standing). number < s.number → found.number ≤ s.number) ss x h.2 (λ above. grind (arith, e, above)))

-- the first of them, and one more
passed_more : (ss : List Standing) (i : ℕ) (x : Standing) → i < length ss → x ≡ get_or ss i x → take (i + 1) ss ≡ take i ss ++ x ∷ []
passed_more ss i x lt e = take_more ss i x lt ∙ ap (λ (v : Standing). take i ss ++ v ∷ []) (sym e)

pub found_more : (ss : List Standing) (i number : ℕ) (found now : Option Standing) (x : Standing) (b : Bool) → i < length ss → x ≡ get_or ss i x → is_nearer number found x ≡ b → now ≡ cond b (Some x) found → IsNextNumbered (take i ss) number found → IsNextNumbered (take (i + 1) ss) number now
found_more ss i number found now x true lt at e is h = subst (λ (v : List Standing). IsNextNumbered v number now) (sym (passed_more ss i x lt at)) (subst (λ (v : Option Standing). IsNextNumbered (take i ss ++ x ∷ []) number v) (sym is) (nearer_found (take i ss) number found x e h))
found_more ss i number found now x false lt at e is h = subst (λ (v : List Standing). IsNextNumbered v number now) (sym (passed_more ss i x lt at)) (subst (λ (v : Option Standing). IsNextNumbered (take i ss ++ x ∷ []) number v) (sym is) (no_nearer_found (take i ss) number found x e h))

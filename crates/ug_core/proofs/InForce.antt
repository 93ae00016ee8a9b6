-- The verdict in force, as entries are added.
use Rattle.std.proofs.Common.{◌≡◌, ℕ, ◌+◌, ◌<◌, ◌≤◌, Bool, true, false, cond, List, [], ◌∷◌, ◌++◌, Option, Some, None, inl, inr, refl, sym, ◌∙◌, ap, subst, arith, nat_eq, append_assoc, append-nil}
use Rattle.ug_types.specs.Elements.{Has, AllDistinct}
use Rattle.ug_kernel.specs.declared.control.Held.{Held}
use Rattle.ug_types.specs.declared.verdict.Target.{Target}
use Rattle.ug_types.specs.declared.verdict.Cause.{Cause}
use Rattle.ug_types.proofs.Elements.{has_left, has_right}
use Rattle.ug_audit.specs.declared.entry.Entry.{Entry}
use Rattle.ug_audit.specs.declared.entry.Entry.TheVariants as entry
use Rattle.ug_table.specs.Laws.{TellsNeither, numbers_of}
use Rattle.ug_table.specs.declared.standing.Standing.{Standing}
use Rattle.ug_core.specs.InForce.{Decision, IsLastTold, decision_in, decisions_in, decision_of, decided_entry, given_numbers, or_else, on_number, last_decision, last_judged, standing_decision, in_force, AgreeInForce, is_ordered, unordered, numbers_on, Follow}
use Rattle.ug_core.proofs.Splits.{where_cut}

-- the numbers of all that was told
abbrev pub told_numbers : List Entry → List ℕ
told_numbers es = numbers_on (decisions_in es)

pub or_else_assoc : {X : Type 0} (a b c : Option X) → or_else (or_else a b) c ≡ or_else a (or_else b c)
or_else_assoc None b c = refl
or_else_assoc (Some x) b c = refl

pub or_else_none : {X : Type 0} (a : Option X) → or_else a None ≡ a
or_else_none None = refl
or_else_none (Some x) = refl

pub decisions_append : (es fs : List Entry) → decisions_in (es ++ fs) ≡ decisions_in es ++ decisions_in fs
decisions_append [] fs = refl
decisions_append (e ∷ es) fs = ap (λ (ds : List Decision). decision_in e ++ ds) (decisions_append es fs) ∙ sym (append_assoc (decision_in e) (decisions_in es) (decisions_in fs))

-- entries that tell none
pub decisions_more : (es fs : List Entry) → decisions_in fs ≡ [] → decisions_in (es ++ fs) ≡ decisions_in es
decisions_more es fs none = decisions_append es fs ∙ ap (λ (ds : List Decision). decisions_in es ++ ds) none ∙ append-nil (decisions_in es)

pub last_append : (ds fs : List Decision) (n : ℕ) → last_decision (ds ++ fs) n ≡ or_else (last_decision fs n) (last_decision ds n)
last_append [] fs n = sym (or_else_none (last_decision fs n))
last_append (d ∷ ds) fs n = ap (λ (o : Option Decision). or_else o (on_number n d)) (last_append ds fs n) ∙ or_else_assoc (last_decision fs n) (last_decision ds n) (on_number n d)

pub in_force_append : (before : List Standing) (es fs : List Entry) (n : ℕ) → in_force before (es ++ fs) n ≡ or_else (last_judged fs n) (in_force before es n)
in_force_append before es fs n =
    ap (λ (ds : List Decision). or_else (last_decision ds n) (standing_decision before n)) (decisions_append es fs)
    ∙ ap (λ (o : Option Decision). or_else o (standing_decision before n)) (last_append (decisions_in es) (decisions_in fs) n)
    ∙ or_else_assoc (last_judged fs n) (last_judged es n) (standing_decision before n)

pub on_itself : (d : Decision) → on_number d.number d ≡ Some d
on_itself d = let same : nat_eq d.number d.number ≡ true = grind (arith) in ap (λ (b : Bool). cond b (Some d) None) same

pub on_another : (n : ℕ) (d : Decision) → (d.number ≡ n → ⊥) → on_number n d ≡ None
on_another n d h = let other : nat_eq d.number n ≡ false = grind (arith, h) in ap (λ (b : Bool). cond b (Some d) None) other

-- an entry tells its decision
pub has_decision : (es : List Entry) (number : ℕ) (name : List ℕ) (held : Held) (verdict : Target) (cause : Cause) → Has es (entry.Judged number name held verdict cause) → Has (decisions_in es) (record { number = number; name = name; held = held; verdict = verdict; cause = cause })
has_decision [] number name held verdict cause h = absurd h
has_decision (e ∷ es) number name held verdict cause (inl same) =
    has_left (decision_in e) (decisions_in es) (record { number = number; name = name; held = held; verdict = verdict; cause = cause }) (subst (λ (x : Entry). Has (decision_in x) (record { number = number; name = name; held = held; verdict = verdict; cause = cause })) (sym same) (inl refl))
has_decision (e ∷ es) number name held verdict cause (inr h) = has_right (decision_in e) (decisions_in es) (record { number = number; name = name; held = held; verdict = verdict; cause = cause }) (has_decision es number name held verdict cause h)

-- an entry of neither kind tells none
pub neither_none : (e : Entry) → TellsNeither e → decision_in e ≡ []
neither_none (entry.Judged number name held verdict cause) h = absurd h
neither_none e h = refl

-- the last is one of them
pub last_has : (ds : List Decision) (n : ℕ) (d : Decision) → last_decision ds n ≡ Some d → Has ds d × (d.number ≡ n)
last_has [] n d h = let none : ⊥ = cc in absurd none
last_has (x ∷ ds) n d h =
    let T : Option Decision → Type 0 = λ v. last_decision ds n ≡ v → or_else v (on_number n x) ≡ Some d → Has (x ∷ ds) d × (d.number ≡ n) in
    let f : (v : Option Decision) → T v = λ v. elim v as T [
      | None ↦ λ is that. first_has (nat_eq x.number n) x ds n d refl that
      | Some y ↦ λ is that. let k = last_has ds n d (is ∙ that) in (inr k.0, k.1)
    ] in
    f (last_decision ds n) refl h
  where
    first_has : (b : Bool) (x : Decision) (ds : List Decision) (n : ℕ) (d : Decision) → nat_eq x.number n ≡ b → cond b (Some x) None ≡ Some d → Has (x ∷ ds) d × (d.number ≡ n)
    first_has true x ds n d is h = let same : x ≡ d = cc in let number : x.number ≡ n = grind (arith, is) in (inl same, sym (ap (λ (y : Decision). y.number) same) ∙ number)
    first_has false x ds n d is h = let none : ⊥ = cc in absurd none

-- a standing of that number has that decision
pub standing_has : (ss : List Standing) (n : ℕ) (d : Decision) → standing_decision ss n ≡ Some d → (s : Standing) × Has ss s × (s.number ≡ n) × (decision_of s ≡ d)
standing_has [] n d h = let none : ⊥ = cc in absurd none
standing_has (s ∷ ss) n d h = found (nat_eq s.number n) s ss n d refl h (λ k. standing_has ss n d k)
  where
    found : (b : Bool) (s : Standing) (ss : List Standing) (n : ℕ) (d : Decision) → nat_eq s.number n ≡ b → or_else (cond b (Some (decision_of s)) None) (standing_decision ss n) ≡ Some d
        → (standing_decision ss n ≡ Some d → (t : Standing) × Has ss t × (t.number ≡ n) × (decision_of t ≡ d)) → (t : Standing) × Has (s ∷ ss) t × (t.number ≡ n) × (decision_of t ≡ d)
    found true s ss n d is h rest = let number : s.number ≡ n = grind (arith, is) in let same : decision_of s ≡ d = cc in (s, inl refl, number, same)
    found false s ss n d is h rest = let k = rest h in (k.0, inr k.1, k.2, k.3)

has_number : (ss : List Standing) (s : Standing) → Has ss s → Has (numbers_of ss) s.number
has_number [] s h = absurd h
has_number (b ∷ ss) s (inl e) = inl (ap (λ (x : Standing). x.number) e)
has_number (b ∷ ss) s (inr h) = inr (has_number ss s h)

-- the standing of a number that stands once
pub standing_found : (ss : List Standing) (s : Standing) → AllDistinct (numbers_of ss) → Has ss s → standing_decision ss s.number ≡ Some (decision_of s)
standing_found [] s d h = absurd h
standing_found (b ∷ ss) s d (inl e) = ap (λ (x : Standing). or_else (on_number x.number (decision_of b)) (standing_decision ss x.number)) (sym e) ∙ ap (λ (o : Option Decision). or_else o (standing_decision ss b.number)) (on_itself (decision_of b)) ∙ ap (λ (x : Standing). Some (decision_of x)) e
standing_found (b ∷ ss) s d (inr h) =
    ap (λ (o : Option Decision). or_else o (standing_decision ss s.number)) (on_another s.number (decision_of b) (λ e. d.0 (subst (λ (x : ℕ). Has (numbers_of ss) x) (sym e) (has_number ss s h)))) ∙ standing_found ss s d.1 h

-- decisions whose numbers follow one another are told once, and none on a number from before
pub record Fresh (ds : List Decision) (first next : ℕ) : Type 0 where
  pub low : first ≤ next
  pub told : (d : Decision) → Has ds d → (first ≤ d.number) × (last_decision ds d.number ≡ Some d)
  pub old : (n : ℕ) → n < first → last_decision ds n ≡ None

pub fresh : (ds : List Decision) (first next : ℕ) → Follow first (numbers_on ds) next → Fresh ds first next
fresh [] first next f = record { low = omega (arith, f); told = λ d h. absurd h; old = λ n lt. refl }
fresh (d ∷ ds) first next f =
    let rest = fresh ds (first + 1) next f.1 in
    let here : d.number ≡ first = f.0 in
    let below : first + 1 ≤ next = rest.low in
    record {
      low = omega (arith, below);
      told = λ x h. elim h [
        | inl same ↦
            let lt : d.number < first + 1 = omega (arith, here) in
            let one : last_decision (d ∷ ds) d.number ≡ Some d = ap (λ (o : Option Decision). or_else o (on_number d.number d)) (rest.old d.number lt) ∙ on_itself d in
            let both : (first ≤ d.number) × (last_decision (d ∷ ds) d.number ≡ Some d) = (omega (arith, here), one) in
            subst (λ (y : Decision). (first ≤ y.number) × (last_decision (d ∷ ds) y.number ≡ Some y)) same both
        | inr later ↦
            let t = rest.told x later in
            let low : first + 1 ≤ x.number = t.0 in
            (omega (arith, low), ap (λ (o : Option Decision). or_else o (on_number x.number d)) t.1)
      ];
      old = λ n lt.
          let less : n < first + 1 = omega (arith, lt) in
          let other : d.number ≡ n → ⊥ = λ e. omega (arith, e, here, lt) in
          ap (λ (o : Option Decision). or_else o (on_number n d)) (rest.old n less) ∙ on_another n d other;
    }

pub numbers_append : (ds fs : List Decision) → numbers_on (ds ++ fs) ≡ numbers_on ds ++ numbers_on fs
numbers_append [] fs = refl
numbers_append (d ∷ ds) fs = ap (λ (l : List ℕ). d.number ∷ l) (numbers_append ds fs)

pub follow_append : (a : ℕ) (xs ys : List ℕ) (b c : ℕ) → Follow a xs b → Follow b ys c → Follow a (xs ++ ys) c
follow_append a [] ys b c f g = subst (λ (v : ℕ). Follow v ys c) f g
follow_append a (x ∷ xs) ys b c f g = (f.0, follow_append (a + 1) xs ys b c f.1 g)

-- a verdict that stood before was the last one told
pub lift : (pre : List Entry) (ss : List Standing) (front : List Entry) (n : ℕ) (d : Decision) → AgreeInForce [] pre ss → in_force ss front n ≡ Some d → in_force [] (pre ++ front) n ≡ Some d
lift pre ss front n d agree h = in_force_append [] pre front n ∙ lifted (last_judged front n) h
  where
    lifted : (last : Option Decision) → or_else last (standing_decision ss n) ≡ Some d → or_else last (in_force [] pre n) ≡ Some d
    lifted (Some x) e = e
    lifted None e =
        let s = standing_has ss n d e in
        ap (λ (m : ℕ). in_force [] pre m) (sym s.2) ∙ agree s.0 s.1 ∙ ap (λ (x : Decision). Some x) s.3

pub lift_agree : (pre : List Entry) (ss after : List Standing) (es : List Entry) → AgreeInForce [] pre ss → AgreeInForce ss es after → AgreeInForce [] (pre ++ es) after
lift_agree pre ss after es agree h s a = lift pre ss es s.number (decision_of s) agree (h s a)

-- decisions but for those that were ordered

pub unordered_append : (ds fs : List Decision) → unordered (ds ++ fs) ≡ unordered ds ++ unordered fs
unordered_append [] fs = refl
unordered_append (d ∷ ds) fs = by_cause (is_ordered d.cause) d (unordered ds) (unordered fs) (unordered (ds ++ fs)) (unordered_append ds fs)
  where
    by_cause : (b : Bool) (d : Decision) (xs ys zs : List Decision) → zs ≡ xs ++ ys → cond b zs (d ∷ zs) ≡ cond b xs (d ∷ xs) ++ ys
    by_cause true d xs ys zs h = h
    by_cause false d xs ys zs h = ap (λ (l : List Decision). d ∷ l) h

-- where none was ordered, all are there
pub unordered_all : (ds : List Decision) → ((d : Decision) → Has ds d → is_ordered d.cause ≡ false) → unordered ds ≡ ds
unordered_all [] h = refl
unordered_all (d ∷ ds) h = ap (λ (b : Bool). cond b (unordered ds) (d ∷ unordered ds)) (h d (inl refl)) ∙ ap (λ (l : List Decision). d ∷ l) (unordered_all ds (λ c a. h c (inr a)))

-- one that wasn't ordered is there
pub unordered_has : (ds : List Decision) (d : Decision) → is_ordered d.cause ≡ false → Has ds d → Has (unordered ds) d
unordered_has [] d is h = absurd h
unordered_has (x ∷ ds) d is (inl same) =
    let plain : is_ordered x.cause ≡ false = ap (λ (v : Decision). is_ordered v.cause) same ∙ is in
    subst (λ (b : Bool). Has (cond b (unordered ds) (x ∷ unordered ds)) d) (sym plain) (inl same)
unordered_has (x ∷ ds) d is (inr h) = by_first (is_ordered x.cause) (unordered_has ds d is h)
  where
    by_first : (b : Bool) → Has (unordered ds) d → Has (cond b (unordered ds) (x ∷ unordered ds)) d
    by_first true k = k
    by_first false k = inr k

-- an entry tells one decision
pub one_judged : (d e : Decision) → decided_entry d ≡ decided_entry e → d ≡ e
one_judged d e same = let both : d ∷ [] ≡ e ∷ [] = ap (λ (x : Entry). decision_in x) same in let one : d ≡ e = cc in one

-- the last that is told of a number, with its place
pub last_told : (es : List Entry) (d : Decision) → last_decision (decisions_in es) d.number ≡ Some d → IsLastTold es d
last_told [] d h = let none : ⊥ = cc in absurd none
last_told (e ∷ es) d h = by (λ k. last_told es d k) (last_decision (decisions_in es) d.number) refl (sym (last_append (decision_in e) (decisions_in es) d.number) ∙ h)
  where
    this : (x : Entry) → last_decision (decisions_in es) d.number ≡ None → last_decision (decision_in x) d.number ≡ Some d → IsLastTold (x ∷ es) d
    this (entry.Judged number name held verdict cause) is h =
        let own : Decision = record { number = number; name = name; held = held; verdict = verdict; cause = cause } in
        elim (last_has (own ∷ []) d.number d h).0 [
          | inl same ↦ record { before = []; since = es; at = ap (λ (y : Decision). decided_entry y ∷ es) same; none = is }
          | inr none ↦ absurd none
        ]
    this x is h = let none : ⊥ = cc in absurd none

    by : (last_decision (decisions_in es) d.number ≡ Some d → IsLastTold es d) → (o : Option Decision) → last_decision (decisions_in es) d.number ≡ o → or_else o (last_decision (decision_in e) d.number) ≡ Some d → IsLastTold (e ∷ es) d
    by rest (Some x) is h =
        let k = rest (is ∙ h) in
        record { before = e ∷ k.before; since = k.since; at = ap (λ (l : List Entry). e ∷ l) k.at; none = k.none }
    by rest None is h = this e is h

-- numbers that are given out come once

follow_least : (first : ℕ) (ns : List ℕ) (next n : ℕ) → Follow first ns next → Has ns n → first ≤ n
follow_least first [] next n f h = absurd h
follow_least first (x ∷ ns) next n f (inl same) = let is : x ≡ first = f.0 in grind (arith, same, is)
follow_least first (x ∷ ns) next n f (inr h) = let less : first + 1 ≤ n = follow_least (first + 1) ns next n f.1 h in omega arith

follow_once : (first : ℕ) (ns : List ℕ) (n : ℕ) (more : List ℕ) (next : ℕ) → Follow first (ns ++ n ∷ more) next → Has more n → ⊥
follow_once first [] n more next f h = let less : first + 1 ≤ n = follow_least (first + 1) more next n f.1 h in let is : n ≡ first = f.0 in omega arith
follow_once first (x ∷ ns) n more next f h = follow_once (first + 1) ns n more next f.1 h

pub given_append : (es fs : List Entry) → given_numbers (es ++ fs) ≡ given_numbers es ++ given_numbers fs
given_append es fs = ap (λ (ds : List Decision). numbers_on (unordered ds)) (decisions_append es fs) ∙ ap (λ (ds : List Decision). numbers_on ds) (unordered_append (decisions_in es) (decisions_in fs)) ∙ numbers_append (unordered (decisions_in es)) (unordered (decisions_in fs))

given_one : (d : Decision) (es : List Entry) → is_ordered d.cause ≡ false → given_numbers (decided_entry d ∷ es) ≡ d.number ∷ given_numbers es
given_one d es plain = ap (λ (b : Bool). numbers_on (cond b (unordered (decisions_in es)) (d ∷ unordered (decisions_in es)))) plain

given_once : (first next : ℕ) (f : List Entry) (d : Decision) (g : List Entry) (e : Decision) (b : List Entry) → is_ordered d.cause ≡ false → is_ordered e.cause ≡ false → d.number ≡ e.number → Follow first (given_numbers ((f ++ decided_entry d ∷ g) ++ decided_entry e ∷ b)) next → ⊥
given_once first next f d g e b plain also same follow =
    let rest : List Entry = g ++ decided_entry e ∷ b in
    let shape : given_numbers ((f ++ decided_entry d ∷ g) ++ decided_entry e ∷ b) ≡ given_numbers f ++ d.number ∷ given_numbers rest =
    ap (λ (l : List Entry). given_numbers l) (append_assoc f (decided_entry d ∷ g) (decided_entry e ∷ b)) ∙ given_append f (decided_entry d ∷ rest) ∙ ap (λ (l : List ℕ). given_numbers f ++ l) (given_one d rest plain) in
    let there : given_numbers rest ≡ given_numbers g ++ e.number ∷ given_numbers b = given_append g (decided_entry e ∷ b) ∙ ap (λ (l : List ℕ). given_numbers g ++ l) (given_one e b also) in
    follow_once first (given_numbers f) d.number (given_numbers rest) next (subst (λ (l : List ℕ). Follow first l next) shape follow)
    (subst (λ (l : List ℕ). Has l d.number) (sym there) (subst (λ (n : ℕ). Has (given_numbers g ++ e.number ∷ given_numbers b) n) (sym same) (has_right (given_numbers g) (e.number ∷ given_numbers b) e.number (inl refl))))

-- so a decision that gives one has one place
pub same_place : (first next : ℕ) (es f g : List Entry) (d e : Decision) (a b : List Entry) → is_ordered d.cause ≡ false → is_ordered e.cause ≡ false → d.number ≡ e.number → es ≡ f ++ decided_entry d ∷ a → es ≡ g ++ decided_entry e ∷ b → Follow first (given_numbers es) next → f ≡ g
same_place first next es f g d e a b plain also same at here follow =
    elim (where_cut f (decided_entry d ∷ a) g (decided_entry e) b (sym at ∙ here)) [
      | inl c ↦
          let whole : es ≡ (g ++ decided_entry e ∷ c.rest) ++ decided_entry d ∷ a = at ∙ ap (λ (l : List Entry). l ++ decided_entry d ∷ a) c.here in
          absurd (given_once first next g e c.rest d a also plain (sym same) (subst (λ (l : List Entry). Follow first (given_numbers l) next) whole follow))
      | inr p ↦ by_more p.more p.beyond p.there
    ]
  where
    by_more : (more : List Entry) → g ≡ f ++ more → decided_entry d ∷ a ≡ more ++ decided_entry e ∷ b → f ≡ g
    by_more [] beyond there = sym (append-nil f) ∙ sym beyond
    by_more (x ∷ more) beyond there =
        let head : decided_entry d ≡ x = cc in
        let front : g ≡ f ++ decided_entry d ∷ more = beyond ∙ ap (λ (y : Entry). f ++ y ∷ more) (sym head) in
        let whole : es ≡ (f ++ decided_entry d ∷ more) ++ decided_entry e ∷ b = here ∙ ap (λ (l : List Entry). l ++ decided_entry e ∷ b) front in
        absurd (given_once first next f d more e b plain also same (subst (λ (l : List Entry). Follow first (given_numbers l) next) whole follow))

-- The standings of names.
use Rattle.std.proofs.Common.{◌≡◌, ◌↔◌, ℕ, nat_eq, Option, option_copied, IsNone, IsSome, Bor, sym, Bool, true, false, not, ◌∙◌, ◌||◌, List, [], ◌∷◌, Some, None, map, cond, ◌⊎◌, inl, inr, refl, ap, subst, arith}
use Rattle.std.proofs.lemmas.Bool.{or_right, or_cases, cases_Bool, cond_both, both_ways}
use Rattle.std.specs.Cmp.Lexicographic.{bytes_decides}
use Rattle.ug_table.proofs.Common.{Has, AllDistinct, same_name, known_of, standing_of, numbered, without, marked, lists, removed_of, Default, is_done, Standing, Known, Control, Authorized, Remove, ToldAnswer, FailedCall, Entry, farewells, names_of, filter_has, map_has, has_map, distinct_one, is_reject}
use Rattle.ug_kernel.proofs.BindShapes.{told}

-- what a call was answered, with its number and the count of failed calls after it
abbrev pub told_at : {X : Type 0} → X → FailedCall → ToldAnswer X
told_at answer last = told answer last.call last.count

-- what holds of no entry, and stays with one that tells a standing gone, holds of those that tell what isn't listed
pub farewells_by : (P : List Entry → Type 0) → P []
    → ((number : ℕ) (name : List ℕ) (es : List Entry) → P es → P (Entry.Gone number name ∷ es))
    → (names : List (List ℕ)) (ss : List Standing) → P (farewells names ss)
farewells_by P none more names [] = none
farewells_by P none more names (s ∷ ss) =
    let rest = farewells_by P none more names ss in
    elim (lists names s.name) as (λ (b : Bool). P (cond b (farewells names ss) (Entry.Gone s.number s.name ∷ farewells names ss))) [ true ↦ rest | false ↦ more s.number s.name (farewells names ss) rest ]

-- The standings of names.

pub same_is : (a b : List ℕ) → same_name a b ≡ true → a ≡ b
same_is a b e = (bytes_decides a b).0 e

pub is_same : (a b : List ℕ) → a ≡ b → same_name a b ≡ true
is_same a b e = (bytes_decides a b).1 e

-- a standing that was found
pub record Found (name : List ℕ) (ss : List Standing) (found_known : Known) : Type 0 where
  pub s : Standing
  pub has : Has ss s
  pub named : s.name ≡ name
  pub known : known_of s ≡ found_known

pub found : (name : List ℕ) (ss : List Standing) (known : Known) → standing_of name ss ≡ Some known → Found name ss known
found name [] known h = let none : ⊥ = cc in absurd none
found name (x ∷ ss) known h = cond_both (same_name x.name name) (Some (known_of x)) (standing_of name ss)
    (λ (o : Option Known). o ≡ Some known → Found name (x ∷ ss) known)
    (λ e f. let same : known_of x ≡ known = cc in record { s = x; has = inl refl; named = same_is x.name name e; known = same })
    (λ e f. let k = found name ss known f in record { s = k.s; has = inr k.has; named = k.named; known = k.known }) h

-- and a name that has none
pub missing : (name : List ℕ) (ss : List Standing) → standing_of name ss ≡ None → Has (names_of ss) name → ⊥
missing name [] h a = a
missing name (x ∷ ss) h a = cond_both (same_name x.name name) (Some (known_of x)) (standing_of name ss)
    (λ (o : Option Known). o ≡ None → ⊥) (λ e f. let none : ⊥ = cc in none)
    (λ e f. elim a [ inl is ↦ both_ways (same_name x.name name) e (is_same x.name name is) | inr b ↦ missing name ss f b ]) h

-- a standing is its name's, where no name has two
pub stands_one : (name : List ℕ) (ss : List Standing) (s : Standing) → AllDistinct (names_of ss) → Has ss s → s.name ≡ name → standing_of name ss ≡ Some (known_of s)
stands_one name ss s distinct a e = by (standing_of name ss) refl
  where
    by : (o : Option Known) → standing_of name ss ≡ o → standing_of name ss ≡ Some (known_of s)
    by None q = absurd (missing name ss q (subst (λ (v : List ℕ). Has (names_of ss) v) e (has_map (λ (v : Standing). v.name) ss s a)))
    by (Some known) q =
        let f = found name ss known q in
        q ∙ ap (λ (v : Known). Some v) (sym f.known ∙ ap known_of (distinct_one (λ (v : Standing). v.name) ss f.s s distinct f.has a (f.named ∙ sym e)))

pub missing_without : (name : List ℕ) (ss : List Standing) → Has (names_of (without name ss)) name → ⊥
missing_without name ss a =
    let m = map_has (λ (s : Standing). s.name) (without name ss) name a in
    let f = filter_has (λ (s : Standing). not (same_name s.name name)) ss m.0 m.1 in
    let same = is_same m.0.name name m.2 in
    let none : ⊥ = grind (arith, f.1, same) in none

-- the standing of a number

pub numbered_has : (number : ℕ) (ss : List Standing) (x : Standing) → numbered number ss ≡ Some x → Has ss x × (x.number ≡ number)
numbered_has number [] x h = let none : ⊥ = cc in absurd none
numbered_has number (y ∷ ss) x h = cond_both (nat_eq y.number number) (Some y) (numbered number ss)
    (λ (o : Option Standing). o ≡ Some x → Has (y ∷ ss) x × (x.number ≡ number))
    (λ e f. let same : y ≡ x = cc in let at : y.number ≡ number = grind (arith, e) in (inl same, sym (ap (λ (v : Standing). v.number) same) ∙ at))
    (λ e f. let k = numbered_has number ss x f in (inr k.0, k.1)) h

unnumbered : (number : ℕ) (ss : List Standing) (s : Standing) → numbered number ss ≡ None → Has ss s → s.number ≡ number → ⊥
unnumbered number [] s h a n = a
unnumbered number (y ∷ ss) s h a n = cond_both (nat_eq y.number number) (Some y) (numbered number ss)
    (λ (o : Option Standing). o ≡ None → ⊥) (λ e f. let none : ⊥ = cc in none)
    (λ e f. elim a [
      | inl is ↦ let same : y.number ≡ number = ap (λ (v : Standing). v.number) is ∙ n in let none : ⊥ = grind (arith, same, e) in none
      | inr b ↦ unnumbered number ss s f b n
    ]) h

-- the standing of the number is there
pub stands_at : (number : ℕ) (ss : List Standing) (o : Option Standing) → numbered number ss ≡ o → IsSome o → (x : Standing) × (numbered number ss ≡ Some x)
stands_at number ss (Some x) e is = (x, e)
stands_at number ss None e is = let none : ⊥ = cc in absurd none

-- none is found exactly where no standing has it
pub none_numbered : (o : Option (Bor Standing)) (number : ℕ) (ss : List Standing) → option_copied o ≡ numbered number ss → IsNone o ↔ ((s : Standing) → Has ss s → s.number ≡ number → ⊥)
none_numbered None number ss e = (λ n s a m. unnumbered number ss s (sym e) a m, λ f. refl)
none_numbered (Some x) number ss e = (λ n. let none : ⊥ = cc in absurd none, λ f. let k = numbered_has number ss x.now (sym e) in absurd (f x.now k.0 k.1))

-- what is done to each standing leaves a field that it keeps
pub fields_stay : {X : Type 0} (f : Standing → Standing) (field : Standing → X) (ss : List Standing) → ((s : Standing) → field (f s) ≡ field s) → map field (map f ss) ≡ map field ss
fields_stay f field [] e = refl
fields_stay {X} f field (s ∷ ss) e = ap (λ (v : X). v ∷ map field (map f ss)) (e s) ∙ ap (λ (v : List X). field s ∷ v) (fields_stay f field ss e)

-- the marks of removed devices

pub or_none : (b : Bool) → (b || false) ≡ b
or_none true = refl
or_none false = refl

pub or_by : (a b : Bool) → ((a || b) ≡ a) ⊎ (((a || b) ≡ true) × (b ≡ true))
or_by true b = inl refl
or_by false true = inr (refl, refl)
or_by false false = inl refl

still_removed : (name : List ℕ) (s : Standing) → removed_of name false s ≡ s.removed
still_removed name s = cond_both (same_name s.name name) (s.removed || false) s.removed (λ (v : Bool). v ≡ s.removed) (λ e. or_none s.removed) (λ e. refl)

-- the mark of each file

pub still_done : (control : Control) (name : List ℕ) (s : Standing) → is_done control (marked name false s) ≡ is_done control s
still_done Authorized name s = refl
still_done Remove name s = still_removed name s
still_done Default name s = refl

settled_removed : (name : List ℕ) (s : Standing) → (removed_of name true s ≡ s.removed) ⊎ ((s.name ≡ name) × (removed_of name true s ≡ true) × (is_reject s.verdict ≡ true))
settled_removed name s = cond_both (same_name s.name name) (s.removed || is_reject s.verdict) s.removed
    (λ (v : Bool). (v ≡ s.removed) ⊎ ((s.name ≡ name) × (v ≡ true) × (is_reject s.verdict ≡ true)))
    (λ e. elim (or_by s.removed (is_reject s.verdict)) [ inl h ↦ inl h | inr h ↦ inr (same_is s.name name e, h.0, h.1) ]) (λ e. inl refl)

pub settled_done : (control : Control) (name : List ℕ) (s : Standing) → (is_done control (marked name true s) ≡ is_done control s) ⊎ ((control ≡ Remove) × (s.name ≡ name) × (is_done Remove (marked name true s) ≡ true) × (is_reject s.verdict ≡ true))
settled_done Authorized name s = inl refl
settled_done Default name s = inl refl
settled_done Remove name s = elim (settled_removed name s) [ inl e ↦ inl e | inr e ↦ inr (refl, e.0, e.1, e.2) ]

pub reject_removed : (name : List ℕ) (s : Standing) → same_name s.name name ≡ true → is_reject s.verdict ≡ true → removed_of name true s ≡ true
reject_removed name s e r = ap (λ (t : Bool). cond t (s.removed || is_reject s.verdict) s.removed) e
    ∙ ap (λ (t : Bool). s.removed || t) r ∙ or_right s.removed true refl

-- names of a list

pub listed_is : (names : List (List ℕ)) (name : List ℕ) → Has names name → lists names name ≡ true
listed_is [] name a = absurd a
listed_is (n ∷ names) name (inl e) = let same = is_same n name e in grind (arith, same)
listed_is (n ∷ names) name (inr a) = let rest = listed_is names name a in grind (arith, rest)

pub lists_has : (names : List (List ℕ)) (name : List ℕ) → lists names name ≡ true → Has names name
lists_has [] name e = let none : ⊥ = cc in absurd none
lists_has (n ∷ names) name e = elim (or_cases (same_name n name) (lists names name) e) [ inl h ↦ inl (same_is n name h) | inr h ↦ inr (lists_has names name h) ]

pub either_listed : (names : List (List ℕ)) (name : List ℕ) → Has names name ⊎ (Has names name → ⊥)
either_listed names name = elim (cases_Bool (lists names name)) [ inl e ↦ inl (lists_has names name e) | inr e ↦ inr (λ h. both_ways (lists names name) e (listed_is names name h)) ]

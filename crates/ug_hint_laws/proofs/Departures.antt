-- Departures: the standings that are dropped, and the order in which they are told.
use Rattle.std.proofs.Common.{◌≡◌, ℕ, Bool, true, false, not, cond, List, [], ◌∷◌, ◌++◌, map, refl, sym, ◌∙◌, ap, subst, inl, inr, append_assoc, true≢false}
use Rattle.std.proofs.lemmas.List.Sorted.{IsPermutation-filter_both, IsPermutation-map}
use Rattle.std.specs.List.{filter, flat_map}
use Rattle.std.specs.List.Sorted.{IsPermutation}
use Rattle.ug_types.specs.Elements.{Has}
use Rattle.ug_audit.specs.declared.entry.Entry.{Entry}
use Rattle.ug_table.specs.Standings.{farewells, lists, same_name, without}
use Rattle.ug_table.specs.declared.standing.Standing.{Standing}
use Rattle.ug_table.proofs.NamedStandings.{same_is}
use Rattle.ug_hint_laws.specs.Compared.{departure_in, other_than_departure}
use Rattle.ug_hint_laws.proofs.Filters.{filter_filter, of_live}
use Rattle.ug_hint_laws.proofs.Gone.{departures}

map_append : (f : Standing → Entry) (xs ys : List Standing) → map f (xs ++ ys) ≡ map f xs ++ map f ys
map_append f [] ys = refl
map_append f (x ∷ xs) ys = ap (λ (v : List Entry). f x ∷ v) (map_append f xs ys)

pub flat_append : {A B : Type 0} (f : A → List B) (xs ys : List A) → flat_map f (xs ++ ys) ≡ flat_map f xs ++ flat_map f ys
flat_append f [] ys = refl
flat_append f (x ∷ xs) ys = ap (λ (v : List _). f x ++ v) (flat_append f xs ys) ∙ sym (append_assoc (f x) (flat_map f xs) (flat_map f ys))

-- what is told of departures alone

only_gone : (ss : List Standing) → flat_map departure_in (map (λ s. Entry.Gone s.number s.name) ss) ≡ map (λ s. Entry.Gone s.number s.name) ss
only_gone [] = refl
only_gone (s ∷ ss) = ap (λ (v : List Entry). Entry.Gone s.number s.name ∷ v) (only_gone ss)

none_other : (ss : List Standing) → flat_map other_than_departure (map (λ s. Entry.Gone s.number s.name) ss) ≡ []
none_other [] = refl
none_other (s ∷ ss) = none_other ss

pub told_gone : (test : Standing → Bool) (ss : List Standing) → flat_map departure_in (departures test ss) ≡ departures test ss
told_gone test ss = only_gone (filter test ss)

pub told_other : (test : Standing → Bool) (ss : List Standing) → flat_map other_than_departure (departures test ss) ≡ []
told_other test ss = none_other (filter test ss)

pub farewells_are : (names : List (List ℕ)) (ss : List Standing) → farewells names ss ≡ departures (λ s. not (lists names s.name)) ss
farewells_are names [] = refl
farewells_are names (s ∷ ss) = by (farewells_are names ss) (lists names s.name)
  where
    rest : List Standing
    rest = filter (λ s. not (lists names s.name)) ss

    by : farewells names ss ≡ departures (λ s. not (lists names s.name)) ss → (b : Bool) → cond b (farewells names ss) (Entry.Gone s.number s.name ∷ farewells names ss) ≡ map (λ s. Entry.Gone s.number s.name) (cond (not b) (s ∷ rest) rest)
    by e true = e
    by e false = ap (λ (v : List Entry). Entry.Gone s.number s.name ∷ v) e

-- a test that is within another
pub absorbed : (p q : Standing → Bool) → ((s : Standing) → p s ≡ true → q s ≡ true) → (ss : List Standing) → filter p (filter q ss) ≡ filter p ss
absorbed p q h [] = refl
absorbed p q h (s ∷ ss) = by (absorbed p q h ss) (p s) refl (q s) refl
  where
    by : filter p (filter q ss) ≡ filter p ss → (a : Bool) → p s ≡ a → (b : Bool) → q s ≡ b → filter p (cond b (s ∷ filter q ss) (filter q ss)) ≡ cond a (s ∷ filter p ss) (filter p ss)
    by rest a e true f = ap (λ (v : Bool). cond v (s ∷ filter p (filter q ss)) (filter p (filter q ss))) e ∙ ap (λ (v : List Standing). cond a (s ∷ v) v) rest
    by rest false e false f = rest
    by rest true e false f = absurd (true≢false (sym (h s e) ∙ f))

module _ (alive : List ℕ → Bool) where
  abbrev pub is_dead : Standing → Bool
  is_dead s = not (alive s.name)

  dead_is : (s : Standing) → alive s.name ≡ false → is_dead s ≡ true
  dead_is s e = ap not e

  not_true : (b : Bool) → not b ≡ true → b ≡ false
  not_true true e = absurd (true≢false (sym e))
  not_true false e = refl

  -- those of names that no live device bears: what some test picks of them, and the others
  pub split_dead : (p q : Standing → Bool) → ((s : Standing) → q s ≡ not (p s)) → ((s : Standing) → p s ≡ true → alive s.name ≡ false) → (ss : List Standing) → IsPermutation (departures is_dead ss) (departures p ss ++ departures is_dead (filter q ss))
  split_dead p q other within ss =
      let gone : Standing → Entry = λ s. Entry.Gone s.number s.name in
      let both : IsPermutation (filter is_dead ss) (filter p (filter is_dead ss) ++ filter q (filter is_dead ss)) = IsPermutation-filter_both p q other (filter is_dead ss) in
      let one : IsPermutation (departures is_dead ss) (map gone (filter p (filter is_dead ss) ++ filter q (filter is_dead ss))) = IsPermutation-map gone (filter is_dead ss) (filter p (filter is_dead ss) ++ filter q (filter is_dead ss)) both in
      let same : map gone (filter p (filter is_dead ss) ++ filter q (filter is_dead ss)) ≡ departures p ss ++ departures is_dead (filter q ss) =
      map_append gone (filter p (filter is_dead ss)) (filter q (filter is_dead ss))
      ∙ ap (λ (v : List Standing). map gone v ++ map gone (filter q (filter is_dead ss))) (absorbed p is_dead (λ s e. dead_is s (within s e)) ss)
      ∙ ap (λ (v : List Standing). departures p ss ++ map gone v) (filter_filter q is_dead ss) in
      subst (IsPermutation (departures is_dead ss)) same one

  -- the standings of a live name are no such
  pub dead_beside : (name : List ℕ) (ss : List Standing) → alive name ≡ true → filter is_dead (without name ss) ≡ filter is_dead ss
  dead_beside name ss own = absorbed is_dead (λ s. not (same_name s.name name)) (λ s e. apart s (same_name s.name name) refl e) ss
    where
      apart : (s : Standing) (b : Bool) → same_name s.name name ≡ b → is_dead s ≡ true → not b ≡ true
      apart s false e d = refl
      apart s true e d = absurd (true≢false (sym own ∙ ap alive (sym (same_is s.name name e)) ∙ not_true (alive s.name) d))

  pub dead_stay : (name : List ℕ) (ss rs : List Standing) → alive name ≡ true → without name rs ≡ without name ss → departures is_dead rs ≡ departures is_dead ss
  dead_stay name ss rs own e = ap (λ (v : List Standing). map (λ s. Entry.Gone s.number s.name) v) (sym (dead_beside name rs own) ∙ ap (filter is_dead) e ∙ dead_beside name ss own)

  -- and those of a name that no live device bears are none of the live ones'
  pub live_beside : (name : List ℕ) (ss : List Standing) → alive name ≡ false → of_live alive (without name ss) ≡ of_live alive ss
  live_beside name ss none = absorbed (λ s. alive s.name) (λ s. not (same_name s.name name)) (λ s e. apart s (same_name s.name name) refl e) ss
    where
      apart : (s : Standing) (b : Bool) → same_name s.name name ≡ b → alive s.name ≡ true → not b ≡ true
      apart s false e d = refl
      apart s true e d = absurd (true≢false (sym d ∙ ap alive (same_is s.name name e) ∙ none))

  -- where each has a live name
  pub all_live : (ss : List Standing) → ((s : Standing) → Has ss s → alive s.name ≡ true) → of_live alive ss ≡ ss
  all_live [] h = refl
  all_live (s ∷ ss) h = ap (λ (b : Bool). cond b (s ∷ of_live alive ss) (of_live alive ss)) (h s (inl refl)) ∙ ap (λ (v : List Standing). s ∷ v) (all_live ss (λ x a. h x (inr a)))

  pub none_dead : (ss : List Standing) → ((s : Standing) → Has ss s → alive s.name ≡ true) → departures is_dead ss ≡ []
  none_dead ss h = ap (λ (v : List Standing). map (λ s. Entry.Gone s.number s.name) v) (by ss h)
    where
      by : (ss : List Standing) → ((s : Standing) → Has ss s → alive s.name ≡ true) → filter is_dead ss ≡ []
      by [] h = refl
      by (s ∷ ss) h = ap (λ (b : Bool). cond (not b) (s ∷ filter is_dead ss) (filter is_dead ss)) (h s (inl refl)) ∙ by ss (λ x a. h x (inr a))

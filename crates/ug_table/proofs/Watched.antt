-- A query whose answer is at hand, through what changes the standings.
use Rattle.std.proofs.Common.{◌≡◌, ℕ, Bool, true, false, ◌||◌, cond, List, [], ◌∷◌, map, Option, Some, None, refl, sym, ◌∙◌, ap, subst, inl, inr, ◌⊎◌}
use Rattle.std.proofs.lemmas.Bool.{both_ways, false_from_ne_true}
use Rattle.std.specs.List.{filter, insert, list_any}
use Rattle.ug_types.specs.Elements.{Has, AllDistinct}
use Rattle.ug_types.proofs.Elements.{filter_has, map_has, insert_has, distinct_one}
use Rattle.ug_types.specs.declared.rule.Query.{Query}
use Rattle.ug_table.specs.declared.standing.Standing.{Standing}
use Rattle.ug_table.specs.declared.watch.Watch.{Watch}
use Rattle.ug_table.specs.Allowed.{matches_allowed}
use Rattle.ug_table.specs.Standings.{named}
use Rattle.ug_table.specs.Sweep.{names_of}
use Rattle.ug_table.specs.Watched.{AnswersFor, if_looked, looked_at}
use Rattle.ug_table.proofs.MapChanges.{either_named, named_has, unnamed}

or_true : (b : Bool) → (b || true) ≡ true
or_true true = refl
or_true false = refl

pub any_has : (p : Standing → Bool) (ss : List Standing) (s : Standing) → Has ss s → p s ≡ true → list_any p ss ≡ true
any_has p [] s h t = absurd h
any_has p (x ∷ xs) s (inl is) t = ap (λ (b : Bool). b || list_any p xs) (subst (λ (v : Standing). p v ≡ true) (sym is) t)
any_has p (x ∷ xs) s (inr a) t = ap (λ (b : Bool). p x || b) (any_has p xs s a t) ∙ or_true (p x)

pub any_none : (p : Standing → Bool) (ss : List Standing) → list_any p ss ≡ false → (s : Standing) → Has ss s → p s ≡ false
any_none p ss e s h = false_from_ne_true (p s) (λ t. both_ways (list_any p ss) e (any_has p ss s h t))

pub none_any : (p : Standing → Bool) (ss : List Standing) → ((s : Standing) → Has ss s → p s ≡ false) → list_any p ss ≡ false
none_any p [] h = refl
none_any p (s ∷ ss) h = ap (λ (b : Bool). b || list_any p ss) (h s (inl refl)) ∙ none_any p ss (λ x a. h x (inr a))

-- those that were there before, and one that it was held against
pub answers_beside : (w : Option Watch) (ss rs : List Standing) (x : Standing) → ((s : Standing) → Has rs s → (x ≡ s) ⊎ Has ss s) → AnswersFor w ss → AnswersFor (looked_at x w) rs
answers_beside None ss rs x from h = tt
answers_beside (Some w) ss rs x from h = by (matches_allowed w.query x) refl
  where
    by : (b : Bool) → matches_allowed w.query x ≡ b → AnswersFor (Some (record w { found = cond b (Some x.name) w.found })) rs
    by true e none = let no : ⊥ = cc in absurd no
    by false e none = λ s a. elim (from s a) [
      | inl is ↦ subst (λ (v : Standing). matches_allowed w.query v ≡ false) is e
      | inr b ↦ h none s b
    ]

pub answers_put : (w : Option Watch) (ss : List Standing) (i : ℕ) (x : Standing) → AnswersFor w ss → AnswersFor (looked_at x w) (insert ss i x)
answers_put w ss i x h = answers_beside w ss (insert ss i x) x (insert_has ss i x) h

-- fewer of them
pub answers_fewer : (w : Option Watch) (ss rs : List Standing) → ((s : Standing) → Has rs s → Has ss s) → AnswersFor w ss → AnswersFor w rs
answers_fewer None ss rs from h = tt
answers_fewer (Some w) ss rs from h = λ none s a. h none s (from s a)

pub answers_kept : (w : Option Watch) (ss : List Standing) (p : Standing → Bool) → AnswersFor w ss → AnswersFor w (filter p ss)
answers_kept w ss p h = answers_fewer w ss (filter p ss) (λ s a. (filter_has p ss s a).0) h

-- what changes nothing that a query sees
pub answers_same : (f : Standing → Standing) → ((q : Query) (s : Standing) → matches_allowed q (f s) ≡ matches_allowed q s) → (w : Option Watch) (ss : List Standing) → AnswersFor w ss → AnswersFor w (map f ss)
answers_same f same None ss h = tt
answers_same f same (Some w) ss h = λ none s a. let k = map_has f ss s a in subst (λ (v : Standing). matches_allowed w.query v ≡ false) k.2 (same w.query k.0 ∙ h none k.0 k.1)

-- what changes the standing of a name, which it is then held against
pub answers_again : (f : Standing → Standing) (name : List ℕ) (w : Option Watch) (ss : List Standing) → ((s : Standing) → (f s).name ≡ s.name) → ((s : Standing) → Has ss s → (s.name ≡ name → ⊥) → f s ≡ s) → AllDistinct (names_of (map f ss)) → AnswersFor w ss → AnswersFor (if_looked (named name (map f ss)) w) (map f ss)
answers_again f name w ss names others d h = by (named name (map f ss)) refl
  where
    other : (s : Standing) → Has (map f ss) s → (s.name ≡ name → ⊥) → Has ss s
    other s a ne =
        let k = map_has f ss s a in
        let was : f k.0 ≡ k.0 = others k.0 k.1 (λ e. ne (ap (λ (v : Standing). v.name) (sym k.2) ∙ names k.0 ∙ e)) in
        subst (λ (v : Standing). Has ss v) (sym was ∙ k.2) k.1

    by : (o : Option Standing) → named name (map f ss) ≡ o → AnswersFor (if_looked o w) (map f ss)
    by None q = answers_fewer w ss (map f ss) (λ s a. other s a (λ e. unnamed name (map f ss) s q a e)) h
    by (Some y) q = answers_beside w ss (map f ss) y
        (λ s a. elim (either_named name s) [
          | inl e ↦ (let k = named_has name (map f ss) y q in inl (distinct_one (λ (v : Standing). v.name) (map f ss) y s d k.0 a (k.1 ∙ sym e)))
          | inr ne ↦ inr (other s a ne)
        ]) h

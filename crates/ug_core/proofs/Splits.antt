-- Where an element stands in lists that are joined.
use Rattle.std.proofs.Common.{◌≡◌, List, [], ◌∷◌, ◌++◌, ◌⊎◌, inl, inr, refl, sym, ◌∙◌, ap, append-nil}
use Rattle.ug_types.specs.Elements.{Has}

-- in the first of two
pub record Cut {X : Type 0} (fs cs : List X) (x : X) : Type 0 where
  pub rest : List X
  pub here : fs ≡ cs ++ x ∷ rest

-- in the second
pub record Past {X : Type 0} (fs bs cs : List X) (x : X) (ds : List X) : Type 0 where
  pub more : List X
  pub beyond : cs ≡ fs ++ more
  pub there : bs ≡ more ++ x ∷ ds

pub where_cut : {X : Type 0} (fs bs cs : List X) (x : X) (ds : List X) → fs ++ bs ≡ cs ++ x ∷ ds → Cut fs cs x ⊎ Past fs bs cs x ds
where_cut [] bs cs x ds e = inr (record { more = cs; beyond = refl; there = e })
where_cut (a ∷ fs) bs [] x ds e = let head : a ≡ x = cc in inl (record { rest = fs; here = ap (λ (y : _). y ∷ fs) head })
where_cut {X} (a ∷ fs) bs (c ∷ cs) x ds e =
    let head : a ≡ c = cc in
    let tail : fs ++ bs ≡ cs ++ x ∷ ds = cc in
    elim (where_cut fs bs cs x ds tail) [
      | inl h ↦ inl (record { rest = h.rest; here = ap (λ (y : X). y ∷ fs) head ∙ ap (λ (l : List X). c ∷ l) h.here })
      | inr h ↦ inr (record { more = h.more; beyond = ap (λ (y : X). y ∷ cs) (sym head) ∙ ap (λ (l : List X). a ∷ l) h.beyond; there = h.there })
    ]

pub never_in : {X : Type 0} (cs : List X) (x : X) (ds : List X) → [] ≡ cs ++ x ∷ ds → ⊥
never_in [] x ds e = let none : ⊥ = cc in none
never_in (c ∷ cs) x ds e = let none : ⊥ = cc in none

-- in a list of one
pub only_one : {X : Type 0} (a : X) (cs : List X) (x : X) (ds : List X) → a ∷ [] ≡ cs ++ x ∷ ds → (cs ≡ []) × (a ≡ x)
only_one a [] x ds e = let head : a ≡ x = cc in (refl, head)
only_one a (c ∷ cs) x ds e = let tail : [] ≡ cs ++ x ∷ ds = cc in absurd (never_in cs x ds tail)

-- in a list with one more
pub where_last : {X : Type 0} (fs : List X) (a : X) (cs : List X) (x : X) (ds : List X) → fs ++ a ∷ [] ≡ cs ++ x ∷ ds → Cut fs cs x ⊎ ((fs ≡ cs) × (a ≡ x))
where_last {X} fs a cs x ds e = elim (where_cut fs (a ∷ []) cs x ds e) [
  | inl c ↦ inl c
  | inr p ↦
      let one = only_one a p.more x ds p.there in
      inr (sym (append-nil fs) ∙ ap (λ (l : List X). fs ++ l) (sym one.0) ∙ sym p.beyond, one.1)
]

-- what a list has is at a place of it
pub place_of : {X : Type 0} (xs : List X) (x : X) → Has xs x → (cs : List X) × (ds : List X) × (xs ≡ cs ++ x ∷ ds)
place_of [] x h = absurd h
place_of {X} (y ∷ xs) x (inl same) = ([], xs, ap (λ (z : X). z ∷ xs) same)
place_of {X} (y ∷ xs) x (inr h) = let k = place_of xs x h in (y ∷ k.0, k.1, ap (λ (l : List X). y ∷ l) k.2)

pub has_at : {X : Type 0} (cs : List X) (x : X) (ds : List X) → Has (cs ++ x ∷ ds) x
has_at [] x ds = inl refl
has_at (c ∷ cs) x ds = inr (has_at cs x ds)

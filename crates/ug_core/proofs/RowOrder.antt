-- Standings by number.
use Rattle.std.proofs.Common.{◌≡◌, ℕ, ◌<◌, ◌⊎◌, inl, inr, Bool, true, false, cond, nat_lt, List, [], ◌∷◌, refl, sym, ap, subst, ◌∙◌, arith}
use Rattle.ug_types.specs.Elements.{Has, AllDistinct}
use Rattle.ug_types.proofs.Elements.{has_map}
use Rattle.ug_table.specs.Laws.{numbers_of}
use Rattle.ug_table.specs.declared.standing.Standing.{Standing}
use Rattle.ug_core.specs.DeviceRows.{AreRising, by_number, number_placed}

-- ---- the same standings

in_placed : (s : Standing) (xs : List Standing) (t : Standing) → Has (number_placed s xs) t → (s ≡ t) ⊎ Has xs t
in_placed s [] t h = h
in_placed s (x ∷ xs) t h =
    elim (nat_lt x.number s.number) as (λ (b : Bool). Has (cond b (x ∷ number_placed s xs) (s ∷ x ∷ xs)) t → (s ≡ t) ⊎ Has (x ∷ xs) t) [
      | true ↦ λ a. elim a [
        | inl e ↦ inr (inl e)
        | inr b ↦ elim (in_placed s xs t b) [ inl e ↦ inl e | inr c ↦ inr (inr c) ]
      ]
      | false ↦ λ a. a
    ] h

placed_in : (s : Standing) (xs : List Standing) (t : Standing) → (s ≡ t) ⊎ Has xs t → Has (number_placed s xs) t
placed_in s [] t h = h
placed_in s (x ∷ xs) t h =
    elim (nat_lt x.number s.number) as (λ (b : Bool). (s ≡ t) ⊎ Has (x ∷ xs) t → Has (cond b (x ∷ number_placed s xs) (s ∷ x ∷ xs)) t) [
      | true ↦ λ a. elim a [
        | inl e ↦ inr (placed_in s xs t (inl e))
        | inr b ↦ elim b [ inl e ↦ inl e | inr c ↦ inr (placed_in s xs t (inr c)) ]
      ]
      | false ↦ λ a. a
    ] h

pub by_has : (ss : List Standing) (t : Standing) → Has (by_number ss) t → Has ss t
by_has [] t h = h
by_has (s ∷ ss) t h = elim (in_placed s (by_number ss) t h) [ inl e ↦ inl e | inr a ↦ inr (by_has ss t a) ]

pub has_by : (ss : List Standing) (t : Standing) → Has ss t → Has (by_number ss) t
has_by [] t h = h
has_by (s ∷ ss) t (inl e) = placed_in s (by_number ss) t (inl e)
has_by (s ∷ ss) t (inr a) = placed_in s (by_number ss) t (inr (has_by ss t a))

-- ---- their numbers rise

below : (m n : ℕ) → nat_lt m n ≡ true → m < n
below m n e = grind arith

above : (m n : ℕ) → nat_lt m n ≡ false → (m ≡ n → ⊥) → n < m
above m n e apart = grind arith

placed_rising : (s : Standing) (xs : List Standing) → AreRising xs → ((t : Standing) → Has xs t → t.number ≡ s.number → ⊥) → AreRising (number_placed s xs)
placed_rising s [] r apart = (λ t a. absurd a, tt)
placed_rising s (x ∷ xs) r apart = by (nat_lt x.number s.number) refl (placed_rising s xs r.1 (λ t a. apart t (inr a)))
  where
    by : (b : Bool) → nat_lt x.number s.number ≡ b → AreRising (number_placed s xs) → AreRising (cond b (x ∷ number_placed s xs) (s ∷ x ∷ xs))
    by true e rest = (
      λ t a. elim (in_placed s xs t a) [
        | inl is ↦ subst (λ (v : Standing). x.number < v.number) is (below x.number s.number e)
        | inr c ↦ r.0 t c
      ],
      rest,
    )
    by false e rest =
        let first : s.number < x.number = above x.number s.number e (apart x (inl refl)) in (
          λ t a. elim a [
            | inl is ↦ subst (λ (v : Standing). s.number < v.number) is first
            | inr c ↦ let later : x.number < t.number = r.0 t c in omega arith
          ],
          r,
        )

pub rising_by : (ss : List Standing) → AllDistinct (numbers_of ss) → AreRising (by_number ss)
rising_by [] d = tt
rising_by (s ∷ ss) d =
    placed_rising s (by_number ss) (rising_by ss d.1)
    (λ t a e. d.0 (subst (λ (v : ℕ). Has (numbers_of ss) v) e (has_map (λ (x : Standing). x.number) ss t (by_has ss t a))))

-- ---- in one way

first_is : (x y : Standing) (xs ys : List Standing) → AreRising (x ∷ xs) → AreRising (y ∷ ys) → Has (y ∷ ys) x → Has (x ∷ xs) y → x ≡ y
first_is x y xs ys r q (inl e) b = sym e
first_is x y xs ys r q (inr a) (inl e) = e
first_is x y xs ys r q (inr a) (inr b) =
    let up : x.number < y.number = r.0 y b in
    let down : y.number < x.number = q.0 x a in
    absurd (omega arith)

rest_has : (x : Standing) (xs ys : List Standing) (s : Standing) → AreRising (x ∷ xs) → Has xs s → Has (x ∷ ys) s → Has ys s
rest_has x xs ys s r a (inl e) =
    let up : x.number < s.number = r.0 s a in
    let same : x.number ≡ s.number = ap (λ (v : Standing). v.number) e in
    absurd (omega arith)
rest_has x xs ys s r a (inr b) = b

pub one_order : (xs ys : List Standing) → AreRising xs → AreRising ys → ((s : Standing) → Has xs s → Has ys s) → ((s : Standing) → Has ys s → Has xs s) → xs ≡ ys
one_order [] [] r q f g = refl
one_order [] (y ∷ ys) r q f g = absurd (g y (inl refl))
one_order (x ∷ xs) [] r q f g = absurd (f x (inl refl))
one_order (x ∷ xs) (y ∷ ys) r q f g =
    let e : x ≡ y = first_is x y xs ys r q (f x (inl refl)) (g y (inl refl)) in
    ap (λ (v : Standing). v ∷ xs) e
    ∙ ap (λ (vs : List Standing). y ∷ vs) (one_order xs ys r.1 q.1
    (λ s a. rest_has x xs ys s r a (subst (λ (v : Standing). Has (v ∷ ys) s) (sym e) (f s (inr a))))
    (λ s b. rest_has y ys xs s q b (subst (λ (v : Standing). Has (v ∷ xs) s) e (g s (inr b)))))

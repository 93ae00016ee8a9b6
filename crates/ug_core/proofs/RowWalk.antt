-- The walk over standings by number.
use Rattle.std.proofs.Common.{◌≡◌, ℕ, ◌+◌, ◌<◌, ◌≤◌, inl, inr, Bool, true, false, cond, nat_lt, map, List, [], ◌∷◌, ◌++◌, Some, None, refl, sym, ap, ◌∙◌, arith}
use Rattle.std.proofs.lemmas.List.{map-append}
use Rattle.ug_types.specs.Elements.{Has, AllDistinct}
use Rattle.ug_table.specs.Laws.{numbers_of}
use Rattle.ug_table.specs.Standings.{numbered}
use Rattle.ug_table.specs.declared.standing.Standing.{Standing}
use Rattle.ug_table.proofs.NamedStandings.{numbered_has}
use Rattle.ug_core.specs.DeviceRows.{AreRising, IsFirstFrom, by_number, device_row, device_rows}
use Rattle.ug_core.proofs.RowOrder.{by_has, has_by, rising_by}

-- ---- one step

pub first_at : (number : ℕ) (ss : List Standing) (s : Standing) → numbered number ss ≡ Some s → IsFirstFrom ss number (Some s)
first_at number ss s e =
    let h = numbered_has number ss s e in
    let same : s.number ≡ number = h.1 in
    (h.0, omega arith, λ t a l. omega (arith, l))

-- ---- those that were passed

-- the standings up to the first whose number isn't below this one
abbrev pub passed : ℕ → List Standing → List Standing
passed number [] = []
passed number (x ∷ xs) = cond (nat_lt x.number number) (x ∷ passed number xs) []

passed_low : (number : ℕ) (x : Standing) (xs : List Standing) → x.number < number → passed number (x ∷ xs) ≡ x ∷ passed number xs
passed_low number x xs h = let e : nat_lt x.number number ≡ true = grind arith in ap (λ (b : Bool). cond b (x ∷ passed number xs) []) e

passed_high : (number : ℕ) (x : Standing) (xs : List Standing) → number ≤ x.number → passed number (x ∷ xs) ≡ []
passed_high number x xs h = let e : nat_lt x.number number ≡ false = grind arith in ap (λ (b : Bool). cond b (x ∷ passed number xs) []) e

passed_none : (number : ℕ) (xs : List Standing) → ((t : Standing) → Has xs t → number ≤ t.number) → passed number xs ≡ []
passed_none number [] h = refl
passed_none number (x ∷ xs) h = passed_high number x xs (h x (inl refl))

passed_all : (number : ℕ) (xs : List Standing) → ((t : Standing) → Has xs t → t.number < number) → passed number xs ≡ xs
passed_all number [] h = refl
passed_all number (x ∷ xs) h = passed_low number x xs (h x (inl refl)) ∙ ap (λ (v : List Standing). x ∷ v) (passed_all number xs (λ t a. h t (inr a)))

low_by : (from x s : ℕ) (b : Bool) → nat_lt x from ≡ b → x < s → (from ≤ x → s ≤ x) → x < from
low_by from x s true e up least = grind arith
low_by from x s false e up least = let high : from ≤ x = grind arith in let none : s ≤ x = least high in absurd (omega arith)

passed_more : (from : ℕ) (s : Standing) (xs : List Standing) → AreRising xs → Has xs s → from ≤ s.number → ((t : Standing) → Has xs t → from ≤ t.number → s.number ≤ t.number) → passed (s.number + 1) xs ≡ passed from xs ++ s ∷ []
passed_more from s [] r a l h = absurd a
passed_more from s (x ∷ xs) r (inl e) l h =
    let same : x.number ≡ s.number = ap (λ (v : Standing). v.number) e in
    passed_low (s.number + 1) x xs (omega arith)
    ∙ ap (λ (v : List Standing). x ∷ v) (passed_none (s.number + 1) xs (λ t b. let up : x.number < t.number = r.0 t b in omega arith))
    ∙ ap (λ (v : Standing). v ∷ []) e
    ∙ sym (ap (λ (v : List Standing). v ++ s ∷ []) (passed_high from x xs (omega arith)))
passed_more from s (x ∷ xs) r (inr a) l h =
    let up : x.number < s.number = r.0 s a in
    let low : x.number < from = low_by from x.number s.number (nat_lt x.number from) refl up (h x (inl refl)) in
    passed_low (s.number + 1) x xs (omega arith)
    ∙ ap (λ (v : List Standing). x ∷ v) (passed_more from s xs r.1 a l (λ t b. h t (inr b)))
    ∙ sym (ap (λ (v : List Standing). v ++ s ∷ []) (passed_low from x xs low))

-- ---- and their rows

pub rows_none : (ss : List Standing) → [] ≡ map device_row (passed 0 (by_number ss))
rows_none ss = ap (map device_row) (sym (passed_none 0 (by_number ss) (λ t a. omega arith)))

pub rows_more : (ss : List Standing) (from : ℕ) (s : Standing) (rows : List (List ℕ)) (row : List ℕ) → AllDistinct (numbers_of ss) → IsFirstFrom ss from (Some s) → row ≡ device_row s → rows ≡ map device_row (passed from (by_number ss)) → rows ++ row ∷ [] ≡ map device_row (passed (s.number + 1) (by_number ss))
rows_more ss from s rows row d h is e =
    ap (λ (v : List (List ℕ)). v ++ row ∷ []) e
    ∙ ap (λ (v : List ℕ). map device_row (passed from (by_number ss)) ++ v ∷ []) is
    ∙ sym (map-append device_row (passed from (by_number ss)) (s ∷ []))
    ∙ ap (map device_row) (sym (passed_more from s (by_number ss) (rising_by ss d) (has_by ss s h.0) h.1 (λ t a l. h.2 t (by_has ss t a) l)))

pub rows_all : (ss : List Standing) (from : ℕ) → IsFirstFrom ss from None → map device_row (passed from (by_number ss)) ≡ device_rows ss
rows_all ss from h = ap (map device_row) (passed_all from (by_number ss) (λ t a. h t (by_has ss t a)))

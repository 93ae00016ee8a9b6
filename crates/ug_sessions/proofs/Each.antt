-- A loop that changes each element of a list.
use Rattle.std.proofs.Common.{◌≡◌, ℕ, ◌+◌, ◌<◌, ◌≤◌, List, [], ◌∷◌, ◌++◌, length, get_or, take, drop, set, sym, ◌∙◌, subst, arith}
use Rattle.std.proofs.lemmas.List.{drop_more, take_more, take_more_set, take_all, drop-set-lt}
use Rattle.std.proofs.lemmas.Grind.{drop_more_same}
use Rattle.ug_sessions.specs.Answering.{Each}

pub each_behind : {A : Type 0} (R : A → A → Type 0) (xs ys : List A) (a b : A) → Each R xs ys → R a b → Each R (xs ++ a ∷ []) (ys ++ b ∷ [])
each_behind R [] [] a b h k = (k, tt)
each_behind R [] (y ∷ ys) a b h k = absurd h
each_behind R (x ∷ xs) [] a b h k = absurd h
each_behind R (x ∷ xs) (y ∷ ys) a b h k = (h.0, each_behind R xs ys a b h.1 k)

pub each_append : {A : Type 0} (R : A → A → Type 0) (xs ys as_ bs : List A) → Each R xs ys → Each R as_ bs → Each R (xs ++ as_) (ys ++ bs)
each_append R [] [] as_ bs h k = k
each_append R [] (y ∷ ys) as_ bs h k = absurd h
each_append R (x ∷ xs) [] as_ bs h k = absurd h
each_append R (x ∷ xs) (y ∷ ys) as_ bs h k = (h.0, each_append R xs ys as_ bs h.1 k)

-- old is the list as it was, xs as it is now
pub each_more : {A : Type 0} (R : A → A → Type 0) (old xs : List A) (i : ℕ) (d b : A) → i < length xs → length xs ≡ length old → drop i xs ≡ drop i old → Each R (take i old) (take i xs) → R (get_or xs i d) b → Each R (take (i + 1) old) (take (i + 1) (set xs i b))
each_more {A = A} R old xs i d b lt len same h k =
    let lo : i < length old = omega arith in
    let here : get_or xs i d ∷ drop (i + 1) xs ≡ get_or old i d ∷ drop (i + 1) old = sym (drop_more xs i d lt) ∙ same ∙ drop_more old i d lo in
    let at : get_or xs i d ≡ get_or old i d = cc in
    let now : Each R (take i old ++ get_or old i d ∷ []) (take i xs ++ b ∷ []) = each_behind R (take i old) (take i xs) (get_or old i d) b h (subst (λ (a : A). R a b) at k) in
    subst (λ (ys : List A). Each R (take (i + 1) old) ys) (sym (take_more_set xs i b lt)) (subst (λ (ys : List A). Each R ys (take i xs ++ b ∷ [])) (sym (take_more old i d lo)) now)

pub each_done : {A : Type 0} (R : A → A → Type 0) (old xs : List A) (i : ℕ) → length xs ≤ i → length xs ≡ length old → Each R (take i old) (take i xs) → Each R old xs
each_done {A = A} R old xs i le len h =
    subst (λ (ys : List A). Each R old ys) (take_all i xs le) (subst (λ (ys : List A). Each R ys (take i xs)) (take_all i old (omega arith)) h)

pub rest_same : {A : Type 0} (old xs : List A) (i : ℕ) (b : A) → drop i xs ≡ drop i old → drop (i + 1) (set xs i b) ≡ drop (i + 1) old
rest_same old xs i b same = drop-set-lt (i + 1) xs i b (omega arith) ∙ drop_more_same xs old i same

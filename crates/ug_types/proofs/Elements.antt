-- The elements of lists that were made of others.
use Rattle.std.proofs.Common.{◌≡◌, ℕ, Bool, true, false, List, [], ◌∷◌, ◌++◌, map, cond, take, drop, ◌⊎◌, inl, inr, refl, sym, ◌∙◌, ap, subst}
use Rattle.std.proofs.lemmas.List.{take-append-drop}
use Rattle.std.specs.List.{filter, insert}
use Rattle.ug_types.specs.Elements.{Has, AllDistinct}

pub has_left : {X : Type 0} (xs ys : List X) (x : X) → Has xs x → Has (xs ++ ys) x
has_left [] ys x h = absurd h
has_left (y ∷ xs) ys x (inl h) = inl h
has_left (y ∷ xs) ys x (inr h) = inr (has_left xs ys x h)

pub has_right : {X : Type 0} (xs ys : List X) (x : X) → Has ys x → Has (xs ++ ys) x
has_right [] ys x h = h
has_right (y ∷ xs) ys x h = inr (has_right xs ys x h)

pub has_cases : {X : Type 0} (xs ys : List X) (x : X) → Has (xs ++ ys) x → Has xs x ⊎ Has ys x
has_cases [] ys x h = inr h
has_cases (y ∷ xs) ys x (inl h) = inl (inl h)
has_cases (y ∷ xs) ys x (inr h) = elim (has_cases xs ys x h) [ inl a ↦ inl (inr a) | inr b ↦ inr b ]

-- what passes a test
cond_has : {X : Type 0} (p : X → Bool) (y : X) (ys : List X) (x : X) (b : Bool) → p y ≡ b → Has (cond b (y ∷ ys) ys) x → ((y ≡ x) × (p x ≡ true)) ⊎ Has ys x
cond_has p y ys x true e (inl h) = inl (h, subst (λ v. p v ≡ true) h e)
cond_has p y ys x true e (inr h) = inr h
cond_has p y ys x false e h = inr h

pub filter_has : {X : Type 0} (p : X → Bool) (xs : List X) (x : X) → Has (filter p xs) x → Has xs x × (p x ≡ true)
filter_has p [] x h = absurd h
filter_has p (y ∷ xs) x h = elim (cond_has p y (filter p xs) x (p y) refl h) [
  | inl a ↦ (inl a.0, a.1)
  | inr b ↦ let k = filter_has p xs x b in (inr k.0, k.1)
]

has_cond : {X : Type 0} (p : X → Bool) (y : X) (ys : List X) (x : X) (b : Bool) → p y ≡ b → p x ≡ true → (y ≡ x) ⊎ Has ys x → Has (cond b (y ∷ ys) ys) x
has_cond p y ys x true e t h = h
has_cond p y ys x false e t (inl h) = let none : ⊥ = cc in absurd none
has_cond p y ys x false e t (inr h) = h

pub has_filter : {X : Type 0} (p : X → Bool) (xs : List X) (x : X) → Has xs x → p x ≡ true → Has (filter p xs) x
has_filter p [] x h t = absurd h
has_filter p (y ∷ xs) x (inl h) t = has_cond p y (filter p xs) x (p y) refl t (inl h)
has_filter p (y ∷ xs) x (inr h) t = has_cond p y (filter p xs) x (p y) refl t (inr (has_filter p xs x h t))

pub map_has : {X Y : Type 0} (f : X → Y) (xs : List X) (y : Y) → Has (map f xs) y → (x : X) × Has xs x × (f x ≡ y)
map_has f [] y h = absurd h
map_has f (x ∷ xs) y (inl e) = (x, inl refl, e)
map_has f (x ∷ xs) y (inr h) = let k = map_has f xs y h in (k.0, inr k.1, k.2)

pub has_map : {X Y : Type 0} (f : X → Y) (xs : List X) (x : X) → Has xs x → Has (map f xs) (f x)
has_map f [] x h = absurd h
has_map f (y ∷ xs) x (inl e) = inl (ap f e)
has_map f (y ∷ xs) x (inr h) = inr (has_map f xs x h)

-- one put in
pub insert_has : {X : Type 0} (xs : List X) (i : ℕ) (y x : X) → Has (insert xs i y) x → (y ≡ x) ⊎ Has xs x
insert_has xs i y x h = elim (has_cases (take i xs) (y ∷ drop i xs) x h) [
  | inl a ↦ inr (subst (λ v. Has v x) (take-append-drop i xs) (has_left (take i xs) (drop i xs) x a))
  | inr b ↦ elim b [
    | inl e ↦ inl e
    | inr c ↦ inr (subst (λ v. Has v x) (take-append-drop i xs) (has_right (take i xs) (drop i xs) x c))
  ]
]

pub has_new : {X : Type 0} (xs : List X) (i : ℕ) (y : X) → Has (insert xs i y) y
has_new xs i y = has_right (take i xs) (y ∷ drop i xs) y (inl refl)

pub has_old : {X : Type 0} (xs : List X) (i : ℕ) (y x : X) → Has xs x → Has (insert xs i y) x
has_old xs i y x h = elim (has_cases (take i xs) (drop i xs) x (subst (λ v. Has v x) (sym (take-append-drop i xs)) h)) [
  | inl a ↦ has_left (take i xs) (y ∷ drop i xs) x a
  | inr b ↦ has_right (take i xs) (y ∷ drop i xs) x (inr b)
]

-- no two of what are made of them are alike
pub distinct_filter : {X Y : Type 0} (f : X → Y) (p : X → Bool) (xs : List X) → AllDistinct (map f xs) → AllDistinct (map f (filter p xs))
distinct_filter f p [] h = tt
distinct_filter {X} {Y} f p (x ∷ xs) h =
    let rest = distinct_filter f p xs h.1 in
    let apart : Has (map f (filter p xs)) (f x) → ⊥ = λ a. let k = map_has f (filter p xs) (f x) a in h.0 (subst (λ v. Has (map f xs) v) k.2 (has_map f xs k.0 (filter_has p xs k.0 k.1).0)) in
    elim (p x) as (λ (b : Bool). AllDistinct (map f (cond b (x ∷ filter p xs) (filter p xs)))) [ true ↦ (apart, rest) | false ↦ rest ]

distinct_between : {X Y : Type 0} (f : X → Y) (xs ys : List X) (y : X) → AllDistinct (map f (xs ++ ys)) → (Has (map f (xs ++ ys)) (f y) → ⊥) → AllDistinct (map f (xs ++ y ∷ ys))
distinct_between f [] ys y h n = (n, h)
distinct_between f (x ∷ xs) ys y h n = (
  λ a.
      let k = map_has f (xs ++ y ∷ ys) (f x) a in
      elim (has_cases xs (y ∷ ys) k.0 k.1) [
        | inl b ↦ h.0 (subst (λ v. Has (map f (xs ++ ys)) v) k.2 (has_map f (xs ++ ys) k.0 (has_left xs ys k.0 b)))
        | inr c ↦ elim c [
          | inl e ↦ n (inl (sym (subst (λ v. f v ≡ f x) (sym e) k.2)))
          | inr d ↦ h.0 (subst (λ v. Has (map f (xs ++ ys)) v) k.2 (has_map f (xs ++ ys) k.0 (has_right xs ys k.0 d)))
        ]
      ],
  distinct_between f xs ys y h.1 (λ a. n (inr a)),
)

pub distinct_insert : {X Y : Type 0} (f : X → Y) (xs : List X) (i : ℕ) (y : X) → AllDistinct (map f xs) → (Has (map f xs) (f y) → ⊥) → AllDistinct (map f (insert xs i y))
distinct_insert f xs i y h n =
    let same = sym (take-append-drop i xs) in
    distinct_between f (take i xs) (drop i xs) y (subst (λ v. AllDistinct (map f v)) same h) (λ a. n (subst (λ v. Has (map f v) (f y)) (take-append-drop i xs) a))

pub distinct_one : {X Y : Type 0} (f : X → Y) (xs : List X) (x y : X) → AllDistinct (map f xs) → Has xs x → Has xs y → f x ≡ f y → x ≡ y
distinct_one f [] x y d a b e = absurd a
distinct_one f (z ∷ zs) x y d (inl a) (inl b) e = sym a ∙ b
distinct_one f (z ∷ zs) x y d (inl a) (inr b) e = absurd (d.0 (subst (λ v. Has (map f zs) v) (sym e ∙ ap f (sym a)) (has_map f zs y b)))
distinct_one f (z ∷ zs) x y d (inr a) (inl b) e = absurd (d.0 (subst (λ v. Has (map f zs) v) (e ∙ ap f (sym b)) (has_map f zs x a)))
distinct_one f (z ∷ zs) x y d (inr a) (inr b) e = distinct_one f zs x y d.1 a b e

-- of what was put at an end
pub only_left : {X : Type 0} (xs ys : List X) (x : X) → (Has ys x → ⊥) → Has (xs ++ ys) x → Has xs x
only_left xs ys x none h = elim (has_cases xs ys x h) [ inl a ↦ a | inr b ↦ absurd (none b) ]

pub last_is : {X : Type 0} (xs : List X) (y x : X) → Has (xs ++ y ∷ []) x → Has xs x ⊎ (y ≡ x)
last_is xs y x h = elim (has_cases xs (y ∷ []) x h) [
  | inl a ↦ inl a
  | inr b ↦ elim b [ inl e ↦ inr e | inr n ↦ absurd n ]
]

-- of what was added
pub cancel : {X : Type 0} (xs ys zs : List X) → xs ++ ys ≡ xs ++ zs → ys ≡ zs
cancel [] ys zs e = e
cancel (x ∷ xs) ys zs e = let rest : xs ++ ys ≡ xs ++ zs = cc in cancel xs ys zs rest

pub distinct_append : {X : Type 0} (xs ys : List X) → AllDistinct xs → AllDistinct ys → ((x : X) → Has xs x → Has ys x → ⊥) → AllDistinct (xs ++ ys)
distinct_append [] ys d e apart = e
distinct_append (x ∷ xs) ys d e apart = (λ a. elim (has_cases xs ys x a) [ inl b ↦ d.0 b | inr b ↦ apart x (inl refl) b ], distinct_append xs ys d.1 e (λ y a b. apart y (inr a) b))

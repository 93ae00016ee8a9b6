-- The tests of membership.
use Rattle.std.proofs.Common.{◌≡◌, inl, inr, Bool, true, false, ℕ, List, [], ◌∷◌, map, eq-eqb, refl, sym, ap, subst, ◌∙◌}
use Rattle.std.specs.Prelude.{IsTrue, ◌||◌, ◌&&◌, nat_eq}
use Rattle.std.specs.Bool.{beq}
use Rattle.std.specs.List.{list_any, filter}
use Rattle.std.specs.Cmp.Lexicographic.{pointwise, same_text}
use Rattle.std.proofs.lemmas.Bool.{false≢true}
use Rattle.std.proofs.lemmas.Map.Views.{any-filter_same}
use Rattle.ug_types.specs.Elements.{Has}
use Rattle.ug_types.specs.Principals.{Named, same_principal}
use Rattle.ug_types.specs.declared.access.Section.{Section}
use Rattle.ug_types.specs.declared.access.Privilege.{Privilege}
use Rattle.ug_types.specs.declared.access.Privilege.TheVariants.{Modify, Listen}
use Rattle.ug_types.specs.declared.access.Privilege.TheVariants as privilege
use Rattle.ug_acl.specs.Acls.{Addition, is_allowed}
use Rattle.ug_acl.specs.Pairs.{Pair, all_pairs, same_section, same_privilege, same_pair, holds_privilege}
use Rattle.ug_acl.proofs.SeenSections.{section_same, section_itself}

pub privilege_same : (a b : Privilege) → same_privilege a b ≡ true → a ≡ b
privilege_same Modify Modify e = refl
privilege_same privilege.List privilege.List e = refl
privilege_same Listen Listen e = refl
privilege_same a b e = absurd (false≢true e)

privilege_itself : (a : Privilege) → same_privilege a a ≡ true
privilege_itself Modify = refl
privilege_itself privilege.List = refl
privilege_itself Listen = refl

both_true : (a b : Bool) → a && b ≡ true → (a ≡ true) × (b ≡ true)
both_true true b h = (refl, h)
both_true false b h = absurd (false≢true h)

pub pair_same : (a b : Pair) → same_pair a b ≡ true → a ≡ b
pair_same a b h =
    let k = both_true (same_section a.0 b.0) (same_privilege a.1 b.1) h in
    let s : a.0 ≡ b.0 = section_same a.0 b.0 k.0 in
    let p : a.1 ≡ b.1 = privilege_same a.1 b.1 k.1 in
    λ i. (s i, p i)

pair_itself : (a : Pair) → same_pair a a ≡ true
pair_itself a = rw (section_itself a.0) (privilege_itself a.1)

-- elements that pass a test
any_has : {X : Type 0} (f : X → Bool) (xs : List X) → list_any f xs ≡ true → (x : X) × Has xs x × (f x ≡ true)
any_has f [] h = absurd (false≢true h)
any_has {X} f (x ∷ xs) h = by (f x) refl (λ k. any_has f xs k) h
  where
    by : (v : Bool) → f x ≡ v → (list_any f xs ≡ true → (y : X) × Has xs y × (f y ≡ true)) → v || list_any f xs ≡ true → (y : X) × Has (x ∷ xs) y × (f y ≡ true)
    by true e r k = (x, inl refl, e)
    by false e r k = let m = r k in (m.0, inr m.1, m.2)

has_any : {X : Type 0} (f : X → Bool) (xs : List X) (x : X) → Has xs x → f x ≡ true → list_any f xs ≡ true
has_any f [] x h e = absurd h
has_any f (y ∷ xs) x (inl k) e = ap (λ (v : Bool). v || list_any f xs) (ap f k ∙ e)
has_any f (y ∷ xs) x (inr h) e = by (f y) (has_any f xs x h e)
  where
    by : (v : Bool) → list_any f xs ≡ true → v || list_any f xs ≡ true
    by true k = refl
    by false k = k

held_has : (pairs : List Pair) (section : Section) (p : Privilege) → IsTrue (holds_privilege pairs section p) → Has pairs (section, p)
held_has pairs section p h =
    let m = any_has (λ (pair : Pair). same_pair pair (section, p)) pairs h in
    subst (λ (x : Pair). Has pairs x) (pair_same m.0 (section, p) m.2) m.1

has_held : (pairs : List Pair) (section : Section) (p : Privilege) → Has pairs (section, p) → IsTrue (holds_privilege pairs section p)
has_held pairs section p h = has_any (λ (pair : Pair). same_pair pair (section, p)) pairs (section, p) h (pair_itself (section, p))

pub granted : (pairs : List Pair) (section : Section) (p : Privilege) → (IsTrue (holds_privilege pairs section p) → Has pairs (section, p)) × (Has pairs (section, p) → IsTrue (holds_privilege pairs section p))
granted pairs section p = (held_has pairs section p, has_held pairs section p)

-- a pair that is kept is there
pub kept_held : (kept : Pair → Bool) (section : Section) (p : Privilege) → holds_privilege (filter kept all_pairs) section p ≡ (kept (section, p) && holds_privilege all_pairs section p)
kept_held kept section p =
    any-filter_same (λ (pair : Pair). same_pair pair (section, p)) kept (kept (section, p)) (λ pair e. ap kept (pair_same pair (section, p) e)) all_pairs

-- users and groups that are the same
named_same : (a b : Named) → same_principal a b ≡ true → a ≡ b
named_same a b h =
    let k = both_true (beq a.group b.group) (pointwise nat_eq a.name b.name) h in
    let g : a.group ≡ b.group = group_same a.group b.group k.0 in
    let n : a.name ≡ b.name = same_text a.name b.name (sym k.1) in
    λ i. record { group = g i; name = n i }
  where
    group_same : (v u : Bool) → beq v u ≡ true → v ≡ u
    group_same true true e = refl
    group_same false false e = refl
    group_same true false e = absurd (false≢true e)
    group_same false true e = absurd (false≢true e)

named_itself : (a : Named) → same_principal a a ≡ true
named_itself a = rw (group_itself a.group) (text_itself a.name)
  where
    group_itself : (v : Bool) → beq v v ≡ true
    group_itself true = refl
    group_itself false = refl

    text_itself : (t : List ℕ) → pointwise nat_eq t t ≡ true
    text_itself [] = refl
    text_itself (b ∷ t) = rw (eq-eqb b b refl) (text_itself t)

allowed_has : (all : List Addition) (who : Named) (section : Section) (p : Privilege) → IsTrue (is_allowed all who section p) → (a : Addition) × Has all a × (a.who ≡ who) × Has a.grants (section, p)
allowed_has all who section p h =
    let m = any_has (λ (a : Addition). same_principal a.who who && holds_privilege a.grants section p) all h in
    let k = both_true (same_principal m.0.who who) (holds_privilege m.0.grants section p) m.2 in
    (m.0, m.1, named_same m.0.who who k.0, held_has m.0.grants section p k.1)

has_allowed : (all : List Addition) (who : Named) (section : Section) (p : Privilege) → (a : Addition) × Has all a × (a.who ≡ who) × Has a.grants (section, p) → IsTrue (is_allowed all who section p)
has_allowed all who section p h =
    let same : same_principal h.0.who who ≡ true = ap (same_principal h.0.who) (sym h.2) ∙ named_itself h.0.who in
    has_any (λ (a : Addition). same_principal a.who who && holds_privilege a.grants section p) all h.0 h.1 (rw same (has_held h.0.grants section p h.3))

pub allowed : (all : List Addition) (who : Named) (section : Section) (p : Privilege)
    → (IsTrue (is_allowed all who section p) → (a : Addition) × Has all a × (a.who ≡ who) × Has a.grants (section, p)) × ((a : Addition) × Has all a × (a.who ≡ who) × Has a.grants (section, p) → IsTrue (is_allowed all who section p))
allowed all who section p = (allowed_has all who section p, has_allowed all who section p)

-- whether a test passes on what elements stand for
pub any_map : {X Y : Type 0} (f : X → Y) (test : Y → Bool) (xs : List X) → list_any test (map f xs) ≡ list_any (λ x. test (f x)) xs
any_map f test [] = refl
any_map f test (x ∷ xs) = ap (λ (v : Bool). test (f x) || v) (any_map f test xs)

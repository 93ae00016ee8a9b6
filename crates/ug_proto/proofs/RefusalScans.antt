-- The parts of refusals, one behind another.
use Rattle.std.proofs.Common.{◌≡◌, ℕ, ◌<◌, ◌≤◌, ◌^◌, inl, inr, Bool, true, false, cond, nat_eq, List, [], ◌∷◌, ◌++◌, length, take, eq-eqb, refl, sym, ap, subst, ◌∙◌, append_assoc, arith}
use Rattle.std.specs.Prelude.{decimal, codes}
use Rattle.std.proofs.lemmas.Bool.{false≢true}
use Rattle.std.proofs.lemmas.Fmt.{decimal_injective}
use Rattle.std.proofs.lemmas.List.{take_all}
use Rattle.std.proofs.lemmas.Option.{same_Some}
use Rattle.ug_types.specs.Access.{section_word, section_of}
use Rattle.ug_types.specs.Elements.{Has}
use Rattle.ug_types.specs.declared.access.Section.{Section}
use Rattle.ug_types.specs.declared.access.Section.TheVariants.{Devices, Policy, Exceptions, Parameters}
use Rattle.ug_types.specs.declared.access.Privilege.{Privilege}
use Rattle.ug_types.specs.declared.access.Privilege.TheVariants as privilege
use Rattle.ug_types.proofs.AccessWords.{section_read}
use Rattle.ug_types.proofs.Elements.{has_left, has_right, last_is}
use Rattle.ug_proto.specs.declared.scan.Stop.{Stop}
use Rattle.ug_proto.specs.declared.scan.Stop.TheVariants as stop
use Rattle.ug_proto.specs.RefusalParts.{number_then, IsNumberIn, section_then, privilege_then, denied_pair, Anything}
use Rattle.ug_proto.specs.Scanning.{IsStop, neither}
use Rattle.ug_proto.proofs.Scans.{cut, begins_with, goes_on, number_has_no}

-- no such byte stands in known bytes
abbrev lacks : ℕ → List ℕ → Bool
lacks e [] = true
lacks e (b ∷ bytes) = cond (nat_eq b e) false (lacks e bytes)

lacks_so : (e : ℕ) (bytes : List ℕ) → lacks e bytes ≡ true → ¬ Has bytes e
lacks_so e [] h k = k
lacks_so e (b ∷ bytes) h k = by (nat_eq b e) refl h (λ f. lacks_so e bytes f) k
  where
    by : (v : Bool) → nat_eq b e ≡ v → cond v false (lacks e bytes) ≡ true → (lacks e bytes ≡ true → ¬ Has bytes e) → Has (b ∷ bytes) e → ⊥
    by true q f g k = false≢true f
    by false q f g (inl k) = false≢true (sym q ∙ eq-eqb b e k)
    by false q f g (inr k) = g f k

section_plain : (s : Section) → ¬ Has (section_word s) 32
unfolding section_word
section_plain Devices = lacks_so 32 (codes "Devices") refl
section_plain Policy = lacks_so 32 (codes "Policy") refl
section_plain Exceptions = lacks_so 32 (codes "Exceptions") refl
section_plain Parameters = lacks_so 32 (codes "Parameters") refl

-- one text more doesn't stand in front
pub one_more : {X : Type 0} (text_of : X → List ℕ) (tried : List X) (it : X) (bytes : List ℕ) (first second : Stop) → IsStop text_of (Has tried) bytes first
    → IsStop {X = Unit {0}} (λ _. text_of it) (λ _. Unit {0}) bytes second → IsStop text_of (Has (tried ++ it ∷ [])) bytes (neither first second)
one_more {X} text_of tried it bytes stop.Short stop.Bad f g = record { it = f.it; can = has_left tried (it ∷ []) f.it f.can; more = f.more; some = f.some; whole = f.whole }
one_more {X} text_of tried it bytes stop.Bad stop.Bad f g = λ x more rest c e. elim (last_is tried it x c) [
  | inl h ↦ f x more rest h e
  | inr q ↦ g tt more rest tt (e ∙ ap (λ (y : X). text_of y ++ rest) (sym q))
]
one_more {X} text_of tried it bytes stop.Memory stop.Bad f g = tt
one_more {X} text_of tried it bytes first stop.Short f g = record { it = it; can = has_right tried (it ∷ []) it (inl refl); more = g.more; some = g.some; whole = g.whole }
one_more {X} text_of tried it bytes first stop.Memory f g = tt

-- none is left that was not tried
pub all_tried : {X : Type 0} (text_of : X → List ℕ) (all : List X) (i : ℕ) (bytes : List ℕ) (s : Stop) → length all ≤ i → ((it : X) → Has all it) → IsStop text_of (Has (take i all)) bytes s → IsStop text_of Anything bytes s
all_tried {X} text_of all i bytes stop.Short l h f = record { it = f.it; can = tt; more = f.more; some = f.some; whole = f.whole }
all_tried {X} text_of all i bytes stop.Bad l h f = λ x more rest c e. f x more rest (subst (λ (xs : List X). Has xs x) (sym (take_all i all l)) (h x)) e
all_tried {X} text_of all i bytes stop.Memory l h f = tt

-- a word stands in front of each text
pub front_stops : {X : Type 0} (front : List ℕ) (part : X → List ℕ) (Can : X → Type 0) (bytes : List ℕ) (s : Stop) (x : X) → Can x
    → IsStop {X = Unit {0}} (λ _. front) (λ _. Unit {0}) bytes s → IsStop (λ y. front ++ part y) Can bytes s
front_stops {X} front part Can bytes s x c h = begins_with (λ y. front ++ part y) Can (λ _. front) (λ _. Unit {0}) bytes s (λ y k. (tt, tt, part y, refl)) (λ u k. (x, c, part x, refl)) h

pub behind_stops : {X : Type 0} (front : List ℕ) (part : X → List ℕ) (Can : X → Type 0) (bytes behind : List ℕ) (s : Stop) → bytes ≡ front ++ behind
    → IsStop part Can behind s → IsStop (λ y. front ++ part y) Can bytes s
behind_stops {X} front part Can bytes behind s w h = goes_on (λ y. front ++ part y) Can part Can bytes front behind s w (λ x more rest c e. (x, c, refl)) (λ y c. (y, c, refl)) h

-- the first of two parts, and the second
pub first_stops : {X Y : Type 0} (a : X → List ℕ) (A : X → Type 0) (b : Y → List ℕ) (B : Y → Type 0) (bytes : List ℕ) (s : Stop) (y : Y) → B y
    → IsStop a A bytes s → IsStop {X = X × Y} (λ p. a p.0 ++ b p.1) (λ p. A p.0 × B p.1) bytes s
first_stops {X} {Y} a A b B bytes s y k h = begins_with {X = X × Y} (λ p. a p.0 ++ b p.1) (λ p. A p.0 × B p.1) a A bytes s (λ p c. (p.0, c.0, b p.1, refl)) (λ x c. ((x, y), (c, k), b y, refl)) h

pub second_stops : {X Y : Type 0} (a : X → List ℕ) (A : X → Type 0) (b : Y → List ℕ) (B : Y → Type 0) (bytes behind : List ℕ) (s : Stop) (x : X) → A x → bytes ≡ a x ++ behind
    → ((x y : X) (u v : List ℕ) → A x → A y → a x ++ u ≡ a y ++ v → x ≡ y)
    → IsStop b B behind s → IsStop {X = X × Y} (λ p. a p.0 ++ b p.1) (λ p. A p.0 × B p.1) bytes s
second_stops {X} {Y} a A b B bytes behind s x k w one h =
    goes_on {X = X × Y} (λ p. a p.0 ++ b p.1) (λ p. A p.0 × B p.1) b B bytes (a x) behind s w
    (λ p more rest c e.
    let same : x ≡ p.0 = one x p.0 more (b p.1 ++ rest) k c.0 (e ∙ append_assoc (a p.0) (b p.1) rest) in
    (p.1, c.1, ap (λ (z : X). a z ++ b p.1) (sym same)))
    (λ y c. ((x, y), (k, c), refl)) h

pub one_number : (e most : ℕ) → e < 48 → most < 2 ^ 64 → (m n : ℕ) (u v : List ℕ) → IsNumberIn 0 most m → IsNumberIn 0 most n → number_then e m ++ u ≡ number_then e n ++ v → m ≡ n
one_number e most l k m n u v a b q =
    let at : decimal m ++ e ∷ u ≡ decimal n ++ e ∷ v = sym (append_assoc (decimal m) (e ∷ []) u) ∙ q ∙ append_assoc (decimal n) (e ∷ []) v in
    let c = cut e (decimal m) (decimal n) u v (number_has_no e m l (omega (arith, a.1, k))) (number_has_no e n l (omega (arith, b.1, k))) at in
    decimal_injective m n (omega (arith, a.1, k)) (omega (arith, b.1, k)) c.0

pub one_section : (s t : Section) (u v : List ℕ) → Anything s → Anything t → section_then s ++ u ≡ section_then t ++ v → s ≡ t
one_section s t u v a b q =
    let at : section_word s ++ 32 ∷ u ≡ section_word t ++ 32 ∷ v = sym (append_assoc (section_word s) (32 ∷ []) u) ∙ q ∙ append_assoc (section_word t) (32 ∷ []) v in
    let c = cut 32 (section_word s) (section_word t) u v (section_plain s) (section_plain t) at in
    same_Some s t (sym (section_read s) ∙ ap section_of c.0 ∙ section_read t)

-- what has no numbers is any
any_pair : (bytes : List ℕ) (s : Stop) → IsStop {X = Section × Privilege} denied_pair (λ p. Anything p.0 × Anything p.1) bytes s → IsStop {X = Section × Privilege} denied_pair Anything bytes s
any_pair bytes s h = goes_on {X = Section × Privilege} {Y = Section × Privilege} denied_pair Anything denied_pair (λ p. Anything p.0 × Anything p.1) bytes [] bytes s refl (λ x more rest c e. (x, (tt, tt), refl)) (λ y c. (y, tt, refl)) h

pub denied_section : (bytes : List ℕ) (s : Stop) → IsStop section_then Anything bytes s → IsStop {X = Section × Privilege} denied_pair Anything bytes s
denied_section bytes s h = any_pair bytes s (first_stops section_then Anything privilege_then Anything bytes s privilege.Modify tt h)

pub denied_privilege : (bytes behind : List ℕ) (s : Stop) (section : Section) → bytes ≡ section_then section ++ behind → IsStop privilege_then Anything behind s → IsStop {X = Section × Privilege} denied_pair Anything bytes s
denied_privilege bytes behind s section w h = any_pair bytes s (second_stops section_then Anything privilege_then Anything bytes behind s section tt w one_section h)

-- A text stops being the beginning of a name at one place.
use Rattle.std.proofs.Common.{◌≡◌, ℕ, ◌+◌, ◌<◌, ◌≤◌, List, [], ◌∷◌, ◌++◌, length, take, drop, codes, Result, Ok, Err, refl, sym, ap, subst, ◌∙◌, arith, append_assoc, length-append, inl, inr, ◌↔◌}
use Rattle.std.proofs.lemmas.List.{take-append-drop, take-take}
use Rattle.std.proofs.lemmas.Bool.{cases_order}
use Rattle.ug_types.specs.declared.name.NameFault.{NameFault}
use Rattle.ug_types.specs.declared.name.NameFault.TheVariants.{Empty, BadForm, TooLong}
use Rattle.std.specs.Fmt.{decimal}
use Rattle.ug_types.specs.NodeNames.{IsNodeName, IsPrefixOfName, StopsAt, joined_by_dots}

-- a front of the beginning of a name begins that name
shorter : (text : List ℕ) (i j : ℕ) → i ≤ j → IsPrefixOfName (take j text) → IsPrefixOfName (take i text)
shorter text i j h p =
    let more : List ℕ = drop i (take j text) in
    let e : take i text ++ more ≡ take j text = ap (λ (x : List ℕ). x ++ more) (sym (take-take i j text h)) ∙ take-append-drop i (take j text) in
    (more ++ p.0, subst IsNodeName (ap (λ (x : List ℕ). x ++ p.0) (sym e) ∙ append_assoc (take i text) more p.0) p.1)

not_below : (text : List ℕ) (i j : ℕ) → StopsAt text i → StopsAt text j → ¬ (i < j)
not_below text i j h k l = h.2 (omega (arith, k.0)) (shorter text (i + 1) j (omega arith) k.1)

one_place : (text : List ℕ) (i j : ℕ) → StopsAt text i → StopsAt text j → i ≡ j
one_place text i j h k = elim (cases_order i j) [ inl e ↦ e | inr s ↦ elim s [ inl l ↦ absurd (not_below text i j h k l) | inr l ↦ absurd (not_below text j i k h l) ] ]

abbrev place_of : Result (List ℕ) NameFault → ℕ
place_of (Ok name) = 0
place_of (Err Empty) = 0
place_of (Err TooLong) = 0
place_of (Err (BadForm place)) = place

abbrev misformed : ℕ → Result (List ℕ) NameFault
misformed place = Err (BadForm place)

pub exact_place : (text : List ℕ) (i : ℕ) → ¬ (text ≡ []) → (¬ IsNodeName text) × StopsAt text i → (place : ℕ)
    → ((misformed i ≡ misformed place) ↔ ((¬ (text ≡ [])) × (¬ IsNodeName text) × StopsAt text place))
exact_place text i filled stop place = (
  λ e. (filled, stop.0, subst (StopsAt text) (ap place_of e) stop.1),
  λ h. ap misformed (one_place text i place stop.1 h.2),
)

-- the ends where a place isn't told

abbrev read_as : List ℕ → Result (List ℕ) NameFault
read_as name = Ok name

abbrev refused : NameFault → Result (List ℕ) NameFault
refused fault = Err fault

abbrev TellsPlace : List ℕ → Result (List ℕ) NameFault → ℕ → Type 0
TellsPlace text read place = (read ≡ misformed place) ↔ ((¬ (text ≡ [])) × (¬ IsNodeName text) × StopsAt text place)

read_other : (name : List ℕ) (place : ℕ) → ¬ (read_as name ≡ misformed place)
read_other name place e = cc

long_other : (place : ℕ) → ¬ (refused TooLong ≡ misformed place)
long_other place e = cc

empty_other : (place : ℕ) → ¬ (refused Empty ≡ misformed place)
empty_other place e = cc

pub read_place : (text name : List ℕ) → IsNodeName text → (place : ℕ) → TellsPlace text (read_as name) place
read_place text name named place = (λ e. absurd (read_other name place e), λ h. absurd (h.1 named))

pub long_place : (text : List ℕ) → IsNodeName text → (place : ℕ) → TellsPlace text (refused TooLong) place
long_place text named place = (λ e. absurd (long_other place e), λ h. absurd (h.1 named))

pub empty_place : (text : List ℕ) → length text ≡ 0 → (place : ℕ) → TellsPlace text (refused Empty) place
empty_place [] e place = (λ e. absurd (empty_other place e), λ h. absurd (h.0 refl))
empty_place (b ∷ text) e place = absurd (omega (arith, e))

empty_unnamed : (text : List ℕ) → length text ≡ 0 → ¬ IsNodeName text
empty_unnamed text e (inl h) = omega (arith, e, ap length h.is, length-append (codes "usb") (decimal h.bus))
empty_unnamed text e (inr d) = omega (arith, e, ap length d.is, length-append (decimal d.bus) (45 ∷ joined_by_dots d.port d.ports))

empty_read : (text : List ℕ) → ¬ (refused Empty ≡ read_as text)
empty_read text e = cc

pub empty_name : (text : List ℕ) → length text ≡ 0 → ((refused Empty ≡ read_as text) ↔ (IsNodeName text × (length text ≤ 31)))
empty_name text e = (λ k. absurd (empty_read text k), λ h. absurd (empty_unnamed text e h.0))

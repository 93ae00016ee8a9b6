-- Each finding is found, in the order of the rules.
use Rattle.std.proofs.Common.{◌≡◌, ℕ, zero, suc, ◌<◌, ◌≤◌, ◌+◌, List, [], ◌∷◌, ◌++◌, Bool, true, false, not, cond, length, take, nat_lt, Option, Some, None, arith, refl, sym, ap, ◌∙◌, subst, inl, append_assoc}
use Rattle.std.specs.Prelude.{slice_get, position}
use Rattle.std.specs.List.{position_or_len}
use Rattle.std.specs.Option.{option_to_list}
use Rattle.std.proofs.lemmas.Bool.{cond-true, cond-false}
use Rattle.std.proofs.lemmas.Bool.Decides.{Decides-ltb}
use Rattle.std.proofs.lemmas.List.{append-nil, length-append}
use Rattle.std.proofs.lemmas.Option.{same_Some, none-some}
use Rattle.ug_types.specs.Elements.{Has}
use Rattle.ug_types.proofs.Elements.{has_left, has_right}
use Rattle.ug_types.specs.declared.rule.Rule.{Rule}
use Rattle.ug_lint.specs.declared.finding.Finding.{Finding}
use Rattle.ug_lint.specs.declared.finding.Finding.TheVariants.{Covered, Never}
use Rattle.ug_lint.specs.Certain.{never_hold}
use Rattle.ug_lint.specs.Findings.{covered_by, covers_rule, finding_of, findings, findings_behind, found_place, IsCovered, IsFinding, IsNever, RiseFrom}

-- ---- the order

abbrev IsPlaced : ℕ → Option Finding → Type 0
IsPlaced n None = Unit {0}
IsPlaced n (Some f) = found_place f ≡ n

covered_placed : (n : ℕ) (o : Option ℕ) → IsPlaced n (covered_by n o)
covered_placed n None = tt
covered_placed n (Some by) = refl

placed : (before : List Rule) (rule : Rule) → IsPlaced (length before) (finding_of before rule)
placed before rule =
    let T : Bool → Type 0 = λ b. IsPlaced (length before) (cond b (Some (Never (length before))) (covered_by (length before) (position (covers_rule rule) before))) in
    let f : (b : Bool) → T b = λ b. elim b as T [ true ↦ refl | false ↦ covered_placed (length before) (position (covers_rule rule) before) ] in
    f (never_hold rule.conds)

rise_more : (m n : ℕ) (found : List Finding) → m ≤ n → RiseFrom n found → RiseFrom m found
rise_more m n [] le h = tt
rise_more m n (f ∷ found) le h = let low : n ≤ found_place f = h.0 in (omega arith, h.1)

rise_option : (n : ℕ) (o : Option Finding) (found : List Finding) → IsPlaced n o → RiseFrom (suc n) found → RiseFrom n (option_to_list o ++ found)
rise_option n None found p h = rise_more n (suc n) found (omega arith) h
rise_option n (Some f) found p h = (omega (arith, p), subst (λ (k : ℕ). RiseFrom (suc k) found) (sym p) h)

rise_behind : (before rules : List Rule) → RiseFrom (length before) (findings_behind before rules)
rise_behind before [] = tt
rise_behind before (rule ∷ rules) =
    let next : length (before ++ rule ∷ []) ≡ suc (length before) = omega (arith, length-append before (rule ∷ [])) in
    rise_option (length before) (finding_of before rule) (findings_behind (before ++ rule ∷ []) rules) (placed before rule)
    (subst (λ (k : ℕ). RiseFrom k (findings_behind (before ++ rule ∷ []) rules)) next (rise_behind (before ++ rule ∷ []) rules))

pub rise : (rules : List Rule) → RiseFrom 0 (findings rules)
rise rules = rise_behind [] rules

-- ---- the first place at which a test passes

one_more : (n i : ℕ) → n ≡ i → 1 + n ≡ suc i
one_more n i e = omega (arith, e)

first_len : {X : Type 0} (p : X → Bool) (xs : List X) (i : ℕ) (x : X) → slice_get xs i ≡ Some x → p x ≡ true → ((k : ℕ) (y : X) → k < i → slice_get xs k ≡ Some y → p y ≡ false) → (position_or_len p xs ≡ i) × (i < length xs)
first_len p [] i x there h first = absurd (none-some x there)
first_len {X} p (y ∷ xs) zero x there h first =
    let here : p y ≡ true = subst (λ (v : X). p v ≡ true) (sym (same_Some y x there)) h in
    (ap (λ (b : Bool). cond (not b) (1 + position_or_len p xs) zero) here, omega arith)
first_len p (y ∷ xs) (suc i) x there h first =
    let later : p y ≡ false = first zero y (omega arith) refl in
    let rest = first_len p xs i x there h (λ k z lt t. first (suc k) z (omega arith) t) in
    let within : i < length xs = rest.1 in
    (ap (λ (b : Bool). cond (not b) (1 + position_or_len p xs) zero) later ∙ one_more (position_or_len p xs) i rest.0, omega arith)

first_is : {X : Type 0} (p : X → Bool) (xs : List X) (i : ℕ) (x : X) → slice_get xs i ≡ Some x → p x ≡ true → ((k : ℕ) (y : X) → k < i → slice_get xs k ≡ Some y → p y ≡ false) → position p xs ≡ Some i
first_is p xs i x there h first =
    let f = first_len p xs i x there h first in
    let within : position_or_len p xs < length xs = let lt : i < length xs = f.1 in omega (arith, f.0, lt) in
    cond-true (nat_lt (position_or_len p xs) (length xs)) (Some (position_or_len p xs)) None ((Decides-ltb (position_or_len p xs) (length xs)).1 within) ∙ ap (λ (n : ℕ). Some n) f.0

-- ---- each finding

take_place : {X : Type 0} (xs : List X) (i : ℕ) (x : X) → slice_get xs i ≡ Some x → length (take i xs) ≡ i
take_place [] i x h = absurd (none-some x h)
take_place (y ∷ xs) zero x h = refl
take_place (y ∷ xs) (suc i) x h = ap (λ (n : ℕ). suc n) (take_place xs i x h)

-- a place below another is one of the front
take_get : {X : Type 0} (xs : List X) (n k : ℕ) → k < n → slice_get (take n xs) k ≡ slice_get xs k
take_get [] zero k lt = absurd (omega arith)
take_get [] (suc n) k lt = refl
take_get (x ∷ xs) zero k lt = absurd (omega arith)
take_get (x ∷ xs) (suc n) zero lt = refl
take_get (x ∷ xs) (suc n) (suc k) lt = take_get xs n k (omega arith)

never_is : (rules : List Rule) (place : ℕ) (n : IsNever rules place) → finding_of (take place rules) n.0 ≡ Some (Never place)
never_is rules place n =
    let before : List Rule = take place rules in
    cond-true (never_hold n.0.conds) (Some (Never (length before))) (covered_by (length before) (position (covers_rule n.0) before)) n.2
    ∙ ap (λ (k : ℕ). Some (Never k)) (take_place rules place n.0 n.1)

covered_is : (rules : List Rule) (place by : ℕ) (n : IsCovered rules place by) → finding_of (take place rules) n.rule ≡ Some (Covered place by)
covered_is rules place by n =
    let before : List Rule = take place rules in
    let lt : by < place = n.before in
    let at : position (covers_rule n.rule) before ≡ Some by =
    first_is (covers_rule n.rule) before by n.earlier (take_get rules place by lt ∙ n.first_there) n.covers
    (λ k other less there. n.least k other less (sym (take_get rules place k (omega (arith, less, lt))) ∙ there)) in
    cond-false (never_hold n.rule.conds) (Some (Never (length before))) (covered_by (length before) (position (covers_rule n.rule) before)) n.can_hold
    ∙ ap (λ (o : Option ℕ). covered_by (length before) o) at
    ∙ ap (λ (k : ℕ). Some (Covered k by)) (take_place rules place n.rule n.there)

has_behind : (before rules : List Rule) (place : ℕ) (rule : Rule) (f : Finding) → slice_get rules place ≡ Some rule → finding_of (before ++ take place rules) rule ≡ Some f → Has (findings_behind before rules) f
has_behind before [] place rule f there h = absurd (none-some rule there)
has_behind before (r ∷ rules) zero rule f there h =
    let here : finding_of before r ≡ Some f =
    ap (λ (v : Rule). finding_of before v) (same_Some r rule there) ∙ ap (λ (v : List Rule). finding_of v rule) (sym (append-nil before)) ∙ h in
    has_left (option_to_list (finding_of before r)) (findings_behind (before ++ r ∷ []) rules) f (subst (λ (o : Option Finding). Has (option_to_list o) f) (sym here) (inl refl))
has_behind before (r ∷ rules) (suc place) rule f there h =
    has_right (option_to_list (finding_of before r)) (findings_behind (before ++ r ∷ []) rules) f
    (has_behind (before ++ r ∷ []) rules place rule f there (ap (λ (v : List Rule). finding_of v rule) (append_assoc before (r ∷ []) (take place rules)) ∙ h))

pub has_finding : (rules : List Rule) (f : Finding) → IsFinding rules f → Has (findings rules) f
has_finding rules (Covered place by) n = has_behind [] rules place n.rule (Covered place by) n.there (covered_is rules place by n)
has_finding rules (Never place) n = has_behind [] rules place n.0 (Never place) n.1 (never_is rules place n)

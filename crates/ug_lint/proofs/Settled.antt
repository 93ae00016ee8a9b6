-- What remains is covered by none of the rules that remain.
use Rattle.std.proofs.Common.{◌≡◌, ℕ, zero, suc, ◌<◌, ◌+◌, List, [], ◌∷◌, ◌++◌, Bool, true, false, not, cond, length, Some, None, arith, refl, sym, ap, ◌∙◌, subst, inl, inr}
use Rattle.std.specs.Prelude.{position}
use Rattle.std.specs.List.{position_or_len}
use Rattle.std.proofs.lemmas.Bool.Decides.{Decides-ltb}
use Rattle.ug_types.specs.Elements.{Has}
use Rattle.ug_types.proofs.Elements.{has_cases, has_left, has_right}
use Rattle.ug_types.specs.declared.rule.Rule.{Rule}
use Rattle.ug_lint.specs.declared.finding.Finding.TheVariants.{Never}
use Rattle.ug_lint.specs.Certain.{never_hold}
use Rattle.ug_lint.specs.Findings.{covered_by, covers_rule}
use Rattle.ug_lint.specs.Remaining.{is_covered, kept_unless, remaining, remaining_behind, tells_covered}
use Rattle.ug_lint.proofs.Alike.{coverer, never, not_true}

-- ---- an element that passes has a place

within_by : (b : Bool) (n m : ℕ) → (b ≡ false → n < m) → cond (not b) (1 + n) zero < suc m
within_by true n m f = omega arith
within_by false n m f = let lt : n < m = f refl in omega (arith, lt)

place_within : {X : Type 0} (p : X → Bool) (xs : List X) (x : X) → Has xs x → p x ≡ true → position_or_len p xs < length xs
place_within p [] x h t = absurd h
place_within {X} p (y ∷ xs) x (inl e) t = within_by (p y) (position_or_len p xs) (length xs) (λ fails. never (sym fails ∙ subst (λ (v : X). p v ≡ true) (sym e) t))
place_within p (y ∷ xs) x (inr h) t = within_by (p y) (position_or_len p xs) (length xs) (λ fails. place_within p xs x h t)

-- ---- a rule that one of some rules covers

covered_there : (before : List Rule) (rule earlier : Rule) → never_hold rule.conds ≡ false → Has before earlier → covers_rule rule earlier ≡ true → is_covered before rule ≡ true
covered_there before rule earlier can h c =
    let n = length before in
    let place = position_or_len (covers_rule rule) before in
    ap (λ (b : Bool). tells_covered (cond b (Some (Never n)) (covered_by n (position (covers_rule rule) before)))) can
    ∙ ap (λ (b : Bool). tells_covered (covered_by n (cond b (Some place) None))) ((Decides-ltb place n).1 (place_within (covers_rule rule) before earlier h c))

can_hold : (before : List Rule) (rule : Rule) (b : Bool) → tells_covered (cond b (Some (Never (length before))) (covered_by (length before) (position (covers_rule rule) before))) ≡ true → b ≡ false
can_hold before rule true h = never h
can_hold before rule false h = refl

abbrev Within : List Rule → List Rule → Type 0
Within kept before = (rule : Rule) → Has kept rule → Has before rule

still_uncovered : (kept before : List Rule) (rule : Rule) → Within kept before → is_covered before rule ≡ false → is_covered kept rule ≡ false
still_uncovered kept before rule within uncovered = not_true (is_covered kept rule) (λ h.
    let c = coverer kept rule h in
    never (sym uncovered ∙ covered_there before rule c.0 (can_hold kept rule (never_hold rule.conds) h) (within c.0 c.1) c.2))

-- ---- the rules that remain

within_more : (kept before : List Rule) (rule : Rule) → Within kept before → Within (kept ++ rule ∷ []) (before ++ rule ∷ [])
within_more kept before rule within r h = elim (has_cases kept (rule ∷ []) r h) [
  | inl a ↦ has_left before (rule ∷ []) r (within r a)
  | inr b ↦ has_right before (rule ∷ []) r b
]

settled_behind : (kept before rules : List Rule) → Within kept before → remaining_behind (λ (r : Rule). r) kept (remaining_behind (λ (r : Rule). r) before rules) ≡ remaining_behind (λ (r : Rule). r) before rules
settled_behind kept before [] within = refl
settled_behind kept before (rule ∷ rules) within =
    let next = before ++ rule ∷ [] in
    let rest = remaining_behind (λ (r : Rule). r) next rules in
    let T : Bool → Type 0 = λ b. is_covered before rule ≡ b → remaining_behind (λ (r : Rule). r) kept (kept_unless b rule ++ rest) ≡ kept_unless b rule ++ rest in
    let f : (b : Bool) → T b = λ b. elim b as T [
      | true ↦ λ e. settled_behind kept next rules (λ r h. has_left before (rule ∷ []) r (within r h))
      | false ↦ λ e.
          ap (λ (c : Bool). kept_unless c rule ++ remaining_behind (λ (r : Rule). r) (kept ++ rule ∷ []) rest) (still_uncovered kept before rule within e)
          ∙ ap (λ (v : List Rule). rule ∷ v) (settled_behind (kept ++ rule ∷ []) next rules (within_more kept before rule within))
    ] in
    f (is_covered before rule) refl

pub settled : (rules : List Rule) → remaining (remaining rules) ≡ remaining rules
settled rules = settled_behind [] [] rules (λ r h. h)

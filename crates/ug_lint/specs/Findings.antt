-- What is found of the rules of a list.
use Rattle.std.specs.Prelude.{◌≡◌, ℕ, suc, ◌<◌, ◌≤◌, List, [], ◌∷◌, ◌++◌, Bool, false, ◌&&◌, IsTrue, if◌then◌else◌, Option, Some, None, length, position, slice_get}
use Rattle.std.specs.Option.{option_to_list}
use Rattle.ug_types.specs.declared.rule.Rule.{Rule}
use Rattle.ug_lint.specs.declared.finding.Finding.{Finding}
use Rattle.ug_lint.specs.declared.finding.Finding.TheVariants.{Covered, Never}
use Rattle.ug_lint.specs.Certain.{always_hold, never_hold}
use Rattle.ug_lint.specs.Implied.{query_implied}

-- an earlier rule decides wherever the rule would: it always holds, and its query is implied
abbrev pub covers_rule : Rule → Rule → Bool
covers_rule rule earlier = query_implied earlier.query rule.query && always_hold earlier.conds

abbrev pub covered_by : ℕ → Option ℕ → Option Finding
covered_by place None = None
covered_by place (Some by) = Some (Covered place by)

-- what is found of a rule behind those before it
abbrev pub finding_of : List Rule → Rule → Option Finding
finding_of before rule =
    if never_hold rule.conds then Some (Never (length before))
    else covered_by (length before) (position (covers_rule rule) before)

abbrev pub findings_behind : List Rule → List Rule → List Finding
findings_behind before [] = []
findings_behind before (rule ∷ rules) =
    option_to_list (finding_of before rule) ++ findings_behind (before ++ rule ∷ []) rules

-- the findings of each rule, in their order
abbrev pub findings : List Rule → List Finding
findings rules = findings_behind [] rules

-- ---- the same, of places

-- the place of the rule that a finding speaks of
abbrev pub found_place : Finding → ℕ
found_place (Covered rule by) = rule
found_place (Never rule) = rule

-- the rule at that place never holds
abbrev pub IsNever : List Rule → ℕ → Type 0
IsNever rules place =
    (rule : Rule) × (slice_get rules place ≡ Some rule) × IsTrue (never_hold rule.conds)

-- the rule at that place is covered by an earlier one, and by none before that
pub record IsCovered (rules : List Rule) (place by : ℕ) : Type 0 where
  pub rule : Rule
  pub earlier : Rule
  pub there : slice_get rules place ≡ Some rule
  pub first_there : slice_get rules by ≡ Some earlier
  pub before : by < place
  pub can_hold : never_hold rule.conds ≡ false
  pub covers : IsTrue (covers_rule rule earlier)
  pub least : (k : ℕ) (other : Rule) → k < by → slice_get rules k ≡ Some other
      → covers_rule rule other ≡ false

abbrev pub IsFinding : List Rule → Finding → Type 0
IsFinding rules (Covered place by) = IsCovered rules place by
IsFinding rules (Never place) = IsNever rules place

-- each finding is of a rule from that place on, and behind those of the findings before it
abbrev pub RiseFrom : ℕ → List Finding → Type 0
RiseFrom n [] = Unit {0}
RiseFrom n (f ∷ found) = (n ≤ found_place f) × RiseFrom (suc (found_place f)) found

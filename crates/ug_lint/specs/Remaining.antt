-- The rules that are left without those that earlier ones cover.
use Rattle.std.specs.Prelude.{List, [], ◌∷◌, ◌++◌, Bool, true, false, Option, Some, None}
use Rattle.ug_types.specs.declared.rule.Rule.{Rule}
use Rattle.ug_policy.specs.declared.entry.RuleEntry.{RuleEntry}
use Rattle.ug_lint.specs.declared.finding.Finding.{Finding}
use Rattle.ug_lint.specs.declared.finding.Finding.TheVariants.{Covered, Never}
use Rattle.ug_lint.specs.Findings.{finding_of}

abbrev pub tells_covered : Option Finding → Bool
tells_covered None = false
tells_covered (Some (Covered rule by)) = true
tells_covered (Some (Never rule)) = false

-- an earlier rule covers the rule
abbrev pub is_covered : List Rule → Rule → Bool
is_covered before rule = tells_covered (finding_of before rule)

-- none where that holds, else that alone
abbrev pub kept_unless : {X : Type 0} → Bool → X → List X
kept_unless true x = []
kept_unless false x = x ∷ []

-- of things that have a rule each, those whose rule isn't covered
abbrev pub remaining_behind : {X : Type 0} → (X → Rule) → List Rule → List X → List X
remaining_behind rule_of before [] = []
remaining_behind rule_of before (x ∷ xs) =
    kept_unless (is_covered before (rule_of x)) x
    ++ remaining_behind rule_of (before ++ rule_of x ∷ []) xs

-- the rules that no earlier rule covers
abbrev pub remaining : List Rule → List Rule
remaining rules = remaining_behind (λ rule. rule) [] rules

-- the same of rules in a list, each with its id and its history
abbrev pub remaining_entries : List RuleEntry → List RuleEntry
remaining_entries entries = remaining_behind (λ e. e.rule) [] entries

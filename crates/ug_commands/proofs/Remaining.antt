-- The rules that remain of those of a text.
use Rattle.std.proofs.Common.{◌++◌, [], ◌∷◌, List, Bool, true, false, All}
use Rattle.std.specs.List.{AllByRecursion}
use Rattle.std.proofs.lemmas.List.Elements.{All-from_recursion, recursion_from_All}
use Rattle.ug_types.specs.declared.rule.Rule.{Rule}
use Rattle.ug_rule.specs.Grammar.{WellFormed}
use Rattle.ug_lint.specs.Remaining.{is_covered, kept_unless, remaining, remaining_behind}

unless_well : (covered : Bool) (rule : Rule) (rules : List Rule) → WellFormed rule → AllByRecursion WellFormed rules → AllByRecursion WellFormed (kept_unless covered rule ++ rules)
unless_well true rule rules well all = all
unless_well false rule rules well all = (well, all)

behind_well : (before rules : List Rule) → AllByRecursion WellFormed rules → AllByRecursion WellFormed (remaining_behind (λ (rule : Rule). rule) before rules)
behind_well before [] all = tt
behind_well before (rule ∷ rules) (well, all) = unless_well (is_covered before rule) rule _ well (behind_well (before ++ rule ∷ []) rules all)

-- some line reads as each of them
pub remaining_well : (rules : List Rule) → All WellFormed rules → All WellFormed (remaining rules)
remaining_well rules all = All-from_recursion WellFormed (remaining rules) (behind_well [] rules (recursion_from_All WellFormed rules all))

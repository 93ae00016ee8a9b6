-- The rules of a text, each of which some line reads as.
use Rattle.std.proofs.Common.{◌≡◌, ℕ, List, All, Ok}
use Rattle.std.specs.List.{AllByRecursion}
use Rattle.std.proofs.lemmas.List.Elements.{All-from_recursion}
use Rattle.ug_types.specs.declared.rule.Rule.{Rule}
use Rattle.ug_rule.specs.Files.{file_read}
use Rattle.ug_rule.specs.Grammar.{WellFormed}
use Rattle.ug_rule.specs.Texts.{AreRules, NoLines, Blank, OneMore}
use Rattle.ug_rule.proofs.Texts.{rules-read}

each_well : (lines : List (List ℕ)) (rules : List Rule) → AreRules lines rules → AllByRecursion WellFormed rules
each_well _ _ NoLines = tt
each_well _ _ (Blank line lines rules blank rest) = each_well lines rules rest
each_well _ _ (OneMore line rule lines rules says rest) = (record { line = line; says = says }, each_well lines rules rest)

pub file_well : (text : List ℕ) (rules : List Rule) → file_read text ≡ Ok rules → All WellFormed rules
file_well text rules e = All-from_recursion WellFormed rules (each_well _ rules (rules-read _ rules e))

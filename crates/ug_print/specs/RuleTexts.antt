-- The text of a rule file.
use Rattle.std.specs.Prelude.{ℕ, List, [], ◌∷◌, ◌++◌, flat_map}
use Rattle.ug_types.specs.declared.rule.Rule.{Rule}
use Rattle.ug_print.specs.Words.{rule_text}

-- a rule on a line of its own
abbrev pub rule_line : Rule → List ℕ
rule_line rule = rule_text rule ++ 10 ∷ []

-- the lines of the rules, in their order
abbrev pub rules_text_of : List Rule → List ℕ
rules_text_of rules = flat_map rule_line rules

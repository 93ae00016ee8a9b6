-- Texts of rules as relations: the rules of their lines, and what a fault of a line's tokens is.
use Rattle.std.specs.Prelude.{ℕ, List, [], ◌∷◌}
use Rattle.ug_words.specs.Grammar.{Good}
use Rattle.ug_words.specs.Lexing as lexing
use Rattle.ug_types.specs.declared.rule.Rule.{Rule}
use Rattle.ug_rule.specs.declared.fault.Fault.{Fault}
use Rattle.ug_rule.specs.declared.fault.FaultKind.TheVariants.{BadEscape, OpenString, BadByte}
use Rattle.ug_rule.specs.Faults.{fault_at}
use Rattle.ug_rule.specs.Grammar.{Says}

-- the line has no token: it is blank or a comment
abbrev pub IsBlankLine : List ℕ → Type 0
IsBlankLine line = Good line []

abbrev pub lexical_fault : lexing.Fault → Fault
lexical_fault (lexing.BadEscape place) = fault_at BadEscape place
lexical_fault (lexing.OpenString place) = fault_at OpenString place
lexical_fault (lexing.BadByte place) = fault_at BadByte place

-- the rules of lines, each of which is a rule, or has no token since it is blank or a comment
pub data AreRules : List (List ℕ) → List Rule → Type 0 where
  NoLines : AreRules [] []
  Blank : (line : List ℕ) (lines : List (List ℕ)) (rules : List Rule) → IsBlankLine line
      → AreRules lines rules → AreRules (line ∷ lines) rules
  OneMore : (line : List ℕ) (rule : Rule) (lines : List (List ℕ)) (rules : List Rule)
      → Says line rule → AreRules lines rules → AreRules (line ∷ lines) (rule ∷ rules)

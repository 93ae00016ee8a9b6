-- The lines about a text of rules.
use Rattle.std.specs.Prelude.{ℕ, List, [], ◌∷◌, ◌++◌, codes, decimal}
use Rattle.ug_types.specs.declared.text_fault.TextFault.{TextFault}

-- how many rules there are
unfoldable pub rules_line : ℕ → List ℕ
rules_line count = codes "rules " ++ decimal count ++ 10 ∷ []

-- the number of the first bad line, what is wrong with it, and where in the line that stands
unfoldable pub bad_rules_line : TextFault → List ℕ
bad_rules_line fault =
    codes "bad rules line " ++ decimal fault.line ++ codes " kind " ++ decimal fault.kind
    ++ codes " place " ++ decimal fault.place ++ 10 ∷ []

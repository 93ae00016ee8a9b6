-- The lines about rules that can never decide.
use Rattle.std.specs.Prelude.{ℕ, ◌+◌, List, [], ◌∷◌, ◌++◌, length, codes, decimal, flat_map}
use Rattle.ug_lint.specs.declared.finding.Finding.{Finding}
use Rattle.ug_lint.specs.declared.finding.Finding.TheVariants.{Covered, Never}

-- a rule that an earlier one covers, and the first of those; or one whose conditions never hold;
-- rules are counted from 1
unfoldable pub finding_line : Finding → List ℕ
finding_line (Covered rule by) =
    codes "covered " ++ decimal (rule + 1) ++ codes " by " ++ decimal (by + 1) ++ 10 ∷ []
finding_line (Never rule) = codes "never " ++ decimal (rule + 1) ++ 10 ∷ []

-- how many findings there are
unfoldable pub count_line : ℕ → List ℕ
count_line count = codes "lint " ++ decimal count ++ 10 ∷ []

-- a line for each finding, in their order, and their number
abbrev pub findings_text : List Finding → List ℕ
findings_text found = flat_map finding_line found ++ count_line (length found)

-- above the greatest number of rules
unfoldable pub too_many_rules : List ℕ
too_many_rules = codes "too many rules\n"

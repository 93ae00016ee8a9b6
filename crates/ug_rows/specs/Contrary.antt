-- Rules that say something else of a device than was ordered: usbguard(1), block-device.
use Rattle.std.specs.Prelude.{ℕ, nat_eq, ◌&&◌, not, if◌then◌else◌, cond, Bool, true, false, List, [], ◌∷◌, ◌++◌, Option, Some, None}
use Rattle.std.specs.List.{find}
use Rattle.ug_types.specs.declared.rule.Rule.{Rule}
use Rattle.ug_types.specs.declared.verdict.Target.{Target}
use Rattle.ug_types.specs.declared.verdict.Target.TheVariants.{Allow, Block, Reject}
use Rattle.ug_rows.specs.Rows.{row_in}
use Rattle.ug_rows.specs.RuleRows.{is_last_to_decide, matches_row, rule_in_row}

abbrev pub is_same_target : Target → Target → Bool
is_same_target Allow Allow = true
is_same_target Allow Block = false
is_same_target Allow Reject = false
is_same_target Block Allow = false
is_same_target Block Block = true
is_same_target Block Reject = false
is_same_target Reject Allow = false
is_same_target Reject Block = false
is_same_target Reject Reject = true

-- the rule may decide for the device of that row, and says something else
abbrev pub is_contrary : Target → List ℕ → Option Rule → Bool
is_contrary target device None = false
is_contrary target device (Some rule) =
    matches_row rule.query device && not (is_same_target rule.target target)

-- those up to the first rule that decides always
abbrev pub contrary_rows : Target → List ℕ → List (List ℕ) → List (List ℕ)
contrary_rows target device [] = []
contrary_rows target device (row ∷ rows) =
    cond (is_contrary target device (rule_in_row row)) (row ∷ []) []
    ++ (if is_last_to_decide device (rule_in_row row) then [] else contrary_rows target device rows)

-- ---- the row of a number

abbrev pub is_numbered_so : ℕ → Option (ℕ × List ℕ) → Bool
is_numbered_so number None = false
is_numbered_so number (Some row) = nat_eq row.0 number

unfoldable pub is_row_of : ℕ → List ℕ → Bool
is_row_of number row = is_numbered_so number (row_in row)

-- the device's own row behind those of the rules, if there are any
abbrev pub with_device : List ℕ → List (List ℕ) → List (List ℕ)
with_device device [] = []
with_device device (row ∷ rows) = row ∷ (rows ++ device ∷ [])

abbrev pub contrary_to : Target → Option (List ℕ) → List (List ℕ) → List (List ℕ)
contrary_to target None rules = []
contrary_to target (Some device) rules = with_device device (contrary_rows target device rules)

-- of the device of that number
abbrev pub contrary_lines : Target → ℕ → List (List ℕ) → List (List ℕ) → List (List ℕ)
contrary_lines target number rules devices =
    contrary_to target (find (is_row_of number) devices) rules

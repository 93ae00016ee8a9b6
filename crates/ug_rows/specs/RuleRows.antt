-- Rows of a list of rules, and the devices that each of them applies to: usbguard(1), list-rules.
use Rattle.std.specs.Prelude.{ℕ, ◌&&◌, ◌||◌, not, Bool, true, false, List, [], ◌∷◌, Option, Some, None, option_and_then, is_none, is_some, bytes_eq, Result, Ok, Err}
use Rattle.std.specs.List.{filter}
use Rattle.ug_types.specs.declared.rule.Query.{Query}
use Rattle.ug_types.specs.declared.rule.Rule.{Rule}
use Rattle.ug_rule.specs.Rules.{rule_read}
use Rattle.ug_rule.specs.declared.fault.Fault.{Fault}
use Rattle.ug_rows.specs.Rows.{matching_number, row_in}

-- ---- the rule of a row

abbrev pub good_rule : Result Rule Fault → Option Rule
good_rule (Ok rule) = Some rule
good_rule (Err fault) = None

unfoldable pub rule_in_row : List ℕ → Option Rule
rule_in_row row = option_and_then (λ read. good_rule (rule_read read.1)) (row_in row)

-- ---- the rows of the rules that have a label

abbrev pub is_label : List ℕ → Option (List ℕ) → Bool
is_label wanted None = false
is_label wanted (Some label) = bytes_eq label wanted

abbrev pub bears_label : List ℕ → Option Rule → Bool
bears_label wanted None = false
bears_label wanted (Some rule) = is_label wanted rule.query.label

-- the rule of the row has the label
unfoldable pub is_labelled : List ℕ → List ℕ → Bool
is_labelled wanted row = bears_label wanted (rule_in_row row)

-- in their order
abbrev pub labelled_rows : List ℕ → List (List ℕ) → List (List ℕ)
labelled_rows wanted rows = filter (is_labelled wanted) rows

-- the rule has the label, or none is wanted
abbrev pub is_shown : Option (List ℕ) → List ℕ → Bool
is_shown None row = true
is_shown (Some wanted) row = is_labelled wanted row

-- ---- the devices that a rule applies to

-- the query matches the device of the row
abbrev pub matches_row : Query → List ℕ → Bool
matches_row query row = is_some (matching_number query row)

-- of these devices those that the rule's attributes match, whatever its conditions say
abbrev pub applied_rows : Option Rule → List (List ℕ) → List (List ℕ)
applied_rows None devices = []
applied_rows (Some rule) devices = filter (matches_row rule.query) devices

-- the rule decides for the device, whenever that is: it has no conditions
abbrev pub decides_always : Rule → List ℕ → Bool
decides_always rule device = matches_row rule.query device && is_none rule.conds

-- of these devices those that are left to later rules
abbrev pub left_rows : Option Rule → List (List ℕ) → List (List ℕ)
left_rows None devices = devices
left_rows (Some rule) devices = filter (λ device. not (decides_always rule device)) devices

-- those that are left behind all of these rules
abbrev pub left_to_later : List (List ℕ) → List (List ℕ) → List (List ℕ)
left_to_later [] devices = devices
left_to_later (row ∷ rules) devices = left_to_later rules (left_rows (rule_in_row row) devices)

-- no later rule decides for the device
abbrev pub is_last_to_decide : List ℕ → Option Rule → Bool
is_last_to_decide device None = false
is_last_to_decide device (Some rule) = decides_always rule device

-- one of the rules decides for the device, whenever that is
abbrev pub is_decided : List (List ℕ) → List ℕ → Bool
is_decided [] device = false
is_decided (row ∷ rules) device =
    is_last_to_decide device (rule_in_row row) || is_decided rules device

abbrev pub is_matched_by : List ℕ → Option Rule → Bool
is_matched_by device None = false
is_matched_by device (Some rule) = matches_row rule.query device

-- the rule's attributes match the device, and no earlier rule decides for it whenever that is
abbrev pub is_first_to_match : List (List ℕ) → List ℕ → List ℕ → Bool
is_first_to_match earlier row device =
    is_matched_by device (rule_in_row row) && not (is_decided earlier device)

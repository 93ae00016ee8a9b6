-- Rows of a list of devices, and which of them are chosen: usbguard(1), list-devices.
use Rattle.std.specs.Prelude.{ℕ, nat_eq, ◌&&◌, ◌||◌, not, if◌then◌else◌, Bool, true, false, List, [], ◌∷◌, Option, Some, None, option_and_then, option_map, Result, Ok, Err}
use Rattle.std.specs.List.{filter}
use Rattle.ug_lines.specs.Numbers.{number_in}
use Rattle.ug_types.specs.Targets.{target_of}
use Rattle.ug_types.specs.declared.record.DeviceRecord.{DeviceRecord}
use Rattle.ug_types.specs.declared.rule.Query.{Query}
use Rattle.ug_types.specs.declared.rule.Rule.{Rule}
use Rattle.ug_types.specs.declared.verdict.Target.{Target}
use Rattle.ug_types.specs.declared.verdict.Target.TheVariants.{Allow, Block, Reject}
use Rattle.ug_match.specs.Queries.{query_matches}
use Rattle.ug_rule.specs.Rules.{rule_read}
use Rattle.ug_rule.specs.declared.fault.Fault.{Fault}
use Rattle.ug_rows.specs.Cuts.{cut_at_mark}
use Rattle.ug_rows.specs.Devices.{told_device}
use Rattle.ug_rows.specs.declared.choice.Choice.{Choice}

-- ---- a row: a number, a colon and a space, and what has the number

abbrev pub behind_space : List ℕ → Option (List ℕ)
behind_space [] = None
behind_space (b ∷ text) = if nat_eq b 32 then Some text else None

abbrev pub numbered_text : List ℕ → List ℕ → Option (ℕ × List ℕ)
numbered_text digits rest =
    option_and_then (λ text. option_map (λ number. (number, text)) (number_in digits))
    (behind_space rest)

unfoldable pub row_in : List ℕ → Option (ℕ × List ℕ)
row_in row = option_and_then (λ cut. numbered_text cut.0 cut.1) (cut_at_mark 58 row)

-- the verdict is the first word of a device's text
abbrev pub told_verdict : List ℕ → Option Target
told_verdict text = option_and_then (λ cut. target_of cut.0) (cut_at_mark 32 text)

-- ---- whether a query matches the device of a row

abbrev pub matches_told : Query → Option DeviceRecord → Bool
matches_told query None = false
matches_told query (Some device) = query_matches query device

abbrev pub matches_read : Query → Result Rule Fault → Bool
matches_read query (Ok rule) = matches_told query (told_device rule.query)
matches_read query (Err fault) = false

-- the text is a device's rule, and the query matches that device
unfoldable pub matches_text : Query → List ℕ → Bool
matches_text query text = matches_read query (rule_read text)

abbrev pub matches_given : Option Query → List ℕ → Bool
matches_given None text = true
matches_given (Some query) text = matches_text query text

-- ---- what is chosen of a list

-- without a wish each verdict is wanted
abbrev pub is_wanted : Bool → Bool → Option Target → Bool
is_wanted allowed blocked (Some Allow) = allowed || not blocked
is_wanted allowed blocked (Some Block) = blocked || not allowed
is_wanted allowed blocked (Some Reject) = not allowed && not blocked
is_wanted allowed blocked None = not allowed && not blocked

abbrev pub is_chosen_by : Choice → Option (ℕ × List ℕ) → Bool
is_chosen_by choice None = false
is_chosen_by choice (Some row) =
    is_wanted choice.allowed choice.blocked (told_verdict row.1)
    && matches_given choice.query row.1

unfoldable pub is_chosen : Choice → List ℕ → Bool
is_chosen choice row = is_chosen_by choice (row_in row)

-- the rows that are chosen, in their order
abbrev pub chosen_rows : Choice → List (List ℕ) → List (List ℕ)
chosen_rows choice rows = filter (is_chosen choice) rows

-- ---- the numbers of the devices that a query matches

abbrev pub number_by : Query → Option (ℕ × List ℕ) → Option ℕ
number_by query None = None
number_by query (Some row) = if matches_text query row.1 then Some row.0 else None

unfoldable pub matching_number : Query → List ℕ → Option ℕ
matching_number query row = number_by query (row_in row)

abbrev pub onto_numbers : Option ℕ → List ℕ → List ℕ
onto_numbers None numbers = numbers
onto_numbers (Some number) numbers = number ∷ numbers

-- in the order of the rows
abbrev pub matching_numbers : Query → List (List ℕ) → List ℕ
matching_numbers query [] = []
matching_numbers query (row ∷ rows) =
    onto_numbers (matching_number query row) (matching_numbers query rows)

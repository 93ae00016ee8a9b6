-- Lines of the journal that are sent as notices, as they are read word by word.
use Rattle.std.specs.Prelude.{ℕ, Bool, false, ◌&&◌, ◌||◌, nat_eq, nat_le, nat_lt, if◌then◌else◌, List, [], ◌∷◌, length, codes, Option, Some, None, is_some}
use Rattle.std.specs.Cmp.Lexicographic.{pointwise}
use Rattle.ug_types.specs.Reading.{ends_name}
use Rattle.ug_types.specs.declared.reading.Reading.{Reading}
use Rattle.ug_types.specs.declared.reading.Reading.TheVariants.{Start}
use Rattle.ug_types.specs.declared.parameter.ParameterName.{ParameterName}
use Rattle.ug_types.specs.Parameters.{parameter_of, parameter_with}
use Rattle.ug_types.specs.Principals.{principal_of}
use Rattle.ug_types.specs.Targets.{target_of}
use Rattle.ug_types.proofs.Spelled.{read}
use Rattle.ug_lines.specs.Numbers.{number_in}

abbrev pub onto_cut : ℕ → Option (List ℕ × List ℕ) → Option (List ℕ × List ℕ)
onto_cut b None = None
onto_cut b (Some cut) = Some (b ∷ cut.0, cut.1)

-- the first word, where a space stands behind it, and what stands behind that
abbrev pub cut_word : List ℕ → Option (List ℕ × List ℕ)
cut_word [] = None
cut_word (b ∷ bytes) = if nat_eq b 32 then Some ([], bytes) else onto_cut b (cut_word bytes)

-- the word and what stands behind it are such
abbrev pub both_parts : (List ℕ → Bool) → (List ℕ → Bool) → Option (List ℕ × List ℕ) → Bool
both_parts first rest None = false
both_parts first rest (Some cut) = first cut.0 && rest cut.1

abbrev pub is_decimal : List ℕ → Bool
is_decimal word = is_some (number_in word)

abbrev pub is_below_256 : Option ℕ → Bool
is_below_256 None = false
is_below_256 (Some n) = nat_lt n 256

abbrev pub is_byte : List ℕ → Bool
is_byte word = is_below_256 (number_in word)

abbrev pub ends_read : Option Reading → Bool
ends_read None = false
ends_read (Some reading) = ends_name reading

-- a name of at most 31 bytes
unfoldable pub is_name_word : List ℕ → Bool
is_name_word word = ends_read (read (Some Start) word) && nat_le (length word) 31

-- a star stands for every name
abbrev pub is_name_or_star : List ℕ → Bool
is_name_or_star word = pointwise nat_eq word (codes "*") || is_name_word word

abbrev pub is_user : List ℕ → Bool
is_user word = is_some (principal_of word)

abbrev pub is_target : List ℕ → Bool
is_target word = is_some (target_of word)

abbrev pub is_write : List ℕ → Bool
is_write word =
    pointwise nat_eq word (codes "on") || pointwise nat_eq word (codes "off")
    || pointwise nat_eq word (codes "remove")
    || pointwise nat_eq word (codes "default-off") || pointwise nat_eq word (codes "default-on")

abbrev pub is_outcome : List ℕ → Bool
is_outcome word =
    pointwise nat_eq word (codes "done") || pointwise nat_eq word (codes "gone")
    || pointwise nat_eq word (codes "failed")

abbrev pub is_cause_alone : List ℕ → Bool
is_cause_alone text =
    pointwise nat_eq text (codes "implicit") || pointwise nat_eq text (codes "present")
    || pointwise nat_eq text (codes "keep")
    || pointwise nat_eq text (codes "inserted")

abbrev pub is_malformed : List ℕ → Bool
is_malformed text = both_parts is_byte is_decimal (cut_word text)

abbrev pub is_cause_of : List ℕ → Option (List ℕ × List ℕ) → Bool
is_cause_of text None = is_cause_alone text
is_cause_of text (Some cut) =
    if pointwise nat_eq cut.0 (codes "rule") then is_decimal cut.1 else
    if pointwise nat_eq cut.0 (codes "order") then is_user cut.1 else
    if pointwise nat_eq cut.0 (codes "malformed") then is_malformed cut.1 else false

abbrev pub is_cause : List ℕ → Bool
is_cause text = is_cause_of text (cut_word text)

abbrev pub are_numbers : List ℕ → Bool
are_numbers text = both_parts is_decimal is_decimal (cut_word text)

abbrev pub is_fault_of : List ℕ → Option (List ℕ × List ℕ) → Bool
is_fault_of text None = pointwise nat_eq text (codes "memory")
is_fault_of text (Some cut) = pointwise nat_eq cut.0 (codes "fault") && are_numbers cut.1

abbrev pub is_fault : List ℕ → Bool
is_fault text = is_fault_of text (cut_word text)

abbrev pub is_verdict : List ℕ → Bool
is_verdict text = both_parts is_target is_cause (cut_word text)

abbrev pub is_named_verdict : List ℕ → Bool
is_named_verdict text = both_parts is_name_word is_verdict (cut_word text)

abbrev pub is_judged : List ℕ → Bool
is_judged text = both_parts is_decimal is_named_verdict (cut_word text)

abbrev pub is_written : List ℕ → Bool
is_written text = both_parts is_write is_outcome (cut_word text)

abbrev pub is_named_write : List ℕ → Bool
is_named_write text = both_parts is_name_word is_written (cut_word text)

abbrev pub is_wrote : List ℕ → Bool
is_wrote text = both_parts is_decimal is_named_write (cut_word text)

abbrev pub is_gone : List ℕ → Bool
is_gone text = both_parts is_decimal is_name_word (cut_word text)

abbrev pub is_unsettled : List ℕ → Bool
is_unsettled text = both_parts is_name_or_star is_fault (cut_word text)

abbrev pub has_value : Option ParameterName → List ℕ → Bool
has_value None word = false
has_value (Some name) word = is_some (parameter_with name word)

abbrev pub is_parameter_of : Option (List ℕ × List ℕ) → Bool
is_parameter_of None = false
is_parameter_of (Some cut) = has_value (parameter_of cut.0) cut.1

abbrev pub is_parameter : List ℕ → Bool
is_parameter text = is_parameter_of (cut_word text)

-- what stands behind the first word, by that word
abbrev pub is_behind : List ℕ → List ℕ → Bool
is_behind word rest =
    if pointwise nat_eq word (codes "judged") then is_judged rest else
    if pointwise nat_eq word (codes "wrote") then is_wrote rest else
    if pointwise nat_eq word (codes "gone") then is_gone rest else
    if pointwise nat_eq word (codes "unsettled") then is_unsettled rest else
    if pointwise nat_eq word (codes "parameter") then is_parameter rest else false

abbrev pub is_entry_of : Option (List ℕ × List ℕ) → Bool
is_entry_of None = false
is_entry_of (Some cut) = is_behind cut.0 cut.1

unfoldable pub is_entry_text : List ℕ → Bool
is_entry_text text = is_entry_of (cut_word text)

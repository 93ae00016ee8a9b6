-- Messages read from the front.
use Rattle.std.specs.Prelude.{◌≡◌, ◌↔◌, ℕ, ◌+◌, Bool, true, false, nat_eq, ◌||◌, if◌then◌else◌}
use Rattle.std.specs.Prelude.{List, [], ◌∷◌, length, take, drop, codes, Option, Some, None, Result}
use Rattle.std.specs.Prelude.{Ok, Err}
use Rattle.std.specs.Option.{is_some}
use Rattle.std.specs.Cmp.Lexicographic.{pointwise}
use Rattle.ug_lines.specs.Numbers.{number_in}
use Rattle.ug_types.specs.TextFaults.{fault_of_kind}
use Rattle.ug_uevent.specs.Cuts.{length_before}
use Rattle.ug_uevent.specs.Faults.{SaidFault}
use Rattle.ug_uevent.specs.Grammar.{IsNameIn}
use Rattle.ug_uevent.specs.declared.fault.UeventKind.{UeventKind}
use Rattle.ug_uevent.specs.declared.fault.UeventKind.TheVariants as kind
use Rattle.ug_uevent.specs.declared.fields.Field.{Field}
use Rattle.ug_uevent.specs.declared.fields.Field.TheVariants as field
use Rattle.ug_uevent.specs.declared.fields.Found.{Found}
use Rattle.ug_uevent.specs.declared.hint.Action.{Action}
use Rattle.ug_uevent.specs.declared.hint.Action.TheVariants as action
use Rattle.ug_uevent.specs.declared.hint.Hint.{Hint}

-- the strings of a message
abbrev pub string_in_front : ℕ → List (List ℕ) → List (List ℕ)
string_in_front b [] = (b ∷ []) ∷ []
string_in_front b (text ∷ texts) = (b ∷ text) ∷ texts

unfoldable pub strings_of : List ℕ → List (List ℕ)
strings_of [] = []
strings_of (b ∷ bytes) = if nat_eq b 0
    then [] ∷ strings_of bytes
    else string_in_front b (strings_of bytes)

unfoldable pub field_of : List ℕ → Option Field
field_of key =
    if pointwise nat_eq key (codes "ACTION") then Some field.Action else
    if pointwise nat_eq key (codes "DEVPATH") then Some field.Path else
    if pointwise nat_eq key (codes "SUBSYSTEM") then Some field.Subsystem else
    if pointwise nat_eq key (codes "SEQNUM") then Some field.Number else None

unfoldable pub is_usb : List ℕ → Bool
is_usb value = pointwise nat_eq value (codes "usb")

unfoldable pub action_of : List ℕ → Action
action_of word =
    if pointwise nat_eq word (codes "add") then action.Add else
    if pointwise nat_eq word (codes "remove") then action.Remove else
    if pointwise nat_eq word (codes "change") then action.Change else action.Other

abbrev pub nothing : Found
nothing = record { action = false; path = false; subsystem = false; usb = false; seq = None }

abbrev pub is_field_set : Found → Field → Bool
is_field_set found field.Action = found.action
is_field_set found field.Path = found.path
is_field_set found field.Subsystem = found.subsystem
is_field_set found field.Number = is_some found.seq

abbrev pub number_read : Found → Option ℕ → Result Found UeventKind
number_read found None = Err kind.BadSeq
number_read found (Some n) = Ok (record found { seq = Some n })

-- a field that isn't set yet
abbrev pub first_value : List ℕ → List ℕ → Found → Field → List ℕ → Result Found UeventKind
first_value act path found field.Action value = if pointwise nat_eq value act
    then Ok (record found { action = true })
    else Err kind.HeaderDiffers
first_value act path found field.Path value = if pointwise nat_eq value path
    then Ok (record found { path = true })
    else Err kind.HeaderDiffers
first_value act path found field.Subsystem value =
    Ok (record found { subsystem = true; usb = is_usb value })
first_value act path found field.Number value = number_read found (number_in value)

abbrev pub field_read : List ℕ → List ℕ → Found → Option Field → List ℕ → Result Found UeventKind
field_read act path found None value = Ok found
field_read act path found (Some f) value = if is_field_set found f
    then Err kind.Repeated
    else first_value act path found f value

abbrev pub pair_read : List ℕ → List ℕ → Found → List ℕ → ℕ → Result Found UeventKind
pair_read act path found text n = if nat_eq n 0 || nat_eq n (length text)
    then Err kind.BadKey
    else field_read act path found (field_of (take n text)) (drop (n + 1) text)

-- a string behind those that have set what was found
abbrev pub string_read : List ℕ → List ℕ → Found → List ℕ → Result Found UeventKind
string_read act path found text = pair_read act path found text (length_before 61 text)

abbrev pub on_string : ℕ → Result Found UeventKind → (Found → Result Found SaidFault)
    → Result Found SaidFault
on_string place (Ok found) next = next found
on_string place (Err kind) next = Err (fault_of_kind kind place)

-- strings of which the first begins at a place
unfoldable pub strings_read : List ℕ → List ℕ → Found → ℕ → List (List ℕ) → Result Found SaidFault
strings_read act path found place [] = Ok found
strings_read act path found place (text ∷ texts) = on_string place (string_read act path found text)
    (λ next. strings_read act path next (place + (length text + 1)) texts)

-- what is told of what was found
pub record Hints (act path : List ℕ) (found : Found) (hint : Hint) : Type 0 where
  pub does : hint.action ≡ action_of act
  pub named : (name : List ℕ) → (hint.name ≡ Some name) ↔ ((found.usb ≡ true) × IsNameIn path name)
  pub numbered : hint.seq ≡ found.seq

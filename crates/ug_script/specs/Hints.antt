-- What a piece of recorded uevents comes to in a script, where memory is never refused.
use Rattle.std.specs.Prelude.{ℕ, ◌+◌, nat_eq, cond, ◌||◌, if◌then◌else◌, length, take, drop, map, List, [], ◌∷◌, ◌++◌, Option, Some, None, option_and_then, Result, Ok, Err}
use Rattle.ug_types.specs.TextFaults.{fault_of_kind}
use Rattle.ug_uevent.specs.Cuts.{length_before}
use Rattle.ug_uevent.specs.Faults.{SaidFault}
use Rattle.ug_uevent.specs.Reading.{action_of, nothing, strings_of, strings_read}
use Rattle.ug_uevent.specs.Streams.{Message, Whole, TooLong, stream_with_piece}
use Rattle.ug_uevent.specs.declared.fault.UeventKind.TheVariants as kind
use Rattle.ug_uevent.specs.declared.fields.Found.{Found}
use Rattle.ug_uevent.specs.declared.hint.Hint.{Hint}
use Rattle.ug_table.specs.Laws.{swept_before}
use Rattle.ug_core.specs.Event.{DaemonState}
use Rattle.ug_core.specs.Hinting.{hinted_names, names_due, refusals}
use Rattle.ug_steps.specs.Words.{name_of}

-- the part of a path behind its last slash

abbrev pub behind_here : ℕ → List ℕ → Option (List ℕ) → Option (List ℕ)
behind_here b bytes (Some part) = Some part
behind_here b bytes None = if nat_eq b 47 then Some bytes else None

abbrev pub last_part : List ℕ → Option (List ℕ)
last_part [] = None
last_part (b ∷ bytes) = behind_here b bytes (last_part bytes)

-- where that is a name of a node
abbrev pub name_of_path : List ℕ → Option (List ℕ)
name_of_path path = option_and_then (λ part. name_of part) (last_part path)

-- a message's header and its other strings

abbrev pub hint_found : List ℕ → List ℕ → Found → Hint
hint_found act path found =
    record {
      action = action_of act;
      name = cond found.usb (name_of_path path) None;
      seq = found.seq;
    }

abbrev pub if_found : List ℕ → List ℕ → Result Found SaidFault → Result Hint SaidFault
if_found act path (Ok found) = Ok (hint_found act path found)
if_found act path (Err fault) = Err fault

abbrev pub behind_header : List ℕ → List ℕ → ℕ → List ℕ → Result Hint SaidFault
behind_header act path place others =
    if_found act path (strings_read act path nothing place (strings_of others))

abbrev pub header_said : List ℕ → List ℕ → ℕ → Result Hint SaidFault
header_said header others n =
    if nat_eq n 0 || nat_eq n (length header) then Err (fault_of_kind kind.NoHeader 0)
    else behind_header (take n header) (drop (n + 1) header) (length header + 1) others

abbrev pub strings_said : List ℕ → List ℕ → Result Hint SaidFault
strings_said header others = header_said header others (length_before 64 header)

-- what a message says
unfoldable pub message_said : Message → Result Hint SaidFault
message_said (Whole bytes) =
    strings_said (take (length_before 0 bytes) bytes) (drop (length_before 0 bytes + 1) bytes)
message_said TooLong = Err (fault_of_kind kind.TooLong 8192)

-- a name in its place in the order of a sweep, unless it is there
abbrev pub placed_once : List ℕ → List (List ℕ) → List (List ℕ)
placed_once name [] = name ∷ []
placed_once name (first ∷ names) =
    if swept_before name first then name ∷ first ∷ names
    else if swept_before first name then first ∷ placed_once name names
    else first ∷ names

unfoldable pub swept_once : List (List ℕ) → List (List ℕ)
swept_once [] = []
swept_once (name ∷ names) = placed_once name (swept_once names)

abbrev pub with_answers : List (Result Hint SaidFault) → DaemonState → DaemonState
with_answers answers d =
    record d {
      sweep = record d.sweep { entries = d.sweep.entries ++ refusals answers };
      due = Some (names_due d.sweep.listed (swept_once (hinted_names answers)));
    }

-- The messages that end in the piece are read in order, those that are refused are noted, and the
-- names that the others hint at are due.
abbrev pub hint_played : List ℕ → DaemonState → DaemonState
hint_played piece d =
    record (with_answers (map message_said (stream_with_piece d.stream piece).messages) d) {
      stream = record { messages = []; begun = (stream_with_piece d.stream piece).begun };
    }

-- What a piece of a stream of recorded uevents brings to an event: its messages are read, those
-- that are refused are noted, and the names of the others are due.
use Rattle.std.specs.Prelude.{◌≡◌, ◌↔◌, ℕ, Bool, true, false, List, [], ◌∷◌, ◌++◌, flat_map, Option, Some, None, Result, Ok, Err, ◌⊎◌}
use Rattle.ug_types.specs.Elements.{Has}
use Rattle.ug_uevent.specs.declared.hint.Hint.{Hint}
use Rattle.ug_uevent.specs.Answers.{AnswersMessage}
use Rattle.ug_uevent.specs.Faults.{SaidFault, number_of_uevent_kind}
use Rattle.ug_uevent.specs.Streams.{Message, stream_with_piece}
use Rattle.ug_audit.specs.declared.entry.Entry.{Entry}
use Rattle.ug_audit.specs.declared.entry.Entry.TheVariants as entry
use Rattle.ug_audit.specs.declared.entry.Fault.TheVariants as fault
use Rattle.ug_table.specs.Laws.{AreInOrder}
use Rattle.ug_core.specs.Event.{DaemonState, noting}

-- a message that is refused has an entry

abbrev pub refusal_of : Result Hint SaidFault → List Entry
refusal_of (Ok hint) = []
refusal_of (Err bad) = entry.HintRefused (number_of_uevent_kind bad.kind) bad.place ∷ []

abbrev pub refusals : List (Result Hint SaidFault) → List Entry
refusals answers = flat_map refusal_of answers

-- and one that is taken may hint at a name

abbrev pub listed_name : Option (List ℕ) → List (List ℕ)
listed_name None = []
listed_name (Some name) = name ∷ []

abbrev pub name_hinted : Result Hint SaidFault → List (List ℕ)
name_hinted (Ok hint) = listed_name hint.name
name_hinted (Err bad) = []

abbrev pub hinted_names : List (Result Hint SaidFault) → List (List ℕ)
hinted_names answers = flat_map name_hinted answers

-- what each of the messages says, in order
abbrev pub AnswerEach : List Message → List (Result Hint SaidFault) → Type 0
AnswerEach [] answers = answers ≡ []
AnswerEach (m ∷ messages) [] = ⊥
AnswerEach (m ∷ messages) (a ∷ answers) = AnswersMessage m a × AnswerEach messages answers

-- each message is read, in order: the refusals are noted, and these are the names that are hinted
pub record ReadsMessages (messages : List Message) (names : List (List ℕ))
    (before after : List Entry) : Type 0 where
  pub answers : List (Result Hint SaidFault)
  pub each : AnswerEach messages answers
  pub noted : after ≡ before ++ refusals answers
  pub hinted : names ≡ hinted_names answers

-- where no listing has succeeded no name is due
abbrev pub names_due : Bool → List (List ℕ) → List (List ℕ)
names_due true names = names
names_due false names = []

-- The piece is taken. All messages that end in it are read, in order: each that is refused is
-- noted. The names that the others hint at are due, each once, in the order of a sweep, if a
-- listing has succeeded.
pub record TakesPiece (piece : List ℕ) (d e : DaemonState) : Type 0 where
  pub answers : List (Result Hint SaidFault)
  pub each : AnswerEach (stream_with_piece d.stream piece).messages answers
  pub names : List (List ℕ)
  pub order : AreInOrder names
  pub hinted : (name : List ℕ) → Has names name ↔ Has (hinted_names answers) name
  pub state : e
      ≡ record d {
        sweep = record d.sweep { entries = d.sweep.entries ++ refusals answers };
        stream = record { messages = []; begun = (stream_with_piece d.stream piece).begun };
        due = Some (names_due d.sweep.listed names);
      }

-- memory was refused for the piece or for its names: it is dropped, and no name is due
abbrev pub DropsPiece : DaemonState → DaemonState → Type 0
DropsPiece d e =
    e ≡ record (noting (entry.UnsettledAll fault.Memory) d) { due = Some [] }

abbrev pub MeetsPiece : List ℕ → DaemonState → DaemonState → Type 0
MeetsPiece piece d e = TakesPiece piece d e ⊎ DropsPiece d e

-- What a stream's next hint is.
use Rattle.std.specs.Prelude.{◌≡◌, [], ◌∷◌, Option, Some, None, Result, Err}
use Rattle.ug_types.specs.TextFaults.{fault_of_kind}
use Rattle.ug_uevent.specs.declared.fault.UeventKind.TheVariants as kind
use Rattle.ug_uevent.specs.declared.hint.Hint.{Hint}
use Rattle.ug_uevent.specs.Faults.{SaidFault}
use Rattle.ug_uevent.specs.Grammar.{ReadsAs}
use Rattle.ug_uevent.specs.Streams.{Message, Whole, TooLong, Stream}

-- a message's answer
abbrev pub AnswersMessage : Message → Result Hint SaidFault → Type 0
AnswersMessage (Whole bytes) answer = ReadsAs bytes answer
AnswersMessage TooLong answer = answer ≡ Err (fault_of_kind kind.TooLong 8192)

-- the first of the messages is handed out, and there is none exactly where none is left
abbrev pub HandsOutHint : Stream → Option (Result Hint SaidFault) → Stream → Type 0
HandsOutHint old (Some answer) new = (m : Message) × (old.messages ≡ m ∷ new.messages)
    × (new.begun ≡ old.begun) × AnswersMessage m answer
HandsOutHint old None new = (old.messages ≡ []) × (new ≡ old)

-- What is wrong with a message, and where.
use Rattle.std.specs.Prelude.{ℕ}
use Rattle.ug_types.specs.declared.text_fault.Fault as types
use Rattle.ug_uevent.specs.declared.fault.UeventKind.{UeventKind}
use Rattle.ug_uevent.specs.declared.fault.UeventKind.TheVariants.{NoHeader, BadKey, HeaderDiffers}
use Rattle.ug_uevent.specs.declared.fault.UeventKind.TheVariants.{Repeated, BadSeq, TooLong}

-- the number of a kind of fault
abbrev pub number_of_uevent_kind : UeventKind → ℕ
number_of_uevent_kind NoHeader = 1
number_of_uevent_kind BadKey = 2
number_of_uevent_kind HeaderDiffers = 3
number_of_uevent_kind Repeated = 4
number_of_uevent_kind BadSeq = 5
number_of_uevent_kind TooLong = 6

abbrev pub SaidFault : Type 0
SaidFault = types.Fault UeventKind

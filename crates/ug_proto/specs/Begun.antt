-- What a framer's fields stand for.
use Rattle.std.specs.Prelude.{ℕ, List, Option, Some, None}
use Rattle.ug_proto.specs.Lines.{Begun, Partial, Overlong, Out_of_memory}
use Rattle.ug_proto.specs.declared.framer.FrameFault.{FrameFault}
use Rattle.ug_proto.specs.declared.framer.FrameFault.TheVariants as fault

abbrev pub begun_of : List ℕ → Option FrameFault → Begun
begun_of line None = Partial line
begun_of line (Some fault.TooLong) = Overlong
begun_of line (Some fault.Memory) = Out_of_memory

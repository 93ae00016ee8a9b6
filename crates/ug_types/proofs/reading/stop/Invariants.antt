use Rattle.std.proofs.Common.{◌≡◌, take, Some}
use Rattle.ug_types.specs.declared.reading.Reading.TheVariants.{Start}
use Rattle.ug_types.proofs.Spelled.{read}
use Rattle.ug_types.proofs.reading.stop.Given as goal

abbrev pub invariant-loop-i : goal.invariant-loop-i
invariant-loop-i l = read (Some Start) (take l.i l.text) ≡ Some l.state

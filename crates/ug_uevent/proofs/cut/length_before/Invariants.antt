use Rattle.std.proofs.Common.{◌≡◌, ◌+◌, drop}
use Rattle.ug_uevent.specs.Cuts as cuts
use Rattle.ug_uevent.proofs.cut.length_before.Given as goal

abbrev pub invariant-loop-i : goal.invariant-loop-i
invariant-loop-i l = l.i + cuts.length_before l.sign (drop l.i l.text) ≡ cuts.length_before l.sign l.text

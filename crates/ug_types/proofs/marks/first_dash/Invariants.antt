use Rattle.std.proofs.Common.{◌≡◌, take, None}
use Rattle.ug_types.specs.Names.{before_dash}
use Rattle.ug_types.proofs.marks.first_dash.Given as goal

abbrev pub invariant-loop-i : goal.invariant-loop-i
invariant-loop-i l = before_dash (take l.i l.text) ≡ None

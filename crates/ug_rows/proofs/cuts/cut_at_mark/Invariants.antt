use Rattle.std.proofs.Common.{◌≡◌, take, drop}
use Rattle.ug_rows.specs.Cuts.{cut_at_mark}
use Rattle.ug_rows.proofs.Cutting.{onto_fronts}
use Rattle.ug_rows.proofs.cuts.cut_at_mark.Given as goal

abbrev pub invariant-loop-i : goal.invariant-loop-i
invariant-loop-i l = cut_at_mark l.mark l.text ≡ onto_fronts (take l.i l.text) (cut_at_mark l.mark (drop l.i l.text))

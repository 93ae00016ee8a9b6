use Rattle.std.proofs.Common.{◌≡◌, drop}
use Rattle.ug_lint.proofs.Tested.{pairs_pass}
use Rattle.ug_lint.proofs.operators.covers_in_order.Given as goal

abbrev pub invariant-loop-place : goal.invariant-loop-place
invariant-loop-place g l = pairs_pass g.T.Covers.covers (drop l.place l.values) (drop l.place l.others) ≡ pairs_pass g.T.Covers.covers l.values l.others

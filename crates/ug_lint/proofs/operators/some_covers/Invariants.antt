use Rattle.std.proofs.Common.{◌≡◌, drop}
use Rattle.std.specs.List.{list_any}
use Rattle.ug_match.specs.Operators.{matches_some}
use Rattle.ug_lint.proofs.operators.some_covers.Given as goal

abbrev pub invariant-loop-value : goal.invariant-loop-value
invariant-loop-value g l = list_any (matches_some g.T.Covers.covers l.others) (drop l.value-index l.values) ≡ list_any (matches_some g.T.Covers.covers l.others) l.values

use Rattle.std.proofs.Common.{◌≡◌, drop}
use Rattle.std.specs.List.{list_all}
use Rattle.ug_match.specs.Operators.{is_matched}
use Rattle.ug_lint.proofs.operators.each_covered.Given as goal

abbrev pub invariant-loop-other : goal.invariant-loop-other
invariant-loop-other g l = list_all (is_matched g.T.Covers.covers l.values) (drop l.other-index l.others) ≡ list_all (is_matched g.T.Covers.covers l.values) l.others

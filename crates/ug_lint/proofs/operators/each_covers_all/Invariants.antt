use Rattle.std.proofs.Common.{◌≡◌, drop}
use Rattle.std.specs.List.{list_all}
use Rattle.ug_lint.specs.Implied.{covers_all}
use Rattle.ug_lint.proofs.operators.each_covers_all.Given as goal

abbrev pub invariant-loop-value : goal.invariant-loop-value
invariant-loop-value g l = list_all (covers_all g.T.Covers.covers l.others) (drop l.value-index l.values) ≡ list_all (covers_all g.T.Covers.covers l.others) l.values

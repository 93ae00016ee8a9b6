use Rattle.std.proofs.Common.{◌≡◌, drop}
use Rattle.std.specs.List.{list_any}
use Rattle.ug_lint.proofs.operators.covers_some.Given as goal

abbrev pub invariant-loop-other : goal.invariant-loop-other
invariant-loop-other g l = list_any (λ other. g.T.Covers.covers l.value other) (drop l.other-index l.others) ≡ list_any (λ other. g.T.Covers.covers l.value other) l.others

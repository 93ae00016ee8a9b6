use Rattle.std.proofs.Common.{◌≡◌, drop}
use Rattle.std.specs.List.{list_any}
use Rattle.ug_lint.proofs.operators.is_covered.Given as goal

abbrev pub invariant-loop-value : goal.invariant-loop-value
invariant-loop-value g l = list_any (λ value. g.T.Covers.covers value l.other) (drop l.value-index l.values) ≡ list_any (λ value. g.T.Covers.covers value l.other) l.values

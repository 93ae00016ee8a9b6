use Rattle.std.proofs.Common.{◌≡◌, drop}
use Rattle.std.specs.List.{list_all, zip}
use Rattle.ug_match.proofs.operators.covers_in_order.Given as goal

-- those that are left decide
abbrev pub invariant-loop-i : goal.invariant-loop-i
invariant-loop-i g l = list_all (λ pair. g.T.Covers.covers pair.0 pair.1) (zip (drop l.i l.fn.rules) (drop l.i l.fn.device)) ≡ list_all (λ pair. g.T.Covers.covers pair.0 pair.1) (zip l.fn.rules l.fn.device)

use Rattle.std.proofs.Common.{◌≡◌, true, take}
use Rattle.std.specs.List.{list_all}
use Rattle.ug_match.specs.Operators.{is_matched}
use Rattle.ug_match.proofs.operators.each_is_covered.Given as goal

-- each so far is matched
abbrev pub invariant-loop-value : goal.invariant-loop-value
invariant-loop-value g l = list_all (is_matched g.T.Covers.covers l.fn.rules) (take l.value-index l.device) ≡ true

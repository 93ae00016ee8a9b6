use Rattle.std.proofs.Common.{◌≡◌, true, take}
use Rattle.std.specs.List.{list_all}
use Rattle.ug_match.specs.Operators.{matches_some}
use Rattle.ug_match.proofs.operators.each_covers.Given as goal

-- each so far matches
abbrev pub invariant-loop-rule : goal.invariant-loop-rule
invariant-loop-rule g l = list_all (matches_some g.T.Covers.covers l.fn.device) (take l.rule-index l.rules) ≡ true

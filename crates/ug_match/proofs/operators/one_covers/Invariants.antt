use Rattle.std.proofs.Common.{◌≡◌, false, take}
use Rattle.std.specs.List.{list_any}
use Rattle.ug_match.specs.Operators.{matches_some}
use Rattle.ug_match.proofs.operators.one_covers.Given as goal

-- none so far matches
abbrev pub invariant-loop-rule : goal.invariant-loop-rule
invariant-loop-rule g l = list_any (matches_some g.T.Covers.covers l.fn.device) (take l.rule-index l.rules) ≡ false

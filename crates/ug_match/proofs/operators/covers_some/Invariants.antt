use Rattle.std.proofs.Common.{◌≡◌, false, take}
use Rattle.std.specs.List.{list_any}
use Rattle.ug_match.proofs.operators.covers_some.Given as goal

-- none so far matches
abbrev pub invariant-loop-value : goal.invariant-loop-value
invariant-loop-value g l = list_any (λ value. g.T.Covers.covers l.fn.rule value) (take l.value-index l.device) ≡ false

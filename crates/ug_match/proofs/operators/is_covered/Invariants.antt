use Rattle.std.proofs.Common.{◌≡◌, false, take}
use Rattle.std.specs.List.{list_any}
use Rattle.ug_match.proofs.operators.is_covered.Given as goal

-- none so far matches
abbrev pub invariant-loop-rule : goal.invariant-loop-rule
invariant-loop-rule g l = list_any (λ rule. g.T.Covers.covers rule l.fn.value) (take l.rule-index l.rules) ≡ false

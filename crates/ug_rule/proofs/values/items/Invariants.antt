use Rattle.std.proofs.Common.{◌≡◌, ◌≤◌, [], length}
use Rattle.ug_rule.specs.Values as values
use Rattle.ug_rule.proofs.values.items.Given as goal

-- what is still to be read ends the whole reading
abbrev pub invariant-loop-token : goal.invariant-loop-token
invariant-loop-token g l = record {
  here : values.items_of (g.T.FromToken.in_token l.line) l.ending l.items l.tokens ≡ values.items_of (g.T.FromToken.in_token l.fn.line) l.fn.ending [] l.fn.tokens;
  shorter : length l.tokens ≤ length l.fn.tokens;
}

abbrev pub decreases-loop-token : goal.decreases-loop-token
decreases-loop-token g l = length l.tokens

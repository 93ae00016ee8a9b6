use Rattle.std.proofs.Common.{◌≡◌, ◌≤◌, ℕ, [], length}
use Rattle.ug_rule.specs.Conditions as conditions
use Rattle.ug_rule.proofs.conditions.items.Given as goal

-- what is still to be read ends the whole reading
abbrev pub invariant-loop-token : goal.invariant-loop-token
invariant-loop-token l = record {
  here : (n : ℕ) × (length l.tokens ≤ n) × (conditions.conds_from n l.line l.ending l.items l.tokens ≡ conditions.conds_from (length l.fn.tokens) l.fn.line l.fn.ending [] l.fn.tokens);
  shorter : length l.tokens ≤ length l.fn.tokens;
}

abbrev pub decreases-loop-token : goal.decreases-loop-token
decreases-loop-token l = length l.tokens

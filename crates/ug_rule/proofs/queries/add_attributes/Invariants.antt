use Rattle.std.proofs.Common.{◌≡◌, ◌≤◌, ℕ, length}
use Rattle.ug_rule.specs.Queries as queries
use Rattle.ug_rule.proofs.queries.add_attributes.Given as goal

-- what is still to be read ends the whole reading
abbrev pub invariant-loop-named : goal.invariant-loop-named
invariant-loop-named l = record {
  here : (n : ℕ) × (length l.tokens ≤ n) × (queries.attributes_from n l.line l.ending l.query l.tokens ≡ queries.attributes_of l.fn.line l.fn.ending l.fn.query l.fn.tokens);
  shorter : length l.tokens ≤ length l.fn.tokens;
}

abbrev pub decreases-loop-named : goal.decreases-loop-named
decreases-loop-named l = length l.tokens

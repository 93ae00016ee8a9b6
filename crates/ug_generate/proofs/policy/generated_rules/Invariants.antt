use Rattle.std.proofs.Common.{◌≡◌, ℕ, List, take, slice_get}
use Rattle.std.specs.Prelude.{All}
use Rattle.std.specs.List.{flat_map}
use Rattle.ug_rule.specs.Grammar.{WellFormed}
use Rattle.ug_print.specs.Bytes.{RuleOfBytes}
use Rattle.ug_generate.specs.Policies.{rules_at}
use Rattle.ug_generate.proofs.policy.generated_rules.Given as goal

abbrev pub invariant-loop-entry : goal.invariant-loop-entry
invariant-loop-entry l = record {
  rules : l.rules ≡ flat_map (λ (p : List ℕ × ℕ). rules_at l.devices l.with_port (slice_get l.devices p.1)) (take l.entry-index l.entry-items);
  well_formed : All WellFormed l.rules;
  bytes : All RuleOfBytes l.rules;
}

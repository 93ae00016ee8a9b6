use Rattle.std.proofs.Common.{◌≡◌, map, take}
use Rattle.std.specs.Prelude.{All}
use Rattle.ug_policy.specs.declared.entry.RuleEntry.{RuleEntry}
use Rattle.ug_rule.specs.Grammar.{WellFormed}
use Rattle.ug_lines.specs.Splitting.{AreLines}
use Rattle.ug_ruleset.specs.RuleRows.{rule_row}
use Rattle.ug_ruleset.proofs.rule_list.list_rules.Given as goal

abbrev pub invariant-loop-place : goal.invariant-loop-place
invariant-loop-place l = record {
  rows : l.rows ≡ map rule_row (take l.place l.rules.entries);
  one_line : All (λ (entry : RuleEntry). WellFormed entry.rule) l.rules.entries → AreLines l.rows;
}

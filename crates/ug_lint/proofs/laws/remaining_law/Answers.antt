use Rattle.std.proofs.Common.{[]}
use Rattle.ug_lint.proofs.Alike.{pruned_alike, same_rules}
use Rattle.ug_lint.proofs.FilledRules.{are_filled}
use Rattle.ug_lint.proofs.Settled.{settled}
use Rattle.ug_policy.specs.Rules.{rules_in}
use Rattle.ug_lint.proofs.laws.remaining_law.Goals as goal

pub returns : goal.returns
returns c = record {
  alike = λ dev ctx records entries stream well words. pruned_alike dev ctx records entries stream words (are_filled (rules_in entries) well);
  rules = λ entries. same_rules [] entries;
  once = settled;
}

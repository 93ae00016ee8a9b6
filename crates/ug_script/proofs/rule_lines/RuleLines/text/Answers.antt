use Rattle.std.proofs.Common.{◌≡◌, List, Ok, subst}
use Rattle.ug_types.specs.declared.rule.Rule.{Rule}
use Rattle.ug_rule.specs.Files.{file_read}
use Rattle.ug_print.specs.RuleTexts.{rules_text_of}
use Rattle.ug_script.proofs.KeptRules.{text_reads}
use Rattle.ug_script.proofs.rule_lines.RuleLines.text.Goals as goal

pub returns-clause-reads : goal.returns-clause-reads
returns-clause-reads c = subst (λ (rules : List Rule). file_read (rules_text_of rules) ≡ Ok rules) c.self.view_is (text_reads c.self.inside.text.items c.self.inside.count c.self.invariant)

use Rattle.std.proofs.Common.{◌≡◌, ◌++◌, Some, rules}
use Rattle.ug_policy.specs.declared.entry.RuleEntry.{RuleEntry}
use Rattle.ug_ruleset.specs.RuleEdits.{in_place}
use Rattle.ug_ruleset.specs.RuleFile.{saved_of, saved_rule}
use Rattle.ug_ruleset.proofs.FileTexts.{bytes_then}
use Rattle.ug_ruleset.proofs.file_text.put_edited.Goals as goal

pub returns-in_ok-put_rule-in-Insert-Rule-default-default-clause-bytes : goal.returns-in_ok-put_rule-in-Insert-Rule-default-default-clause-bytes
returns-in_ok-put_rule-in-Insert-Rule-default-default-clause-bytes c =
    let x = c.in-Insert-Rule-default-default in
    let e : RuleEntry = c.args.entry.now in
    let same : in_place (Some c.args.edit.now) e ≡ saved_of e ++ saved_rule x.mark x.rule = search rules in
    bytes_then c.put_rule-in-Insert-Rule-default-default.result (saved_of e) (saved_rule x.mark x.rule) (in_place (Some c.args.edit.now) e) same c.in_ok-put_rule-in-Insert-Rule-default-default.ensures.bytes c.put_rule-in-Insert-Rule-default-default.ensures.bytes

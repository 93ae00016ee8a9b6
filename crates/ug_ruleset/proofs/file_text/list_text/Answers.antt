use Rattle.std.proofs.Common.{List, OnOk, sym, subst}
use Rattle.std.specs.Prelude.{All}
use Rattle.ug_types.specs.declared.rule.Rule.{Rule}
use Rattle.ug_print.specs.Bytes.{RuleOfBytes}
use Rattle.ug_ruleset.proofs.Edited.{unedited_rules}
use Rattle.ug_ruleset.proofs.file_text.list_text.Goals as goal

pub returns-clause-bytes : goal.returns-clause-bytes
returns-clause-bytes c =
    subst (λ (rs : List Rule). OnOk c.file_text.result (All RuleOfBytes rs)) (sym (unedited_rules c.args.list.now.entries)) c.file_text.ensures.bytes

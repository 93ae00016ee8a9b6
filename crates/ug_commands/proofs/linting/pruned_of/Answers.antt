use Rattle.std.proofs.Common.{◌≡◌, ◌∙◌, All, List, ap, subst}
use Rattle.ug_types.specs.declared.rule.Rule.{Rule}
use Rattle.ug_rule.specs.Files.{file_read}
use Rattle.ug_print.specs.Bytes.{RuleOfBytes}
use Rattle.ug_print.specs.RuleTexts.{rules_text_of}
use Rattle.ug_print.proofs.RuleTexts.{text_read}
use Rattle.ug_lint.specs.Remaining.{remaining}
use Rattle.ug_commands.proofs.Remaining.{remaining_well}
use Rattle.ug_commands.proofs.linting.pruned_of.Goals as goal

pub returns-clause-pruned : goal.returns-clause-pruned
returns-clause-pruned c =
    let rules = c.in_ok-rules.rules.items in
    let left : c.as_slice.result.now ≡ remaining rules = c.as_slice.ensures.value ∙ c.in_ok-left.ensures.remaining in
    let text : c.in_ok-text.field-0 ≡ rules_text_of (remaining rules) =
    c.in_ok-text.ensures.text ∙ ap (λ (rs : List Rule). rules_text_of rs) left in
    let bytes : All RuleOfBytes (remaining rules) = subst (λ (rs : List Rule). All RuleOfBytes rs) left c.in_ok-text.ensures.bytes in
    record {
      rules = rules;
      few = c.in_ok-rules.ensures.few;
      is = text;
      reads = ap (λ t. file_read t) text ∙ text_read (remaining rules) (remaining_well rules c.in_ok-rules.ensures.well_formed) bytes;
      judges = λ dev ctx records entries stream same words.
          let alike = c.in_ok-left.ensures.judges dev ctx records entries stream same words in
          (alike.0 ∙ c.in_ok-left.ensures.remaining, alike.1);
    }

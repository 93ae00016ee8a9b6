use Rattle.std.proofs.Common.{◌≤◌, length, sym, subst}
use Rattle.ug_types.specs.Elements.{AllDistinct}
use Rattle.ug_policy.specs.Rules.{Rules, ids}
use Rattle.ug_print.specs.declared.rule_texts.RulesTextFault.TheVariants as fault
use Rattle.ug_ruleset.specs.RuleEdits.{EditReads, edited_by, rules_after}
use Rattle.ug_ruleset.proofs.Edited.{edited_rules}
use Rattle.ug_ruleset.proofs.Readable.{TextOf, edited_reads, few_edited, text_of_list}
use Rattle.ug_ruleset.proofs.kept_rules.KeptRules.text_after.Goals as goal
use Rattle.std.specs.Prelude.{Some}

pub returns : goal.returns
returns c =
    let list : Rules = c.self.inside.list in
    let edit = c.args.edit.now in
    let reads : EditReads edit list.entries = subst (λ (v : Rules). EditReads edit v.entries) (sym c.self.view_is) c.requires in
    let told = text_of_list fault.TooLong (edited_by edit list.next list.entries) (rules_after (Some edit) list.entries) c.file_text.result (sym (edited_rules edit list.next list.entries c.next_id-next.ensures.order reads)) (edited_reads edit list.next list.entries reads c.self.invariant.0) c.file_text.ensures.text c.file_text.ensures.bytes c.file_text.ensures.fits c.file_text.ensures.too_long in
    let now : Rules = c.args.self.now in
    let distinct : AllDistinct (ids now.entries) = subst (λ (v : Rules). AllDistinct (ids v.entries)) c.self.view_is c.next_id-next.ensures.distinct in
    let few : length now.entries ≤ 65536 = subst (λ (v : Rules). length v.entries ≤ 65536) c.self.view_is c.len-count.ensures.few in
    let is = subst (λ (v : Rules). TextOf fault.TooLong (edited_by edit v.next v.entries) c.file_text.result) c.self.view_is told in
    record {
      text = is.text;
      reads = is.reads;
      fits = is.fits;
      saves = λ can. is.saves (few_edited edit now.next now.entries can distinct few);
      too_long = is.long;
    }

use Rattle.std.proofs.Common.{sym, ap, subst}
use Rattle.std.specs.Prelude.{All}
use Rattle.ug_policy.specs.Edits.{removed}
use Rattle.ug_policy.specs.Rules.{Rules, rules_in}
use Rattle.ug_ruleset.specs.RuleFile.{IsSaveable, ReadsBack}
use Rattle.ug_ruleset.specs.declared.edit.Edit.TheVariants.{Remove}
use Rattle.ug_ruleset.proofs.Readable.{edited_reads}
use Rattle.ug_ruleset.proofs.kept_rules.KeptRules.remove.Goals as goal

pub invariant_of-self : goal.invariant_of-self
invariant_of-self c =
    let was = c.self.inside.list in (
      subst (All ReadsBack) (sym (ap rules_in c.remove-was_there.ensures.entries)) (edited_reads (Remove c.args.id) was.next was.entries tt c.self.invariant.0),
      subst IsSaveable (sym c.remove-was_there.ensures.entries) (subst (λ (v : Rules). IsSaveable (removed c.args.id v.entries)) (sym c.self.view_is) c.requires),
    )

use Rattle.std.proofs.Common.{sym, ap, subst}
use Rattle.std.specs.Prelude.{All}
use Rattle.ug_policy.specs.Edits.{retargeted}
use Rattle.ug_policy.specs.Rules.{Rules, rules_in}
use Rattle.ug_ruleset.specs.RuleEdits.{EditReads}
use Rattle.ug_ruleset.specs.RuleFile.{IsSaveable, ReadsBack}
use Rattle.ug_ruleset.specs.declared.edit.Edit.TheVariants.{Retarget}
use Rattle.ug_ruleset.proofs.Readable.{edited_reads}
use Rattle.ug_ruleset.proofs.kept_rules.KeptRules.retarget.Goals as goal

pub invariant_of-self : goal.invariant_of-self
invariant_of-self c =
    let was = c.self.inside.list in
    let same = sym c.self.view_is in (
      subst (All ReadsBack) (sym (ap rules_in c.set_target-was_there.ensures.entries)) (edited_reads (Retarget c.args.id c.args.rule.now) was.next was.entries (subst (λ (v : Rules). EditReads (Retarget c.args.id c.args.rule.now) v.entries) same c.requires.reads) c.self.invariant.0),
      subst IsSaveable (sym c.set_target-was_there.ensures.entries) (subst (λ (v : Rules). IsSaveable (retargeted c.args.id c.args.rule.now.target v.entries)) same c.requires.saves),
    )

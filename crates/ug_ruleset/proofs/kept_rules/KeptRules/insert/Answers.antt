use Rattle.std.proofs.Common.{sym, ap, subst}
use Rattle.std.specs.Prelude.{All}
use Rattle.ug_policy.specs.Edits.{inserted, new_entry}
use Rattle.ug_policy.specs.Rules.{Rules, rules_in}
use Rattle.ug_ruleset.specs.RuleFile.{IsSaveable, ReadsBack}
use Rattle.ug_ruleset.specs.declared.edit.Edit.TheVariants.{Insert}
use Rattle.ug_ruleset.proofs.Readable.{edited_reads}
use Rattle.ug_ruleset.proofs.kept_rules.KeptRules.insert.Goals as goal

pub invariant_of-self : goal.invariant_of-self
invariant_of-self c =
    let was = c.self.inside.list in
    let same = sym c.self.view_is in
    let is = c.insert-id.ensures.entries in (
      subst (All ReadsBack) (sym (ap rules_in is)) (edited_reads (Insert c.args.after c.args.rule c.args.mark) was.next was.entries c.requires.reads c.self.invariant.0),
      subst IsSaveable (sym is) (subst (λ (v : Rules). IsSaveable (inserted c.args.after (new_entry v.next c.args.rule c.args.mark) v.entries)) same c.requires.saves),
    )

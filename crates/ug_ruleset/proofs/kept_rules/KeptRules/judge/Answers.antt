use Rattle.std.proofs.Common.{sym, ap, subst}
use Rattle.std.specs.Prelude.{All}
use Rattle.ug_ruleset.specs.RuleFile.{IsSaveable, ReadsBack}
use Rattle.ug_policy.specs.Rules.{rules_in}
use Rattle.ug_ruleset.proofs.Given.{judged_reads, judged_saves}
use Rattle.ug_ruleset.proofs.kept_rules.KeptRules.judge.Goals as goal

pub invariant_of-self : goal.invariant_of-self
invariant_of-self g c =
    let was = c.self.inside.list in (
      subst (All ReadsBack) (sym (ap rules_in c.judge.ensures.judged.entries)) (judged_reads c.args.dev.now c.args.ctx.now (g.A.Allowed.records c.args.allowed.now) was.entries (g.R.Rng.stream c.args.rng.now) c.self.invariant.0),
      subst IsSaveable (sym c.judge.ensures.judged.entries) (judged_saves c.args.dev.now c.args.ctx.now (g.A.Allowed.records c.args.allowed.now) was.entries (g.R.Rng.stream c.args.rng.now) c.self.invariant.1),
    )

use Rattle.std.proofs.Common.{sym, subst, ◌∙◌}
use Rattle.ug_core.specs.Answering.{CanMake}
use Rattle.ug_core.specs.declared.choosing.Choice.{Choice}
use Rattle.ug_core.proofs.Places.{removal_free}
use Rattle.ug_core.proofs.daemon.Daemon.choose_removal.Goals as goal

pub returns-clause-can_make : goal.returns-clause-can_make
returns-clause-can_make g c =
    let rules = c.args.self.now.policy.rules.entries in
    subst (λ (v : Choice). CanMake rules v.change) (sym c.change.ensures) (removal_free c.args.id rules (sym c.refuse_removal.ensures ∙ c.in_default.is), tt)

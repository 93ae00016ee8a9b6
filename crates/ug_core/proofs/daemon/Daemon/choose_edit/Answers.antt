use Rattle.std.proofs.Common.{◌≡◌, ◌⊎◌, subst, false}
use Rattle.ug_types.specs.declared.refusal.Refusal.TheVariants as refusal
use Rattle.ug_ruleset.specs.declared.edit.Edit.{Edit}
use Rattle.ug_core.specs.Answering.{by_edit, refusing}
use Rattle.ug_core.specs.Policy.{judging_of}
use Rattle.ug_core.proofs.Places.{edit_can}
use Rattle.ug_core.proofs.daemon.Daemon.choose_edit.Goals as goal

pub choose_made_edit-requires-clause-can : goal.choose_made_edit-requires-clause-can
choose_made_edit-requires-clause-can g c =
    let p = judging_of g.Z.Zone.clock g.R.Rng.stream c.args.self.now.policy in
    λ room. (edit_can c.args.device.now c.args.verdict p c.in-Ok.edit c.in-Ok.ensures.edit room, c.in-Ok.ensures.reads)

pub returns-in-Ok-clause-chosen : goal.returns-in-Ok-clause-chosen
returns-in-Ok-clause-chosen g c =
    let p = judging_of g.Z.Zone.clock g.R.Rng.stream c.args.self.now.policy in
    subst (λ (e : Edit). (c.choose_made_edit.result ≡ by_edit p c.args.number c.args.verdict c.args.on e) ⊎ (c.choose_made_edit.result ≡ refusing (refusal.Memory false))) c.in-Ok.ensures.edit c.choose_made_edit.ensures.chosen

use Rattle.std.proofs.Common.{◌≡◌, ◌⊎◌, ◌∙◌, inl, sym, subst, false}
use Rattle.ug_types.specs.declared.refusal.Refusal.TheVariants as refusal
use Rattle.ug_ruleset.specs.RuleEdits.{if_room_for}
use Rattle.ug_core.specs.Answering.{CanMake, by_edit, changing, refusing}
use Rattle.ug_core.specs.Changes.{change_lines}
use Rattle.ug_core.specs.Policy.{judging_of}
use Rattle.ug_core.specs.declared.changes.Change.TheVariants as change
use Rattle.ug_core.specs.declared.choosing.Choice.{Choice}
use Rattle.ug_core.specs.declared.choosing.Deed.TheVariants as deed
use Rattle.ug_core.proofs.Places.{edit_taken, refused_so}
use Rattle.ug_core.proofs.daemon.Daemon.choose_made_edit.Goals as goal

pub returns-in-Ok-clause-chosen : goal.returns-in-Ok-clause-chosen
returns-in-Ok-clause-chosen g c =
    let p = judging_of g.Z.Zone.clock g.R.Rng.stream c.args.self.now.policy in
    inl (c.change.ensures ∙ edit_taken p c.args.number c.args.verdict c.args.on c.args.edit c.in-Ok.lines c.in-Ok.ensures.free c.in-Ok.ensures.lines)

pub returns-in-Ok-clause-can_make : goal.returns-in-Ok-clause-can_make
returns-in-Ok-clause-can_make g c = subst (λ (v : Choice). CanMake c.args.self.now.policy.rules.entries v.change) (sym c.change.ensures) (c.requires.can c.in-Ok.ensures.free)

pub returns-in-Err-clause-chosen : goal.returns-in-Err-clause-chosen
returns-in-Err-clause-chosen g c =
    let p = judging_of g.Z.Zone.clock g.R.Rng.stream c.args.self.now.policy in
    let made = changing (change.Rules c.args.edit) (deed.SetVerdict c.args.number c.args.verdict c.args.on (change_lines (change.Rules c.args.edit) p.next)) in
    subst (λ (v : Choice). (v ≡ by_edit p c.args.number c.args.verdict c.args.on c.args.edit) ⊎ (v ≡ refusing (refusal.Memory false))) (sym c.refuse.ensures) (refused_so (if_room_for c.args.edit p.rules) made c.in-Err.refusal c.in-Err.ensures.refused)

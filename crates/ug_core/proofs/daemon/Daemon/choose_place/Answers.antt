use Rattle.std.proofs.Common.{◌≡◌, ◌⊎◌, ◌∙◌, ◌∷◌, [], inl, sym, subst, false, None, Some, Result, Ok}
use Rattle.std.specs.Prelude.{decimal}
use Rattle.ug_types.specs.declared.refusal.Refusal.TheVariants as refusal
use Rattle.ug_rule.specs.declared.fault.Fault.{Fault}
use Rattle.ug_rule.proofs.RuleCuts.{read_well}
use Rattle.ug_policy.specs.declared.entry.Mark.{Mark}
use Rattle.ug_ruleset.specs.RuleEdits.{CanEdit}
use Rattle.ug_ruleset.specs.RulePlaces.{if_taken}
use Rattle.ug_ruleset.specs.declared.edit.Edit.TheVariants.{Insert}
use Rattle.ug_types.specs.declared.rule.Rule.{Rule}
use Rattle.ug_core.specs.Answering.{CanMake, by_rule, changing, refusing}
use Rattle.ug_core.specs.Changes.{ordered_mark}
use Rattle.ug_core.specs.Policy.{judging_of}
use Rattle.ug_core.specs.declared.changes.Change.TheVariants as change
use Rattle.ug_core.specs.declared.choosing.Choice.{Choice}
use Rattle.ug_core.specs.declared.choosing.Deed.TheVariants as deed
use Rattle.ug_core.proofs.Places.{place_free, refused_so, rule_taken}
use Rattle.ug_core.proofs.daemon.Daemon.choose_place.Goals as goal

pub returns-in-Ok-clause-chosen : goal.returns-in-Ok-clause-chosen
returns-in-Ok-clause-chosen g c =
    let p = judging_of g.Z.Zone.clock g.R.Rng.stream c.args.self.now.policy in
    let marked = c.ordered_mark-mark.ensures in
    let free = subst (λ (m : Mark). if_taken c.args.after m p.rules ≡ None) marked c.in-Ok.ensures.free in
    inl (subst (λ (r : Result Rule Fault). c.change.result ≡ by_rule p c.args.after c.args.permanent r) (sym c.requires)
    (c.change.ensures ∙ rule_taken p c.args.after c.args.permanent c.args.rule c.ordered_mark-mark.result c.in-Ok.lines marked free c.in-Ok.ensures.lines))

pub returns-in-Ok-clause-can_make : goal.returns-in-Ok-clause-can_make
returns-in-Ok-clause-can_make g c =
    let rules = c.args.self.now.policy.rules.entries in
    let marked = c.ordered_mark-mark.ensures in
    let free = subst (λ (m : Mark). if_taken c.args.after m rules ≡ None) marked c.in-Ok.ensures.free in
    let can = subst (λ (m : Mark). CanEdit (Insert c.args.after c.args.rule m) rules) (sym marked) (place_free c.args.after c.args.permanent rules free) in
    subst (λ (v : Choice). CanMake rules v.change) (sym c.change.ensures) (can, c.stay_readable.ensures.reads (read_well c.args.rule (c.args.text.now, c.requires)))

pub returns-in-Err-clause-chosen : goal.returns-in-Err-clause-chosen
returns-in-Err-clause-chosen g c =
    let p = judging_of g.Z.Zone.clock g.R.Rng.stream c.args.self.now.policy in
    let made = changing (change.Rules (Insert c.args.after c.args.rule (ordered_mark c.args.permanent))) (deed.Tell (decimal p.next ∷ [])) in
    let refused = subst (λ (m : Mark). (if_taken c.args.after m p.rules ≡ Some c.in-Err.refusal) ⊎ (c.in-Err.refusal ≡ refusal.Memory false)) c.ordered_mark-mark.ensures c.in-Err.ensures.refused in
    subst (λ (r : Result Rule Fault). (c.refuse.result ≡ by_rule p c.args.after c.args.permanent r) ⊎ (c.refuse.result ≡ refusing (refusal.Memory false))) (sym c.requires)
    (subst (λ (v : Choice). (v ≡ by_rule p c.args.after c.args.permanent (Ok c.args.rule)) ⊎ (v ≡ refusing (refusal.Memory false))) (sym c.refuse.ensures) (refused_so (if_taken c.args.after (ordered_mark c.args.permanent) p.rules) made c.in-Err.refusal refused))

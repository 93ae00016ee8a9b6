use Rattle.std.proofs.Common.{◌≡◌, ℕ, Bool, not, List, length, Option, Some, sym, ap, subst, ◌∙◌, arith}
use Rattle.ug_kernel.specs.Tree.{Runs}
use Rattle.ug_audit.specs.Journal.{noted_in}
use Rattle.ug_table.specs.Laws.{AreInOrder}
use Rattle.ug_table.specs.Several.{GoesInNames, SettlesNames}
use Rattle.ug_table.specs.State.{State, Terms, state_of, terms_for, terms_of}
use Rattle.ug_table.specs.Sweep.{settling_all}
use Rattle.ug_core.specs.Due.{AreDueInOrder, SettlesDueIn, TellsDue, entries_due, standings_due}
use Rattle.ug_core.specs.Event.{settling_due}
use Rattle.ug_core.specs.Policy.{Judging, judging_of, policy_answer, policy_later}
use Rattle.ug_core.proofs.Handled.{names_once, names_settle, names_tell, sweep_tells}
use Rattle.ug_core.proofs.settling.settle_due.Goals as goal

pub sweep-requires-clause-room : goal.sweep-requires-clause-room
sweep-requires-clause-room g c =
    let few = ap (λ (x : Option (List (List ℕ))). entries_due x (length c.args.table.now.standings)) c.in-None.is in
    omega (arith, few, c.requires.spare)

pub settle_names-requires-clause-room : goal.settle_names-requires-clause-room
settle_names-requires-clause-room g c =
    let is : c.args.due ≡ Some c.as_slice.result.now = c.in-Some.is ∙ ap (λ (ns : List (List ℕ)). Some ns) (sym c.as_slice.ensures) in
    let few = ap (λ (x : Option (List (List ℕ))). entries_due x (length c.args.table.now.standings)) is in
    omega (arith, few, c.requires.spare)

pub settle_names-requires-clause-next : goal.settle_names-requires-clause-next
settle_names-requires-clause-next g c =
    let is : c.args.due ≡ Some c.as_slice.result.now = c.in-Some.is ∙ ap (λ (ns : List (List ℕ)). Some ns) (sym c.as_slice.ensures) in
    let few = ap standings_due is in
    omega (arith, few, c.requires.few, c.requires.next)

pub returns-in-None-clause-runs : goal.returns-in-None-clause-runs
returns-in-None-clause-runs g c =
    let w : State Judging = state_of c.args.hub_default c.args.table.now (judging_of g.Z.Zone.clock g.R.Rng.stream c.args.policy.now) (noted_in c.args.out.now).entries in
    let v : State Judging = state_of c.args.hub_default c.sweep.new.self (judging_of g.Z.Zone.clock g.R.Rng.stream c.sweep.new.judge) (noted_in c.sweep.new.out).entries in
    subst (λ (x : Option (List (List ℕ))). Runs g.Y.Sysfs.gives c.args.sysfs.now (settling_due x w) v c.sweep.new.sysfs) (sym c.in-None.is) c.sweep.ensures.runs

pub returns-in-None-clause-law : goal.returns-in-None-clause-law
returns-in-None-clause-law g c =
    let w : State Judging = state_of c.args.hub_default c.args.table.now (judging_of g.Z.Zone.clock g.R.Rng.stream c.args.policy.now) (noted_in c.args.out.now).entries in
    let v : State Judging = state_of c.args.hub_default c.sweep.new.self (judging_of g.Z.Zone.clock g.R.Rng.stream c.sweep.new.judge) (noted_in c.sweep.new.out).entries in
    subst (λ (x : Option (List (List ℕ))). SettlesDueIn g.Y.Sysfs.told x c.args.sysfs.now w c.sweep.new.sysfs v) (sym c.in-None.is) c.sweep.ensures.swept

pub returns-in-None-clause-tells : goal.returns-in-None-clause-tells
returns-in-None-clause-tells g c =
    let w : State Judging = state_of c.args.hub_default c.args.table.now (judging_of g.Z.Zone.clock g.R.Rng.stream c.args.policy.now) (noted_in c.args.out.now).entries in
    let v : State Judging = state_of c.args.hub_default c.sweep.new.self (judging_of g.Z.Zone.clock g.R.Rng.stream c.sweep.new.judge) (noted_in c.sweep.new.out).entries in
    subst (λ (x : Option (List (List ℕ))). TellsDue g.Y.Sysfs.gives g.Y.Sysfs.calls g.Y.Sysfs.faults x c.args.sysfs.now w c.sweep.new.sysfs v) (sym c.in-None.is)
    (sweep_tells g.Y.Sysfs.gives g.Y.Sysfs.calls g.Y.Sysfs.faults c.args.sysfs.now w c.sweep.new.sysfs v c.sweep.ensures.faults)

pub returns-in-None-clause-once : goal.returns-in-None-clause-once
returns-in-None-clause-once g c =
    c.sweep.ensures.once

pub returns-in-None-clause-room : goal.returns-in-None-clause-room
returns-in-None-clause-room g c =
    λ h. let few = ap standings_due c.in-None.is in c.sweep.ensures.room (omega (arith, h, few))

pub returns-in-Some-clause-runs : goal.returns-in-Some-clause-runs
returns-in-Some-clause-runs g c =
    let w : State Judging = state_of c.args.hub_default c.args.table.now (judging_of g.Z.Zone.clock g.R.Rng.stream c.args.policy.now) (noted_in c.args.out.now).entries in
    let v : State Judging = state_of c.args.hub_default c.settle_names.new.self (judging_of g.Z.Zone.clock g.R.Rng.stream c.settle_names.new.judge) (noted_in c.settle_names.new.out).entries in
    let slice : List (List ℕ) = c.as_slice.result.now in
    let is : c.args.due ≡ Some slice = c.in-Some.is ∙ ap (λ (ns : List (List ℕ)). Some ns) (sym c.as_slice.ensures) in
    let terms : terms_of (not c.listed-present.result) c.args.hub_default ≡ terms_for w = ap (λ (b : Bool). terms_of (not b) c.args.hub_default) c.listed-present.ensures in
    subst (λ (x : Option (List (List ℕ))). Runs g.Y.Sysfs.gives c.args.sysfs.now (settling_due x w) v c.settle_names.new.sysfs) (sym is)
    (subst (λ (x : Terms). Runs g.Y.Sysfs.gives c.args.sysfs.now (settling_all policy_answer policy_later slice x w) v c.settle_names.new.sysfs) terms c.settle_names.ensures.runs)

pub returns-in-Some-clause-law : goal.returns-in-Some-clause-law
returns-in-Some-clause-law g c =
    let w : State Judging = state_of c.args.hub_default c.args.table.now (judging_of g.Z.Zone.clock g.R.Rng.stream c.args.policy.now) (noted_in c.args.out.now).entries in
    let v : State Judging = state_of c.args.hub_default c.settle_names.new.self (judging_of g.Z.Zone.clock g.R.Rng.stream c.settle_names.new.judge) (noted_in c.settle_names.new.out).entries in
    let slice : List (List ℕ) = c.as_slice.result.now in
    let is : c.args.due ≡ Some slice = c.in-Some.is ∙ ap (λ (ns : List (List ℕ)). Some ns) (sym c.as_slice.ensures) in
    let terms : terms_of (not c.listed-present.result) c.args.hub_default ≡ terms_for w = ap (λ (b : Bool). terms_of (not b) c.args.hub_default) c.listed-present.ensures in
    let order : AreInOrder slice = subst AreDueInOrder is c.requires.order in
    let goes : GoesInNames g.Y.Sysfs.gives g.Y.Sysfs.calls g.Y.Sysfs.faults (terms_for w) slice c.args.sysfs.now w c.settle_names.new.sysfs v = subst (λ (x : Terms). GoesInNames g.Y.Sysfs.gives g.Y.Sysfs.calls g.Y.Sysfs.faults x slice c.args.sysfs.now w c.settle_names.new.sysfs v) terms (c.settle_names.ensures.parts order) in
    let law : SettlesNames g.Y.Sysfs.told policy_answer policy_later (terms_for w) slice c.args.sysfs.now w c.settle_names.new.sysfs v = subst (λ (x : Terms). SettlesNames g.Y.Sysfs.told policy_answer policy_later x slice c.args.sysfs.now w c.settle_names.new.sysfs v) terms c.settle_names.ensures.law in
    subst (λ (x : Option (List (List ℕ))). SettlesDueIn g.Y.Sysfs.told x c.args.sysfs.now w c.settle_names.new.sysfs v) (sym is)
    (names_settle g.Y.Sysfs.gives g.Y.Sysfs.calls g.Y.Sysfs.faults g.Y.Sysfs.told slice c.args.sysfs.now w c.settle_names.new.sysfs v order goes law)

pub returns-in-Some-clause-tells : goal.returns-in-Some-clause-tells
returns-in-Some-clause-tells g c =
    let w : State Judging = state_of c.args.hub_default c.args.table.now (judging_of g.Z.Zone.clock g.R.Rng.stream c.args.policy.now) (noted_in c.args.out.now).entries in
    let v : State Judging = state_of c.args.hub_default c.settle_names.new.self (judging_of g.Z.Zone.clock g.R.Rng.stream c.settle_names.new.judge) (noted_in c.settle_names.new.out).entries in
    let slice : List (List ℕ) = c.as_slice.result.now in
    let is : c.args.due ≡ Some slice = c.in-Some.is ∙ ap (λ (ns : List (List ℕ)). Some ns) (sym c.as_slice.ensures) in
    let terms : terms_of (not c.listed-present.result) c.args.hub_default ≡ terms_for w = ap (λ (b : Bool). terms_of (not b) c.args.hub_default) c.listed-present.ensures in
    let order : AreInOrder slice = subst AreDueInOrder is c.requires.order in
    let goes : GoesInNames g.Y.Sysfs.gives g.Y.Sysfs.calls g.Y.Sysfs.faults (terms_for w) slice c.args.sysfs.now w c.settle_names.new.sysfs v = subst (λ (x : Terms). GoesInNames g.Y.Sysfs.gives g.Y.Sysfs.calls g.Y.Sysfs.faults x slice c.args.sysfs.now w c.settle_names.new.sysfs v) terms (c.settle_names.ensures.parts order) in
    subst (λ (x : Option (List (List ℕ))). TellsDue g.Y.Sysfs.gives g.Y.Sysfs.calls g.Y.Sysfs.faults x c.args.sysfs.now w c.settle_names.new.sysfs v) (sym is)
    (names_tell g.Y.Sysfs.gives g.Y.Sysfs.calls g.Y.Sysfs.faults slice c.args.sysfs.now w c.settle_names.new.sysfs v goes)

pub returns-in-Some-clause-once : goal.returns-in-Some-clause-once
returns-in-Some-clause-once g c =
    let w : State Judging = state_of c.args.hub_default c.args.table.now (judging_of g.Z.Zone.clock g.R.Rng.stream c.args.policy.now) (noted_in c.args.out.now).entries in
    let v : State Judging = state_of c.args.hub_default c.settle_names.new.self (judging_of g.Z.Zone.clock g.R.Rng.stream c.settle_names.new.judge) (noted_in c.settle_names.new.out).entries in
    let slice : List (List ℕ) = c.as_slice.result.now in
    let is : c.args.due ≡ Some slice = c.in-Some.is ∙ ap (λ (ns : List (List ℕ)). Some ns) (sym c.as_slice.ensures) in
    let terms : terms_of (not c.listed-present.result) c.args.hub_default ≡ terms_for w = ap (λ (b : Bool). terms_of (not b) c.args.hub_default) c.listed-present.ensures in
    let order : AreInOrder slice = subst AreDueInOrder is c.requires.order in
    let goes : GoesInNames g.Y.Sysfs.gives g.Y.Sysfs.calls g.Y.Sysfs.faults (terms_for w) slice c.args.sysfs.now w c.settle_names.new.sysfs v = subst (λ (x : Terms). GoesInNames g.Y.Sysfs.gives g.Y.Sysfs.calls g.Y.Sysfs.faults x slice c.args.sysfs.now w c.settle_names.new.sysfs v) terms (c.settle_names.ensures.parts order) in
    let law : SettlesNames g.Y.Sysfs.told policy_answer policy_later (terms_for w) slice c.args.sysfs.now w c.settle_names.new.sysfs v = subst (λ (x : Terms). SettlesNames g.Y.Sysfs.told policy_answer policy_later x slice c.args.sysfs.now w c.settle_names.new.sysfs v) terms c.settle_names.ensures.law in
    names_once g.Y.Sysfs.gives g.Y.Sysfs.calls g.Y.Sysfs.faults g.Y.Sysfs.told slice c.args.sysfs.now w c.settle_names.new.sysfs v order goes law

pub returns-in-Some-clause-spare : goal.returns-in-Some-clause-spare
returns-in-Some-clause-spare g c =
    let is : c.args.due ≡ Some c.as_slice.result.now = c.in-Some.is ∙ ap (λ (ns : List (List ℕ)). Some ns) (sym c.as_slice.ensures) in
    let few = ap (λ (x : Option (List (List ℕ))). entries_due x (length c.args.table.now.standings)) is in
    omega (arith, few, c.requires.spare, c.settle_names.ensures.journal.2)

pub returns-in-Some-clause-room : goal.returns-in-Some-clause-room
returns-in-Some-clause-room g c =
    λ h.
    let is : c.args.due ≡ Some c.as_slice.result.now = c.in-Some.is ∙ ap (λ (ns : List (List ℕ)). Some ns) (sym c.as_slice.ensures) in
    let few = ap standings_due is in
    omega (arith, h, few, c.settle_names.ensures.journal.1, c.settle_names.ensures.len)

pub returns-in-Some-clause-same : goal.returns-in-Some-clause-same
returns-in-Some-clause-same g c =
    c.settle_names.ensures.journal.0

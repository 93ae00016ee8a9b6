use Rattle.std.proofs.Common.{[], subst, sym, Some}
use Rattle.ug_core.specs.Event.{daemon_of}
use Rattle.ug_script.specs.declared.progress.Phase.{Phase}
use Rattle.ug_steps.specs.declared.step.Step.TheVariants.{Event}
use Rattle.ug_script.specs.LinesRead.{StepReads}
use Rattle.ug_script.specs.Replay.{Played, event_taken}
use Rattle.ug_script.specs.Script.{Started, phase_of}
use Rattle.ug_script.specs.Taking.{StepsToTell, ran_of, reported, text_to_write}
use Rattle.ug_script.proofs.EventSteps.{later_steps}
use Rattle.ug_script.proofs.progress.Running.event.Goals as goal

pub returns-in-Started-clause-ran : goal.returns-in-Started-clause-ran
returns-in-Started-clause-ran c =
    let s = c.in-Started.session in
    let n = c.planned_event.new in
    let self = c.args.self.now in
    let came : Played = record { daemon = daemon_of n.session.daemon; world = n.kernel; disk = n.session.disk } in
    subst (λ (phase : Phase). StepsToTell (event_taken c.args.event.now (record { setup = self.setup; phase = phase_of phase; planned = self.plan.items }) c.args.kernel.now) (Some (record { setup = self.setup; phase = Started came.daemon came.disk; planned = n.plan.items }), n.kernel) (reported n.session.daemon.report) c.planned_event.result)
    (sym c.in-Started.is)
    (later_steps c.args.event.now self.setup (daemon_of s.daemon) s.disk self.plan.items n.plan.items c.args.kernel.now came (Some []) (Some (text_to_write (reported n.session.daemon.report) c.planned_event.result)) (ran_of c.planned_event.result) c.planned_event.ensures.planned c.planned_event.ensures.ran)

pub returns-in-Started-clause-readable : goal.returns-in-Started-clause-readable
returns-in-Started-clause-readable c done =
    subst (λ (phase : Phase). StepReads (Some (Event c.args.event.now)) (record { setup = c.args.self.now.setup; phase = phase_of phase; planned = c.args.self.now.plan.items }) c.args.kernel.now)
    (sym c.in-Started.is)
    (λ new. (let none : ⊥ = cc in absurd none), c.planned_event.ensures.readable done)

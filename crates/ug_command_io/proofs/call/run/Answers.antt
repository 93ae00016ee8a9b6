use Rattle.std.proofs.Common.{ℕ, subst, sym, ◌∙◌}
use Rattle.ug_command_io.specs.Statuses.{AnswersLines}
use Rattle.ug_command_io.proofs.Outputs.{answers, done-only, read-only, refused-only, written-only}
use Rattle.ug_command_io.proofs.call.run.Goals as goal

pub returns-clause-answers : goal.returns-clause-answers
returns-clause-answers g c = λ all base a b.
    subst (λ (s : ℕ). AnswersLines g.M.Machine.step_of g.M.Machine.closing (g.M.Machine.state c.args.machine.now, c.args.world.now) all base (g.S.Source.left c.replay.new.input) (g.K.Sink.held c.replay.new.out) (g.M.Machine.state c.replay.new.machine, c.replay.new.world) s) (sym c.status.ensures)
    (answers g.M.Machine.step_of g.M.Machine.closing (g.M.Machine.state c.args.machine.now, c.args.world.now) (g.S.Source.left c.args.input.now) (g.S.Source.left c.replay.new.input) (g.K.Sink.held c.args.out.now) (g.K.Sink.held c.replay.new.out) (g.M.Machine.state c.replay.new.machine, c.replay.new.world) c.replay.result c.replay.ensures.told all base a b)

pub returns-clause-refused : goal.returns-clause-refused
returns-clause-refused g c = λ all is e. let fault = refused-only c.replay.result (sym c.status.ensures ∙ e) in (fault.0, c.replay.ensures.why all is fault.0 fault.1)

pub returns-clause-taken : goal.returns-clause-taken
returns-clause-taken g c = λ all is e. c.replay.ensures.taken all is (done-only c.replay.result (sym c.status.ensures ∙ e))

pub returns-clause-read : goal.returns-clause-read
returns-clause-read g c = λ e. c.replay.ensures.read (read-only c.replay.result (sym c.status.ensures ∙ e))

pub returns-clause-written : goal.returns-clause-written
returns-clause-written g c = λ e. c.replay.ensures.written (written-only c.replay.result (sym c.status.ensures ∙ e))

pub returns-clause-others : goal.returns-clause-others
returns-clause-others g c = (c.replay.result, c.status.ensures)

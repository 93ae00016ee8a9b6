use Rattle.std.proofs.Common.{◌≡◌, [], ◌++◌, Some, ap, inl, subst, sym}
use Rattle.ug_command_io.specs.Refusals.{fault_in}
use Rattle.ug_script.specs.Replay.{interpreter_state, outcome_text}
use Rattle.ug_script.specs.Taking.{ran_of, reported_by}
use Rattle.ug_script.specs.declared.taken.Taken.{Taken}
use Rattle.ug_script.specs.declared.interpreter.Interpreter.{Interpreter}
use Rattle.ug_script.proofs.Against.{line_fault}
use Rattle.ug_script.proofs.Takings.{bad_counted, long_counted, text_counted}
use Rattle.ug_script.proofs.summarizer.SummarizerMachineSimKernel.step.Goals as goal

pub returns-in-Silent-clause-ran : goal.returns-in-Silent-clause-ran
returns-in-Silent-clause-ran g c =
    text_counted c.args.self.now.totals c.count_text.new.self.totals _ (interpreter_state c.take_line.new.self, c.take_line.new.kernel) (interpreter_state c.count_text.new.self.script) [] (g.K.Sink.held c.args._out.now) c.count_text.result
    (inl c.count_text.ensures.done) (ap (λ (x : Interpreter). interpreter_state x) c.count_text.ensures.script) (λ done. c.count_text.ensures.totals) (rw c.in-Silent.is at c.take_line.ensures.ran)

pub returns-in-Event-clause-ran : goal.returns-in-Event-clause-ran
returns-in-Event-clause-ran g c =
    text_counted c.args.self.now.totals c.count_event.new.self.totals _ (interpreter_state c.take_line.new.self, c.take_line.new.kernel) (interpreter_state c.count_event.new.self.script) (outcome_text (reported_by c.take_line.new.self.running) ++ c.in-Event.passed.items) (g.K.Sink.held c.args._out.now) c.count_event.result
    c.count_event.ensures.done (ap (λ (x : Interpreter). interpreter_state x) c.count_event.ensures.script) (rw c.as_slice.ensures.value at c.count_event.ensures.totals) (rw c.in-Event.is at c.take_line.ensures.ran)

pub returns-in-Text-clause-ran : goal.returns-in-Text-clause-ran
returns-in-Text-clause-ran g c =
    text_counted c.args.self.now.totals c.count_text-in-Text.new.self.totals _ (interpreter_state c.take_line.new.self, c.take_line.new.kernel) (interpreter_state c.count_text-in-Text.new.self.script) c.in-Text.text.items (g.K.Sink.held c.args._out.now) c.count_text-in-Text.result
    (inl c.count_text-in-Text.ensures.done) (ap (λ (x : Interpreter). interpreter_state x) c.count_text-in-Text.ensures.script) (λ done. rw c.as_slice-in-Text.ensures.value at c.count_text-in-Text.ensures.totals) (rw c.in-Text.is at c.take_line.ensures.ran)

pub returns-in-Bad-clause-ran : goal.returns-in-Bad-clause-ran
returns-in-Bad-clause-ran g c = bad_counted c.args.self.now.totals _ (interpreter_state c.take_line.new.self, c.take_line.new.kernel) (g.K.Sink.held c.args._out.now) (rw c.in-Bad.is at c.take_line.ensures.ran)

pub returns-in-TooLong-clause-ran : goal.returns-in-TooLong-clause-ran
returns-in-TooLong-clause-ran g c = long_counted c.args.self.now.totals _ (interpreter_state c.take_line.new.self, c.take_line.new.kernel) (g.K.Sink.held c.args._out.now) (rw c.in-TooLong.is at c.take_line.ensures.ran)

pub returns-in-Bad-clause-why : goal.returns-in-Bad-clause-why
returns-in-Bad-clause-why g c = λ fault e.
    line_fault (interpreter_state c.args.self.now.script, c.args.world.now) c.args.line.now _ _ _ (ran_of c.take_line.result) c.take_line.ensures.ran c.take_line.ensures.why fault
    (subst (λ (t : Taken). fault_in (ran_of t) ≡ Some fault) (sym c.in-Bad.is) e)

pub returns-in-TooLong-clause-why : goal.returns-in-TooLong-clause-why
returns-in-TooLong-clause-why g c = λ fault e.
    line_fault (interpreter_state c.args.self.now.script, c.args.world.now) c.args.line.now _ _ _ (ran_of c.take_line.result) c.take_line.ensures.ran c.take_line.ensures.why fault
    (subst (λ (t : Taken). fault_in (ran_of t) ≡ Some fault) (sym c.in-TooLong.is) e)

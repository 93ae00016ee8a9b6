use Rattle.std.proofs.Common.{◌++◌}
use Rattle.ug_script.specs.Replay.{outcome_text}
use Rattle.ug_script.specs.Taking.{reported_by}
use Rattle.ug_script.proofs.Takings.{bad_written, long_written, nothing_written, text_written}
use Rattle.ug_script.proofs.EventSteps.{memory_steps}
use Rattle.ug_script.proofs.interpreter.Interpreter.take.Goals as goal

pub returns-in-Silent-clause-ran : goal.returns-in-Silent-clause-ran
returns-in-Silent-clause-ran g c = nothing_written _ _ (g.K.Sink.held c.args.out.now) (rw c.in-Silent.is at c.take_line.ensures.ran)

pub returns-in-Event-clause-ran : goal.returns-in-Event-clause-ran
returns-in-Event-clause-ran g c =
    text_written _ _ (outcome_text (reported_by c.take_line.new.self.running) ++ c.in-Event.passed.items) _ _ c.write_event.result
    (rw c.in-Event.is at c.take_line.ensures.ran) (rw c.as_slice.ensures.value at c.write_event.ensures.ran)

pub returns-in-Text-clause-ran : goal.returns-in-Text-clause-ran
returns-in-Text-clause-ran g c =
    text_written _ _ c.in-Text.text.items _ _ c.put.result
    (rw c.in-Text.is at c.take_line.ensures.ran) (rw c.as_slice-in-Text.ensures.value at c.put.ensures.ran)

pub returns-in-Bad-clause-ran : goal.returns-in-Bad-clause-ran
returns-in-Bad-clause-ran g c = bad_written _ _ (g.K.Sink.held c.args.out.now) (rw c.in-Bad.is at c.take_line.ensures.ran)

pub returns-in-TooLong-clause-ran : goal.returns-in-TooLong-clause-ran
returns-in-TooLong-clause-ran g c = long_written _ _ (g.K.Sink.held c.args.out.now) (rw c.in-TooLong.is at c.take_line.ensures.ran)

pub returns-in-Memory-clause-ran : goal.returns-in-Memory-clause-ran
returns-in-Memory-clause-ran g c = memory_steps _ _ (g.K.Sink.held c.args.out.now)

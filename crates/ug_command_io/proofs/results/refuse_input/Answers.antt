use Rattle.std.proofs.Common.{sym, subst}
use Rattle.ug_command_io.specs.Fold.{input_too_long, read_fault, no_memory}
use Rattle.ug_command_io.specs.Runs.{SaysFault}
use Rattle.ug_command_io.specs.declared.read.InputFault.{InputFault}
use Rattle.ug_command_io.specs.WholeInputs.{input_fault_line, fault_end}
use Rattle.ug_command_io.proofs.results.refuse_input.Goals as goal

pub returns-in-TooLong-clause-told : goal.returns-in-TooLong-clause-told
unfolding input_too_long
returns-in-TooLong-clause-told g c =
    subst (λ (f : InputFault). SaysFault (g.K.Sink.held c.args.out.now) (g.K.Sink.held c.write_result.new.out) (input_fault_line f) (fault_end f) c.write_result.result) (sym c.in-TooLong.is) c.write_result.ensures.told

pub returns-in-Failed-clause-told : goal.returns-in-Failed-clause-told
unfolding read_fault
returns-in-Failed-clause-told g c =
    subst (λ (f : InputFault). SaysFault (g.K.Sink.held c.args.out.now) (g.K.Sink.held c.write_result-in-Failed.new.out) (input_fault_line f) (fault_end f) c.write_result-in-Failed.result) (sym c.in-Failed.is) c.write_result-in-Failed.ensures.told

pub returns-in-Memory-clause-told : goal.returns-in-Memory-clause-told
unfolding no_memory
returns-in-Memory-clause-told g c =
    subst (λ (f : InputFault). SaysFault (g.K.Sink.held c.args.out.now) (g.K.Sink.held c.write_result-in-Memory.new.out) (input_fault_line f) (fault_end f) c.write_result-in-Memory.result) (sym c.in-Memory.is) c.write_result-in-Memory.ensures.told

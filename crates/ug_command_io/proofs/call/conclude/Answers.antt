use Rattle.std.proofs.Common.{sym, subst}
use Rattle.ug_command_io.specs.Fold.{input_too_long, no_memory}
use Rattle.ug_command_io.specs.Runs.{ran_words, ended_of, SaysFault}
use Rattle.ug_command_io.specs.declared.machine.Ran.{Ran}
use Rattle.ug_command_io.proofs.call.conclude.Goals as goal

pub returns-in-TooLong-clause-told : goal.returns-in-TooLong-clause-told
unfolding input_too_long
returns-in-TooLong-clause-told g c =
    subst (λ (r : Ran). SaysFault (g.K.Sink.held c.args.out.now) (g.K.Sink.held c.write_result-in-TooLong.new.out) (ran_words r c.args.lines) (ended_of r) c.write_result-in-TooLong.result) (sym c.in-TooLong.is) c.write_result-in-TooLong.ensures.told

pub returns-in-Memory-clause-told : goal.returns-in-Memory-clause-told
unfolding no_memory
returns-in-Memory-clause-told g c =
    subst (λ (r : Ran). SaysFault (g.K.Sink.held c.args.out.now) (g.K.Sink.held c.write_result-in-Memory.new.out) (ran_words r c.args.lines) (ended_of r) c.write_result-in-Memory.result) (sym c.in-Memory.is) c.write_result-in-Memory.ensures.told

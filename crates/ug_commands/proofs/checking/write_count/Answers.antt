use Rattle.std.proofs.Common.{refl}
use Rattle.ug_types.specs.Limits.{text_limit}
use Rattle.ug_command_io.specs.Fold.{no_memory}
use Rattle.ug_command_io.specs.declared.results.Ended.TheVariants.{Memory}
use Rattle.ug_command_io.proofs.WholeInputs.{tells-line}
use Rattle.ug_commands.specs.Checking.{TellsCount, TellsBadRules}
use Rattle.ug_commands.proofs.checking.write_count.Goals as goal

pub returns-in-Err-Memory-clause-told : goal.returns-in-Err-Memory-clause-told
unfolding no_memory
returns-in-Err-Memory-clause-told g c = λ left e. tells-line text_limit TellsCount TellsBadRules c.args.bytes.now left (g.K.Sink.held c.args.out.now) (g.K.Sink.held c.write_result-in-Err-Memory.new.out) no_memory Memory c.write_result-in-Err-Memory.result
    (tt, refl) c.write_result-in-Err-Memory.ensures.told

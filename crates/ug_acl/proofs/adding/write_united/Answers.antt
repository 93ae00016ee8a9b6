use Rattle.std.proofs.Common.{refl, ◌∙◌}
use Rattle.ug_types.specs.Limits.{text_limit}
use Rattle.ug_command_io.specs.Fold.{no_memory}
use Rattle.ug_command_io.specs.declared.results.Ended.TheVariants.{Done, Bad, Memory}
use Rattle.ug_command_io.proofs.WholeInputs.{tells-line}
use Rattle.ug_acl.specs.Adding.{IsUnited, TellsBadAccess}
use Rattle.ug_acl.proofs.adding.write_united.Goals as goal

pub returns-in-Ok-clause-told : goal.returns-in-Ok-clause-told
returns-in-Ok-clause-told g c = λ left e. tells-line text_limit (IsUnited c.args.asked.now) TellsBadAccess c.args.bytes.now left (g.K.Sink.held c.args.out.now) (g.K.Sink.held c.write_result.new.out) c.bytes.result.now Done c.write_result.result
    (e, (c.requires, (c.in-Ok.ensures.good.0, c.in-Ok.ensures.good.1, c.bytes.ensures ∙ c.in-Ok.ensures.good.2))) c.write_result.ensures.told

pub returns-in-Err-Bad-clause-told : goal.returns-in-Err-Bad-clause-told
returns-in-Err-Bad-clause-told g c = λ left e. tells-line text_limit (IsUnited c.args.asked.now) TellsBadAccess c.args.bytes.now left (g.K.Sink.held c.args.out.now) (g.K.Sink.held c.write_result-in-Err-Bad.new.out) c.bytes-in-Err-Bad.result.now Bad c.write_result-in-Err-Bad.result
    (e, (c.requires, (c.in-Err-Bad.fault, rw c.in-Err-Bad.field-0-is at c.in-Err-Bad.ensures.bad, c.bytes-in-Err-Bad.ensures ∙ c.line_of_bad_access.ensures))) c.write_result-in-Err-Bad.ensures.told

pub returns-in-Err-Memory-clause-told : goal.returns-in-Err-Memory-clause-told
unfolding no_memory
returns-in-Err-Memory-clause-told g c = λ left e. tells-line text_limit (IsUnited c.args.asked.now) TellsBadAccess c.args.bytes.now left (g.K.Sink.held c.args.out.now) (g.K.Sink.held c.write_result-in-Err-Memory.new.out) no_memory Memory c.write_result-in-Err-Memory.result
    (tt, refl) c.write_result-in-Err-Memory.ensures.told

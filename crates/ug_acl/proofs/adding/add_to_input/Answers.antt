use Rattle.ug_command_io.proofs.WholeInputs.{completes-refused}
use Rattle.ug_types.specs.Limits.{text_limit}
use Rattle.ug_acl.specs.Adding.{IsUnited, TellsBadAccess}
use Rattle.ug_acl.proofs.adding.add_to_input.Goals as goal

pub returns-in-Err-clause-told : goal.returns-in-Err-clause-told
returns-in-Err-clause-told g c = completes-refused text_limit (IsUnited c.args.asked.now) TellsBadAccess (g.S.Source.left c.args.input.now) (g.S.Source.left c.read_input.new.input) (g.K.Sink.held c.args.out.now) (g.K.Sink.held c.refuse_input.new.out) c.in-Err.fault c.refuse_input.result
    c.in-Err.ensures.read c.refuse_input.ensures.told

use Rattle.ug_command_io.specs.Statuses.{status_of}
use Rattle.ug_types.specs.Limits.{text_limit}
use Rattle.ug_command_io.proofs.WholeInputs.{answers}
use Rattle.ug_acl.specs.Adding.{IsUnited, TellsBadAccess}
use Rattle.ug_acl.proofs.adding.add_user.Goals as goal

pub returns-clause-answers : goal.returns-clause-answers
returns-clause-answers g c = λ all base a b. answers status_of text_limit (IsUnited c.args.asked.now) TellsBadAccess (g.S.Source.left c.args.input.now) (g.S.Source.left c.add_to_input.new.input) (g.K.Sink.held c.args.out.now) (g.K.Sink.held c.add_to_input.new.out) c.add_to_input.result
    c.add_to_input.ensures.told all base a b c.status.result c.status.ensures

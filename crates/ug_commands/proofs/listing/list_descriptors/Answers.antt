use Rattle.ug_command_io.specs.Statuses.{status_of}
use Rattle.ug_types.specs.Limits.{text_limit}
use Rattle.ug_command_io.proofs.WholeInputs.{answers}
use Rattle.ug_commands.specs.Listing.{TellsDescriptors, TellsMalformed}
use Rattle.ug_commands.proofs.listing.list_descriptors.Goals as goal

pub returns-clause-answers : goal.returns-clause-answers
returns-clause-answers g c = λ all base a b. answers status_of text_limit TellsDescriptors TellsMalformed (g.S.Source.left c.args.input.now) (g.S.Source.left c.list_input.new.input) (g.K.Sink.held c.args.out.now) (g.K.Sink.held c.list_input.new.out) c.list_input.result
    c.list_input.ensures.told all base a b c.status.result c.status.ensures

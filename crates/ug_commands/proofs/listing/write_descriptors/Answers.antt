use Rattle.std.proofs.Common.{◌∙◌, refl}
use Rattle.ug_types.specs.Limits.{text_limit}
use Rattle.ug_command_io.specs.Fold.{no_memory}
use Rattle.ug_command_io.specs.declared.results.Ended.TheVariants.{Bad, Memory}
use Rattle.ug_command_io.proofs.WholeInputs.{tells-line}
use Rattle.ug_commands.specs.Listing.{TellsDescriptors, TellsMalformed}
use Rattle.ug_commands.proofs.listing.write_descriptors.Goals as goal

pub returns-in-Err-Malformed-clause-told : goal.returns-in-Err-Malformed-clause-told
returns-in-Err-Malformed-clause-told g c = λ left e. tells-line text_limit TellsDescriptors TellsMalformed c.args.bytes.now left (g.K.Sink.held c.args.out.now) (g.K.Sink.held c.write_result.new.out) c.bytes.result.now Bad c.write_result.result
    (e, (c.requires, (c.in-Err-Malformed.kind, c.in-Err-Malformed.place, rw c.in-Err-Malformed.field-0-is at c.in-Err-Malformed.ensures.bad, c.bytes.ensures ∙ c.line_of_malformed.ensures))) c.write_result.ensures.told

pub returns-clause-told : goal.returns-clause-told
unfolding no_memory
returns-clause-told g c = λ left e. tells-line text_limit TellsDescriptors TellsMalformed c.args.bytes.now left (g.K.Sink.held c.args.out.now) (g.K.Sink.held c.write_result-in-Err-Memory.new.out) no_memory Memory c.write_result-in-Err-Memory.result
    (tt, refl) c.write_result-in-Err-Memory.ensures.told

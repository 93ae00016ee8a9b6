use Rattle.std.proofs.Common.{Ok, ap, ◌∙◌}
use Rattle.ug_core.proofs.Readable.{line_well}
use Rattle.ug_core.proofs.folder.FolderListedLineReader.read_line.Goals as goal

pub add-requires : goal.add-requires
add-requires c = line_well c.args.number c.args.line.now c.in-Ok-Some.rule (c.in-Ok-Some.ensures.good ∙ ap (λ o. Ok o) c.in-Ok-Some.field-0-is)

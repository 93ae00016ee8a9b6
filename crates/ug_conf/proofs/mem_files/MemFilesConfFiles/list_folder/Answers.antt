use Rattle.std.proofs.Common.{nat_eq, ◌∙◌, ap}
use Rattle.std.specs.List.{find}
use Rattle.ug_conf.specs.Files.{pointwise}
use Rattle.ug_conf.proofs.MemAnswers.{listed_given}
use Rattle.ug_conf.proofs.mem_files.MemFilesConfFiles.list_folder.Goals as goal

pub returns-clause-gives : goal.returns-clause-gives
returns-clause-gives c =
    let found = c.find_folder.ensures ∙ ap (λ fs. find (λ f. pointwise nat_eq f.path c.args.path.now) fs) c.as_slice.ensures.value in
    listed_given c.args.self.now c.begin_call.new.self c.begin_call.result c.args.path.now _ c.copy_folder.result c.begin_call.ensures.begun c.if-begin_call.false found c.copy_folder.ensures

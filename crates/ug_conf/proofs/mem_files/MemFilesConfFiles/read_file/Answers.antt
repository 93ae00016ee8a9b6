use Rattle.std.proofs.Common.{nat_eq, ◌∙◌, ap}
use Rattle.std.specs.List.{find}
use Rattle.ug_conf.specs.Files.{pointwise}
use Rattle.ug_conf.proofs.MemAnswers.{read_given}
use Rattle.ug_conf.proofs.mem_files.MemFilesConfFiles.read_file.Goals as goal

pub returns-clause-gives : goal.returns-clause-gives
returns-clause-gives c =
    let found = c.find_file.ensures ∙ ap (λ fs. find (λ f. pointwise nat_eq f.path c.args.path.now) fs) c.as_slice.ensures.value in
    read_given c.args.self.now c.begin_call.new.self c.begin_call.result c.args.path.now _ c.copy_file.result c.begin_call.ensures.begun c.if-begin_call.false found c.copy_file.ensures.copy

use Rattle.std.proofs.Common.{◌∙◌, subst}
use Rattle.std.proofs.lemmas.Result.{err_from_is_err_and}
use Rattle.ug_conf.specs.Files.{Read_at}
use Rattle.ug_serve.specs.Folders.{Read_once, Without_path}
use Rattle.ug_serve.proofs.folder.read_text.Goals as goal

pub returns-in_err-path-clause-reads : goal.returns-in_err-path-clause-reads
returns-in_err-path-clause-reads g c =
    let p = err_from_is_err_and c.from_residual.result c.from_residual.ensures.1 in
    rw (p.1, p.2) Without_path

pub returns-clause-reads : goal.returns-clause-reads
returns-clause-reads g c =
    rw c.text_given.ensures.text (Read_once c.read_file.result c.read_file.new.self (subst (λ p. g.F.ConfFiles.gives c.args.files.now (Read_at p c.read_file.result) c.read_file.new.self) (c.bytes.ensures ∙ c.in_ok-path.ensures) c.read_file.ensures.gives))

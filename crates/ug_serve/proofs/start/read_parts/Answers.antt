use Rattle.std.proofs.Common.{ℕ, List, Ok, Err, subst}
use Rattle.std.proofs.lemmas.Result.{err_from_is_err_and}
use Rattle.ug_serve.specs.Folders.{ReadsRules}
use Rattle.ug_serve.specs.Opening.{Access_unread, Folder_unread, Unaimed}
use Rattle.ug_serve.proofs.start.read_parts.Goals as goal

pub returns-in_err-access-clause-opens : goal.returns-in_err-access-clause-opens
returns-in_err-access-clause-opens g c =
    let p = err_from_is_err_and c.from_residual.result c.from_residual.ensures.1 in
    rw (p.1, p.2) (λ path clock words f read. Access_unread c.args.settings.now c.in_err-access.field-0.0 c.args.files.now c.read_access.new.files read c.in_err-access.ensures.opens)

pub returns-in_err-folder-clause-opens : goal.returns-in_err-folder-clause-opens
returns-in_err-folder-clause-opens g c =
    let p = err_from_is_err_and c.from_residual-in_err-folder.result c.from_residual-in_err-folder.ensures.1 in
    let rules = subst (λ (path : List ℕ). ReadsRules g.F.ConfFiles.gives path c.read_access.new.files (Err c.in_err-folder.field-0.0) c.read_folder.new.files) c.bytes.ensures c.in_err-folder.ensures.reads in
    rw (p.1, p.2) (λ path clock words f read. Folder_unread c.args.settings.now c.in_ok-access.access c.in_err-folder.field-0.0 c.args.files.now c.read_access.new.files c.read_folder.new.files read c.in_ok-access.ensures.opens rules)

pub returns-in_err-aim-clause-opens : goal.returns-in_err-aim-clause-opens
returns-in_err-aim-clause-opens g c =
    let p = err_from_is_err_and c.from_residual-in_err-aim.result c.from_residual-in_err-aim.ensures.1 in
    let rules = subst (λ (path : List ℕ). ReadsRules g.F.ConfFiles.gives path c.read_access.new.files (Ok c.in_ok-folder.folder) c.read_folder.new.files) c.bytes.ensures c.in_ok-folder.ensures.reads in
    rw (p.1, p.2) (λ path clock words f read. Unaimed c.args.settings.now c.in_ok-access.access c.in_ok-folder.folder c.args.files.now c.read_access.new.files c.read_folder.new.files c.aim.new.self read c.in_ok-access.ensures.opens rules (record { same = c.aim.ensures.told; counts = c.aim.ensures.faults }))

pub returns-clause-reads : goal.returns-clause-reads
returns-clause-reads g c =
    let rules = subst (λ (path : List ℕ). ReadsRules g.F.ConfFiles.gives path c.read_access.new.files (Ok c.in_ok-folder.folder) c.read_folder.new.files) c.bytes.ensures c.in_ok-folder.ensures.reads in
    (c.read_access.new.files, c.in_ok-access.ensures.opens, rules, record { same_disk = record { same = c.aim.ensures.told; counts = c.aim.ensures.faults }; at = subst (λ (p : List ℕ). g.D.RuleDisk.aimed c.aim.new.self p) c.bytes-2.ensures c.in_ok-aim.ensures.aimed })

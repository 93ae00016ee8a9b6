use Rattle.std.proofs.Common.{◌≡◌, ◌+◌, List, sym, ap, subst, arith}
use Rattle.ug_conf.specs.declared.folder_file.FolderFile.{FolderFile}
use Rattle.ug_script.specs.FolderLines.{HasLines, ScriptFolder, files_of}
use Rattle.ug_script.proofs.Folders.{lines_more}
use Rattle.ug_script.proofs.folder_lines.FolderLines.push.Goals as goal

pub invariant_of-self-2 : goal.invariant_of-self-2
invariant_of-self-2 c =
    let same : c.self.inside.count ≡ c.args.self.now.count = ap (λ (f : ScriptFolder). f.count) c.self.view_is in
    subst (λ (fs : List FolderFile). HasLines fs (c.self.inside.count + 1)) (sym c.in_ok-put_line.ensures.ok)
    (lines_more c.args.line.now c.requires.rule (files_of c.self.inside.files.items) c.self.inside.count c.self.invariant (omega (arith, same, c.requires.room)))

-- What a call on files in memory gives, where it isn't to fail.
use Rattle.std.proofs.Common.{◌≡◌, nat_eq, Bool, false, List, ℕ, Option, sym, ◌∙◌, ap, subst}
use Rattle.std.specs.List.{find}
use Rattle.ug_conf.specs.Files.{Read_at, Listed_at, tree, pointwise}
use Rattle.ug_conf.specs.MemFiles.{GivesFiles, IsAnswered, IsBegun, IsCopy, IsNamesCopy}
use Rattle.ug_conf.specs.declared.files.FileRead.{FileRead}
use Rattle.ug_conf.specs.declared.files.FolderRead.{FolderRead}
use Rattle.ug_conf.specs.declared.tree.MemFile.{MemFile}
use Rattle.ug_conf.specs.declared.tree.MemFolder.{MemFolder}
use Rattle.ug_conf.specs.declared.mem_files.MemFiles.{MemFiles}

pub read_given : (s t : MemFiles) (fails : Bool) (path : List ℕ) (found : Option MemFile) (answer : FileRead) → IsBegun s fails t → fails ≡ false → found ≡ find (λ f. pointwise nat_eq f.path path) t.files.items → IsCopy found answer → GivesFiles s (Read_at path answer) t
read_given s t fails path found answer begun off is copy =
    let here : found ≡ find (λ f. pointwise nat_eq f.path path) s.files.items = is ∙ ap (λ fs. find (λ f. pointwise nat_eq f.path path) fs.items) begun.files in
    record { fails = fails; begun = begun; answered = subst (λ (b : Bool). IsAnswered b (tree s.files.items s.folders.items) (Read_at path answer)) (sym off) (subst (λ (o : Option MemFile). IsCopy o answer) here copy) }

pub listed_given : (s t : MemFiles) (fails : Bool) (path : List ℕ) (found : Option MemFolder) (answer : FolderRead) → IsBegun s fails t → fails ≡ false → found ≡ find (λ f. pointwise nat_eq f.path path) t.folders.items → IsNamesCopy found answer → GivesFiles s (Listed_at path answer) t
listed_given s t fails path found answer begun off is copy =
    let here : found ≡ find (λ f. pointwise nat_eq f.path path) s.folders.items = is ∙ ap (λ fs. find (λ f. pointwise nat_eq f.path path) fs.items) begun.folders in
    record { fails = fails; begun = begun; answered = subst (λ (b : Bool). IsAnswered b (tree s.files.items s.folders.items) (Listed_at path answer)) (sym off) (subst (λ (o : Option MemFolder). IsNamesCopy o answer) here copy) }

use Rattle.std.proofs.Common.{◌≡◌, ℕ, ◌+◌, ◌<◌, List, [], ◌∷◌, ◌++◌, length, take, get_or, sym, ◌∙◌, ap, append_assoc}
use Rattle.std.proofs.lemmas.List.{map-append, take_more}
use Rattle.ug_conf.specs.declared.folder_file.FolderFile.{FolderFile}
use Rattle.ug_script.specs.declared.folder_lines.FileText.{FileText}
use Rattle.ug_script.specs.FolderLines.{file_of, files_of}
use Rattle.ug_script.proofs.folder_lines.push_copies.Goals as goal

-- one file more
copied_more : (files : List FileText) (i : ℕ) (file : FileText) → i < length files → file ≡ get_or files i file → files_of (take (i + 1) files) ≡ files_of (take i files) ++ file_of file ∷ []
copied_more files i file lt is =
    ap (λ (fs : List FileText). files_of fs) (take_more files i file lt)
    ∙ map-append file_of (take i files) (get_or files i file ∷ [])
    ∙ ap (λ (f : FileText). files_of (take i files) ++ file_of f ∷ []) (sym is)

more_copies : (files : List FileText) (i : ℕ) (file : FileText) (start now next : List FolderFile) (copy : FolderFile) → i < length files → file ≡ get_or files i file → now ≡ start ++ files_of (take i files) → copy ≡ file_of file → next ≡ now ++ copy ∷ [] → next ≡ start ++ files_of (take (i + 1) files)
more_copies files i file start now next copy lt is h same e =
    e ∙ ap (λ (f : FolderFile). now ++ f ∷ []) same
    ∙ ap (λ (fs : List FolderFile). fs ++ file_of file ∷ []) h
    ∙ append_assoc start (files_of (take i files)) (file_of file ∷ [])
    ∙ ap (λ (fs : List FolderFile). start ++ fs) (sym (copied_more files i file lt is))

pub loop-file-preserved : goal.loop-file-preserved
loop-file-preserved c = more_copies c.args.files.now c.loop-file.file-index c.file-item.result c.args.copies.now c.loop-file.copies c.push.new.self c.in_ok-copy.copy c.loop-file-test.true c.file-item.is c.loop-file.invariant c.in_ok-copy.ensures c.in_ok-push.ensures.ok

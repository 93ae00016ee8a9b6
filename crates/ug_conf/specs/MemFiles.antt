-- What files in memory answer.
use Rattle.std.proofs.Common.{◌≡◌, ℕ, nat_eq, nat_le, Bool, true, false, cond, List, Option, Some, None, ◌⊎◌, inl, inr, refl, sym, ◌∙◌, ap, subst, length, arith}
use Rattle.std.specs.List.{find, list_any}
use Rattle.std.specs.Option.{option_map}
use Rattle.std.proofs.lemmas.Bool.{leb-true}
use Rattle.ug_types.specs.Limits.{text_limit}
use Rattle.ug_types.specs.Told.{one_more}
use Rattle.ug_conf.specs.Files.{FileStep, Read_at, Listed_at, Tree, tree, text_at, names_at, SaysFiles, SaysText, SaysNames, pointwise}
use Rattle.ug_conf.specs.declared.files.FileRead.{FileRead}
use Rattle.ug_conf.specs.declared.files.FileRead.TheVariants as file
use Rattle.ug_conf.specs.declared.files.FolderRead.{FolderRead}
use Rattle.ug_conf.specs.declared.files.FolderRead.TheVariants as folder
use Rattle.ug_conf.specs.declared.tree.MemFile.{MemFile}
use Rattle.ug_conf.specs.declared.tree.MemFolder.{MemFolder}
use Rattle.ug_conf.specs.declared.mem_files.MemFiles.{MemFiles}

abbrev pub file_answer : Option (List ℕ) → FileRead
file_answer None = file.Absent
file_answer (Some text) = cond (nat_le (length text) text_limit) (file.Bytes text) file.TooLong

abbrev pub names_read : Option (List (List ℕ)) → FolderRead
names_read None = folder.Absent
names_read (Some names) = folder.Names names

-- a copy of the file that was found, unless memory was refused
abbrev pub IsCopy : Option MemFile → FileRead → Type 0
IsCopy found answer =
    (answer ≡ file_answer (option_map (λ f. f.text) found)) ⊎ (answer ≡ file.Memory)

abbrev pub IsNamesCopy : Option MemFolder → FolderRead → Type 0
IsNamesCopy found answer =
    (answer ≡ names_read (option_map (λ f. f.names) found)) ⊎ (answer ≡ folder.Memory)

-- a call that fails, or that gives a copy of what is at its path
abbrev pub IsAnswered : Bool → Tree → FileStep → Type 0
IsAnswered true tree (Read_at path answer) = answer ≡ file.Failed
IsAnswered true tree (Listed_at path answer) = answer ≡ folder.Failed
IsAnswered false tree (Read_at path answer) =
    IsCopy (find (λ f. pointwise nat_eq f.path path) tree.files) answer
IsAnswered false tree (Listed_at path answer) =
    IsNamesCopy (find (λ f. pointwise nat_eq f.path path) tree.folders) answer

-- the next call is to fail
abbrev pub is_failing : MemFiles → Bool
is_failing s = list_any (λ n. nat_eq n (one_more s.calls)) s.failing.items

-- a call more, and a fault more where it is to fail
pub record IsBegun (s : MemFiles) (fails : Bool) (t : MemFiles) : Type 0 where
  pub answer : fails ≡ is_failing s
  pub files : t.files ≡ s.files
  pub folders : t.folders ≡ s.folders
  pub failing : t.failing ≡ s.failing
  pub calls : t.calls ≡ one_more s.calls
  pub faults : t.faults ≡ cond fails (one_more s.faults) s.faults

pub record GivesFiles (s : MemFiles) (step : FileStep) (t : MemFiles) : Type 0 where
  pub fails : Bool
  pub begun : IsBegun s fails t
  pub answered : IsAnswered fails (tree s.files.items s.folders.items) step

text_said : (text : Option (List ℕ)) → SaysText text (file_answer text)
text_said None = refl
text_said (Some text) = by (nat_le (length text) text_limit) refl
  where
    by : (b : Bool) → nat_le (length text) text_limit ≡ b
        → SaysText (Some text) (cond b (file.Bytes text) file.TooLong)
    by true e = (refl, leb-true (length text) text_limit e)
    by false e = (text, refl, grind (arith, e))

names_said : (names : Option (List (List ℕ))) → SaysNames names (names_read names)
names_said None = refl
names_said (Some names) = refl

says : (fails : Bool) (tree : Tree) (step : FileStep) → IsAnswered fails tree step
    → SaysFiles tree step
says true tree (Read_at path answer) is =
    subst (λ (a : FileRead). SaysText (text_at tree path) a) (sym is) tt
says true tree (Listed_at path answer) is =
    subst (λ (a : FolderRead). SaysNames (names_at tree path) a) (sym is) tt
says false tree (Read_at path answer) (inl is) =
    subst (λ (a : FileRead). SaysText (text_at tree path) a) (sym is)
    (text_said (text_at tree path))
says false tree (Read_at path answer) (inr is) =
    subst (λ (a : FileRead). SaysText (text_at tree path) a) (sym is) tt
says false tree (Listed_at path answer) (inl is) =
    subst (λ (a : FolderRead). SaysNames (names_at tree path) a) (sym is)
    (names_said (names_at tree path))
says false tree (Listed_at path answer) (inr is) =
    subst (λ (a : FolderRead). SaysNames (names_at tree path) a) (sym is) tt

-- files in memory tell what they are
pub files_tell : (s : MemFiles) (step : FileStep) (t : MemFiles) (told : Tree) → GivesFiles s step t
    → Some (tree t.files.items t.folders.items) ≡ Some told
    → (Some (tree s.files.items s.folders.items) ≡ Some told) × SaysFiles told step
files_tell s step t told gives is =
    let same : Some (tree s.files.items s.folders.items) ≡ Some told =
    ap (λ fs. Some (tree fs.items s.folders.items)) (sym gives.begun.files)
    ∙ (ap (λ fs. Some (tree t.files.items fs.items)) (sym gives.begun.folders) ∙ is) in
    let here : tree s.files.items s.folders.items ≡ told = cc in (
      same,
      subst (λ (fs : Tree). SaysFiles fs step) here
          (says gives.fails (tree s.files.items s.folders.items) step gives.answered),
    )

-- The rules that stand before those of the rule file: the files of a folder.
use Rattle.std.specs.Prelude.{◌≡◌, ℕ, ◌+◌, ◌<◌, ◌≤◌, List, [], ◌∷◌, ◌++◌, length, Result, Ok, Err}
use Rattle.std.specs.List.{filter}
use Rattle.ug_types.specs.Limits.{text_limit}
use Rattle.ug_conf.specs.Files.{FileStep, Read_at, Listed_at}
use Rattle.ug_conf.specs.FolderFiles.{folder_length, is_rule_file_name}
use Rattle.ug_conf.specs.declared.files.FileRead.{FileRead}
use Rattle.ug_conf.specs.declared.files.FileRead.TheVariants as file
use Rattle.ug_conf.specs.declared.files.FolderRead.{FolderRead}
use Rattle.ug_conf.specs.declared.files.FolderRead.TheVariants as found
use Rattle.ug_conf.specs.declared.folder_file.FolderFile.{FolderFile}
use Rattle.ug_audit.specs.declared.start_entry.ConfigPart.TheVariants as part
use Rattle.ug_serve.specs.Access.{AreInByteOrder, ReadsBehind, path_in}
use Rattle.ug_serve.specs.Causes.{refused_whole}
use Rattle.ug_serve.specs.declared.not_started.NotStarted.{NotStarted}
use Rattle.ug_serve.specs.declared.not_started.NotStarted.TheVariants as why

-- the text that a file is read with: an absent one is empty, and with one that is too long so is
-- the folder
abbrev pub text_given : FileRead → Result (List ℕ) NotStarted
text_given (file.Bytes text) = Ok text
text_given file.Absent = Ok []
text_given file.TooLong = Err (refused_whole part.Folder)
text_given file.Failed = Err why.FilesFailed
text_given file.Memory = Err why.Memory

abbrev pub folder_file : List ℕ → List ℕ → FolderFile
folder_file name text = record { name = name; text = text }

-- one file more, unless all together are too long
abbrev pub AddsFile : List FolderFile → List ℕ → List ℕ → Result (List FolderFile) NotStarted
    → Type 0
AddsFile files name text (Ok more) =
    (folder_length files + length text ≤ text_limit) × (more ≡ files ++ folder_file name text ∷ [])
AddsFile files name text (Err (why.Refused what bad)) =
    (text_limit < folder_length files + length text)
    × (why.Refused what bad ≡ refused_whole part.Folder)
AddsFile files name text (Err why.FilesFailed) = ⊥
AddsFile files name text (Err why.DiskFailed) = ⊥
AddsFile files name text (Err why.Memory) = Unit {0}

abbrev pub AddsText : List FolderFile → List ℕ → Result (List ℕ) NotStarted
    → Result (List FolderFile) NotStarted → Type 0
AddsText files name (Ok text) result = AddsFile files name text result
AddsText files name (Err cause) result = result ≡ Err cause

module _ {F : Type 0} (gives : F → FileStep → F → Type 0) (folder : List ℕ) where
  -- the file of that name is read once; without memory for its path it isn't
  pub data ReadsText (name : List ℕ) (s : F) : Result (List ℕ) NotStarted → F → Type 0 where
    Without_path : ReadsText name s (Err why.Memory) s
    Read_once : (answer : FileRead) (t : F) → gives s (Read_at (path_in folder name) answer) t
        → ReadsText name s (text_given answer) t

  -- and stands behind those before
  pub record ReadsRuleFile (name : List ℕ) (files : List FolderFile) (s : F)
      (result : Result (List FolderFile) NotStarted) (t : F) : Type 0 where
    pub text : Result (List ℕ) NotStarted
    pub read : ReadsText name s text t
    pub added : AddsText files name text result

  -- one after another, until one isn't taken
  abbrev pub ReadsFiles : List (List ℕ) → List FolderFile → F
      → Result (List FolderFile) NotStarted → F → Type 0
  ReadsFiles [] files s result t = (result ≡ Ok files) × (t ≡ s)
  ReadsFiles (name ∷ names) files s result t =
      (one : Result (List FolderFile) NotStarted) × (u : F) × ReadsRuleFile name files s one u
      × ReadsBehind (λ more v. ReadsFiles names more v result t) one result u t

  -- those whose names count, in byte order of the names
  pub record ReadsCounted (names : List (List ℕ)) (s : F)
      (result : Result (List FolderFile) NotStarted) (t : F) : Type 0 where
    pub sorted : List (List ℕ)
    pub order : AreInByteOrder (filter is_rule_file_name names) sorted
    pub reads : ReadsFiles sorted [] s result t

  -- an absent folder is empty
  abbrev pub ReadsFound : FolderRead → F → Result (List FolderFile) NotStarted → F → Type 0
  ReadsFound (found.Names names) s result t = ReadsCounted names s result t
  ReadsFound found.Absent s result t = (result ≡ Ok []) × (t ≡ s)
  ReadsFound found.Failed s result t = (result ≡ Err why.FilesFailed) × (t ≡ s)
  ReadsFound found.Memory s result t = (result ≡ Err why.Memory) × (t ≡ s)

  -- the folder is listed once, and each of its files that counts is read once
  pub record ReadsRulesIn (s : F) (result : Result (List FolderFile) NotStarted) (t : F) : Type 0
    where
      pub answer : FolderRead
      pub listed : F
      pub lists : gives s (Listed_at folder answer) listed
      pub reads : ReadsFound answer listed result t

-- without a path there is no folder, and nothing is read
abbrev pub ReadsRules : {F : Type 0} → (F → FileStep → F → Type 0) → List ℕ → F
    → Result (List FolderFile) NotStarted → F → Type 0
ReadsRules gives [] s result t = (result ≡ Ok []) × (t ≡ s)
ReadsRules gives (b ∷ bytes) s result t = ReadsRulesIn gives (b ∷ bytes) s result t

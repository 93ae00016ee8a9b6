-- Files and folders of settings, and what calls on them say.
use Rattle.std.specs.Prelude.{◌≡◌, ℕ, ◌<◌, ◌≤◌, ◌^◌, nat_eq, List, length, Option, Some, None}
use Rattle.std.specs.List.{find}
use Rattle.std.specs.Option.{option_map}
pub use Rattle.std.specs.Cmp.Lexicographic.{pointwise}
use Rattle.ug_types.specs.Elements.{AllDistinct}
use Rattle.ug_types.specs.Limits.{text_limit}
use Rattle.ug_conf.specs.declared.files.FileRead.{FileRead}
use Rattle.ug_conf.specs.declared.files.FileRead.TheVariants as file
use Rattle.ug_conf.specs.declared.files.FolderRead.{FolderRead}
use Rattle.ug_conf.specs.declared.files.FolderRead.TheVariants as folder
use Rattle.ug_conf.specs.declared.tree.MemFile.{MemFile}
use Rattle.ug_conf.specs.declared.tree.MemFolder.{MemFolder}

-- a call with its answer
pub data FileStep : Type 0 where
  Read_at : (path : List ℕ) → (answer : FileRead) → FileStep
  Listed_at : (path : List ℕ) → (answer : FolderRead) → FileStep

pub record Tree : Type 0 where
  pub files : List MemFile
  pub folders : List MemFolder

abbrev pub tree : List MemFile → List MemFolder → Tree
tree files folders = record { files = files; folders = folders }

-- the text of the file at that path
abbrev pub text_at : Tree → List ℕ → Option (List ℕ)
text_at tree path = option_map (λ f. f.text) (find (λ f. pointwise nat_eq f.path path) tree.files)

-- the names in the folder at that path
abbrev pub names_at : Tree → List ℕ → Option (List (List ℕ))
names_at tree path =
    option_map (λ f. f.names) (find (λ f. pointwise nat_eq f.path path) tree.folders)

-- no more bytes than are read
abbrev pub FitsText : FileRead → Type 0
FitsText (file.Bytes bytes) = length bytes ≤ text_limit
FitsText file.Absent = Unit {0}
FitsText file.TooLong = Unit {0}
FitsText file.Failed = Unit {0}
FitsText file.Memory = Unit {0}

-- fewer than 2,147,483,648 names, none of them twice
abbrev pub FitsFolder : FolderRead → Type 0
FitsFolder (folder.Names names) = (length names < 2 ^ 31) × AllDistinct names
FitsFolder folder.Absent = Unit {0}
FitsFolder folder.Failed = Unit {0}
FitsFolder folder.Memory = Unit {0}

-- the whole text, or that it is absent or too long
abbrev pub SaysText : Option (List ℕ) → FileRead → Type 0
SaysText text (file.Bytes bytes) = (text ≡ Some bytes) × (length bytes ≤ text_limit)
SaysText text file.Absent = text ≡ None
SaysText text file.TooLong = (bytes : List ℕ) × (text ≡ Some bytes) × (text_limit < length bytes)
SaysText text file.Failed = Unit {0}
SaysText text file.Memory = Unit {0}

abbrev pub SaysNames : Option (List (List ℕ)) → FolderRead → Type 0
SaysNames names (folder.Names found) = names ≡ Some found
SaysNames names folder.Absent = names ≡ None
SaysNames names folder.Failed = Unit {0}
SaysNames names folder.Memory = Unit {0}

-- an answer is what the files and folders are
abbrev pub SaysFiles : Tree → FileStep → Type 0
SaysFiles tree (Read_at path answer) = SaysText (text_at tree path) answer
SaysFiles tree (Listed_at path answer) = SaysNames (names_at tree path) answer

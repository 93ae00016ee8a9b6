-- Where rules come from.
use Rattle.std.specs.Prelude.{◌≡◌, ℕ, zero, suc, Bool, true, false, if◌then◌else◌, List, [], ◌∷◌}
use Rattle.std.specs.List.{list_any}
use Rattle.ug_policy.specs.declared.entry.Mark.{Mark}
use Rattle.ug_policy.specs.declared.entry.Mark.TheVariants as mark

-- a rule of the folder is one of its files
abbrev pub is_folder : Mark → Bool
is_folder mark.Folder = true
is_folder mark.File = false
is_folder mark.Temporary = false

-- a permanent rule is one of the rule file
abbrev pub is_permanent : Mark → Bool
is_permanent mark.Folder = false
is_permanent mark.File = true
is_permanent mark.Temporary = false

-- one of them is of the folder
abbrev pub has_folder : List Mark → Bool
has_folder marks = list_any is_folder marks

-- none of the rule file stands before one of the folder
abbrev pub FolderFirst : List Mark → Type 0
FolderFirst [] = Unit {0}
FolderFirst (m ∷ marks) = (is_permanent m ≡ true → has_folder marks ≡ false) × FolderFirst marks

-- the place directly behind the last of the folder; the first one where there is none
abbrev pub folder_end : List Mark → ℕ
folder_end [] = zero
folder_end (m ∷ marks) = if has_folder (m ∷ marks) then suc (folder_end marks) else zero

-- The files of a folder of rules: usbguard-daemon.conf(5), RuleFolder.
use Rattle.std.specs.Prelude.{◌≡◌, ℕ, ◌≤◌, Bool, ◌&&◌, nat_eq, nat_le, IsTrue, List, [], ◌∷◌, ◌++◌, length, codes}
use Rattle.std.specs.List.{ends_with, list_all, sum_by}
use Rattle.ug_types.specs.Principals.{is_name_byte}
use Rattle.ug_conf.specs.declared.folder_file.FolderFile.{FolderFile}

-- at most 255 letters, digits, `_`, `-` and `.`, of which the last five are `.conf`
unfoldable pub is_rule_file_name : List ℕ → Bool
is_rule_file_name name =
    nat_le (length name) 255 && list_all is_name_byte name && ends_with nat_eq name (codes ".conf")

-- each of them is a letter, a digit, `_`, `-` or `.`
abbrev pub AreNameBytes : List ℕ → Type 0
AreNameBytes [] = Unit {0}
AreNameBytes (b ∷ bytes) = IsTrue (is_name_byte b) × AreNameBytes bytes

-- the name of a file that counts
pub record IsRuleFileName (name : List ℕ) : Type 0 where
  pub short : length name ≤ 255
  pub plain : AreNameBytes name
  pub before : List ℕ
  pub ends : name ≡ before ++ codes ".conf"

-- how many bytes the files have in all
abbrev pub folder_length : List FolderFile → ℕ
folder_length files = sum_by (λ file. length file.text) files

-- The lines of the daemon's start, without their newlines.
use Rattle.std.specs.Prelude.{ℕ, ◌<◌, ◌^◌, List, [], ◌∷◌, ◌++◌, codes, decimal, IsTrue}
use Rattle.std.specs.List.{list_all}
use Rattle.ug_types.specs.Principals.{is_name_byte}
use Rattle.ug_audit.specs.Lines.{and_words}
use Rattle.ug_audit.specs.declared.start_entry.ConfigPart.{ConfigPart}
use Rattle.ug_audit.specs.declared.start_entry.ConfigPart.TheVariants as part
use Rattle.ug_audit.specs.declared.start_entry.StartEntry.{StartEntry}
use Rattle.ug_audit.specs.declared.start_entry.StartEntry.TheVariants as entry

unfoldable pub part_text : ConfigPart → List ℕ
part_text part.Settings = codes "settings"
part_text part.Folder = codes "folder"
part_text (part.FolderFile name) = codes "folder/" ++ name
part_text part.Rules = codes "rules"
part_text part.Access = codes "access"

unfoldable pub start_line : StartEntry → List ℕ
start_line (entry.UnusedKey line) =
    and_words (codes "note") (codes "unused-key" ∷ decimal line ∷ [])
start_line (entry.Refused what line kind place) =
    and_words (codes "start-refused")
    (part_text what ∷ decimal line ∷ decimal kind ∷ decimal place ∷ [])

abbrev pub IsConfigPart : ConfigPart → Type 0
IsConfigPart part.Settings = Unit {0}
IsConfigPart part.Folder = Unit {0}
IsConfigPart (part.FolderFile name) = IsTrue (list_all is_name_byte name)
IsConfigPart part.Rules = Unit {0}
IsConfigPart part.Access = Unit {0}

-- the numbers and names that an entry can have: each value of the type is so
abbrev pub IsStartEntry : StartEntry → Type 0
IsStartEntry (entry.UnusedKey line) = line < 2 ^ 64
IsStartEntry (entry.Refused what line kind place) =
    IsConfigPart what × (line < 2 ^ 64) × (kind < 256) × (place < 2 ^ 64)

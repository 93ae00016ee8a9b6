-- What of a configuration isn't taken, by the texts of its files.
use Rattle.std.specs.Prelude.{◌≡◌, ℕ, ◌+◌, nat_le, List, [], ◌∷◌, length, map, Option, Some, None, Result, Ok, Err, if◌then◌else◌}
use Rattle.std.specs.List.{filter, sum_by}
use Rattle.ug_types.specs.Elements.{Has}
use Rattle.ug_types.specs.Limits.{text_limit}
use Rattle.ug_types.specs.Principals.{Named, principal_of}
use Rattle.ug_types.specs.declared.rule.Rule.{Rule}
use Rattle.ug_types.specs.declared.text_fault.TextFault.{TextFault}
use Rattle.ug_acl.specs.Pairs.{Pair}
use Rattle.ug_acl.specs.Texts.{access_read}
use Rattle.ug_rule.specs.Files.{file_read}
use Rattle.ug_print.specs.RuleTexts.{rules_text_of}
use Rattle.ug_policy.specs.Rules.{most_rules}
use Rattle.ug_conf.specs.Files.{Tree, text_at, names_at}
use Rattle.ug_conf.specs.FolderFiles.{folder_length, is_rule_file_name}
use Rattle.ug_conf.specs.Texts.{conf_read}
use Rattle.ug_conf.specs.declared.folder_file.FolderFile.{FolderFile}
use Rattle.ug_conf.specs.declared.settings.Settings.{Settings}
use Rattle.ug_store.specs.Disk.{Disk}
use Rattle.ug_audit.specs.declared.start_entry.ConfigPart.TheVariants as part
use Rattle.ug_serve.specs.Access.{path_in, refused_name}
use Rattle.ug_serve.specs.Causes.{part_of_file, refused_whole}
use Rattle.ug_serve.specs.Folders.{folder_file}
use Rattle.ug_serve.specs.declared.not_started.NotStarted.{NotStarted}
use Rattle.ug_serve.specs.declared.not_started.NotStarted.TheVariants as why

abbrev pub settings_read : Result Settings TextFault → Result Settings NotStarted
settings_read (Ok settings) = Ok settings
settings_read (Err bad) = Err (why.Refused part.Settings bad)

-- the settings of a file: one that is absent or too long isn't taken
abbrev pub settings_of_text : Option (List ℕ) → Result Settings NotStarted
settings_of_text None = Err (refused_whole part.Settings)
settings_of_text (Some text) =
    if nat_le (length text) text_limit then settings_read (conf_read text)
    else Err (refused_whole part.Settings)

-- the first of two refusals
abbrev pub first_refusal : Option NotStarted → Option NotStarted → Option NotStarted
first_refusal (Some cause) later = Some cause
first_refusal None later = later

-- an access file's first bad line
abbrev pub refusal_of_grants : Result (List Pair) TextFault → Option NotStarted
refusal_of_grants (Ok pairs) = None
refusal_of_grants (Err bad) = Some (why.Refused part.Access bad)

-- an absent access file is empty, and one that is too long isn't taken
abbrev pub refusal_of_file : Option (List ℕ) → Option NotStarted
refusal_of_file None = refusal_of_grants (access_read [])
refusal_of_file (Some text) =
    if nat_le (length text) text_limit then refusal_of_grants (access_read text)
    else Some (refused_whole part.Access)

-- an access file whose name is no user's or group's isn't taken
abbrev pub refusal_of_named : Option Named → Option (List ℕ) → Option NotStarted
refusal_of_named None text = Some refused_name
refusal_of_named (Some who) text = refusal_of_file text

abbrev pub refusal_of_name : Tree → List ℕ → List ℕ → Option NotStarted
refusal_of_name tree folder name =
    refusal_of_named (principal_of name) (text_at tree (path_in folder name))

-- whether one of a folder's files isn't taken
abbrev pub refusal_of_files : Tree → List ℕ → List (List ℕ) → Option NotStarted
refusal_of_files tree folder [] = None
refusal_of_files tree folder (name ∷ names) =
    first_refusal (refusal_of_name tree folder name) (refusal_of_files tree folder names)

-- an absent folder is empty
abbrev pub refusal_of_folder : Tree → List ℕ → Option (List (List ℕ)) → Option NotStarted
refusal_of_folder tree folder None = None
refusal_of_folder tree folder (Some names) = refusal_of_files tree folder names

-- ---- the folder of rules

abbrev pub or_empty : Option (List ℕ) → List ℕ
or_empty None = []
or_empty (Some text) = text

-- the folder's file of that name, of which an absent one is empty
abbrev pub file_in : Tree → List ℕ → List ℕ → FolderFile
file_in tree folder name = folder_file name (or_empty (text_at tree (path_in folder name)))

-- the files that count of those that are listed; an absent folder has none
abbrev pub files_listed : Tree → List ℕ → Option (List (List ℕ)) → List FolderFile
files_listed tree folder None = []
files_listed tree folder (Some names) = map (file_in tree folder) (filter is_rule_file_name names)

-- without a path there is no folder
abbrev pub rule_files : Tree → List ℕ → List FolderFile
rule_files tree [] = []
rule_files tree (b ∷ bytes) = files_listed tree (b ∷ bytes) (names_at tree (b ∷ bytes))

-- a file's first bad line
abbrev pub refusal_in_file : List ℕ → Result (List Rule) TextFault → Option NotStarted
refusal_in_file name (Ok rules) = None
refusal_in_file name (Err bad) = Some (why.Refused (part_of_file name) bad)

abbrev pub refusal_of_each : List FolderFile → Option NotStarted
refusal_of_each [] = None
refusal_of_each (file ∷ files) =
    first_refusal (refusal_in_file file.name (file_read file.text)) (refusal_of_each files)

-- files that are too long together aren't taken
abbrev pub refusal_of_rule_files : List FolderFile → Option NotStarted
refusal_of_rule_files files =
    if nat_le (folder_length files) text_limit then refusal_of_each files
    else Some (refused_whole part.Folder)

-- ---- the rules

abbrev pub rules_of_read : Result (List Rule) TextFault → List Rule
rules_of_read (Ok rules) = rules
rules_of_read (Err bad) = []

-- how many rules a folder's files have
abbrev pub rules_of_files : List FolderFile → ℕ
rules_of_files files = sum_by (λ file. length (rules_of_read (file_read file.text))) files

-- at most 65,536 rules with so many before them, whose canonical text fits into a rule file
abbrev pub refusal_of_read : ℕ → Result (List Rule) TextFault → Option NotStarted
refusal_of_read before (Err bad) = Some (why.Refused part.Rules bad)
refusal_of_read before (Ok rules) =
    if nat_le (before + length rules) most_rules
    then
    (if nat_le (length (rules_text_of rules)) text_limit then None
    else Some (refused_whole part.Rules))
    else Some (refused_whole part.Rules)

abbrev pub refusal_of_rules_text : ℕ → List ℕ → Option NotStarted
refusal_of_rules_text before text =
    if nat_le (length text) text_limit then refusal_of_read before (file_read text)
    else Some (refused_whole part.Rules)

abbrev pub refusal_of_rules : List FolderFile → List ℕ → Option NotStarted
refusal_of_rules files text =
    first_refusal (refusal_of_rule_files files) (refusal_of_rules_text (rules_of_files files) text)

abbrev pub refusal_behind : Tree → List ℕ → Result Settings NotStarted → Option NotStarted
refusal_behind tree rules (Err cause) = Some cause
refusal_behind tree rules (Ok settings) =
    first_refusal
    (refusal_of_folder tree settings.access_folder (names_at tree settings.access_folder))
    (refusal_of_rules (rule_files tree settings.rule_folder) rules)

-- Whether a part isn't taken of the settings at that path, the access files, the folder of rules
-- and the text of the rule file.
abbrev pub refusal_of_texts : Tree → List ℕ → List ℕ → Option NotStarted
refusal_of_texts tree rules path = refusal_behind tree rules (settings_of_text (text_at tree path))

-- the exit status is 3 exactly where a part isn't taken, unless a file or memory failed
abbrev pub IsStatusFor : Option NotStarted → ℕ → Type 0
IsStatusFor None status = status ≡ 3 → ⊥
IsStatusFor (Some cause) status = Has (3 ∷ 4 ∷ 6 ∷ 9 ∷ []) status

-- The status of a daemon with the settings at that path, where the files and the disk are told.
abbrev pub IsStatusByTexts : {F D : Type 0} → (F → Option Tree) → (D → Option Disk)
    → Option (List ℕ) → D → ℕ → F → D → Type 0
IsStatusByTexts files_told disk_told words_path d status g e =
    (path : List ℕ) (tree : Tree) (n : Disk) → words_path ≡ Some path → files_told g ≡ Some tree
    → disk_told e ≡ Some n
    → (m : Disk) × (disk_told d ≡ Some m) × IsStatusFor (refusal_of_texts tree m.text path) status

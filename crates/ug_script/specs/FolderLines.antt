-- The files of the folder of rules that `folder` lines give.
use Rattle.std.specs.Prelude.{◌≡◌, ℕ, ◌+◌, ◌<◌, ◌≤◌, nat_eq, if◌then◌else◌, List, [], ◌∷◌, ◌++◌, length, map, flat_map, All, Result, Ok, Err}
use Rattle.std.specs.Cmp.Lexicographic.{pointwise, slice_cmp}
use Rattle.std.specs.List.{AllWithin, HoldsAt, sum_by}
use Rattle.std.specs.Ordering.{nat_cmp}
use Rattle.std.specs.declared.cmp.Ordering.{Ordering}
use Rattle.std.specs.declared.cmp.Ordering.TheVariants.{Less, Equal, Greater}
use Rattle.ug_types.specs.Elements.{Has}
use Rattle.ug_types.specs.declared.rule.Rule.{Rule}
use Rattle.ug_conf.specs.declared.folder_file.FolderFile.{FolderFile}
use Rattle.ug_rule.specs.Grammar.{Says}
use Rattle.ug_core.specs.Starting.{AreAscending}
use Rattle.ug_script.specs.declared.folder_lines.FileText.{FileText}
use Rattle.ug_steps.specs.declared.step.FolderLine.{FolderLine}
use Rattle.ug_script.specs.RuleLines.{rules_kept}

-- the files in byte order of their names, and how many lines they have
pub record ScriptFolder : Type 0 where
  pub files : List FolderFile
  pub count : ℕ

abbrev pub no_folder : ScriptFolder
no_folder = record { files = []; count = 0 }

abbrev pub file_of : FileText → FolderFile
file_of f = record { name = f.name; text = f.text.items }

abbrev pub files_of : List FileText → List FolderFile
files_of texts = map file_of texts

-- ---- one line more

-- a line with its newline
abbrev pub ended_line : FolderLine → List ℕ
ended_line line = line.text ++ 10 ∷ []

abbrev pub one_line_file : FolderLine → FolderFile
one_line_file line = record { name = line.name; text = ended_line line }

-- it stands at the end of its file, which has a place of its own in the order of the names
abbrev pub line_at : Ordering → FolderLine → FolderFile → List FolderFile → List FolderFile
    → List FolderFile
line_at Less line file files later = one_line_file line ∷ file ∷ files
line_at Equal line file files later = record file { text = file.text ++ ended_line line } ∷ files
line_at Greater line file files later = file ∷ later

abbrev pub with_line_in : FolderLine → List FolderFile → List FolderFile
with_line_in line [] = one_line_file line ∷ []
with_line_in line (file ∷ files) =
    line_at (slice_cmp nat_cmp line.name file.name) line file files (with_line_in line files)

abbrev pub with_line : FolderLine → ScriptFolder → ScriptFolder
with_line line folder =
    record { files = with_line_in line folder.files; count = folder.count + 1 }

-- the place of a file with that name, or else the one between the names below and those above
abbrev pub IsPlaceOf : List ℕ → List FileText → Result ℕ ℕ → Type 0
IsPlaceOf name texts (Ok place) =
    (place < length texts)
    × AllWithin (λ f. slice_cmp nat_cmp name f.name ≡ Greater) texts 0 place
    × HoldsAt (λ f. slice_cmp nat_cmp name f.name ≡ Equal) texts place
IsPlaceOf name texts (Err place) =
    (place ≤ length texts)
    × AllWithin (λ f. slice_cmp nat_cmp name f.name ≡ Greater) texts 0 place
    × (place < length texts → HoldsAt (λ f. slice_cmp nat_cmp name f.name ≡ Less) texts place)

-- ---- the files of lines

-- the texts of the files of that name, one behind the other
abbrev pub text_under : List ℕ → List FolderFile → List ℕ
text_under name files =
    flat_map (λ file. if pointwise nat_eq file.name name then file.text else []) files

-- the lines of that name, each with its newline
abbrev pub lines_under : List ℕ → List FolderLine → List ℕ
lines_under name lines =
    flat_map (λ line. if pointwise nat_eq line.name name then ended_line line else []) lines

-- how many bytes the lines have in all, with a newline each
abbrev pub lines_length : List FolderLine → ℕ
lines_length lines = sum_by (λ line. length line.text + 1) lines

-- The files have these lines: those of one name are a file, in their order, and the files are in
-- byte order of their names.
pub record AreFilesOf (lines : List FolderLine) (files : List FolderFile) : Type 0 where
  pub in_order : AreAscending files
  pub texts : (name : List ℕ) → text_under name files ≡ lines_under name lines
  pub some : All (λ file. 0 < length file.text) files

-- the rules of the files, one file after the other
abbrev pub rules_in_folder : List FolderFile → List Rule
rules_in_folder files = flat_map (λ file. rules_kept file.text) files

-- ---- the rules of the lines

-- lines that are these rules, with a newline behind each
pub data AreRuleLines : List ℕ → List Rule → Type 0 where
  NoLine : AreRuleLines [] []
  LineBefore : (line text : List ℕ) (rule : Rule) (rules : List Rule)
      → ¬ Has line 10 → Says line rule → AreRuleLines text rules
      → AreRuleLines (line ++ 10 ∷ text) (rule ∷ rules)

abbrev pub HoldsRules : FolderFile → Type 0
HoldsRules file = (rules : List Rule) × AreRuleLines file.text rules

-- the files are in order, and have so many lines, each of which is a rule
pub record HasLines (files : List FolderFile) (count : ℕ) : Type 0 where
  pub ascending : AreAscending files
  pub each : All HoldsRules files
  pub number : length (rules_in_folder files) ≡ count
  pub few : count ≤ 65536

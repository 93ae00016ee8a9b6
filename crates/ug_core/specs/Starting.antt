-- The rules that a daemon starts with.
use Rattle.std.specs.Option.{option_map}
use Rattle.std.specs.Prelude.{◌≡◌, ◌⊎◌, ℕ, ◌+◌, ◌<◌, ◌≤◌, Bool, false, if◌then◌else◌, nat_le, nat_lt, List, [], ◌∷◌, ◌++◌, length, map, All, Option, Some, None, Result, Ok, Err}
use Rattle.std.specs.Cmp.Lexicographic.{slice_cmp}
use Rattle.std.specs.Ordering.{nat_cmp}
use Rattle.std.specs.declared.cmp.Ordering.TheVariants.{Less}
use Rattle.ug_types.specs.Limits.{text_limit}
use Rattle.rand_core.specs.Stream.{Stream}
use Rattle.ug_kernel.specs.declared.control.Write.{Write}
use Rattle.ug_types.specs.declared.rule.Rule.{Rule}
use Rattle.ug_types.specs.declared.text_fault.FileFault.{FileFault}
use Rattle.ug_types.specs.declared.text_fault.FileFault.TheVariants as file
use Rattle.ug_types.specs.declared.text_fault.TextFault.{TextFault}
use Rattle.ug_rule.specs.Files.{file_read}
use Rattle.ug_rule.specs.TextLines.{rule_on_line}
use Rattle.ug_print.specs.declared.rule_texts.RulesTextFault.{RulesTextFault}
use Rattle.ug_print.specs.declared.rule_texts.RulesTextFault.TheVariants as printed
use Rattle.ug_print.specs.RuleTexts.{rules_text_of}
use Rattle.ug_policy.specs.declared.entry.Mark.{Mark}
use Rattle.ug_policy.specs.declared.entry.Mark.TheVariants as mark
use Rattle.ug_policy.specs.declared.entry.RuleEntry.{RuleEntry}
use Rattle.ug_policy.specs.Edits.{new_entry}
use Rattle.ug_policy.specs.Kept.{StandsFor}
use Rattle.ug_policy.specs.Rules.{Rules, most_rules, rules_in}
use Rattle.ug_ruleset.specs.RuleFile.{ReadsBack}
use Rattle.ug_acl.specs.Acls.{Addition}
use Rattle.ug_conf.specs.FolderFiles.{folder_length}
use Rattle.ug_conf.specs.declared.folder_file.FolderFile.{FolderFile}
use Rattle.ug_store.specs.DiskCalls.{DiskCall, DiskTold}
use Rattle.ug_store.specs.Disk.{Disk}
use Rattle.ug_store.specs.Store.{RunsDisk, recovering, Recovers, TellsRecoverFault}
use Rattle.ug_store.specs.declared.store.RecoverFault.{RecoverFault}
use Rattle.ug_store.specs.declared.store.RecoverFault.TheVariants as recover
use Rattle.ug_core.specs.Event.{DaemonState, IsStarted}
use Rattle.ug_core.specs.Policy.{Judging}
use Rattle.ug_core.specs.declared.classes.Classes.{Classes}
use Rattle.ug_core.specs.declared.start_fault.StartFault.{StartFault}
use Rattle.ug_core.specs.declared.start_fault.StartFault.TheVariants as fault

-- what a start tells of a file that wasn't read, of a text that isn't rules, and of rules that have
-- no text

abbrev pub fault_of_recovery : RecoverFault → StartFault
fault_of_recovery (recover.Failed count) = fault.Disk count
fault_of_recovery recover.TooLong = fault.TooLong
fault_of_recovery recover.Memory = fault.Memory

abbrev pub fault_of_file : FileFault → StartFault
fault_of_file (file.Bad bad) = fault.BadRules bad
fault_of_file file.Memory = fault.Memory

abbrev pub fault_of_printing : RulesTextFault → StartFault
fault_of_printing printed.TooLong = fault.TooLong
fault_of_printing printed.Memory = fault.Memory

-- ---- the rules of a start

-- a rule, and where it comes from
pub record Marked : Type 0 where
  pub mark : Mark
  pub rule : Rule

abbrev pub marked_rules : Mark → List Rule → List Marked
marked_rules whose rules = map (λ rule. record { mark = whose; rule = rule }) rules

-- those of a list
abbrev pub marked_in : List RuleEntry → List Marked
marked_in entries = map (λ e. record { mark = e.mark; rule = e.rule }) entries

-- those of the folder's files, and then those of the rule file
abbrev pub start_rules : List Rule → List Rule → List Marked
start_rules folder rules = marked_rules mark.Folder folder ++ marked_rules mark.File rules

-- rules without histories, that bear ids from that one on
abbrev pub entries_from : ℕ → List Marked → List RuleEntry
entries_from id [] = []
entries_from id (m ∷ rules) = new_entry id m.rule m.mark ∷ entries_from (id + 1) rules

-- a list that there may be
abbrev pub marked_of : Option Rules → Option (List Marked)
marked_of o = option_map (λ list. marked_in list.entries) o

-- the list has just these rules in this order, with ids from 1 on, and nothing was judged by them
-- yet
pub record HoldsJust (rules : List Marked) (list : Rules) : Type 0 where
  pub entries : list.entries ≡ entries_from 1 rules
  pub next : list.next ≡ length rules + 1
  pub history : StandsFor list.entries list.next []

-- they are the folder's, no more than a list takes, and each reads again from its text
pub record AreOfFolder (entries : List RuleEntry) : Type 0 where
  pub own : marked_in entries ≡ marked_rules mark.Folder (rules_in entries)
  pub few : length entries ≤ most_rules
  pub back : All ReadsBack (rules_in entries)

-- ---- rules that are read right into a list: None where there are more than it takes

abbrev pub one_listed : Marked → Option (List Marked) → Option (List Marked)
one_listed m (Some rules) =
    if nat_lt (length rules) most_rules then Some (rules ++ m ∷ []) else None
one_listed m None = None

abbrev pub listed : Mark → Option (List Marked) → Result (Option Rule) TextFault
    → Result (Option (List Marked)) TextFault
listed whose rules (Ok (Some rule)) = Ok (one_listed (record { mark = whose; rule = rule }) rules)
listed whose rules (Ok None) = Ok rules
listed whose rules (Err bad) = Err bad

-- the rules so far with that of the line of a number, if it has one
abbrev pub listing_line : Mark → ℕ → Option (List Marked) → List ℕ
    → Result (Option (List Marked)) TextFault
listing_line whose number rules line = listed whose rules (rule_on_line number line)

-- all of the rules, or none where they are more than a list takes
abbrev pub AreAllListed : Option (List Marked) → List Marked → Type 0
AreAllListed (Some rules) all = (rules ≡ all) × (length all ≤ most_rules)
AreAllListed None all = most_rules < length all

-- ---- what the folder gives

-- each name stands before the later ones, in byte order
abbrev pub AreAscending : List FolderFile → Type 0
AreAscending [] = Unit {0}
AreAscending (file ∷ files) =
    All (λ later. slice_cmp nat_cmp file.name later.name ≡ Less) files × AreAscending files

-- a file whose text isn't rules, by its place among the folder's, and its first bad line
pub record BadFile : Type 0 where
  pub file : ℕ
  pub fault : TextFault

abbrev pub rules_before : List Rule → Result (List Rule) BadFile → Result (List Rule) BadFile
rules_before rules (Ok more) = Ok (rules ++ more)
rules_before rules (Err bad) = Err bad

abbrev pub file_before : ℕ → Result (List Rule) TextFault → Result (List Rule) BadFile
    → Result (List Rule) BadFile
file_before file (Ok rules) behind = rules_before rules behind
file_before file (Err bad) behind = Err (record { file = file; fault = bad })

-- the rules of these files, one file behind another, or the first file that is bad; the first of
-- them has that place
abbrev pub folder_read : ℕ → List FolderFile → Result (List Rule) BadFile
folder_read file [] = Ok []
folder_read file (f ∷ files) =
    file_before file (file_read f.text) (folder_read (file + 1) files)

abbrev pub rules_of_folder : Result (List Rule) BadFile → Result (List Rule) StartFault
rules_of_folder (Ok rules) = Ok rules
rules_of_folder (Err bad) = Err (fault.BadFolder bad.file bad.fault)

-- the length of the texts in all is tried before the texts
abbrev pub folder_rules : List FolderFile → Result (List Rule) StartFault
folder_rules files =
    if nat_le (folder_length files) text_limit then rules_of_folder (folder_read 0 files)
    else Err fault.FolderTooLong

-- the rules of these files are listed
pub record ListsFolder (files : List FolderFile) (listed : Option (List Marked)) : Type 0 where
  pub rules : List Rule
  pub reads : folder_read 0 files ≡ Ok rules
  pub all : AreAllListed listed (marked_rules mark.Folder rules)

abbrev pub fault_in_folder : ℕ → FileFault → StartFault
fault_in_folder place (file.Bad bad) = fault.BadFolder place bad
fault_in_folder place file.Memory = fault.Memory

abbrev pub IsFolderListed : List FolderFile → Result (Option (List Marked)) StartFault → Type 0
IsFolderListed files (Ok listed) = ListsFolder files listed
IsFolderListed files (Err (fault.BadFolder place bad)) =
    folder_read 0 files ≡ Err (record { file = place; fault = bad })
IsFolderListed files (Err fault.Memory) = Unit {0}
IsFolderListed files (Err e) = ⊥

-- they are, or the folder is refused
abbrev pub TakesFolder : List FolderFile → Result (Option Rules) StartFault → Type 0
TakesFolder files (Ok o) =
    (rules : List Rule) × (folder_rules files ≡ Ok rules)
    × AreAllListed (marked_of o) (marked_rules mark.Folder rules)
TakesFolder files (Err e) = (folder_rules files ≡ Err e) ⊎ (e ≡ fault.Memory)

-- ---- what a text gives, behind these rules of the folder

-- the rules are no more than a list takes, the canonical text of the file's fits into a rule file,
-- and the list holds just them
pub record HasRulesOf (folder : List Rule) (text : List ℕ) (list : Rules) : Type 0 where
  pub rules : List Rule
  pub reads : file_read text ≡ Ok rules
  pub few : length folder + length rules ≤ most_rules
  pub fits : length (rules_text_of rules) ≤ text_limit
  pub holds : HoldsJust (start_rules folder rules) list

-- the rules are no more than a list takes, and the list holds just them
pub record ListsText (folder : List Rule) (text : List ℕ) (list : Rules) : Type 0 where
  pub rules : List Rule
  pub reads : file_read text ≡ Ok rules
  pub few : length folder + length rules ≤ most_rules
  pub holds : HoldsJust (start_rules folder rules) list

-- they are more than a list takes
pub record HasTooMany (folder : List Rule) (text : List ℕ) : Type 0 where
  pub rules : List Rule
  pub reads : file_read text ≡ Ok rules
  pub many : most_rules < length folder + length rules

-- or they are more, or a line is bad
abbrev pub IsListOf : List Rule → List ℕ → Result Rules StartFault → Type 0
IsListOf folder text (Ok list) = ListsText folder text list
IsListOf folder text (Err (fault.BadRules bad)) = file_read text ≡ Err bad
IsListOf folder text (Err fault.TooMany) = HasTooMany folder text
IsListOf folder text (Err fault.Memory) = Unit {0}
IsListOf folder text (Err e) = ⊥

-- the rules are no more than a list takes, but the canonical text of the file's doesn't fit into a
-- rule file
pub record IsTooLong (folder : List Rule) (text : List ℕ) : Type 0 where
  pub rules : List Rule
  pub reads : file_read text ≡ Ok rules
  pub few : length folder + length rules ≤ most_rules
  pub long : text_limit < length (rules_text_of rules)

-- the list of the folder's rules and of a text's, or what is wrong with the text's
abbrev pub StartsWith : List Rule → List ℕ → Result Rules StartFault → Type 0
StartsWith folder text (Ok list) = HasRulesOf folder text list
StartsWith folder text (Err (fault.BadRules bad)) = file_read text ≡ Err bad
StartsWith folder text (Err fault.TooMany) = HasTooMany folder text
StartsWith folder text (Err fault.TooLong) = IsTooLong folder text
StartsWith folder text (Err fault.Memory) = Unit {0}
StartsWith folder text (Err e) = ⊥

-- what a start comes to by what the reading of the rule file gave. No save is pending
abbrev pub StartsAfter : List Rule → Result (List ℕ) RecoverFault
    → Result (Bool × Rules) StartFault → Type 0
StartsAfter folder (Ok text) (Ok started) =
    (started.0 ≡ false) × StartsWith folder text (Ok started.1)
StartsAfter folder (Ok text) (Err e) = StartsWith folder text (Err e)
StartsAfter folder (Err e) result = result ≡ Err (fault_of_recovery e)

-- The rule file is read once, and nothing else is asked of the disk. What was read is no choice:
-- the one call's answer fixes it. Where the disk is told, that is the rule file's text, and the
-- disk is as it was; a failure is counted.
pub record Loads {S : Type 0} (keeps : S → (call : DiskCall) → DiskTold call → S → Type 0)
    (told : S → Option Disk) (faults : S → ℕ) (folder : List Rule) (s : S)
    (result : Result (Bool × Rules) StartFault) (t : S) : Type 0 where
  pub read : Result (List ℕ) RecoverFault
  pub runs : RunsDisk keeps s recovering read t
  pub law : Recovers told s read t
  pub counted : TellsRecoverFault read (faults s) (faults t)
  pub starts : StartsAfter folder read result

-- what a daemon is started with, beside its rules
pub record Outset : Type 0 where
  pub classes : Classes
  pub hub : Option Write
  pub access : List Addition
  pub clock : ℕ → ℕ
  pub words : Stream
  pub first : ℕ

-- what judges by these rules, before the first moment
abbrev pub policy_at : Outset → Rules → Judging
policy_at outset list = record {
  classes = outset.classes;
  rules = list.entries;
  next = list.next;
  clock = outset.clock;
  ctx = record { moment = record { 0 = 0 }; second = 0 };
  stream = outset.words;
}

-- a new daemon with what was loaded, and with that access
pub record StartsWithRules (outset : Outset) (loaded : Bool × Rules) (d : DaemonState) : Type 0
  where
    pub started : IsStarted (policy_at outset loaded.1) outset.hub outset.first d
    pub access : d.access ≡ outset.access
    pub pending : d.pending ≡ loaded.0

-- behind a loading that was refused, the start is refused for the same
abbrev pub StartsFrom : Outset → Result (Bool × Rules) StartFault → Result DaemonState StartFault
    → Type 0
StartsFrom outset (Ok loaded) (Ok d) = StartsWithRules outset loaded d
StartsFrom outset (Ok loaded) (Err e) = e ≡ fault.Memory
StartsFrom outset (Err e) result = result ≡ Err e

-- the rules are loaded from the disk behind those of the folder, and the daemon is new, with just
-- these rules; only want of memory refuses it behind that
pub record StartsBehindFolder {S : Type 0}
    (keeps : S → (call : DiskCall) → DiskTold call → S → Type 0)
    (told : S → Option Disk) (faults : S → ℕ) (outset : Outset) (folder : List Rule) (s : S)
    (result : Result DaemonState StartFault) (t : S) : Type 0 where
  pub loaded : Result (Bool × Rules) StartFault
  pub loads : Loads keeps told faults folder s loaded t
  pub starts : StartsFrom outset loaded result

-- where the folder was refused, the start is refused for the same, and nothing is asked of the disk
abbrev pub StartsOnFolder : {S : Type 0} → (S → (call : DiskCall) → DiskTold call → S → Type 0)
    → (S → Option Disk) → (S → ℕ) → Outset → Result (List Rule) StartFault → S
    → Result DaemonState StartFault → S → Type 0
StartsOnFolder keeps told faults outset (Ok folder) s result t =
    StartsBehindFolder keeps told faults outset folder s result t
StartsOnFolder keeps told faults outset (Err e) s result t = (result ≡ Err e) × (t ≡ s)

-- The folder comes first: its texts are no choice, and only want of memory may refuse it beside
-- them. Then comes the rule file.
pub record Starts {S : Type 0} (keeps : S → (call : DiskCall) → DiskTold call → S → Type 0)
    (told : S → Option Disk) (faults : S → ℕ) (outset : Outset) (files : List FolderFile) (s : S)
    (result : Result DaemonState StartFault) (t : S) : Type 0 where
  pub folder : Result (List Rule) StartFault
  pub taken : (folder ≡ folder_rules files) ⊎ (folder ≡ Err fault.Memory)
  pub starts : StartsOnFolder keeps told faults outset folder s result t

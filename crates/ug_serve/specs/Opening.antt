-- The start of a daemon: its settings, its rules, and what keeps it from starting.
use Rattle.std.specs.Prelude.{◌≡◌, ℕ, List, [], map, Result, Ok, Err}
use Rattle.rand_core.specs.Stream.{Stream}
use Rattle.rand_core.specs.Steps.{stream_of, steps_u32}
use Rattle.rand_chacha.specs.ChaCha.{next_word, of_seed}
use Rattle.ug_types.specs.Principals.{Named}
use Rattle.ug_conf.specs.Files.{FileStep, Read_at}
use Rattle.ug_conf.specs.Texts.{conf_read}
use Rattle.ug_conf.specs.declared.files.FileRead.{FileRead}
use Rattle.ug_conf.specs.declared.files.FileRead.TheVariants as file
use Rattle.ug_conf.specs.declared.folder_file.FolderFile.{FolderFile}
use Rattle.ug_conf.specs.declared.settings.Settings.{Settings}
use Rattle.ug_store.specs.declared.disk.RuleDisk
use Rattle.ug_audit.specs.declared.start_entry.ConfigPart.TheVariants as part
use Rattle.ug_audit.specs.declared.start_entry.StartEntry.{StartEntry}
use Rattle.ug_audit.specs.declared.start_entry.StartEntry.TheVariants as entry
use Rattle.ug_core.specs.Event.{DaemonState}
use Rattle.ug_core.specs.Settings.{classes_of, hub_default}
use Rattle.ug_core.specs.Starting.{Outset, Starts}
use Rattle.ug_core.specs.declared.start_fault.StartFault.{StartFault}
use Rattle.ug_acl.specs.Acls.{Addition}
use Rattle.ug_serve.specs.Access.{OpensTo}
use Rattle.ug_serve.specs.Causes.{refused_whole, refusal_of_start}
use Rattle.ug_serve.specs.Folders.{ReadsRules}
use Rattle.ug_serve.specs.declared.access.Access.{Access}
use Rattle.ug_serve.specs.declared.not_started.NotStarted.{NotStarted}
use Rattle.ug_serve.specs.declared.not_started.NotStarted.TheVariants as why

-- what is noted of the settings' lines whose keys aren't used
abbrev pub unused_entries : List ℕ → List StartEntry
unused_entries lines = map (λ line. entry.UnusedKey line) lines

-- the settings of a text, or its first bad line
abbrev pub SettingsOf : List ℕ → Result Settings NotStarted → Type 0
SettingsOf text (Ok settings) = conf_read text ≡ Ok settings
SettingsOf text (Err (why.Refused what bad)) = (what ≡ part.Settings) × (conf_read text ≡ Err bad)
SettingsOf text (Err why.FilesFailed) = ⊥
SettingsOf text (Err why.DiskFailed) = ⊥
SettingsOf text (Err why.Memory) = Unit {0}

-- a file of settings that is absent or too long is refused
abbrev pub SettingsIn : FileRead → Result Settings NotStarted → Type 0
SettingsIn (file.Bytes text) result = SettingsOf text result
SettingsIn file.Absent result = result ≡ Err (refused_whole part.Settings)
SettingsIn file.TooLong result = result ≡ Err (refused_whole part.Settings)
SettingsIn file.Failed result = result ≡ Err why.FilesFailed
SettingsIn file.Memory result = result ≡ Err why.Memory

-- the file at the path is read once, and gives the settings
pub record ReadsSettings {F : Type 0} (gives : F → FileStep → F → Type 0) (path : List ℕ) (s : F)
    (result : Result Settings NotStarted) (t : F) : Type 0 where
  pub answer : FileRead
  pub read : gives s (Read_at path answer) t
  pub settings : SettingsIn answer result

-- the words of ChaCha20 from a seed of 32 bytes
abbrev pub words_of_seed : List ℕ → Stream
words_of_seed seed = stream_of (steps_u32 (next_word 10)) (of_seed seed)

-- what a daemon starts with: its settings, who may do what, the clock of its zone, and the words of
-- its seed. Its first event is number 1
abbrev pub outset_of : Settings → List Addition → (ℕ → ℕ) → Stream → Outset
outset_of settings acl clock words =
    record {
      classes = classes_of settings;
      hub = hub_default settings.default;
      access = acl;
      clock =
          clock;
      words = words;
      first = 1;
    }

-- a daemon that started, and those that it is open to
pub record Started : Type 0 where
  pub daemon : DaemonState
  pub principals : List Named

abbrev pub started : List Named → DaemonState → Started
started principals d = record { daemon = d; principals = principals }

abbrev pub file_names : List FolderFile → List (List ℕ)
file_names files = map (λ file. file.name) files

-- a start from the rules, with its cause where it isn't done
abbrev pub with_cause : List FolderFile → Result DaemonState StartFault
    → Result DaemonState NotStarted
with_cause files (Ok d) = Ok d
with_cause files (Err e) = Err (refusal_of_start (file_names files) e)

-- A daemon starts from these files and the disk's rule file. Without memory for the files' names
-- the disk isn't asked.
pub data StartsDaemon {D : Type 0} (disk : RuleDisk.Ghosts D) (outset : Outset)
    (files : List FolderFile) (s : D) : Result DaemonState NotStarted → D → Type 0 where
  Without_names : StartsDaemon disk outset files s (Err why.Memory) s
  Started_from : (result : Result DaemonState StartFault) (t : D)
      → Starts disk.keeps disk.told disk.faults outset files s result t
      → StartsDaemon disk outset files s (with_cause files result) t

abbrev pub with_principals : List Named → Result DaemonState NotStarted → Result Started NotStarted
with_principals principals (Ok d) = Ok (started principals d)
with_principals principals (Err cause) = Err cause

-- the disk is what it was, but for the file that it is aimed at
pub record IsSameDisk {D : Type 0} (disk : RuleDisk.Ghosts D) (s t : D) : Type 0 where
  pub same : disk.told t ≡ disk.told s
  pub counts : disk.faults t ≡ disk.faults s

-- the disk's later calls are on the rule file at that path
pub record IsAimed {D : Type 0} (disk : RuleDisk.Ghosts D) (path : List ℕ) (s t : D) : Type 0 where
  pub same_disk : IsSameDisk disk s t
  pub at : disk.aimed t path

-- The steps of a start, of which the first that isn't done ends it: the settings are read; so is
-- who may do what, and the folder of rules; the disk is aimed at the rule file that the settings
-- name; and the daemon starts from the folder's files and from that one. The entries tell of the
-- settings' lines that aren't used, once they are read.
pub data Opens {F D : Type 0} (reads : F → FileStep → F → Type 0) (disk : RuleDisk.Ghosts D)
    (path : List ℕ) (clock : ℕ → ℕ) (words : Stream) (f : F) (d : D)
    : List StartEntry → Result Started NotStarted → F → D → Type 0 where
  Unread : (cause : NotStarted) (g : F) → ReadsSettings reads path f (Err cause) g
      → Opens reads disk path clock words f d [] (Err cause) g d
  Access_unread : (settings : Settings) (cause : NotStarted) (g h : F)
      → ReadsSettings reads path f (Ok settings) g
      → OpensTo reads settings.users settings.access_folder g (Err cause) h
      → Opens reads disk path clock words f d
      (unused_entries settings.unused) (Err cause) h d
  Folder_unread : (settings : Settings) (access : Access) (cause : NotStarted) (g h i : F)
      → ReadsSettings reads path f (Ok settings) g
      → OpensTo reads settings.users settings.access_folder g (Ok access) h
      → ReadsRules reads settings.rule_folder h (Err cause) i
      → Opens reads disk path clock words f d
      (unused_entries settings.unused) (Err cause) i d
  Unaimed : (settings : Settings) (access : Access) (files : List FolderFile) (g h i : F) (a : D)
      → ReadsSettings reads path f (Ok settings) g
      → OpensTo reads settings.users settings.access_folder g (Ok access) h
      → ReadsRules reads settings.rule_folder h (Ok files) i
      → IsSameDisk disk d a
      → Opens reads disk path clock words f d
      (unused_entries settings.unused) (Err why.Memory) i a
  From_rules : (settings : Settings) (access : Access) (files : List FolderFile) (g h i : F)
      (a b : D) (result : Result DaemonState NotStarted)
      → ReadsSettings reads path f (Ok settings) g
      → OpensTo reads settings.users settings.access_folder g (Ok access) h
      → ReadsRules reads settings.rule_folder h (Ok files) i
      → IsAimed disk settings.rule_file d a
      → StartsDaemon disk (outset_of settings access.acl clock words) files a result b
      → Opens reads disk path clock words f d
      (unused_entries settings.unused) (with_principals access.principals result) i b

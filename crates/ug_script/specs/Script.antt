-- How far a script has come, and the daemon that it has.
use Rattle.std.specs.Prelude.{◌≡◌, Bool, true, false, ◌&&◌, nat_le, List, [], length}
use Rattle.ug_types.specs.Limits.{text_limit}
use Rattle.ug_conf.specs.FolderFiles.{folder_length}
use Rattle.ug_print.specs.RuleTexts.{rules_text_of}
use Rattle.ug_store.specs.Scripted.{DiskWorld}
use Rattle.ug_core.specs.Event.{DaemonState, daemon_of}
use Rattle.ug_store.specs.declared.mishap.Planned.{Planned}
use Rattle.ug_core.specs.declared.start_fault.StartFault.{StartFault}
use Rattle.ug_core.specs.declared.start_fault.StartFault.TheVariants as fault
use Rattle.ug_script.specs.declared.progress.Phase as progress
use Rattle.ug_script.specs.declared.progress.Phase.TheVariants as at
use Rattle.ug_script.specs.declared.session.Session.{Session}
use Rattle.ug_script.specs.declared.start.NoStart.{NoStart}
use Rattle.ug_script.specs.declared.start.NoStart.TheVariants as no_start
use Rattle.ug_script.specs.Setup.{SetupState, no_setup, rules_disk, first_started}

-- how far a script has come: lines of setup may still come; none may, and no daemon was started; or
-- one was, from its disk
pub data Phase : Type 0 where
  SettingUp : Phase
  Unstarted : Phase
  Started : DaemonState → DiskWorld → Phase

-- A script whose first line was read: what the setup lines gave, how far it has come, and what is
-- planned for calls of the disk in the next event.
pub record Script : Type 0 where
  pub setup : SetupState
  pub phase : Phase
  pub planned : List Planned

abbrev pub phase_of : progress.Phase → Phase
phase_of at.SettingUp = SettingUp
phase_of at.Unstarted = Unstarted
phase_of (at.Started session) = Started (daemon_of session.daemon) session.disk

abbrev pub fresh : Script
fresh = record { setup = no_setup; phase = SettingUp; planned = [] }

abbrev pub takes_setup : Phase → Bool
takes_setup SettingUp = true
takes_setup Unstarted = false
takes_setup (Started d disk) = false

abbrev pub has_started : Phase → Bool
has_started SettingUp = false
has_started Unstarted = false
has_started (Started d disk) = true

abbrev pub closed_phase : Phase → Phase
closed_phase SettingUp = Unstarted
closed_phase Unstarted = Unstarted
closed_phase (Started d disk) = Started d disk

-- no line of setup may come any more
abbrev pub with_setup_closed : Script → Script
with_setup_closed s = record s { phase = closed_phase s.phase }

-- the daemon, or the one that an event would start
abbrev pub daemon_by : SetupState → Phase → DaemonState
daemon_by setup SettingUp = first_started setup
daemon_by setup Unstarted = first_started setup
daemon_by setup (Started d disk) = d

abbrev pub daemon_in : Script → DaemonState
daemon_in s = daemon_by s.setup s.phase

-- its disk
abbrev pub disk_by : SetupState → Phase → DiskWorld
disk_by setup SettingUp = rules_disk setup
disk_by setup Unstarted = rules_disk setup
disk_by setup (Started d disk) = disk

abbrev pub disk_in : Script → DiskWorld
disk_in s = disk_by s.setup s.phase

-- the texts of the folder's files aren't too long together
abbrev pub fits_folder : SetupState → Bool
fits_folder setup = nat_le (folder_length setup.folder.files) text_limit

-- a rule file has room for the other rules
abbrev pub fits_rules : SetupState → Bool
fits_rules setup = nat_le (length (rules_text_of setup.rules)) text_limit

abbrev pub fits_file : SetupState → Bool
fits_file setup = fits_rules setup && fits_folder setup

-- the rules of a session's file stand behind those of the folder, whose texts aren't too long
abbrev pub IsStartedBy : SetupState → Session → Type 0
IsStartedBy setup session = (session.before ≡ setup.folder.count) × (fits_folder setup ≡ true)

-- so is the session's of that phase, if it has one
abbrev pub IsPhaseOf : SetupState → progress.Phase → Type 0
IsPhaseOf setup phase =
    (session : Session) → phase ≡ at.Started session → IsStartedBy setup session

-- why no daemon starts over a disk in memory, which fails only where an entry of its calls finds no
-- memory
abbrev pub no_start_of : StartFault → NoStart
no_start_of (fault.BadFolder file bad) = no_start.BadRules
no_start_of fault.FolderTooLong = no_start.TooLong
no_start_of (fault.BadRules bad) = no_start.BadRules
no_start_of fault.TooLong = no_start.TooLong
no_start_of fault.TooMany = no_start.TooLong
no_start_of (fault.Disk count) = no_start.Memory
no_start_of fault.Memory = no_start.Memory

-- a daemon was started, or can be
abbrev pub can_start : SetupState → Phase → Bool
can_start setup SettingUp = fits_file setup
can_start setup Unstarted = fits_file setup
can_start setup (Started d disk) = true

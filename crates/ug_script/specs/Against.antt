-- Why a line of a script is refused.
use Rattle.std.specs.Prelude.{◌≡◌, ℕ, Bool, true, false, List, [], Option, Some, None}
use Rattle.ug_sysfs.specs.World.{World}
use Rattle.ug_command_io.specs.Fold.{LineRefusal, BadLine, InputTooLong, Going, Refused, of_first}
use Rattle.ug_command_io.specs.Refusals.{RefusesLines}
use Rattle.ug_core.specs.Event.{has_numbers}
use Rattle.ug_types.specs.declared.event.Event.{Event}
use Rattle.ug_steps.specs.declared.step.SetupLine.{SetupLine}
use Rattle.ug_steps.specs.declared.step.Step.{Step}
use Rattle.ug_steps.specs.declared.step.Step.TheVariants as step
use Rattle.ug_steps.specs.Grammar.{step_of_line}
use Rattle.ug_script.specs.Replay.{header, script_end, script_step}
use Rattle.ug_script.specs.Script.{Script, daemon_in, disk_in, fits_file, has_started, takes_setup}
use Rattle.ug_script.specs.Setup.{one_line_more}

-- the first such line starts the daemon
abbrev pub starts_daemon : Step → Bool
starts_daemon step.Skip = false
starts_daemon (step.Setup setup) = false
starts_daemon (step.Move action) = false
starts_daemon (step.Schedule plan) = false
starts_daemon (step.Event event) = true
starts_daemon step.Restart = true

-- What speaks against a line where it stands. It is the line itself or its place, or the rules of
-- the setup lines: never what the daemon has written to its rule file.
pub data SpeaksAgainst : Option Script × World → List ℕ → LineRefusal → Type 0 where
  -- it stands first, and isn't the header
  NoHeader : (w : World) (line : List ℕ) → (line ≡ header → ⊥)
      → SpeaksAgainst (None, w) line BadLine
  -- it is none of the grammar
  NoStep : (s : Script) (w : World) (line : List ℕ) → step_of_line line ≡ None
      → SpeaksAgainst (Some s, w) line BadLine
  -- it is a line of setup, behind one that closed the setup
  BehindSetup : (s : Script) (w : World) (line : List ℕ) (setup : SetupLine)
      → step_of_line line ≡ Some (step.Setup setup) → takes_setup s.phase ≡ false
      → SpeaksAgainst (Some s, w) line BadLine
  -- it is a line of setup that those before it leave no room for: one rule too many, a setting that
  -- isn't read or was given, a second seed or zone
  NotTaken : (s : Script) (w : World) (line : List ℕ) (setup : SetupLine)
      → step_of_line line ≡ Some (step.Setup setup) → one_line_more setup s.setup ≡ None
      → SpeaksAgainst (Some s, w) line BadLine
  -- it would start the first daemon, and a rule file has no room for the rules of the `rule` lines,
  -- or the texts of the folder's files are too long
  NoRoom : (s : Script) (w : World) (line : List ℕ) (asked : Step)
      → step_of_line line ≡ Some asked → starts_daemon asked ≡ true
      → has_started s.phase ≡ false → fits_file s.setup ≡ false
      → SpeaksAgainst (Some s, w) line InputTooLong

-- it is an event, for which the numbers leave no room
abbrev pub LacksNumbers : Option Script × World → List ℕ → Type 0
LacksNumbers (None, w) line = ⊥
LacksNumbers (Some s, w) line =
    (event : Event) × (step_of_line line ≡ Some (step.Event event))
    × (has_numbers (daemon_in s) w.faults (disk_in s).faults ≡ false)

-- These lines are refused from that world on: against the first that isn't taken something speaks,
-- or it is past a limit; or there is none.
abbrev pub RefusesScript : World → List (List ℕ) → Type 0
RefusesScript first lines =
    (fault : LineRefusal) × RefusesLines script_step (of_first script_end) SpeaksAgainst
    (Going 0 [] (None, first)) lines fault

-- a line against which something speaks is refused, and for that fault
abbrev pub AreRefused : Type 0
AreRefused =
    (p : Option Script × World) (line : List ℕ) (fault : LineRefusal) → SpeaksAgainst p line fault
    → (next : Option Script × World) × (script_step p line ≡ Refused fault next)

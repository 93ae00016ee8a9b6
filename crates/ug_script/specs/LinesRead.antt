-- Rules that can be read again from their texts, at each line of a script.
use Rattle.std.specs.Prelude.{◌≡◌, ℕ, false, List, Option, Some, None}
use Rattle.ug_sysfs.specs.World.{World}
use Rattle.ug_ruleset.specs.RuleFile.{CanSave}
use Rattle.ug_core.specs.Stops.{IsReadable}
use Rattle.ug_steps.specs.declared.step.Step.{Step}
use Rattle.ug_steps.specs.declared.step.Step.TheVariants.{Event, Restart}
use Rattle.ug_steps.specs.Grammar.{step_of_line}
use Rattle.ug_script.specs.Journal.{happened_at}
use Rattle.ug_script.specs.Script.{Script, has_started}

-- those of the `rule` lines, where no daemon was started
abbrev pub FirstReads : Script → Type 0
FirstReads s = has_started s.phase ≡ false → CanSave s.setup.rules

-- those that a daemon starts with, and those that an event found in force, wrote and left in force
abbrev pub StepReads : Option Step → Script → World → Type 0
StepReads (Some (Event event)) s w = FirstReads s × IsReadable (happened_at event s w)
StepReads (Some Restart) s w = FirstReads s
StepReads step s w = Unit {0}

-- at a line, where it stands
abbrev pub LineReads : Option Script × World → List ℕ → Type 0
LineReads (None, w) line = Unit {0}
LineReads (Some s, w) line = StepReads (step_of_line line) s w

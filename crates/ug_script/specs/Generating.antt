-- What each line of a script is to `generate-policy`, and the rules that are written behind the
-- last.
use Rattle.std.specs.Prelude.{◌≡◌, ℕ, Bool, List, [], ◌∷◌, ◌++◌, Option, Some, None, Ok, flat_map}
use Rattle.ug_types.specs.declared.record.DeviceRecord.{DeviceRecord}
use Rattle.ug_types.specs.declared.record.Judged.TheVariants.{Good}
use Rattle.ug_types.specs.declared.rule.Rule.{Rule}
use Rattle.ug_kernel.specs.declared.device.Device.{Device}
use Rattle.ug_kernel.specs.Kernel.{Live}
use Rattle.ug_sysfs.specs.declared.script.Move.{Move}
use Rattle.ug_sysfs.specs.declared.script.Move.TheVariants.{Plug, Unplug, Iface}
use Rattle.ug_sysfs.specs.World.{World, carried, moved}
use Rattle.ug_conf.specs.Draft.{Draft, draft_of}
use Rattle.ug_conf.specs.Settings.{defaults}
use Rattle.ug_conf.specs.Texts.{setting_line}
use Rattle.ug_lines.specs.LineReading.{lines_read}
use Rattle.ug_print.specs.RuleTexts.{rules_text_of}
use Rattle.ug_generate.specs.Policies.{judged_in, policy_rules, Admits, IsPolicy}
use Rattle.ug_command_io.specs.Fold.{LineOutcome, bad_line, no_memory, read_fault}
use Rattle.ug_script.specs.declared.generator.Generator.{Generator}
use Rattle.ug_steps.specs.declared.step.Step.{Step}
use Rattle.ug_steps.specs.declared.step.Step.TheVariants as step
use Rattle.ug_steps.specs.Grammar.{step_of_line}
use Rattle.ug_script.specs.Script.{Script, with_setup_closed}
use Rattle.ug_script.specs.Setup.{SetupState, conf_asked, steps_of}
use Rattle.ug_script.specs.Replay.{bad, first_step, interpreter_state, line_taken, quiet}

abbrev pub generator_state : Generator → Option Script
generator_state generator = interpreter_state generator.script

-- ---- lines

-- a device comes or goes, and interfaces are left as they are
abbrev pub devices_moved : Move → World → World
devices_moved (Plug device) w = carried (Plug device) w
devices_moved (Unplug name) w = carried (Unplug name) w
devices_moved (Iface change) w = w

-- Setup lines and moves of devices are carried out as in a replay. Other lines are read alone:
-- nothing is scheduled, no event is run, and no daemon is started. Lines of setup may stand where
-- they may in a replay.
abbrev pub skimmed : Step → Script → World → LineOutcome (Option Script × World)
skimmed step.Skip s w = quiet s w
skimmed (step.Setup line) s w = line_taken line s w
skimmed (step.Move action) s w =
    quiet (with_setup_closed s) (devices_moved action w)
skimmed (step.Schedule plan) s w = quiet (with_setup_closed s) w
skimmed (step.Event event) s w = quiet (with_setup_closed s) w
skimmed step.Restart s w = quiet (with_setup_closed s) w

abbrev pub skimmed_if : Option Step → Script → World → LineOutcome (Option Script × World)
skimmed_if None s w = bad s w
skimmed_if (Some step) s w = skimmed step s w

abbrev pub generate_step : Option Script × World → List ℕ → LineOutcome (Option Script × World)
generate_step (None, w) line = first_step line w
generate_step (Some s, w) line = skimmed_if (step_of_line line) s w

-- ---- the end

-- DeviceRulesWithPort
abbrev pub names_ports : SetupState → Bool
names_ports setup = setup.settings.draft.settings.with_port

-- the text of the rules of the devices that are there, where the header was read
abbrev pub generate_end : Option Script × World → Option (List ℕ)
generate_end (None, w) = None
generate_end (Some s, w) =
    Some (rules_text_of (policy_rules w.kernel.devices (names_ports s.setup)))

-- ---- a whole script

abbrev pub move_asked : Option Step → List Move
move_asked (Some (step.Move action)) = action ∷ []
move_asked step = []

-- one after another
abbrev pub all_moved : List Move → List Device → List Device
all_moved [] ds = ds
all_moved (action ∷ actions) ds = all_moved actions (moved action ds)

-- the devices that the `plug` and `unplug` lines leave
abbrev pub devices_left : List (List ℕ) → List Device → List Device
devices_left lines ds = all_moved (flat_map move_asked (steps_of lines)) ds

-- The text is that of the rules of the devices that the lines leave, which name ports as the
-- settings of the `conf` lines say. The first rule that such a device of good record meets allows
-- it.
pub record IsFirstPolicy (lines : List (List ℕ)) (before : List Device) (text : List ℕ) : Type 0
  where
    pub draft : Draft
    pub settings : lines_read setting_line 1 (draft_of defaults [])
        (flat_map conf_asked (steps_of lines))
        ≡ Ok draft
    pub made : List Rule
    pub is : text ≡ rules_text_of made
    pub policy : IsPolicy (devices_left lines before) draft.settings.with_port made
    pub admits : (i : ℕ) (d : Device) (device : DeviceRecord) → Live (devices_left lines before) i d
        → judged_in (devices_left lines before) d ≡ Good device → Admits device made

-- the line of a fault is all that is written
pub record TellsFaultAlone (base : List ℕ) (held : Option (List ℕ)) (status : ℕ) : Type 0 where
  pub bad : status ≡ 2 → (n : ℕ) × (held ≡ Some (base ++ bad_line n))
  pub read : status ≡ 4 → held ≡ Some (base ++ read_fault)
  pub memory : status ≡ 6 → held ≡ Some (base ++ no_memory)

-- What lines schedule for the next event, and what is in store for it.
use Rattle.std.specs.Prelude.{◌≡◌, ℕ, false, List, [], ◌∷◌, ◌++◌, flat_map, Option, Some, None}
use Rattle.std.specs.List.{fold}
use Rattle.ug_store.specs.declared.mishap.Planned.{Planned}
use Rattle.ug_sysfs.specs.declared.script.Failing.{Failing}
use Rattle.ug_sysfs.specs.declared.script.Move.{Move}
use Rattle.ug_sysfs.specs.declared.script.Move.TheVariants as move
use Rattle.ug_sysfs.specs.declared.script.Scheduled.{Scheduled}
use Rattle.ug_sysfs.specs.Doing.{Does}
use Rattle.ug_sysfs.specs.Queue.{IsSchedule}
use Rattle.ug_sysfs.specs.World.{World, carried}
use Rattle.ug_command_io.specs.Fold.{Going, Writes, plays}
use Rattle.ug_steps.specs.declared.step.Plan.TheVariants as plan
use Rattle.ug_steps.specs.declared.step.Step.{Step}
use Rattle.ug_steps.specs.declared.step.Step.TheVariants as step
use Rattle.ug_script.specs.Replay.{script_step, with_devices}
use Rattle.ug_script.specs.Script.{Script, has_started, with_setup_closed}
use Rattle.ug_script.specs.Setup.{steps_of}

-- ---- lines

abbrev pub move_asked : Option Step → List Scheduled
move_asked (Some (step.Schedule (plan.Move m))) = m ∷ []
move_asked other = []

abbrev pub fail_asked : Option Step → List Failing
fail_asked (Some (step.Schedule (plan.Fail f))) = f ∷ []
fail_asked other = []

abbrev pub disk_asked : Option Step → List Planned
disk_asked (Some (step.Schedule (plan.OnDisk p))) = p ∷ []
disk_asked other = []

abbrev pub behind_event : List (Option Step) → Option Step → List (Option Step)
behind_event so_far (Some (step.Event event)) = []
behind_event so_far other = so_far ++ other ∷ []

-- those behind the last event, or all
abbrev pub since_event : List (Option Step) → List (Option Step)
since_event steps = fold behind_event [] steps

-- ---- moves that come at once

-- nothing changes but the devices, or but the interfaces
abbrev pub LeavesElse : Move → World → World → Type 0
LeavesElse (move.Plug device) w v = v ≡ with_devices v.kernel.devices w
LeavesElse (move.Unplug name) w v = v ≡ with_devices v.kernel.devices w
LeavesElse (move.Iface change) w v = v ≡ record w { interfaces = v.interfaces }

-- a line that asks for the move does it, writes nothing, and leaves all else, but that no line of
-- setup may come any more
pub record DoesAtOnce (line : List ℕ) (action : Move) (s : Script) (w : World) : Type 0 where
  pub does : Does action w.kernel.devices (carried action w).kernel.devices
  pub leaves : LeavesElse action w (carried action w)
  pub leads : script_step (Some s, w) line
      ≡ Writes [] (Some (with_setup_closed s), carried action w)

-- ---- wherever lines have led

-- What comes in the next event is what the lines since the event before have written, and no more.
-- And where no daemon was started, nothing was written.
pub record IsScheduledBy (steps : List (Option Step)) (text : List ℕ) (s : Script) (w : World)
    : Type 0 where
  pub moves : IsSchedule (flat_map move_asked (since_event steps)) w.moves
  pub fails : w.fails ≡ flat_map fail_asked (since_event steps)
  pub on_disk : s.planned ≡ flat_map disk_asked (since_event steps)
  pub silent : has_started s.phase ≡ false → text ≡ []

abbrev pub StaysScheduled : World → Type 0
StaysScheduled first = (lines : List (List ℕ)) (n : ℕ) (text : List ℕ) (s : Script) (w : World)
    → plays script_step (Going 0 [] (None, first)) lines ≡ Going n text (Some s, w)
    → IsScheduledBy (steps_of lines) text s w

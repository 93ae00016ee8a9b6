use Rattle.std.proofs.Common.{ℕ, List, Bor, map, refl}
use Rattle.ug_arguments.specs.Commands.{command_in}
use Rattle.ug_sysfs.specs.IfaceMoves.{bus_new_sound}
use Rattle.ug_sysfs.specs.Sound.{new_sound}
use Rattle.ug_script.proofs.Births.{stays_born}
use Rattle.ug_script.proofs.EventCalls.{stays_at_calls}
use Rattle.ug_script.proofs.Journals.{stays_lawful, stays_recorded}
use Rattle.ug_tool.specs.Replay.{new_world}
use Rattle.ug_tool.proofs.CarriedOut.{memory_carried, same_carried}
use Rattle.ug_tool.proofs.Memory.{fault_is_memory}
use Rattle.ug_tool.proofs.tool.run_tool.Goals as goal

pub returns-in-Ok-clause-laws : goal.returns-in-Ok-clause-laws
returns-in-Ok-clause-laws g c = stays_lawful new_world refl new_sound

pub returns-in-Ok-clause-recorded : goal.returns-in-Ok-clause-recorded
returns-in-Ok-clause-recorded g c = stays_recorded new_world refl new_sound

pub returns-in-Ok-clause-births : goal.returns-in-Ok-clause-births
returns-in-Ok-clause-births g c = stays_born new_world refl new_sound.devices

pub returns-in-Ok-clause-calls : goal.returns-in-Ok-clause-calls
returns-in-Ok-clause-calls g c = stays_at_calls new_world refl refl refl bus_new_sound

pub returns-in-Ok-clause-carried : goal.returns-in-Ok-clause-carried
returns-in-Ok-clause-carried g c = λ command e.
    same_carried (command_in (map (λ (w : Bor (List ℕ)). w.now) c.args.words.now)) c.in-Ok.command command _ _ c.carry_out-status.result c.in-Ok.ensures.ok e c.carry_out-status.ensures.carried

pub returns-in-Err-clause-laws : goal.returns-in-Err-clause-laws
returns-in-Err-clause-laws g c = stays_lawful new_world refl new_sound

pub returns-in-Err-clause-recorded : goal.returns-in-Err-clause-recorded
returns-in-Err-clause-recorded g c = stays_recorded new_world refl new_sound

pub returns-in-Err-clause-births : goal.returns-in-Err-clause-births
returns-in-Err-clause-births g c = stays_born new_world refl new_sound.devices

pub returns-in-Err-clause-calls : goal.returns-in-Err-clause-calls
returns-in-Err-clause-calls g c = stays_at_calls new_world refl refl refl bus_new_sound

pub returns-in-Err-clause-carried : goal.returns-in-Err-clause-carried
returns-in-Err-clause-carried g c = λ command e.
    let words = command_in (map (λ (w : Bor (List ℕ)). w.now) c.args.words.now) in
    memory_carried command _ (g.K.Sink.held c.refuse.new.out) c.refuse.result
    (c.refuse.ensures.memory (fault_is_memory words command c.in-Err.fault c.in-Err.ensures.err e))

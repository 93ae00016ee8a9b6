use Rattle.ug_script.specs.Replay.{interpreter_state}
use Rattle.std.proofs.Common.{refl, arith}
use Rattle.ug_sysfs.specs.Sound.{new_sound}
use Rattle.ug_lines.specs.Lines.{lines_of}
use Rattle.ug_sysfs.specs.IfaceMoves.{bus_new_sound}
use Rattle.ug_script.proofs.Against.{script_refused}
use Rattle.ug_script.proofs.Carrying.{done_carries}
use Rattle.ug_script.proofs.Journals.{stays_lawful}
use Rattle.ug_script.proofs.Roomless.{tells_room}
use Rattle.ug_tool.specs.Replay.{new_world}
use Rattle.ug_tool.proofs.replay.replay_over.Goals as goal

pub returns-clause-replayed : goal.returns-clause-replayed
returns-clause-replayed g c = λ all base a b. (interpreter_state c.run-status.new.machine, rw c.new-interpreter.ensures at (rw c.requires at (c.run-status.ensures.answers all base a b)))

pub returns-clause-why : goal.returns-clause-why
returns-clause-why g c = λ all is e.
    let k = c.run-status.ensures.refused all is e in
    script_refused new_world _ k.0 (stays_lawful new_world refl new_sound) (refl, bus_new_sound, omega arith) (rw c.new-interpreter.ensures at (rw c.requires at k.1))

pub returns-clause-too_long : goal.returns-clause-too_long
returns-clause-too_long g c = λ all base a b.
    tells_room new_world all base _ _ (interpreter_state c.run-status.new.machine, c.run-status.new.world) c.run-status.result refl refl
    (rw c.new-interpreter.ensures at (rw c.requires at (c.run-status.ensures.answers all base a b)))
    (λ e.
    let k = c.run-status.ensures.refused all a e in
    script_refused new_world _ k.0 (stays_lawful new_world refl new_sound) (refl, bus_new_sound, omega arith) (rw c.new-interpreter.ensures at (rw c.requires at k.1)))

pub returns-clause-carries : goal.returns-clause-carries
returns-clause-carries g c = λ all base a b e.
    done_carries new_world refl new_sound (lines_of all)
    (rw c.new-interpreter.ensures at (rw c.requires at ((c.run-status.ensures.answers all base a b).done e).1))
    (rw c.new-interpreter.ensures at (rw c.requires at (c.run-status.ensures.taken all a e)))

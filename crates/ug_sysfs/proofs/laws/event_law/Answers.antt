use Rattle.ug_sysfs.specs.Begins.{happened_moves}
use Rattle.ug_sysfs.specs.Sound.{new_sound, happened_sound}
use Rattle.ug_sysfs.proofs.laws.event_law.Goals as goal

pub returns-clause-new : goal.returns-clause-new
returns-clause-new c = new_sound

pub returns-clause-moves : goal.returns-clause-moves
returns-clause-moves c = λ w. happened_moves w.moves w.kernel

pub returns-clause-sound : goal.returns-clause-sound
returns-clause-sound c = λ w s. happened_sound w.moves w.kernel s

use Rattle.ug_sysfs.specs.Below.{unplugged_felled, unplugged_nobody}
use Rattle.ug_sysfs.specs.Begins.{unplugged_moves}
use Rattle.ug_sysfs.specs.Sound.{unplugged_sound}
use Rattle.ug_sysfs.proofs.laws.unplug_law.Goals as goal

pub returns-clause-felled : goal.returns-clause-felled
returns-clause-felled c = unplugged_felled

pub returns-clause-nobody : goal.returns-clause-nobody
returns-clause-nobody c = unplugged_nobody

pub returns-clause-moves : goal.returns-clause-moves
returns-clause-moves c = unplugged_moves

pub returns-clause-sound : goal.returns-clause-sound
returns-clause-sound c = unplugged_sound

use Rattle.ug_sysfs.specs.Birth.{plugged_born, plugged_not}
use Rattle.ug_sysfs.specs.Begins.{plugged_moves}
use Rattle.ug_sysfs.specs.Sound.{plugged_sound}
use Rattle.ug_sysfs.proofs.laws.plug_law.Goals as goal

pub returns-clause-born : goal.returns-clause-born
returns-clause-born c = plugged_born

pub returns-clause-refused : goal.returns-clause-refused
returns-clause-refused c = plugged_not

pub returns-clause-moves : goal.returns-clause-moves
returns-clause-moves c = plugged_moves

pub returns-clause-sound : goal.returns-clause-sound
returns-clause-sound c = plugged_sound

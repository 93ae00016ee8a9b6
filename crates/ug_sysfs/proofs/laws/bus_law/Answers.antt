use Rattle.ug_sysfs.specs.IfaceMoves.{bus_new_sound, bus_over, bus_over_sound, moves_one, sound_one}
use Rattle.ug_sysfs.specs.Serving.{bus_in}
use Rattle.ug_sysfs.proofs.laws.bus_law.Goals as goal

pub returns-clause-new : goal.returns-clause-new
returns-clause-new c = bus_new_sound

pub returns-clause-moves : goal.returns-clause-moves
returns-clause-moves c = λ m w. moves_one m (bus_in w)

pub returns-clause-sound : goal.returns-clause-sound
returns-clause-sound c = λ m w s. sound_one m (bus_in w) s

pub returns-clause-over_moves : goal.returns-clause-over_moves
returns-clause-over_moves c = λ w. bus_over w.moves (bus_in w)

pub returns-clause-over_sound : goal.returns-clause-over_sound
returns-clause-over_sound c = λ w s. bus_over_sound w.moves (bus_in w) s

-- Nothing is closed where the device is there.
use Rattle.std.proofs.Common.{refl}
use Rattle.ug_table.proofs.Brought.{none_to_close}
use Rattle.ug_table.proofs.bring.close_gone.Goals as goal

pub returns-in-Nobody : goal.returns-in-Nobody
returns-in-Nobody g c es = rw c.in-Nobody.is (_, _, c.close.ensures, (refl, refl))

pub returns-in_default : goal.returns-in_default
returns-in_default g c es = none_to_close _ _ _ _ es c.in_default.not-Nobody

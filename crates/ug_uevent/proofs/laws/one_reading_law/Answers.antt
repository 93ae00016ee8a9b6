use Rattle.ug_uevent.proofs.Meaning.{one_reading}
use Rattle.ug_uevent.proofs.laws.one_reading_law.Goals as goal

pub returns : goal.returns
returns c = one_reading

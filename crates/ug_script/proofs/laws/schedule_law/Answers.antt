use Rattle.ug_script.proofs.Schedules.{stays_scheduled}
use Rattle.ug_script.proofs.laws.schedule_law.Goals as goal

pub returns : goal.returns
returns c = stays_scheduled

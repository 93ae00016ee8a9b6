use Rattle.ug_script.proofs.Carrying.{stays_carried}
use Rattle.ug_script.proofs.Journals.{stays_lawful, stays_recorded}
use Rattle.ug_script.proofs.laws.script_law.Goals as goal

pub returns-clause-lawful : goal.returns-clause-lawful
returns-clause-lawful c = stays_lawful

pub returns-clause-recorded : goal.returns-clause-recorded
returns-clause-recorded c = stays_recorded

pub returns-clause-carried : goal.returns-clause-carried
returns-clause-carried c = stays_carried

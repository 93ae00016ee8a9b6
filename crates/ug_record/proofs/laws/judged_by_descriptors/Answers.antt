use Rattle.ug_record.proofs.Judging.{judged_long, judged_good, judged_bad}
use Rattle.ug_record.proofs.laws.judged_by_descriptors.Goals as goal

pub returns-clause-too_long : goal.returns-clause-too_long
returns-clause-too_long c = judged_long

pub returns-clause-good : goal.returns-clause-good
returns-clause-good c = judged_good

pub returns-clause-bad : goal.returns-clause-bad
returns-clause-bad c = judged_bad

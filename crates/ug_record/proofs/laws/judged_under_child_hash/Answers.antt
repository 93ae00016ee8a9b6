use Rattle.ug_record.proofs.Judging.{judged_without, judged_with_parent}
use Rattle.ug_record.proofs.laws.judged_under_child_hash.Goals as goal

pub returns-clause-no_parent : goal.returns-clause-no_parent
returns-clause-no_parent c = judged_without

pub returns-clause-parent : goal.returns-clause-parent
returns-clause-parent c = judged_with_parent

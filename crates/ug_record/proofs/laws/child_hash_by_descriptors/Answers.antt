use Rattle.ug_record.proofs.Judging.{hash_good, hash_bad}
use Rattle.ug_record.proofs.laws.child_hash_by_descriptors.Goals as goal

pub returns-clause-good : goal.returns-clause-good
returns-clause-good c = hash_good

pub returns-clause-bad : goal.returns-clause-bad
returns-clause-bad c = hash_bad

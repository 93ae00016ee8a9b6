use Rattle.ug_record.proofs.Meaning.{some_meaning, same_descr, same_fault, not_both}
use Rattle.ug_record.proofs.laws.one_meaning.Goals as goal

pub returns-clause-some : goal.returns-clause-some
returns-clause-some c = some_meaning

pub returns-clause-one_descr : goal.returns-clause-one_descr
returns-clause-one_descr c = same_descr

pub returns-clause-one_fault : goal.returns-clause-one_fault
returns-clause-one_fault c = same_fault

pub returns-clause-not_both : goal.returns-clause-not_both
returns-clause-not_both c = not_both

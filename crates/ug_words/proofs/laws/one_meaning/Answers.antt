use Rattle.ug_words.proofs.Meaning.{some_meaning, same_list, same_fault, not_both}
use Rattle.ug_words.proofs.laws.one_meaning.Goals as goal

pub returns-clause-some : goal.returns-clause-some
returns-clause-some c = some_meaning

pub returns-clause-one_list : goal.returns-clause-one_list
returns-clause-one_list c = same_list

pub returns-clause-one_fault : goal.returns-clause-one_fault
returns-clause-one_fault c = same_fault

pub returns-clause-not_both : goal.returns-clause-not_both
returns-clause-not_both c = not_both

use Rattle.ug_conf.proofs.Saying.{some_meaning, one_settings, one_fault, never_both}
use Rattle.ug_conf.proofs.laws.one_meaning.Goals as goal

pub returns-clause-some : goal.returns-clause-some
returns-clause-some c = some_meaning

pub returns-clause-one_settings : goal.returns-clause-one_settings
returns-clause-one_settings c = one_settings

pub returns-clause-one_fault : goal.returns-clause-one_fault
returns-clause-one_fault c = one_fault

pub returns-clause-not_both : goal.returns-clause-not_both
returns-clause-not_both c = never_both

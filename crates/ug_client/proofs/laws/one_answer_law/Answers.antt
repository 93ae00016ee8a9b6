use Rattle.ug_client.proofs.OneAnswer.{gives, gives_none, one_answer}
use Rattle.ug_client.proofs.laws.one_answer_law.Goals as goal

pub returns-clause-replied : goal.returns-clause-replied
returns-clause-replied c = gives

pub returns-clause-none : goal.returns-clause-none
returns-clause-none c = gives_none

pub returns-clause-one : goal.returns-clause-one
returns-clause-one c = one_answer

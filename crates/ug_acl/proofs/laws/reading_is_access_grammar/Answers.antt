use Rattle.ug_acl.proofs.Saying.{says, is_first_bad}
use Rattle.ug_acl.proofs.laws.reading_is_access_grammar.Goals as goal

pub returns-clause-good : goal.returns-clause-good
returns-clause-good c = says

pub returns-clause-bad : goal.returns-clause-bad
returns-clause-bad c = is_first_bad

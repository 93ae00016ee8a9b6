use Rattle.ug_sessions.proofs.Everyone.{answers_keep, watches_keep, notices_keep}
use Rattle.ug_sessions.proofs.laws.saying_keeps_accounts.Goals as goal

pub returns-clause-answers : goal.returns-clause-answers
returns-clause-answers c = answers_keep

pub returns-clause-watches : goal.returns-clause-watches
returns-clause-watches c = watches_keep

pub returns-clause-notices : goal.returns-clause-notices
returns-clause-notices c = notices_keep

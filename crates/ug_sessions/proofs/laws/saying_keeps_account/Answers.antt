use Rattle.std.proofs.Common.{nat_eq}
use Rattle.ug_sessions.proofs.Saying.{answers_if, watches_if, notices, gives_up_if}
use Rattle.ug_sessions.proofs.laws.saying_keeps_account.Goals as goal

pub returns-clause-answers : goal.returns-clause-answers
returns-clause-answers c = λ holds id text a sent s t p h. answers_if (nat_eq s.id.0 id.0) a text sent s t p h

pub returns-clause-watches : goal.returns-clause-watches
returns-clause-watches c = λ holds id a sent s t p h. watches_if (nat_eq s.id.0 id.0) a sent s t p h

pub returns-clause-notices : goal.returns-clause-notices
returns-clause-notices c = λ holds section text a sent s t p h. notices (holds section) a text sent s t p h

pub returns-clause-gives_up : goal.returns-clause-gives_up
returns-clause-gives_up c = λ id a sent s t p h. gives_up_if (nat_eq s.id.0 id.0) a sent s t p h

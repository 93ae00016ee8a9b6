use Rattle.ug_sessions.proofs.TiedAll.{begins_tied, turn_tied, flush_tied}
use Rattle.ug_sessions.proofs.TiedSaid.{hands_tied, passes_tied, answers_tied, watches_tied, notices_tied, gives_up_tied}
use Rattle.ug_sessions.proofs.laws.calls_keep_tied.Goals as goal

pub returns-clause-begins : goal.returns-clause-begins
returns-clause-begins c = begins_tied

pub returns-clause-turns : goal.returns-clause-turns
returns-clause-turns c = turn_tied

pub returns-clause-flushes : goal.returns-clause-flushes
returns-clause-flushes c = flush_tied

pub returns-clause-hands : goal.returns-clause-hands
returns-clause-hands c = hands_tied

pub returns-clause-passes : goal.returns-clause-passes
returns-clause-passes c = passes_tied

pub returns-clause-answers : goal.returns-clause-answers
returns-clause-answers c = answers_tied

pub returns-clause-watches : goal.returns-clause-watches
returns-clause-watches c = watches_tied

pub returns-clause-notices : goal.returns-clause-notices
returns-clause-notices c = notices_tied

pub returns-clause-gives_up : goal.returns-clause-gives_up
returns-clause-gives_up c = gives_up_tied

use Rattle.ug_sessions.proofs.WholeTurn.{turn_keeps, flush_keeps}
use Rattle.ug_sessions.proofs.AllKept.{hands_sound, passes_sound, answers_sound, watches_sound, notices_sound, gives_up_sound}
use Rattle.ug_sessions.proofs.laws.calls_keep_all.Goals as goal

pub returns-clause-begins : goal.returns-clause-begins
returns-clause-begins c = λ holds steps k. record { accounts = tt; lines = tt; distinct = tt; known = tt; said_known = tt; handed_known = tt; calls_known = k; too_long = tt }

pub returns-clause-turns : goal.returns-clause-turns
returns-clause-turns c = turn_keeps

pub returns-clause-flushes : goal.returns-clause-flushes
returns-clause-flushes c = flush_keeps

pub returns-clause-hands : goal.returns-clause-hands
returns-clause-hands c = hands_sound

pub returns-clause-passes : goal.returns-clause-passes
returns-clause-passes c = passes_sound

pub returns-clause-answers : goal.returns-clause-answers
returns-clause-answers c = answers_sound

pub returns-clause-watches : goal.returns-clause-watches
returns-clause-watches c = watches_sound

pub returns-clause-notices : goal.returns-clause-notices
returns-clause-notices c = notices_sound

pub returns-clause-gives_up : goal.returns-clause-gives_up
returns-clause-gives_up c = gives_up_sound

use Rattle.ug_sessions.proofs.Waiting.{hands_fewer, answers_no_more, watches_no_more, notices_no_more, gives_up_no_more}
use Rattle.ug_sessions.proofs.laws.handing_out_ends.Goals as goal

pub returns-clause-hands : goal.returns-clause-hands
returns-clause-hands c = hands_fewer

pub returns-clause-answers : goal.returns-clause-answers
returns-clause-answers c = answers_no_more

pub returns-clause-watches : goal.returns-clause-watches
returns-clause-watches c = watches_no_more

pub returns-clause-notices : goal.returns-clause-notices
returns-clause-notices c = notices_no_more

pub returns-clause-gives_up : goal.returns-clause-gives_up
returns-clause-gives_up c = gives_up_no_more

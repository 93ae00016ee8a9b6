use Rattle.std.proofs.Common.{refl, nat_eq, cond, false}
use Rattle.ug_sessions.proofs.LinesKept.{hand_lines, pass_lines, answer_lines, watch_lines, notice_lines, give_up_lines}
use Rattle.ug_sessions.proofs.laws.handing_keeps_lines.Goals as goal

pub returns-clause-begins : goal.returns-clause-begins
returns-clause-begins c = λ id principal. record { lines = refl; begun = refl; limit = refl }

pub returns-clause-hands : goal.returns-clause-hands
returns-clause-hands c = λ handed bytes line s t p h. hand_lines handed bytes line s t p.0 p.1 h

pub returns-clause-passes : goal.returns-clause-passes
returns-clause-passes c = λ handed bytes s t p h. pass_lines handed bytes s t p.1 h

pub returns-clause-answers : goal.returns-clause-answers
returns-clause-answers c = λ handed bytes id text s t p h. answer_lines (nat_eq s.id.0 id.0) handed bytes text s t p h

pub returns-clause-watches : goal.returns-clause-watches
returns-clause-watches c = λ handed bytes id s t p h. watch_lines (nat_eq s.id.0 id.0) handed bytes s t p h

pub returns-clause-notices : goal.returns-clause-notices
returns-clause-notices c = λ handed bytes holds text s t p h. notice_lines (cond s.watch (holds s.principal) false) handed bytes text s t p h

pub returns-clause-gives_up : goal.returns-clause-gives_up
returns-clause-gives_up c = λ handed bytes id s t p h. give_up_lines (nat_eq s.id.0 id.0) handed bytes s t p h

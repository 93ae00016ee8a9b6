use Rattle.std.proofs.Common.{refl}
use Rattle.ug_sessions.specs.Answering.{refused_text}
use Rattle.ug_sessions.proofs.Handing.{refused}
use Rattle.ug_sessions.proofs.answer.refuse.Goals as goal

pub returns-then-is_due : goal.returns-then-is_due
unfolding refused_text
returns-then-is_due c = refused c.args.session.now c.put.new.session c.is_due.result c.if-is_due.true c.is_due.ensures (c.put.new.session, c.put.ensures, refl)

use Rattle.ug_script.proofs.Filed.{up_or_not}
use Rattle.ug_script.proofs.events.begin_again.Goals as goal

pub invariant_of-session : goal.invariant_of-session
invariant_of-session c = record { file = up_or_not c.args.session.now.before c.args.session.now.disk c.come_up.new.self c.come_up.result c.come_up.ensures.ok c.come_up.ensures.err c.args.session.now.file; folder = c.args.session.now.folder }

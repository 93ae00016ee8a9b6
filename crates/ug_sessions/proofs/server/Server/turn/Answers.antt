use Rattle.ug_sessions.proofs.TiedAll.{run_tries}
use Rattle.ug_sessions.proofs.server.Server.turn.Goals as goal

pub returns-clause-counted : goal.returns-clause-counted
returns-clause-counted g c = run_tries g.N.Links.gives c.args.ready.now c.args.self.now c.args.links.now c.try_all.new.self c.try_all.result c.try_all.new.links c.try_all.ensures

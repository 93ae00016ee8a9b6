use Rattle.ug_sessions.proofs.TiedAll.{run_writes}
use Rattle.ug_sessions.proofs.server.Server.flush.Goals as goal

pub returns-clause-writes : goal.returns-clause-writes
returns-clause-writes g c = run_writes g.N.Links.gives c.args.self.now c.args.links.now c.send_all.new.self c.send_all.result c.send_all.new.links c.send_all.ensures

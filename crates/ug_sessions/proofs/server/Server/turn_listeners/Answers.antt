use Rattle.ug_sessions.proofs.Served.{turned}
use Rattle.ug_sessions.proofs.server.Server.turn_listeners.Goals as goal

pub returns : goal.returns
returns g c = turned g.N.Links.gives c.args.ready.now c.args.links.now c.accept_kept.new.links c.read_kept.new.links c.args.self.now c.self.inside.principals.items c.self.inside.listeners.items c.accept_kept.new.listeners.items c.self.inside.sessions.items c.accept_kept.new.sessions.items c.read_kept.new.sessions.items c.new-turn.result c.accept_kept.new.turn c.read_kept.new.turn c.self.view_is c.new-turn.ensures c.accept_kept.ensures c.read_kept.ensures

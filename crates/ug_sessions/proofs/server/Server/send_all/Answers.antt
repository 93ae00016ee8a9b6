use Rattle.ug_sessions.proofs.Served.{flushed}
use Rattle.ug_sessions.proofs.server.Server.send_all.Goals as goal

pub returns : goal.returns
returns g c = flushed g.N.Links.gives c.args.links.now c.flush_kept.new.links c.args.self.now c.self.inside.principals.items c.self.inside.listeners.items c.self.inside.sessions.items c.flush_kept.new.sessions.items c.forget.new.sessions.items c.new-turn.result c.flush_kept.new.turn c.self.view_is c.new-turn.ensures c.forget.ensures c.flush_kept.ensures

use Rattle.std.proofs.Common.{refl, arith}
use Rattle.ug_links.proofs.Runs.{walk_more, rest_same}
use Rattle.ug_sessions.specs.Accepting.{accepting_one, accepting_all}
use Rattle.ug_sessions.proofs.accept.accept_all.Goals as goal

pub loop-i-init : goal.loop-i-init
unfolding accepting_all
loop-i-init g c = record { runs = λ r t k. k; same = refl }

pub loop-i-preserved : goal.loop-i-preserved
loop-i-preserved g c =
    record {
      runs = λ r t k. c.loop-i.invariant.runs r t (walk_more g.N.Links.gives (accepting_one c.args.ready.now) c.args.listeners.now c.loop-i.listeners c.loop-i.i c.index-listeners-i.result (c.loop-i.sessions.items, c.loop-i.turn) c.loop-i.links c.accept_one.new.listener (c.accept_one.new.sessions.items, c.accept_one.new.turn) c.accept_one.new.links (omega (arith, c.loop-i.auto.listeners)) c.loop-i.invariant.same c.accept_one.ensures r t k);
      same = rest_same c.args.listeners.now c.loop-i.listeners c.loop-i.i c.accept_one.new.listener c.loop-i.invariant.same;
    }

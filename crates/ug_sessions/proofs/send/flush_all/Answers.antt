use Rattle.std.proofs.Common.{refl, arith}
use Rattle.ug_links.proofs.Runs.{walk_more, rest_same}
use Rattle.ug_sessions.specs.Sending.{flushing_one, flushing_all}
use Rattle.ug_sessions.proofs.send.flush_all.Goals as goal

pub loop-i-init : goal.loop-i-init
unfolding flushing_all
loop-i-init g c = record { runs = λ r t k. k; same = refl }

pub loop-i-preserved : goal.loop-i-preserved
loop-i-preserved g c = record {
  runs = λ r t k. c.loop-i.invariant.runs r t (walk_more g.N.Links.gives flushing_one c.args.sessions.now c.loop-i.sessions c.loop-i.i c.index-sessions-i.result c.loop-i.turn c.loop-i.links c.flush_one.new.session c.flush_one.new.turn c.flush_one.new.links (omega (arith, c.loop-i.auto.sessions)) c.loop-i.invariant.same c.flush_one.ensures r t k);
  same = rest_same c.args.sessions.now c.loop-i.sessions c.loop-i.i c.flush_one.new.session c.loop-i.invariant.same;
}

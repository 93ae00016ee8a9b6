use Rattle.ug_links.proofs.Runs.{upto_more, upto_ends, upto_done}
use Rattle.ug_sessions.specs.Accepting.{accepting_once}
use Rattle.ug_sessions.proofs.accept.accept_some.Goals as goal

pub returns-then-not-more : goal.returns-then-not-more
returns-then-not-more g c = c.loop-i.invariant _ _ (upto_ends g.N.Links.gives accepting_once c.args.n c.loop-i.i _ _ _ _ _ c.loop-i-test.true c.accept_once-more.ensures c.if-not-more.true)

pub loop-i-preserved : goal.loop-i-preserved
loop-i-preserved g c = λ r t k. c.loop-i.invariant r t (upto_more g.N.Links.gives accepting_once c.args.n c.loop-i.i _ _ _ _ _ c.loop-i-test.true c.accept_once-more.ensures c.if-not-more.false r t k)

pub returns : goal.returns
returns g c = c.loop-i.invariant _ _ (upto_done g.N.Links.gives accepting_once c.args.n c.loop-i.i _ _ c.loop-i-test.false)

use Rattle.std.proofs.Common.{◌-◌}
use Rattle.ug_links.specs.Talk.{Talks, upto}
use Rattle.ug_sessions.specs.Accepting.{accepting_once}
use Rattle.ug_sessions.proofs.accept.accept_some.Given as goal

-- a run of what is left ends a run of the whole
abbrev pub invariant-loop-i : goal.invariant-loop-i
invariant-loop-i g l =
    let gives = g.N.Links.gives in
    (r : _) (t : _) → Talks gives l.links (upto accepting_once (l.n - l.i) (l.listener, (l.sessions.items, l.turn))) r t → Talks gives l.fn.links (upto accepting_once l.n (l.fn.listener, (l.fn.sessions.items, l.fn.turn))) r t

use Rattle.std.proofs.Common.{◌≡◌, take, drop}
use Rattle.ug_links.specs.Talk.{Talks, walk}
use Rattle.ug_sessions.specs.Accepting.{accepting_one, accepting_all}
use Rattle.ug_sessions.proofs.accept.accept_all.Given as goal

-- a run of what is left ends a run of the whole
abbrev pub invariant-loop-i : goal.invariant-loop-i
invariant-loop-i g l =
    let gives = g.N.Links.gives in
    record {
      runs : (r : _) (t : _) → Talks gives l.links (walk (accepting_one l.ready) (take l.i l.listeners) (drop l.i l.fn.listeners) (l.sessions.items, l.turn)) r t → Talks gives l.fn.links (accepting_all l.ready l.fn.listeners (l.fn.sessions.items, l.fn.turn)) r t;
      same : drop l.i l.listeners ≡ drop l.i l.fn.listeners;
    }

use Rattle.std.proofs.Common.{◌≡◌, take, drop}
use Rattle.ug_links.specs.Talk.{Talks, walk}
use Rattle.ug_sessions.specs.Sending.{flushing_one, flushing_all}
use Rattle.ug_sessions.proofs.send.flush_all.Given as goal

-- a run of what is left ends a run of the whole
abbrev pub invariant-loop-i : goal.invariant-loop-i
invariant-loop-i g l =
    let gives = g.N.Links.gives in
    record {
      runs : (r : _) (t : _) → Talks gives l.links (walk flushing_one (take l.i l.sessions) (drop l.i l.fn.sessions) l.turn) r t → Talks gives l.fn.links (flushing_all l.fn.sessions l.fn.turn) r t;
      same : drop l.i l.sessions ≡ drop l.i l.fn.sessions;
    }

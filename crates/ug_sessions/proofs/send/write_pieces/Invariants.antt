use Rattle.std.proofs.Common.{◌-◌}
use Rattle.ug_links.specs.Talk.{Talks, upto}
use Rattle.ug_sessions.specs.Sending.{writing_some}
use Rattle.ug_sessions.proofs.send.write_pieces.Given as goal

-- a run of what is left ends a run of the whole
abbrev pub invariant-loop-i : goal.invariant-loop-i
invariant-loop-i g l =
    let gives = g.N.Links.gives in
    (r : _) (t : _) → Talks gives l.links (upto writing_some (l.n - l.i) (l.session, l.turn)) r t → Talks gives l.fn.links (upto writing_some l.n (l.fn.session, l.fn.turn)) r t

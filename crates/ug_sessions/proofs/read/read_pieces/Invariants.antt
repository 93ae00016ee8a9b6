use Rattle.std.proofs.Common.{◌-◌}
use Rattle.ug_links.specs.Talk.{Talks, upto}
use Rattle.ug_sessions.specs.Reading.{reading_piece}
use Rattle.ug_sessions.proofs.read.read_pieces.Given as goal

-- a run of what is left ends a run of the whole
abbrev pub invariant-loop-i : goal.invariant-loop-i
invariant-loop-i g l =
    let gives = g.N.Links.gives in
    (r : _) (t : _) → Talks gives l.links (upto reading_piece (l.n - l.i) (l.session, l.turn)) r t → Talks gives l.fn.links (upto reading_piece l.n (l.fn.session, l.fn.turn)) r t

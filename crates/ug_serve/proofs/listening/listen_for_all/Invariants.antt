use Rattle.std.proofs.Common.{◌≤◌, drop}
use Rattle.ug_links.specs.Talk.{Talks}
use Rattle.ug_serve.specs.Listening.{listening}
use Rattle.ug_serve.proofs.listening.listen_for_all.Given as goal

-- a run of what is left ends a run of the whole
abbrev pub invariant-loop-who : goal.invariant-loop-who
invariant-loop-who g l = record {
  runs : (r : _) (t : _) → Talks g.N.Links.gives l.links (listening (drop l.who-index l.principals)) r t → Talks g.N.Links.gives l.fn.links (listening l.principals) r t;
  counted : g.N.Links.faults l.fn.links ≤ g.N.Links.faults l.links;
}

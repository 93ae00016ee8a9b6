use Rattle.std.proofs.Common.{◌≤◌, ◌<◌, ◌-◌, ◌*◌, vec_len}
use Rattle.std.specs.Io.KnownBytes.{Keeps}
use Rattle.ug_proto.specs.Lines.{IsBeginning}
use Rattle.ug_client.specs.Watching.{IsWatching}
use Rattle.ug_client.proofs.stream.watch_notices.Given as goal

abbrev pub invariant-pieces : goal.invariant-pieces
invariant-pieces g l = record {
  watching : IsWatching l.fn.kept.items (g.L.Link.told l.fn.link) (g.L.Link.told l.link) (g.L.Link.left l.fn.link) (g.L.Link.left l.link) l.most (g.K.Sink.held l.fn.out) l.kept.items l.room (g.K.Sink.held l.out);
  begun : IsBeginning l.kept.items;
  room : 0 < l.room;
  sent : Keeps (g.L.Link.sent l.fn.link) (g.L.Link.sent l.link);
  link : g.L.Link.faults l.fn.link ≤ g.L.Link.faults l.link;
  sink : g.K.Sink.faults l.fn.out ≤ g.K.Sink.faults l.out;
}

abbrev pub decreases-pieces : goal.decreases-pieces
decreases-pieces g l = l.room * 65537 - vec_len l.kept

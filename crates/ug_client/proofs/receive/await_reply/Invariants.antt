use Rattle.std.proofs.Common.{[], ◌≤◌, ◌-◌, vec_len}
use Rattle.std.specs.Io.KnownBytes.{Consumes, Keeps}
use Rattle.ug_types.specs.Limits.{text_limit}
use Rattle.ug_client.specs.Answers.{IsAwaiting}
use Rattle.ug_client.specs.Calls.{GoesOnReceiving}
use Rattle.ug_client.specs.ReadSoFar.{IsReadSoFar}
use Rattle.ug_client.proofs.receive.await_reply.Given as goal

abbrev pub invariant-pieces : goal.invariant-pieces
invariant-pieces g l = record {
  receiving : GoesOnReceiving IsAwaiting 65536 [] (g.L.Link.told l.fn.link) (g.L.Link.told l.link) l.kept.items;
  source : Consumes (g.L.Link.left l.fn.link) (g.L.Link.left l.link) l.kept.items;
  sent : Keeps (g.L.Link.sent l.fn.link) (g.L.Link.sent l.link);
  awaiting : IsAwaiting l.kept.items;
  so_far : IsReadSoFar l.kept.items l.so_far;
  short : vec_len l.kept ≤ text_limit;
  counted : g.L.Link.faults l.fn.link ≤ g.L.Link.faults l.link;
}

abbrev pub decreases-pieces : goal.decreases-pieces
decreases-pieces g l = text_limit - vec_len l.kept

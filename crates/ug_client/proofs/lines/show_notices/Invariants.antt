use Rattle.std.proofs.Common.{◌≤◌, length, drop}
use Rattle.ug_client.specs.Watching.{ShowsNotices}
use Rattle.ug_client.proofs.lines.show_notices.Given as goal

abbrev pub invariant-notices : goal.invariant-notices
invariant-notices g l = record {
  within : l.at ≤ length l.text;
  shows : ShowsNotices l.text l.most (g.K.Sink.held l.fn.out) (drop l.at l.text) l.room (g.K.Sink.held l.out);
  counted : g.K.Sink.faults l.fn.out ≤ g.K.Sink.faults l.out;
}

abbrev pub decreases-notices : goal.decreases-notices
decreases-notices g l = l.room

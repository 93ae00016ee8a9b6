use Rattle.std.proofs.Common.{◌≡◌, ◌≤◌, take, drop}
use Rattle.ug_uevent.specs.Streams.{Partial, stream_of, whole_stream}
use Rattle.ug_uevent.proofs.scan.find_end.Given as goal

abbrev pub invariant-loop-i : goal.invariant-loop-i
invariant-loop-i l = record {
  here : stream_of (Partial (take l.i l.bytes) l.fresh) (drop l.i l.bytes) ≡ whole_stream l.bytes;
  within : l.i ≤ 8191;
}

use Rattle.std.proofs.Common.{◌≡◌, take}
use Rattle.ug_proto.specs.Frames.{with_piece, IsGoing}
use Rattle.ug_proto.proofs.framer.Framer.feed.Given as goal

abbrev pub invariant-loop-byte : goal.invariant-loop-byte
invariant-loop-byte l = record {
  taken : l.self ≡ with_piece l.fn.self (take l.byte-index l.piece);
  going : IsGoing l.self.begun;
}

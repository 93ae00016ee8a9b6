use Rattle.std.proofs.Common.{◌≡◌, drop, subst}
use Rattle.ug_uevent.specs.Streams.{Stream, stream_with_piece}
use Rattle.ug_uevent.proofs.Pieces.{fed_no_more, feeds}
use Rattle.ug_uevent.proofs.hints.Hints.feed.Goals as goal

pub returns-then-self : goal.returns-then-self
returns-then-self c =
    subst (λ (s : Stream). s ≡ stream_with_piece s c.args.piece.now) c.self.view_is
    (fed_no_more c.self.inside.ended (drop c.self.inside.at c.self.inside.bytes.items) c.args.piece.now c.if-self.true)

pub returns : goal.returns
returns c = feeds c.self.inside.ended c.self.inside.bytes.items c.deref.result.now c.in_ok-self-inside.field-0.items c.args.piece.now c.self.inside.at c.args.self.now
    c.if-self.false c.deref.ensures.value c.in_ok-self-inside.ensures c.self.view_is

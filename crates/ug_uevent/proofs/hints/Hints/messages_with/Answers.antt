use Rattle.std.proofs.Common.{[], drop, refl}
use Rattle.ug_uevent.specs.Streams.{nothing_begun}
use Rattle.ug_uevent.proofs.Counts.{counted, none_counted}
use Rattle.ug_uevent.proofs.hints.Hints.messages_with.Goals as goal

pub returns-then-self : goal.returns-then-self
returns-then-self c = none_counted c.self.inside.ended (drop c.self.inside.at c.self.inside.bytes.items) c.args.piece.now c.args.self.now c.if-self.true c.self.view_is

pub returns : goal.returns
returns c =
    counted c.pass_all.result c.pass_all-kept.result c.self.inside.ended c.self.inside.bytes.items c.deref.result.now c.args.piece.now c.self.inside.at c.args.self.now c.if-self.false c.deref.ensures.value
    (c.pass_all-kept.ensures.counts (record { messages = []; begun = nothing_begun }) (refl, (refl, refl, refl))) c.pass_all.ensures.counts c.self.view_is

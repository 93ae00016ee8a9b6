use Rattle.std.proofs.Common.{arith}
use Rattle.ug_client.proofs.Ordered.{gave_done, gave_refused, gave_up}
use Rattle.ug_client.proofs.WatchCalls.{rose_after}
use Rattle.ug_client.proofs.orders.give_orders.Goals.{in-Done, in-Refused}
use Rattle.ug_client.proofs.orders.give_orders.Goals as goal

pub returns-in_default : goal.returns-in_default
returns-in_default g c = record {
  gives = gave_up c.args.path.now c.args.wanted c.args.numbers.now c.loop-number.number-index 0 c.loop-number-test.true (record { calls = g.L.Link.told c.args.link.now; sent = g.L.Link.sent c.args.link.now; left = g.L.Link.left c.args.link.now; held = g.K.Sink.held c.args.out.now }) (record { calls = g.L.Link.told c.loop-number.link; sent = g.L.Link.sent c.loop-number.link; left = g.L.Link.left c.loop-number.link; held = g.K.Sink.held c.loop-number.out }) (record { calls = g.L.Link.told c.give_order.new.link; sent = g.L.Link.sent c.give_order.new.link; left = g.L.Link.left c.give_order.new.link; held = g.K.Sink.held c.give_order.new.out }) c.loop-number.refused c.loop-number.refused c.give_order.result c.loop-number.invariant.gave c.give_order.ensures.asks c.in_default.not-Done c.in_default.not-Refused;
  link = λ e. rose_after (g.L.Link.faults c.args.link.now) (g.L.Link.faults c.loop-number.link) (g.L.Link.faults c.give_order.new.link) c.loop-number.invariant.links c.give_order.ensures.links (c.give_order.ensures.link e);
  sink = λ e. rose_after (g.K.Sink.faults c.args.out.now) (g.K.Sink.faults c.loop-number.out) (g.K.Sink.faults c.give_order.new.out) c.loop-number.invariant.sinks c.give_order.ensures.sinks (c.give_order.ensures.sink e);
  links = omega (arith, c.loop-number.invariant.links, c.give_order.ensures.links);
  sinks = omega (arith, c.loop-number.invariant.sinks, c.give_order.ensures.sinks);
}

pub loop-number-preserved : goal.loop-number-preserved
loop-number-preserved g c = record {
  gave = elim c.match-give_order.branch [ in-Done w ↦ gave_done c.args.path.now c.args.wanted c.args.numbers.now c.loop-number.number-index 0 c.loop-number-test.true (record { calls = g.L.Link.told c.args.link.now; sent = g.L.Link.sent c.args.link.now; left = g.L.Link.left c.args.link.now; held = g.K.Sink.held c.args.out.now }) (record { calls = g.L.Link.told c.loop-number.link; sent = g.L.Link.sent c.loop-number.link; left = g.L.Link.left c.loop-number.link; held = g.K.Sink.held c.loop-number.out }) (record { calls = g.L.Link.told c.give_order.new.link; sent = g.L.Link.sent c.give_order.new.link; left = g.L.Link.left c.give_order.new.link; held = g.K.Sink.held c.give_order.new.out }) c.loop-number.refused c.match-give_order.refused c.give_order.result c.loop-number.invariant.gave c.give_order.ensures.asks w.refused-is w.in-Done.is | in-Refused w ↦ gave_refused c.args.path.now c.args.wanted c.args.numbers.now c.loop-number.number-index 0 c.loop-number-test.true (record { calls = g.L.Link.told c.args.link.now; sent = g.L.Link.sent c.args.link.now; left = g.L.Link.left c.args.link.now; held = g.K.Sink.held c.args.out.now }) (record { calls = g.L.Link.told c.loop-number.link; sent = g.L.Link.sent c.loop-number.link; left = g.L.Link.left c.loop-number.link; held = g.K.Sink.held c.loop-number.out }) (record { calls = g.L.Link.told c.give_order.new.link; sent = g.L.Link.sent c.give_order.new.link; left = g.L.Link.left c.give_order.new.link; held = g.K.Sink.held c.give_order.new.out }) c.loop-number.refused c.match-give_order.refused c.give_order.result c.loop-number.invariant.gave c.give_order.ensures.asks w.refused-is w.in-Refused.is ];
  links = omega (arith, c.loop-number.invariant.links, c.give_order.ensures.links);
  sinks = omega (arith, c.loop-number.invariant.sinks, c.give_order.ensures.sinks);
}

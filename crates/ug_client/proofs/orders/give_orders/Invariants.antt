use Rattle.std.proofs.Common.{◌≤◌, take}
use Rattle.ug_client.specs.Ordering.{GaveOrders}
use Rattle.ug_client.proofs.orders.give_orders.Given as goal

abbrev pub invariant-loop-number : goal.invariant-loop-number
invariant-loop-number g l = record {
  gave : GaveOrders l.path l.wanted (take l.number-index l.numbers)
      (record { calls = g.L.Link.told l.fn.link; sent = g.L.Link.sent l.fn.link; left = g.L.Link.left l.fn.link; held = g.K.Sink.held l.fn.out })
      l.refused
      (record { calls = g.L.Link.told l.link; sent = g.L.Link.sent l.link; left = g.L.Link.left l.link; held = g.K.Sink.held l.out });
  links : g.L.Link.faults l.fn.link ≤ g.L.Link.faults l.link;
  sinks : g.K.Sink.faults l.fn.out ≤ g.K.Sink.faults l.out;
}

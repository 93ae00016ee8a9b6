use Rattle.std.proofs.Common.{◌∙◌, arith}
use Rattle.ug_links.proofs.Places.{changed_past, changed_in, arrival_past, arrival_in}
use Rattle.ug_links.specs.Peers.{other_items}
use Rattle.ug_links.proofs.scripts.next_arrival.Goals as goal

pub returns-then-i-arrivals-clause-item : goal.returns-then-i-arrivals-clause-item
returns-then-i-arrivals-clause-item c = arrival_past c.args.listener c.args.arrivals.now (omega (arith, c.if-i-arrivals.true))

pub returns-then-i-arrivals-clause-after : goal.returns-then-i-arrivals-clause-after
returns-then-i-arrivals-clause-after c = changed_past other_items c.args.listener c.args.arrivals.now (omega (arith, c.if-i-arrivals.true))

pub returns-clause-item : goal.returns-clause-item
returns-clause-item c =
    c.next.ensures.item ∙ arrival_in c.args.listener c.args.arrivals.now c.index-arrivals-i.result (omega (arith, c.if-i-arrivals.false))

pub returns-clause-after : goal.returns-clause-after
returns-clause-after c =
    changed_in other_items c.args.listener c.args.arrivals.now c.index-arrivals-i.result c.next.new.self (omega (arith, c.if-i-arrivals.false)) c.next.ensures.rest

use Rattle.std.proofs.Common.{◌≡◌, rules, arith, ◌<◌, ◌≤◌, [], ◌∷◌, true, false, refl, sym, ◌∙◌}
use Rattle.ug_audit.specs.Journal.{members}
use Rattle.ug_core.specs.Event.{daemon_of}
use Rattle.ug_types.specs.declared.event.Event.TheVariants.{Order}
use Rattle.ug_sessions.specs.Waiting.{lines_waiting}
use Rattle.ug_sessions.proofs.Waiting.{hands_fewer}
use Rattle.ug_serve.specs.Turns.{core_of, with_server}
use Rattle.ug_serve.proofs.Notifying.{responds_fewer}
use Rattle.ug_serve.proofs.Replied.{order_leaves}
use Rattle.ug_serve.proofs.Ordering.{orders_more, orders_none, orders_cut}
use Rattle.ug_serve.proofs.events.serve_orders.Goals as goal

pub returns-in-None : goal.returns-in-None
returns-in-None g c =
    let here = core_of (daemon_of c.loop-id.daemon) c.loop-id.sysfs c.loop-id.disk (members (λ b. goal.Auditor-dyn g (b.vtable, b.value)) c.loop-id.panel) in
    c.loop-id.invariant [] true (with_server here c.next_request.new.self)
    (orders_none g.Y.Sysfs g.D.RuleDisk c.args.moment (with_server here c.loop-id.server) (with_server here c.next_request.new.self) (refl, (c.in-None.ensures.principals, c.in-None.ensures.listeners, c.in-None.ensures.hands)))

pub returns-then-not-has_room : goal.returns-then-not-has_room
returns-then-not-has_room g c =
    let here = core_of (daemon_of c.loop-id.daemon) c.loop-id.sysfs c.loop-id.disk (members (λ b. goal.Auditor-dyn g (b.vtable, b.value)) c.loop-id.panel) in
    c.loop-id.invariant [] false (with_server here c.next_request.new.self)
    (orders_cut g.Y.Sysfs g.D.RuleDisk c.args.moment (with_server here c.loop-id.server) (with_server here c.next_request.new.self) (c.in-Some.id, c.in-Some.who, c.in-Some.line) (refl, (c.in-Some.ensures.principals, c.in-Some.ensures.listeners, c.in-Some.ensures.hands)) (sym c.has_room.ensures ∙ c.if-not-has_room.true))

pub loop-id-preserved-else-not-has_room : goal.loop-id-preserved-else-not-has_room
loop-id-preserved-else-not-has_room g c =
    let here = core_of (daemon_of c.loop-id.daemon) c.loop-id.sysfs c.loop-id.disk (members (λ b. goal.Auditor-dyn g (b.vtable, b.value)) c.loop-id.panel) in
    let then_ = core_of (daemon_of c.serve_order.new.daemon) c.serve_order.new.sysfs c.serve_order.new.disk (members (λ b. goal.Auditor-dyn g (b.vtable, b.value)) c.serve_order.new.panel) in
    let e = c.serve_order.ensures in
    let is : e.0.event ≡ Order c.args.moment c.in-Some.who c.in-Some.line = search (rules, e.2) in
    λ es whole b k. c.loop-id.invariant (e.0 ∷ es) whole b
    (orders_more g.Y.Sysfs g.D.RuleDisk c.args.moment (with_server here c.loop-id.server) e.0 (with_server then_ c.serve_order.new.server) es whole b
    (record { asked = (c.in-Some.id, c.in-Some.who, c.in-Some.line); handed = with_server here c.next_request.new.self; hands = (refl, (c.in-Some.ensures.principals, c.in-Some.ensures.listeners, c.in-Some.ensures.hands)); session = e.1; order = is; handled = e.3; replied = order_leaves g.Y.Sysfs g.D.RuleDisk c.args.moment c.in-Some.who c.in-Some.line here e.0 then_ is e.3; responds = e.4 }) k)

pub loop-id-smaller-else-not-has_room : goal.loop-id-smaller-else-not-has_room
loop-id-smaller-else-not-has_room g c =
    let e = c.serve_order.ensures in
    let handed : lines_waiting c.next_request.new.self.sessions < lines_waiting c.loop-id.server.sessions = hands_fewer c.loop-id.server.sessions c.next_request.new.self.sessions c.in-Some.id c.in-Some.who c.in-Some.line c.in-Some.ensures.hands in
    let told : lines_waiting c.serve_order.new.server.sessions ≤ lines_waiting c.next_request.new.self.sessions = responds_fewer c.in-Some.id e.0.after e.0.entries c.next_request.new.self.sessions c.serve_order.new.server.sessions e.4.2 in
    omega arith

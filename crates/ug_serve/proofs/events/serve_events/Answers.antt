use Rattle.std.proofs.Common.{◌≡◌, rules, [], ◌∷◌, None, refl, sym, ◌∙◌}
use Rattle.ug_audit.specs.Journal.{members}
use Rattle.ug_types.specs.declared.event.Event.TheVariants.{Order, Sweep}
use Rattle.ug_core.specs.Event.{daemon_of}
use Rattle.ug_serve.specs.Turns.{TurnEvent, Sweeps, Sweeps_not, Serves, Serves_not, core_of, with_server}
use Rattle.ug_serve.proofs.Replied.{order_leaves}
use Rattle.ug_serve.proofs.events.serve_events.Goals as goal

pub returns-then-not-has_room : goal.returns-then-not-has_room
returns-then-not-has_room g c =
    let here = core_of (daemon_of c.args.daemon.now) c.args.sysfs.now c.args.disk.now (members (λ b. goal.Auditor-dyn g (b.vtable, b.value)) c.args.panel.now) in
    ([], Sweeps_not (with_server here c.next_request.new.self) (refl, (c.in-None.ensures.principals, c.in-None.ensures.listeners, c.in-None.ensures.hands)) (sym c.has_room.ensures ∙ c.if-not-has_room.true))

pub returns-then-not-has_room-2 : goal.returns-then-not-has_room-2
returns-then-not-has_room-2 g c =
    let here = core_of (daemon_of c.args.daemon.now) c.args.sysfs.now c.args.disk.now (members (λ b. goal.Auditor-dyn g (b.vtable, b.value)) c.args.panel.now) in
    ([], Serves_not (c.in-Some.id, c.in-Some.who, c.in-Some.line) (with_server here c.next_request.new.self) (refl, (c.in-Some.ensures.principals, c.in-Some.ensures.listeners, c.in-Some.ensures.hands)) (sym c.has_room-in-Some.ensures ∙ c.if-not-has_room-2.true))

pub returns-else-not-has_room : goal.returns-else-not-has_room
returns-else-not-has_room g c =
    let here = core_of (daemon_of c.args.daemon.now) c.args.sysfs.now c.args.disk.now (members (λ b. goal.Auditor-dyn g (b.vtable, b.value)) c.args.panel.now) in
    let after = core_of (daemon_of c.handle.new.self) c.handle.new.sysfs c.handle.new.disk (members (λ b. goal.Auditor-dyn g (b.vtable, b.value)) c.handle.new.panel) in
    let e : TurnEvent = record { asked_by = None; event = Sweep c.args.moment; after = daemon_of c.handle.new.self; entries = c.handle.new.self.report.entries.entries } in (
      e ∷ [],
      Sweeps e (with_server after c.notify_of_event.new.server) (record {
        passed = with_server here c.next_request.new.self;
        hands = (refl, (c.in-None.ensures.principals, c.in-None.ensures.listeners, c.in-None.ensures.hands));
        session = refl;
        sweep = refl;
        handled = record { room = sym c.has_room.ensures ∙ c.if-not-has_room.false; handled = c.handle.ensures.handles; after = refl; entries = refl; noted = c.handle.ensures.noted };
        notifies = c.notify_of_event.ensures;
      }),
    )

pub returns-else-not-has_room-2 : goal.returns-else-not-has_room-2
returns-else-not-has_room-2 g c =
    let here = core_of (daemon_of c.args.daemon.now) c.args.sysfs.now c.args.disk.now (members (λ b. goal.Auditor-dyn g (b.vtable, b.value)) c.args.panel.now) in
    let middle = core_of (daemon_of c.serve_order.new.daemon) c.serve_order.new.sysfs c.serve_order.new.disk (members (λ b. goal.Auditor-dyn g (b.vtable, b.value)) c.serve_order.new.panel) in
    let end_ = core_of (daemon_of c.serve_orders.new.daemon) c.serve_orders.new.sysfs c.serve_orders.new.disk (members (λ b. goal.Auditor-dyn g (b.vtable, b.value)) c.serve_orders.new.panel) in
    let e = c.serve_order.ensures in
    let is : e.0.event ≡ Order c.args.moment c.in-Some.who c.in-Some.line = grind (rules, e.2) in
    let rest = c.serve_orders.ensures in (
      e.0 ∷ rest.0,
      Serves e.0 (with_server middle c.serve_order.new.server) rest.0 c.serve_orders.result (with_server end_ c.serve_orders.new.server)
          (record { asked = (c.in-Some.id, c.in-Some.who, c.in-Some.line); handed = with_server here c.next_request.new.self; hands = (refl, (c.in-Some.ensures.principals, c.in-Some.ensures.listeners, c.in-Some.ensures.hands)); session = e.1; order = is; handled = e.3; replied = order_leaves g.Y.Sysfs g.D.RuleDisk c.args.moment c.in-Some.who c.in-Some.line here e.0 middle is e.3; responds = e.4 })
          rest.1,
    )

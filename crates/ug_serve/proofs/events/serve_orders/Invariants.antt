use Rattle.std.proofs.Common.{Bool, List}
use Rattle.ug_audit.specs.Journal.{members}
use Rattle.ug_core.specs.Event.{daemon_of}
use Rattle.ug_sessions.specs.Waiting.{lines_waiting}
use Rattle.ug_serve.specs.Turns.{TurnEvent, ServesOrders, core_of, with_server}
use Rattle.ug_serve.proofs.events.serve_orders.Given as goal

-- what is left ends the whole
abbrev pub invariant-loop-id : goal.invariant-loop-id
invariant-loop-id g l =
    (es : List TurnEvent) (whole : Bool) (b : _)
    → ServesOrders g.Y.Sysfs g.D.RuleDisk l.moment
    (with_server (core_of (daemon_of l.daemon) l.sysfs l.disk (members (λ b. goal.Auditor-dyn g (b.vtable, b.value)) l.panel)) l.server) es whole b
    → (orders : List TurnEvent)
    × ServesOrders g.Y.Sysfs g.D.RuleDisk l.moment
    (with_server (core_of (daemon_of l.fn.daemon) l.fn.sysfs l.fn.disk (members (λ b. goal.Auditor-dyn g (b.vtable, b.value)) l.fn.panel)) l.fn.server) orders whole b

abbrev pub decreases-loop-id : goal.decreases-loop-id
decreases-loop-id g l = lines_waiting l.server.sessions

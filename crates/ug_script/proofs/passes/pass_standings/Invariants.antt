use Rattle.std.proofs.Common.{◌-◌}
use Rattle.ug_core.specs.Event.{daemon_of}
use Rattle.ug_script.specs.Passes.{aims_in}
use Rattle.ug_script.proofs.PassWalk.{Remains, left_at}
use Rattle.ug_script.proofs.passes.pass_standings.Given as goal

abbrev pub invariant-loop-standing : goal.invariant-loop-standing
invariant-loop-standing l = Remains (aims_in l.rules (daemon_of l.daemon).sweep.standings) l.fn.kernel l.fn.text.items (left_at l.rules l.number (daemon_of l.daemon).sweep.standings) l.kernel l.text.items

abbrev pub decreases-loop-standing : goal.decreases-loop-standing
decreases-loop-standing l = (daemon_of l.daemon).sweep.next - l.number

use Rattle.std.proofs.Common.{◌≡◌, ◌+◌, ◌*◌, ◌≤◌, drop, vec_capacity, vec_len}
use Rattle.ug_iface.specs.Settle.{aim_of, walking}
use Rattle.ug_iface.specs.Tree.{RunsIfaces}
use Rattle.ug_iface.proofs.settle.walk.Given as goal

-- a run of what is left ends a run of the whole
abbrev pub invariant-loop-name : goal.invariant-loop-name
invariant-loop-name g l = record {
  runs : (r : _) (t : _) → RunsIfaces g.Y.Ifaces.serves l.files (walking (aim_of l.task.rules.now l.task.device.now l.task.number l.task.held.0) (drop l.name-index l.names) l.out.items) r t → RunsIfaces g.Y.Ifaces.serves l.fn.files (walking (aim_of l.task.rules.now l.task.device.now l.task.number l.task.held.0) l.names l.fn.out.items) r t;
  len : vec_len l.out ≤ vec_len l.fn.out + 3 * l.name-index;
  capacity : vec_capacity l.out ≡ vec_capacity l.fn.out;
}

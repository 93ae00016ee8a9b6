use Rattle.std.proofs.Common.{◌≡◌, ◌+◌, drop}
use Rattle.ug_iface.specs.Bus.{ungone_of}
use Rattle.ug_sysfs.proofs.interfaces.count_of.Given as goal

abbrev pub invariant-loop-interface : goal.invariant-loop-interface
invariant-loop-interface l = l.count + ungone_of l.device (drop l.interface-index l.interfaces) ≡ ungone_of l.device l.interfaces

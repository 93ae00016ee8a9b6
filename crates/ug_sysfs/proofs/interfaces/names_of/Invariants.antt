use Rattle.std.proofs.Common.{◌≡◌, ◌++◌, drop}
use Rattle.ug_sysfs.specs.Interfaces.{iface_names}
use Rattle.ug_sysfs.proofs.interfaces.names_of.Given as goal

abbrev pub invariant-loop-interface : goal.invariant-loop-interface
invariant-loop-interface l = l.names ++ iface_names l.device l.name (drop l.interface-index l.interfaces) ≡ iface_names l.device l.name l.interfaces

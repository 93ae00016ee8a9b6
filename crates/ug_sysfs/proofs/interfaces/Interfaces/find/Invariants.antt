use Rattle.std.proofs.Common.{◌≡◌, ◌+◌, drop}
use Rattle.std.specs.List.{position_or_len}
use Rattle.ug_sysfs.specs.Interfaces.{is_iface}
use Rattle.ug_sysfs.proofs.interfaces.Interfaces.find.Given as goal

abbrev pub invariant-loop-place : goal.invariant-loop-place
invariant-loop-place l = l.place + position_or_len (is_iface l.device l.config l.number) (drop l.place l.interfaces) ≡ position_or_len (is_iface l.device l.config l.number) l.interfaces

use Rattle.std.proofs.Common.{◌≡◌, map, take}
use Rattle.ug_rows.specs.Devices.{told_triple}
use Rattle.ug_rows.proofs.devices.told_triples.Given as goal

abbrev pub invariant-loop-iface : goal.invariant-loop-iface
invariant-loop-iface l = l.triples.items ≡ map told_triple (take l.iface-index l.iface-items)

use Rattle.std.proofs.Common.{◌≡◌, take}
use Rattle.std.specs.Prelude.{flat_map}
use Rattle.ug_record.specs.Reading.{config_triples}
use Rattle.ug_record.proofs.interfaces.ifaces.Given as goal

abbrev pub invariant-loop-config : goal.invariant-loop-config
invariant-loop-config l = l.triples ≡ flat_map config_triples (take l.config-index l.config-items)

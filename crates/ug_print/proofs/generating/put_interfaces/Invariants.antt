use Rattle.std.proofs.Common.{◌≡◌, ◌++◌, map, take}
use Rattle.std.specs.Prelude.{All}
use Rattle.ug_print.specs.Ranges.{TripleInRange}
use Rattle.ug_print.specs.Generated.{interface_of_triple}
use Rattle.ug_print.proofs.generating.put_interfaces.Given as goal

abbrev pub invariant-loop-triple : goal.invariant-loop-triple
invariant-loop-triple l = record {
  items : l.items ≡ l.fn.items ++ map interface_of_triple (take l.triple-index l.triples);
  range : All TripleInRange (take l.triple-index l.triples);
}

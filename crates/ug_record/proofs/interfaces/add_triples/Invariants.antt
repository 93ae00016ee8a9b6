use Rattle.std.proofs.Common.{◌≡◌, ◌++◌, map, take}
use Rattle.ug_record.specs.Reading.{triple_of}
use Rattle.ug_record.proofs.interfaces.add_triples.Given as goal

abbrev pub invariant-loop-interface : goal.invariant-loop-interface
invariant-loop-interface l = l.triples ≡ l.fn.triples ++ map triple_of (take l.interface-index l.interface-items)

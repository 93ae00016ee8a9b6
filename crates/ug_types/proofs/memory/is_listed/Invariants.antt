use Rattle.std.proofs.Common.{drop}
use Rattle.std.specs.Prelude.{◌↔◌}
use Rattle.ug_types.specs.Elements.{Has}
use Rattle.ug_types.proofs.memory.is_listed.Given as goal

abbrev pub invariant-loop-n : goal.invariant-loop-n
invariant-loop-n l = Has (drop l.n-index l.numbers) l.number ↔ Has l.numbers l.number

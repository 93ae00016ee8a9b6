use Rattle.std.proofs.Common.{arith}
use Rattle.std.proofs.lemmas.Grind.{common_steps}
use Rattle.std.proofs.lemmas.List.Elements.{All-more}
use Rattle.ug_print.specs.Ranges.{TripleInRange}
use Rattle.ug_print.proofs.generating.put_interfaces.Goals as goal

pub loop-triple-preserved : goal.loop-triple-preserved
loop-triple-preserved c = record {
  items = grind (arith, common_steps);
  range = All-more TripleInRange c.args.triples.now c.loop-triple.triple-index _ c.loop-triple-test.true c.loop-triple.invariant.range c.interface.ensures.range;
}

use Rattle.std.proofs.Common.{subst, arith}
use Rattle.std.proofs.lemmas.Grind.{common_steps}
use Rattle.std.proofs.lemmas.List.Elements.{All-more}
use Rattle.ug_types.specs.declared.rule.Cond.{Cond}
use Rattle.ug_print.specs.Bytes.{CondOfBytes}
use Rattle.ug_print.proofs.conditions.put_cond_items.Goals as goal

pub loop-cond-preserved : goal.loop-cond-preserved
loop-cond-preserved c =
    let item : Cond = c.cond-item.result in
    record {
      words = grind (arith, common_steps);
      bytes = All-more CondOfBytes c.args.conds.now c.loop-cond.cond-index item c.loop-cond-test.true c.loop-cond.invariant.bytes (subst CondOfBytes c.cond-item.is c.in_ok-print_cond.ensures.bytes);
    }

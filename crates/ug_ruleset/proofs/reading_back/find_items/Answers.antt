use Rattle.std.proofs.Common.{subst}
use Rattle.std.proofs.lemmas.List.Elements.{All-more}
use Rattle.ug_print.specs.Bytes.{CondOfBytes}
use Rattle.ug_ruleset.proofs.reading_back.find_items.Goals as goal

pub loop-cond-preserved : goal.loop-cond-preserved
loop-cond-preserved c =
    All-more CondOfBytes c.args.conds.now c.loop-cond.cond-index c.cond-item.result c.loop-cond-test.true c.loop-cond.invariant (subst CondOfBytes c.cond-item.is c.find_kind.ensures)

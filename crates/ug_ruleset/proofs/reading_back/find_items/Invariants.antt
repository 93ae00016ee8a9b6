use Rattle.std.proofs.Common.{take}
use Rattle.std.specs.Prelude.{All}
use Rattle.ug_print.specs.Bytes.{CondOfBytes}
use Rattle.ug_ruleset.proofs.reading_back.find_items.Given as goal

abbrev pub invariant-loop-cond : goal.invariant-loop-cond
invariant-loop-cond l = All CondOfBytes (take l.cond-index l.conds)

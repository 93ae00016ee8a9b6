use Rattle.std.proofs.Common.{◌≡◌, ◌++◌, map, take}
use Rattle.std.specs.Prelude.{All}
use Rattle.ug_print.specs.Bytes.{CondOfBytes}
use Rattle.ug_print.specs.Words.{cond_text}
use Rattle.ug_print.proofs.conditions.put_cond_items.Given as goal

abbrev pub invariant-loop-cond : goal.invariant-loop-cond
invariant-loop-cond l = record {
  words : l.words ≡ l.fn.words ++ map cond_text (take l.cond-index l.conds);
  bytes : All CondOfBytes (take l.cond-index l.conds);
}

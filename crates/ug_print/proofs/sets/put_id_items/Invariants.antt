use Rattle.std.proofs.Common.{◌≡◌, ◌++◌, map, take}
use Rattle.ug_print.specs.Items.{id_text}
use Rattle.ug_print.proofs.sets.put_id_items.Given as goal

abbrev pub invariant-loop-id : goal.invariant-loop-id
invariant-loop-id l = l.words ≡ l.fn.words ++ map id_text (take l.id-index l.ids)

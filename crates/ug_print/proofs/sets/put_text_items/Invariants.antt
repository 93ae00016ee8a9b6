use Rattle.std.proofs.Common.{◌≡◌, ◌++◌, map, take}
use Rattle.std.specs.Prelude.{All}
use Rattle.ug_print.specs.Bytes.{AreBytes}
use Rattle.ug_print.specs.Items.{string_text}
use Rattle.ug_print.proofs.sets.put_text_items.Given as goal

abbrev pub invariant-loop-text : goal.invariant-loop-text
invariant-loop-text l = record {
  words : l.words ≡ l.fn.words ++ map string_text (take l.text-index l.texts);
  bytes : All AreBytes (take l.text-index l.texts);
}

use Rattle.std.proofs.Common.{take}
use Rattle.std.specs.Prelude.{All}
use Rattle.ug_print.specs.Bytes.{AreBytes}
use Rattle.ug_ruleset.proofs.reading_back.find_texts.Given as goal

abbrev pub invariant-loop-text : goal.invariant-loop-text
invariant-loop-text l = All AreBytes (take l.text-index l.texts)

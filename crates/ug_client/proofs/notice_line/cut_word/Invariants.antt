use Rattle.std.proofs.Common.{take}
use Rattle.ug_types.specs.Elements.{Has}
use Rattle.ug_client.proofs.notice_line.cut_word.Given as goal

abbrev pub invariant-loop-i : goal.invariant-loop-i
invariant-loop-i l = ¬ Has (take l.i l.text) 32

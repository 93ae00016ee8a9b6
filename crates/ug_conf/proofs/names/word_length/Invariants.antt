use Rattle.std.proofs.Common.{◌≡◌, ◌+◌, drop}
use Rattle.ug_conf.specs.Names.{first_blank}
use Rattle.ug_conf.proofs.names.word_length.Given as goal

abbrev pub invariant-loop-i : goal.invariant-loop-i
invariant-loop-i l = l.i + first_blank (drop l.i l.text) ≡ first_blank l.text

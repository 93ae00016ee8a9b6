use Rattle.std.proofs.Common.{◌≡◌, drop}
use Rattle.ug_lines.specs.Blanks as blanks
use Rattle.ug_lines.proofs.blanks.without_front.Given as goal

abbrev pub invariant-loop-i : goal.invariant-loop-i
invariant-loop-i l = blanks.without_front (drop l.i l.text) ≡ blanks.without_front l.text

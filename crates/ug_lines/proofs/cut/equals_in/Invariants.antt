use Rattle.std.proofs.Common.{◌≡◌, drop, nat_eq}
use Rattle.std.specs.List.{position, position_from}
use Rattle.ug_lines.proofs.cut.equals_in.Given as goal

abbrev pub invariant-loop-place : goal.invariant-loop-place
invariant-loop-place l = position_from (nat_eq 61) l.place (drop l.place l.text) ≡ position (nat_eq 61) l.text

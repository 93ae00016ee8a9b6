use Rattle.std.proofs.Common.{◌≡◌, drop, nat_eq}
use Rattle.std.specs.List.{position, position_from}
use Rattle.ug_steps.proofs.words.place_of.Given as goal

abbrev pub invariant-loop-place : goal.invariant-loop-place
invariant-loop-place l = position_from (nat_eq l.byte) l.place (drop l.place l.text) ≡ position (nat_eq l.byte) l.text

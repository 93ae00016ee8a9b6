use Rattle.std.proofs.Common.{◌≡◌, drop, nat_eq}
use Rattle.std.specs.List.{position, position_from}
use Rattle.ug_words.proofs.words.dash_in.Given as goal

abbrev pub invariant-loop-place : goal.invariant-loop-place
invariant-loop-place l = position_from (nat_eq 45) l.place (drop l.place l.text) ≡ position (nat_eq 45) l.text

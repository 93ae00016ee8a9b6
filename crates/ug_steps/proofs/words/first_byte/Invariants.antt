use Rattle.std.proofs.Common.{◌≡◌, drop, nat_eq, not, ◌||◌}
use Rattle.std.specs.Prelude.{find}
use Rattle.ug_steps.proofs.words.first_byte.Given as goal

abbrev pub invariant-loop-byte : goal.invariant-loop-byte
invariant-loop-byte l = find (λ b. not (nat_eq b 32 || nat_eq b 9)) (drop l.byte-index l.text) ≡ find (λ b. not (nat_eq b 32 || nat_eq b 9)) l.text

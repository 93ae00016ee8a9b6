use Rattle.std.proofs.Common.{◌≡◌, drop, nat_eq}
use Rattle.std.specs.List.{list_any}
use Rattle.ug_steps.proofs.words.has_newline.Given as goal

abbrev pub invariant-loop-byte : goal.invariant-loop-byte
invariant-loop-byte l = list_any (λ b. nat_eq b 10) (drop l.byte-index l.text) ≡ list_any (λ b. nat_eq b 10) l.text

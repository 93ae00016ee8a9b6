use Rattle.std.proofs.Common.{◌≡◌, ◌≤◌, IfSome, length, take}
use Rattle.std.specs.Option.{option_map}
use Rattle.ug_types.specs.Names.{before_last_dot}
use Rattle.ug_types.proofs.marks.last_dot.Given as goal

abbrev pub invariant-loop-i : goal.invariant-loop-i
invariant-loop-i l = (option_map (λ dot. take dot l.text) l.last ≡ before_last_dot (take l.i l.text)) × IfSome l.last (λ dot. dot ≤ length l.text)

use Rattle.std.proofs.Common.{◌≡◌, ◌≤◌, ◌<◌, ℕ, length, get_or}
use Rattle.std.specs.Global.{Vec}
use Rattle.ug_policy.specs.Places.{reaches_to}
use Rattle.ug_policy.specs.Lists.{IsTakenOut}
use Rattle.ug_policy.proofs.places.take_out_each.Given as goal

-- it was taken out of the lists so far, and the others are as they were
abbrev pub invariant-loop-i : goal.invariant-loop-i
invariant-loop-i l = record {
  done : (r : ℕ) (d : Vec ℕ) → r < l.i → IsTakenOut (reaches_to r l.fn.reach) l.fn.at (get_or l.fn.lists r d) (get_or l.lists r d);
  left : (r : ℕ) (d : Vec ℕ) → l.i ≤ r → get_or l.lists r d ≡ get_or l.fn.lists r d;
  long : length l.lists ≡ length l.fn.lists;
}

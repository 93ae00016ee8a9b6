use Rattle.std.proofs.Common.{◌≡◌, ◌<◌, ℕ, length, get_or, vec_len, vec_capacity}
use Rattle.std.specs.Global.{Vec}
use Rattle.ug_policy.proofs.places.reserve_each.Given as goal

-- the places stay, and the lists so far have room
abbrev pub invariant-loop-i : goal.invariant-loop-i
invariant-loop-i l = record {
  same : (r : ℕ) (d : Vec ℕ) → r < length l.fn.lists → (get_or l.lists r d).items ≡ (get_or l.fn.lists r d).items;
  room : (r : ℕ) (d : Vec ℕ) → r < l.i → vec_len (get_or l.lists r d) < vec_capacity (get_or l.lists r d);
  long : length l.lists ≡ length l.fn.lists;
}

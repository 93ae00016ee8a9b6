-- A flag is true where one of two is: the first one, or else the second.
use Rattle.std.proofs.Common.{◌≡◌, Bool, true, false, ◌||◌}

pub either_first : (a b v : Bool) → a ≡ true → v ≡ a → v ≡ (a || b)
either_first true b v e f = f
either_first false b v e f = cc

pub either_second : (a b v : Bool) → a ≡ false → v ≡ b → v ≡ (a || b)
either_second true b v e f = cc
either_second false b v e f = f

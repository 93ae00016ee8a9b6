-- How many interfaces of a device aren't gone.
use Rattle.std.proofs.Common.{ℕ, ◌+◌, ◌≤◌, Bool, true, false, not, ◌&&◌, nat_eq, if◌then◌else◌, List, [], ◌∷◌, length, arith}
use Rattle.ug_iface.specs.declared.interface.Interface.{Interface}
use Rattle.ug_iface.specs.Bus.{ungone_of}

pub ungone_le : (i : ℕ) (xs : List Interface) → ungone_of i xs ≤ length xs
ungone_le i [] = omega arith
ungone_le i (x ∷ xs) = pick (not x.gone && nat_eq x.device i) (ungone_le i xs)
  where
    pick : (b : Bool) → ungone_of i xs ≤ length xs → (if b then 1 else 0) + ungone_of i xs ≤ length (x ∷ xs)
    pick true h = omega (arith, h)
    pick false h = omega (arith, h)

-- An object that tells nothing.
use Rattle.std.proofs.Common.{◌≡◌, Some, None}

-- whatever was said of what it tells
pub untold : {A X : Type 0} (a : A) → None ≡ Some a → X
untold a e = let none : ⊥ = cc in absurd none

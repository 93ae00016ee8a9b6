-- What the outcome of a test says.
use Rattle.std.proofs.Common.{◌≡◌, ◌⊎◌, inl, inr, Bool, true, false, refl, if◌then◌else◌}

pub by_test : {X : Type 0} (b : Bool) (p q r : X) → (if b then p else q) ≡ r → ((b ≡ true) × (p ≡ r)) ⊎ ((b ≡ false) × (q ≡ r))
by_test true p q r h = inl (refl, h)
by_test false p q r h = inr (refl, h)

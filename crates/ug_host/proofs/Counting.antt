-- A call that is counted, and its failure.
use Rattle.std.proofs.Common.{◌≡◌, ℕ, ◌+◌, ◌-◌, ◌^◌, ◌<◌, ◌≤◌, Bool, true, refl, ◌∙◌}
use Rattle.ug_kernel.specs.Calls.{raised, Counted}

pub counted_so : {X : Type 0} (failed : X → Bool) (x : X) (b : Bool) (c f d g : ℕ) → b ≡ failed x → d ≡ raised c → f ≤ g → g ≤ f + 1 → (b ≡ true → f < 2 ^ 64 - 1 → f < g) → Counted failed (record { answer = x; number = d; count = g }) c f d g
counted_so failed x b c f d g is call never by rises = record { number = refl; count = refl; call = call; never_falls = never; by_one = by; rises = λ yes. rises (is ∙ yes) }

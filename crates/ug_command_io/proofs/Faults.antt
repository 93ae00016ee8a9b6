-- Counts of faults.
use Rattle.std.proofs.Common.{◌≡◌, ℕ, ◌≤◌, refl, arith}
use Rattle.ug_types.specs.Ends.{Rose}
use Rattle.ug_command_io.specs.declared.machine.Ran.{Ran}
use Rattle.ug_command_io.specs.declared.machine.Ran.TheVariants.{Done, Bad, TooLong, SinkFailed, Memory}

pub rose-after : (a b c : ℕ) → a ≤ b → b ≤ c → Rose b c → Rose a c
rose-after a b c h k r = λ p. grind (arith, r)

pub rose-before : (a b c : ℕ) → Rose a b → b ≤ c → Rose a c
rose-before a b c r h = λ p. let q = r p in omega arith

-- the sink failed in the step, or else while its fault line was written
pub rose-concluded : (ran : Ran) (a b c : ℕ) → a ≤ b → b ≤ c → (ran ≡ SinkFailed → Rose a b) → ((ran ≡ SinkFailed → ⊥) → Rose b c) → Rose a c
rose-concluded Done a b c h k f g = rose-after a b c h k (g (λ e. cc))
rose-concluded Bad a b c h k f g = rose-after a b c h k (g (λ e. cc))
rose-concluded TooLong a b c h k f g = rose-after a b c h k (g (λ e. cc))
rose-concluded SinkFailed a b c h k f g = rose-before a b c (f refl) k
rose-concluded Memory a b c h k f g = rose-after a b c h k (g (λ e. cc))

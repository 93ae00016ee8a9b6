-- The list of rules after a change of its vector.
use Rattle.std.proofs.Common.{◌≡◌}
use Rattle.ug_policy.specs.Rules.{Rules}

pub same_rules : (a b : Rules) → a.entries ≡ b.entries → a.next ≡ b.next → a.spare ≡ b.spare → a ≡ b
same_rules a b e n s = λ i. record { entries = e i; next = n i; spare = s i }

-- Refusals with one number, which stands behind a name.
use Rattle.std.specs.Prelude.{◌≡◌, ℕ, nat_eq, List}
use Rattle.ug_types.specs.declared.refusal.Refusal.{Refusal}
use Rattle.ug_types.specs.declared.refusal.Refusal.TheVariants as refusal
use Rattle.ug_proto.specs.RefusalParts.{named_number, IsNumberIn}
use Rattle.ug_proto.specs.Scanning.{IsTextThen}

-- the refusal with that number in place of its own
abbrev pub renumbered : Refusal → ℕ → Refusal
renumbered (refusal.BadRequest place) n = refusal.BadRequest n
renumbered (refusal.NoDevice number) n = refusal.NoDevice n
renumbered (refusal.NoRule id) n = refusal.NoRule n
renumbered (refusal.MalformedDevice number) n = refusal.MalformedDevice n
renumbered (refusal.StoreFault count) n = refusal.StoreFault n
renumbered (refusal.Memory stands) n = refusal.Memory (nat_eq n 1)
renumbered (refusal.ProbeFault count) n = refusal.ProbeFault n
renumbered (refusal.FolderRule id) n = refusal.FolderRule n
renumbered r n = r

-- a name and a number, which the refusal has in place of its own
abbrev pub IsNamedThen : List ℕ → ℕ → Refusal → List ℕ → Refusal → List ℕ → Type 0
IsNamedThen name most refusal bytes it rest =
    (n : ℕ) × (IsTextThen (named_number name) (IsNumberIn 0 most) bytes n rest)
    × (it ≡ renumbered refusal n)

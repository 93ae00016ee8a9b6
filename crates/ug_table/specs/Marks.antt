-- What the settling of a name, or of the standing of a number, leaves of the marks.
use Rattle.std.specs.Prelude.{◌≡◌, ℕ, Bool, true, not, ◌&&◌, ◌||◌, List, nat_eq, Option, None}
use Rattle.std.specs.List.{filter, list_any}
use Rattle.ug_types.specs.Elements.{Has}
use Rattle.ug_kernel.specs.declared.control.Control.{Control}
use Rattle.ug_kernel.specs.declared.control.Control.TheVariants.{Remove, Default}
use Rattle.ug_kernel.specs.declared.control.Write.{Write}
use Rattle.ug_table.specs.Done.{is_done}
use Rattle.ug_table.specs.Bring.{is_reject, default_due}
use Rattle.ug_table.specs.Standings.{same_name, known_of}
use Rattle.ug_table.specs.Settle.{stands}
use Rattle.ug_table.specs.declared.standing.Standing.{Standing}
use Rattle.ug_table.specs.declared.standing.Settled.{Settled}

-- whether it is a standing of that name, or of that number
abbrev pub has_name : List ℕ → Standing → Bool
has_name name s = same_name s.name name

abbrev pub has_number : ℕ → Standing → Bool
has_number number s = nat_eq s.number number

-- whether that number was marked with that file
abbrev pub stood_done : Control → ℕ → List Standing → Bool
stood_done control number ss = list_any (λ s. nat_eq s.number number && is_done control s) ss

-- The other standings are as they were, each in every field, and none is added among them. One that
-- is settled is marked as settled just where the answer says that it stands, and as removed just
-- where it was so, or is rejected and stands. A default that was written stays so; and where it
-- stands none is still to be written.
pub record LeavesMarks (hub : Option Write) (own : Standing → Bool) (before after : List Standing)
    (how : Settled) : Type 0 where
  pub others : filter (λ s. not (own s)) after ≡ filter (λ s. not (own s)) before
  pub settled : (s : Standing) → Has after s → own s ≡ true → s.settled ≡ stands how
  pub removed : (s : Standing) → Has after s → own s ≡ true
      → s.removed ≡ (stood_done Remove s.number before || (stands how && is_reject s.verdict))
  pub defaulted : (s : Standing) → Has after s → own s ≡ true
      → stood_done Default s.number before ≡ true → s.defaulted ≡ true
  pub written : (s : Standing) → Has after s → own s ≡ true → stands how ≡ true
      → default_due hub s.name (known_of s) ≡ None

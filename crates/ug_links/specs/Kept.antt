-- What is true of the calls that links in memory keep.
use Rattle.std.specs.Prelude.{◌≡◌, ◌≤◌, List, Bool, false, length}
use Rattle.ug_links.specs.declared.step.LinkStep.{LinkStep}
use Rattle.ug_links.specs.Planned.{Planned}
use Rattle.ug_links.specs.Steps.{ids_end, listeners_in}

-- unless memory was short, the calls tell of no session that isn't there, and of
-- as many listeners as there are
abbrev pub IsNumberedUnless : Bool → Planned → List LinkStep → Type 0
IsNumberedUnless ran_out planned calls =
    ran_out ≡ false → (ids_end calls ≤ length planned.peers)
    × (planned.listening ≡ listeners_in calls)

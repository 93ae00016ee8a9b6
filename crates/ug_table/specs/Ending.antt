-- The calls of a name's part whose failure ends it, and is told: all but the probe of its parent's
-- held file, which stands directly behind the reading of the last of the name's own files.
use Rattle.std.specs.Prelude.{ℕ, Bool, true, false, ◌&&◌, nat_eq, if◌then◌else◌, List, [], ◌∷◌, Option, Some, None}
use Rattle.ug_kernel.specs.declared.control.Attr.{Attr}
use Rattle.ug_kernel.specs.declared.control.Attr.TheVariants as attr
use Rattle.ug_kernel.specs.Along.{Made}
use Rattle.ug_kernel.specs.Calls.{Call, Names, Open, Read, Ask_alive, Put, Close}
use Rattle.ug_table.specs.Parent.{parent_standing, held_of}
use Rattle.ug_table.specs.Standings.{same_name, without}
use Rattle.ug_table.specs.declared.standing.Standing.{Standing}

abbrev pub is_last_file : Attr → Bool
is_last_file attr.Descriptors = false
is_last_file attr.Product = false
is_last_file attr.Serial = false
is_last_file attr.Connect = true

-- whether the call reads the last of that name's files
abbrev pub reads_last : List ℕ → Call → Bool
reads_last name (Read other at) = is_last_file at && same_name other name
reads_last name Names = false
reads_last name (Open other control) = false
reads_last name (Ask_alive held) = false
reads_last name (Put held what) = false
reads_last name (Close held) = false

-- whether it probes that file
abbrev pub probes : ℕ → Call → Bool
probes kept (Ask_alive held) = nat_eq held kept
probes kept Names = false
probes kept (Open name control) = false
probes kept (Read name at) = false
probes kept (Put held what) = false
probes kept (Close held) = false

-- The calls but for a probe of that file directly behind such a reading. Whether the call before
-- them was one is told.
abbrev pub without_asking : List ℕ → ℕ → Bool → List Made → List Made
without_asking name kept read [] = []
without_asking name kept read (m ∷ ms) =
    if read && probes kept m.call then without_asking name kept false ms
    else m ∷ without_asking name kept (reads_last name m.call) ms

-- where that is the parent's held file, if there is one
abbrev pub ending_calls : List ℕ → Option ℕ → List Made → List Made
ending_calls name None calls = calls
ending_calls name (Some kept) calls = without_asking name kept false calls

-- the held file of the parent's standing, among the standings of other names
abbrev pub kept_file : List ℕ → List Standing → Option ℕ
kept_file name ss = held_of (parent_standing name (without name ss))

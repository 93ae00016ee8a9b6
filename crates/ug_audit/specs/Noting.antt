-- What a panel makes of entries that are noted.
use Rattle.std.specs.Prelude.{◌≡◌, ℕ, Bool, true, false, List, [], ◌∷◌, ◌++◌, if◌then◌else◌}
use Rattle.ug_audit.specs.declared.entry.Entry.{Entry}
use Rattle.ug_audit.specs.declared.entry.Entry.TheVariants as entry
use Rattle.ug_audit.specs.declared.start_entry.StartEntry.{StartEntry}
use Rattle.ug_audit.specs.Lines.{entry_line}
use Rattle.ug_audit.specs.StartLines.{start_line}
use Rattle.ug_audit.specs.Panels.{Member, NotesAll, newly_dropped}

abbrev pub tells_drop : Entry → Bool
tells_drop (entry.Dropped member) = true
tells_drop e = false

-- the entries but for those that tell that a member is dropped
abbrev pub without_drops : List Entry → List Entry
without_drops [] = []
without_drops (e ∷ es) = (if tells_drop e then without_drops es else e ∷ without_drops es)

-- the entry that may come next, where the `dropped` entries of these members are still to come, in
-- order
abbrev pub IsNextNoted : List ℕ → Entry → Type 0
IsNextNoted [] e = tells_drop e ≡ false
IsNextNoted (i ∷ due) e = e ≡ entry.Dropped i

-- whose `dropped` entries are still to come behind that entry, at whose line these members failed
abbrev pub due_behind : List ℕ → List ℕ → List ℕ
due_behind [] failed = failed
due_behind (i ∷ due) failed = due ++ failed

-- each entry's line is noted by the members that aren't dropped, and a `dropped` entry stands for
-- each that fails, behind the entry at whose line it did, with only `dropped` entries between
abbrev pub NotesEach : List ℕ → List Entry → List Member → List ℕ → List Member → Type 0
NotesEach due [] before later after = (later ≡ due) × (after ≡ before)
NotesEach due (e ∷ es) before later after =
    (between : List Member) × IsNextNoted due e × NotesAll (entry_line e) before between
    × NotesEach (due_behind due (newly_dropped 0 before between)) es between later after

-- the same, where no `dropped` entry is still to come, at the start and at the end
abbrev pub NotesEntries : List Entry → List Member → List Member → Type 0
NotesEntries es before after = NotesEach [] es before [] after

-- the line is noted by the members that aren't dropped, and behind it stand `dropped` entries
-- alone, one for each member that fails at it or at such an entry
pub record NotesLine (line : List ℕ) (before after : List Member) : Type 0 where
  pub failing : List Member
  pub noted : NotesAll line before failing
  pub drops : List Entry
  pub alone : without_drops drops ≡ []
  pub behind : NotesEach (newly_dropped 0 before failing) drops failing [] after

-- each entry of the start, one after another
abbrev pub NotesStart : List StartEntry → List Member → List Member → Type 0
NotesStart [] before after = after ≡ before
NotesStart (e ∷ es) before after =
    (between : List Member) × NotesLine (start_line e) before between × NotesStart es between after

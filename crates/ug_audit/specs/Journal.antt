-- What becomes of a journal that is lent.
use Rattle.std.specs.Prelude.{◌≡◌, ℕ, ◌+◌, ◌-◌, ◌≤◌, List, ◌++◌}
use Rattle.std.specs.declared.alloc.Global.{Global}
use Rattle.std.specs.declared.dyn_box.DynBox.{DynBox}
use Rattle.ug_audit.specs.Noted.{Noted}
use Rattle.ug_audit.specs.Noting.{NotesEntries, without_drops}
use Rattle.ug_audit.specs.Panels.{Member, live_of, members_of}
use Rattle.ug_audit.specs.declared.auditor.Auditor.{Ghosts}
use Rattle.ug_audit.specs.declared.entry.Entry.{Entry}
use Rattle.ug_audit.specs.declared.journal.Journal.{Journal}
use Rattle.ug_audit.specs.declared.panel.Panel.{Panel}

-- what is told of the auditor in a box: a clause gives it as `Auditor-box`
abbrev pub AuditorTold : (X : Type 0) → (X → Type 0) → Type 1
AuditorTold X F = (b : DynBox X Global F) → Ghosts (F b.vtable)

-- the members of a panel
abbrev pub members : {X : Type 0} {F : X → Type 0} → AuditorTold X F → Panel X F → List Member
members told panel =
    members_of (λ b. (told b).text b.value)
    (λ b. (told b).faults b.value) panel.auditors.items panel.dropped

-- how many of them aren't dropped
abbrev pub live_in : {X : Type 0} {F : X → Type 0} → Panel X F → ℕ
live_in panel = live_of panel.auditors.items panel.dropped

-- what is noted in it, but for the `dropped` entries and their places
abbrev pub noted_in : {X : Type 0} {F : X → Type 0} → Journal X F → Noted
noted_in journal = record {
  entries = without_drops journal.entries.now.entries;
  spare = journal.entries.now.spare - live_in journal.panel.now;
  room = journal.entries.now.room - 64;
}

-- it notes into the same panel and the same entries; some entries more were noted since
pub record SameEntries {X : Type 0} {F : X → Type 0} (told : AuditorTold X F)
    (before after : Journal X F) : Type 0 where
  pub panel : after.panel.ghost_name ≡ before.panel.ghost_name
  pub entries : after.entries.ghost_name ≡ before.entries.ghost_name
  pub added : List Entry
  pub all : after.entries.now.entries ≡ before.entries.now.entries ++ added
  pub noted : NotesEntries added (members told before.panel.now) (members told after.panel.now)

-- the same, and the entries have the same room; and of the places that were left it used at most so
-- many
abbrev pub Notes : {X : Type 0} {F : X → Type 0} → AuditorTold X F → ℕ → Journal X F → Journal X F
    → Type 0
Notes told most before after =
    SameEntries told before after
    × ((noted_in after).room ≡ (noted_in before).room)
    × ((noted_in before).spare ≤ (noted_in after).spare + most)

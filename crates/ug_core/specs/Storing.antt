-- How a change is saved before it is in force: the stage of an order that is on the disk.
use Rattle.std.specs.Prelude.{◌≡◌, ℕ, nat_le, Bool, true, false, List, length, Option, Some, None}
use Rattle.ug_types.specs.Ends.{Rose}
use Rattle.ug_types.specs.Limits.{text_limit}
use Rattle.ug_types.specs.declared.refusal.Refusal.{Refusal}
use Rattle.ug_types.specs.declared.refusal.Refusal.TheVariants as refusal
use Rattle.ug_types.specs.declared.saved.Saved.{Saved}
use Rattle.ug_types.specs.declared.saved.Saved.TheVariants as saved
use Rattle.ug_audit.specs.declared.entry.Entry.TheVariants as entry
use Rattle.ug_ruleset.specs.RuleFile.{permanent_text}
use Rattle.ug_store.specs.Store.{DiskProg, Ended, DiskRoom, then_disk, saving}
use Rattle.ug_core.specs.Changes.{ChangeSaves, change_entry, changed_by, is_saved}
use Rattle.ug_core.specs.Event.{DaemonState, noting}
use Rattle.ug_core.specs.Policy.{Judging}
use Rattle.ug_core.specs.declared.changes.Change.{Change}
use Rattle.ug_core.specs.declared.storing.Stored.{Stored}
use Rattle.ug_core.specs.declared.storing.Stored.TheVariants as stored

-- ---- the calls

abbrev pub after_saving : Saved → Stored
after_saving saved.Done = stored.Done
after_saving (saved.Failed count) = stored.Failed count
after_saving saved.Memory = stored.Memory

-- a text is saved if a rule file has room for it
abbrev pub if_fits : List ℕ → Bool → DiskProg Stored
if_fits text true = then_disk (saving text) (λ became. Ended (after_saving became))
if_fits text false = Ended stored.TooLong

-- that of the rules once the change is done
abbrev pub if_saved : Judging → Change → Bool → DiskProg Stored
if_saved p change true =
    if_fits (permanent_text (changed_by change p).rules)
    (nat_le (length (permanent_text (changed_by change p).rules)) text_limit)
if_saved p change false = Ended stored.NotNeeded

-- memory is taken for all that is to be in force behind the save
abbrev pub if_kept : Judging → Change → Bool → DiskProg Stored
if_kept p change true = if_saved p change (is_saved change p.rules)
if_kept p change false = Ended stored.Memory

abbrev pub storing_change : Judging → Option Change → DiskProg Stored
storing_change p None = Ended stored.NotNeeded
storing_change p (Some change) = DiskRoom (if_kept p change)

unfoldable pub storing : DaemonState → Option Change → DiskProg Stored
storing d change = storing_change d.sweep.judge change

-- ---- what is left behind them

-- something was written for the change: its save was done, or failed
abbrev pub has_written : Stored → Bool
has_written stored.Done = true
has_written (stored.Failed count) = true
has_written became = false

-- what was written can be read again: it is saved of rules that can be
abbrev pub WritesRules : Stored → Option Change → Judging → Type 0
WritesRules became (Some change) p = has_written became ≡ true → ChangeSaves change p
WritesRules became None p = Unit {0}

-- why the change isn't in force
abbrev pub refused_by : Stored → Option Refusal
refused_by stored.NotNeeded = None
refused_by stored.Done = None
refused_by (stored.Failed count) = Some (refusal.StoreFault count)
refused_by stored.TooLong = Some refusal.RulesFull
refused_by stored.Memory = Some (refusal.Memory false)

-- a save is noted, and is pending if it failed

abbrev pub pending_stored : Stored → Bool → Bool
pending_stored stored.Done was = false
pending_stored (stored.Failed count) was = true
pending_stored became was = was

abbrev pub noted_save : Stored → DaemonState → DaemonState
noted_save stored.Done d = noting (entry.Save saved.Done) d
noted_save (stored.Failed count) d = noting (entry.Save (saved.Failed count)) d
noted_save became d = d

abbrev pub noted_store : Stored → DaemonState → DaemonState
noted_store became d = noted_save became (record d { pending = pending_stored became d.pending })

-- what was changed is noted
abbrev pub with_change : Change → DaemonState → DaemonState
with_change change d =
    noting (change_entry change d.sweep.judge.next)
    (record d { sweep = record d.sweep { judge = changed_by change d.sweep.judge } })

abbrev pub with_changes : Option Change → DaemonState → DaemonState
with_changes None d = d
with_changes (Some change) d = with_change change d

abbrev pub if_in_force : Option Refusal → Option Change → DaemonState → DaemonState
if_in_force (Some refused) change d = d
if_in_force None change d = with_changes change d

abbrev pub stored_with : Stored → Option Change → DaemonState → DaemonState
stored_with became change d = if_in_force (refused_by became) change (noted_store became d)

-- the count that a failed save tells is the disk's, and it rose
abbrev pub TellsStored : Stored → ℕ → ℕ → Type 0
TellsStored (stored.Failed count) before after = (count ≡ after) × Rose before after
TellsStored became before after = Unit {0}

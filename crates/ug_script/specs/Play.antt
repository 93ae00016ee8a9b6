-- What a script fixes.
use Rattle.std.specs.Prelude.{◌≡◌, Bool, true, false, ◌⊎◌, List, ◌++◌, Result, Err}
use Rattle.std.specs.List.{list_any}
use Rattle.ug_types.specs.declared.refusal.Refusal.{Refusal}
use Rattle.ug_types.specs.declared.refusal.Refusal.TheVariants as refusal
use Rattle.ug_types.specs.declared.saved.Saved.{Saved}
use Rattle.ug_types.specs.declared.saved.Saved.TheVariants as saved
use Rattle.ug_kernel.specs.Tree.{Prog, Return, Ask, Room}
use Rattle.ug_sysfs.specs.World.{World, scripted_answer}
use Rattle.ug_audit.specs.declared.entry.Entry.{Entry}
use Rattle.ug_audit.specs.declared.entry.Entry.TheVariants as entry
use Rattle.ug_audit.specs.declared.entry.Fault.{Fault}
use Rattle.ug_audit.specs.declared.entry.Fault.TheVariants as fault

-- the run of a program whose calls are answered by the script alone, and that finds room wherever
-- it asks for some
abbrev pub play : {R : Type 0} → Prog R → World → R × World
play (Return value) w = (value, w)
play (Ask call next) w = play (next (scripted_answer w call).0) (scripted_answer w call).1
play (Room next) w = play (next true) w

abbrev pub is_memory : Fault → Bool
is_memory (fault.Call failed) = false
is_memory fault.Memory = true

abbrev pub is_short_save : Saved → Bool
is_short_save saved.Memory = true
is_short_save became = false

abbrev pub is_short_reply : Result (Unit {0}) Refusal → Bool
is_short_reply (Err (refusal.Memory stands)) = true
is_short_reply answered = false

-- an entry that tells want of memory: for a name, for the listing, for a save that was pending, or
-- for an order
abbrev pub entry_tells_memory : Entry → Bool
entry_tells_memory (entry.Unsettled name why) = is_memory why
entry_tells_memory (entry.UnsettledAll why) = is_memory why
entry_tells_memory (entry.Save became) = is_short_save became
entry_tells_memory (entry.Reply answered) = is_short_reply answered
entry_tells_memory e = false

abbrev pub tells_memory : List Entry → Bool
tells_memory entries = list_any entry_tells_memory entries

-- the entries after it are those before, and some more, of which one tells want of memory
abbrev pub TellsMemory : List Entry → List Entry → Type 0
TellsMemory before after =
    (rest : List Entry) × (after ≡ before ++ rest) × (tells_memory rest ≡ true)

-- the result and the world at the end are those that the script fixes, or the result tells want of
-- memory, or the kernel has run out
abbrev pub IsPlayed : {R : Type 0} → (R → Type 0) → Prog R → World → R → World → Type 0
IsPlayed tells p s r t = ((r ≡ (play p s).0) × (t ≡ (play p s).1)) ⊎ (tells r ⊎ (t.ran_out ≡ true))

-- an entry that names somebody as unsettled
abbrev pub names_somebody : Entry → Bool
names_somebody (entry.Unsettled name why) = true
names_somebody (entry.UnsettledAll why) = true
names_somebody e = false

abbrev pub NameNobody : List Entry → Type 0
NameNobody entries = list_any names_somebody entries ≡ false

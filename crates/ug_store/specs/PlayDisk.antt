-- What a script fixes of the rule file.
use Rattle.std.specs.Prelude.{◌≡◌, true, ◌⊎◌, ℕ, List, Result, Err}
use Rattle.ug_store.specs.Store.{DiskProg, Ended, AskDisk, DiskRoom, RunsDisk, saving, recovering}
use Rattle.ug_store.specs.Scripted.{DiskWorld, disk_answer, MemKeeps}
use Rattle.ug_types.specs.declared.saved.Saved.{Saved}
use Rattle.ug_types.specs.declared.saved.Saved.TheVariants as saved
use Rattle.ug_store.specs.declared.store.RecoverFault.{RecoverFault}
use Rattle.ug_store.specs.declared.store.RecoverFault.TheVariants as fault

-- the run of a tree whose calls are answered by the script alone, and that finds room wherever it
-- asks for some
abbrev pub play_disk : {R : Type 0} → DiskProg R → DiskWorld → R × DiskWorld
play_disk (Ended value) w = (value, w)
play_disk (AskDisk call next) w = play_disk (next (disk_answer w call).0) (disk_answer w call).1
play_disk (DiskRoom next) w = play_disk (next true) w

-- the result and the world at the end are those that the script fixes, or the result tells want of
-- memory, or the disk has run out
abbrev pub IsPlayedOnDisk : {R : Type 0} → (R → Type 0) → DiskProg R → DiskWorld → R → DiskWorld
    → Type 0
IsPlayedOnDisk wants p s r t =
    ((r ≡ (play_disk p s).0) × (t ≡ (play_disk p s).1)) ⊎ (wants r ⊎ (t.ran_out ≡ true))

abbrev pub SavesAsPlayed : Type 0
SavesAsPlayed =
    (text : List ℕ) (s : DiskWorld) (r : Saved) (t : DiskWorld)
    → RunsDisk MemKeeps s (saving text) r t
    → IsPlayedOnDisk (λ (q : Saved). q ≡ saved.Memory) (saving text) s r t

abbrev pub ReadsAsPlayed : Type 0
ReadsAsPlayed =
    (s : DiskWorld) (r : Result (List ℕ) RecoverFault) (t : DiskWorld)
    → RunsDisk MemKeeps s recovering r t
    → IsPlayedOnDisk (λ (q : Result (List ℕ) RecoverFault). q ≡ Err fault.Memory) recovering s r t

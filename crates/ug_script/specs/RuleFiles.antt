-- The rule file of a script's daemon: whatever a stop leaves of it, a new daemon starts with it.
use Rattle.std.specs.Prelude.{◌≡◌, ℕ, ◌≤◌, Bool, true, false, List, length, Result, Ok, Err}
use Rattle.ug_store.specs.Disk.{IsImage}
use Rattle.ug_store.specs.Scripted.{DiskWorld}
use Rattle.ug_core.specs.Event.{DaemonState}
use Rattle.ug_script.specs.Setup.{folder_of, rules_from}

abbrev pub is_given : {A E : Type 0} → Result A E → Bool
is_given (Ok value) = true
is_given (Err e) = false

-- a daemon starts with the text, behind so many rules of the folder
abbrev pub is_startable : ℕ → List ℕ → Bool
is_startable before text = is_given (rules_from before text)

-- Unless the disk has run out, a daemon starts with each text that a stop may leave, and the rule
-- file is such a one.
abbrev pub StaysReadable : ℕ → DiskWorld → Type 0
StaysReadable before o =
    o.ran_out ≡ false
    → ((text : List ℕ) → IsImage o.disk.left text → is_startable before text ≡ true)
    × ((IsImage o.disk.left o.disk.text → ⊥) → ⊥)

-- The folder's rules that a daemon has are so many, and all its rules are no more than a list has.
pub record HasFolder (before : ℕ) (d : DaemonState) : Type 0 where
  pub number : length (folder_of d.sweep.judge) ≡ before
  pub few : length d.sweep.judge.rules ≤ 65536

-- the files of a disk are as they were, and so is what a stop leaves
pub record IsStillOn (o p : DiskWorld) : Type 0 where
  pub text : p.disk.text ≡ o.disk.text
  pub left : p.disk.left ≡ o.disk.left
  pub ran_out : p.ran_out ≡ o.ran_out

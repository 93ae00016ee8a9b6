-- What an event works on.
use Rattle.std.specs.Prelude.{ℕ, Bool, not, List, ◌∷◌, [], ◌++◌, Option}
use Rattle.ug_kernel.specs.declared.control.Write.{Write}
use Rattle.ug_types.specs.declared.record.Judged.{Judged}
use Rattle.ug_types.specs.declared.verdict.Target.{Target}
use Rattle.ug_types.specs.declared.verdict.Cause.{Cause}
use Rattle.ug_audit.specs.declared.entry.Entry.{Entry}
use Rattle.ug_table.specs.declared.standing.Standing.{Standing}
use Rattle.ug_table.specs.Table.{TableState}

-- a judge's verdicts on a device, which is or isn't a root hub, was or wasn't present at the start,
-- and is on or off, beside these standings; and what the judge is after them
abbrev pub Answers : Type 0 → Type 0
Answers J = J → Judged → Bool → Bool → Bool → List Standing → Target × Cause

abbrev pub Laters : Type 0 → Type 0
Laters J = J → Judged → Bool → Bool → Bool → List Standing → J

-- whether devices were present at the start, and what is written to the default of each root hub
pub record Terms : Type 0 where
  pub present : Bool
  pub hub : Option Write

abbrev pub terms_of : Bool → Option Write → Terms
terms_of present hub = record { present = present; hub = hub }

-- the standings, the number of the next, whether a listing has succeeded, the judge, what is
-- written to the default of each root hub, and the event's entries so far
pub record State (J : Type 0) : Type 0 where
  pub standings : List Standing
  pub next : ℕ
  pub listed : Bool
  pub judge : J
  pub hub : Option Write
  pub entries : List Entry

-- what a sweep from it goes by
abbrev pub terms_for : {J : Type 0} → State J → Terms
terms_for w = terms_of (not w.listed) w.hub

-- the same of the program's values
abbrev pub state_of : {J : Type 0} → Option Write → TableState → J → List Entry → State J
state_of hub table judge entries =
    record {
      standings = table.standings;
      next = table.next;
      listed = table.listed;
      judge = judge;
      hub =
          hub;
      entries = entries;
    }

abbrev pub noted : {J : Type 0} → State J → Entry → State J
noted w e = record w { entries = w.entries ++ e ∷ [] }

-- the part of it that settling a known name changes
pub record Kept : Type 0 where
  pub standings : List Standing
  pub entries : List Entry

abbrev pub kept_of : List Standing → List Entry → Kept
kept_of standings entries = record { standings = standings; entries = entries }

abbrev pub with_kept : {J : Type 0} → State J → Kept → State J
with_kept w k = record w { standings = k.standings; entries = k.entries }

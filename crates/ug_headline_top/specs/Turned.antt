-- The headline of the turns that the daemon makes.
use Rattle.std.specs.Prelude.{◌≡◌, ℕ, List, [], map, Option}
use Rattle.ug_kernel.specs.declared.control.Write.{Write}
use Rattle.ug_kernel.specs.Kernel.{Kernel}
use Rattle.ug_audit.specs.Noting.{without_drops}
use Rattle.ug_store.specs.Disk.{Disk}
use Rattle.ug_core.specs.Event.{DaemonState, IsStarted}
use Rattle.ug_core.specs.Policy.{Judging}
use Rattle.ug_core.specs.Verdicts.{IsLater}
use Rattle.ug_serve.specs.Telling.{IsRunOfTurns}
use Rattle.ug_serve.specs.Turns.{Turned, turns_entries}
use Rattle.ug_headline.specs.Headline.{IsToldAndWarranted, Seen, lines_of_run}
use Rattle.ug_headline.specs.Seeing.{line_of}

-- What is seen of the turns: their journal is the one that the auditors were given, but for its
-- `dropped` entries; and each write that authorises is warranted by it.
pub record AreWarranted (start : Judging) (first : Kernel) (turns : List Turned) (k : Kernel)
    : Type 0 where
  pub run : List Seen
  pub journal : lines_of_run run ≡ map line_of (without_drops (turns_entries turns))
  pub warranted : IsToldAndWarranted start first run k

-- so it is of turns that follow a start by settings and rules that were never used
abbrev pub TurnsAreWarranted : Type 0
TurnsAreWarranted =
    (start : Judging) (hub : Option Write) (number : ℕ) (turns : List Turned)
    (first : Kernel) (o : Option Disk) (d : DaemonState) (k : Kernel) (p : Option Disk)
    (e : DaemonState)
    → IsStarted start hub number d → IsLater start 0 [] start
    → IsRunOfTurns start hub turns first o d k p e → AreWarranted start first turns k

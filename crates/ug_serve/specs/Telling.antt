-- What the objects tell of turns.
use Rattle.std.specs.Prelude.{◌≡◌, ℕ, List, ◌++◌, map, Option, Some}
use Rattle.std.specs.List.{flat_map}
use Rattle.ug_kernel.specs.declared.control.Write.{Write}
use Rattle.ug_types.specs.declared.verdict.Moment.{Moment}
use Rattle.ug_links.specs.declared.waiter.Ready.{Ready}
use Rattle.ug_types.specs.Told.{GrowsBy}
use Rattle.ug_links.specs.declared.waiter.Waiter
use Rattle.ug_links.specs.declared.clock.Clock
use Rattle.ug_store.specs.Disk.{Disk}
use Rattle.ug_store.specs.declared.disk.RuleDisk
use Rattle.ug_audit.specs.Noting.{without_drops}
use Rattle.ug_kernel.specs.Kernel.{Kernel, IsKernel}
use Rattle.ug_kernel.specs.declared.sysfs.Sysfs
use Rattle.ug_core.specs.Policy.{Judging}
use Rattle.ug_core.specs.Event.{DaemonState, IsStarted}
use Rattle.ug_core.specs.Chain.{Happened, Chain, journal, IsRun}
use Rattle.ug_core.specs.Stops.{AllReadable}
use Rattle.ug_told_laws.specs.Told.{KeepsTold}
use Rattle.ug_links.specs.declared.step.LinkStep.{LinkStep}
use Rattle.ug_links.specs.Talk.{TellsSteps}
use Rattle.ug_links.specs.declared.links.Links
use Rattle.ug_serve.specs.Turns.{Turned, turns_events, turns_entries, TurnWorld, Turns}

abbrev pub turns_tokens : List Turned → List (List Ready)
turns_tokens turns = map (λ turn. turn.tokens) turns

abbrev pub turns_moments : List Turned → List Moment
turns_moments turns = map (λ turn. turn.moment) turns

-- the calls of the links in these turns, with their answers, in order
abbrev pub turns_calls : List Turned → List LinkStep
turns_calls turns = flat_map (λ turn. turn.comes ++ turn.sends) turns

-- The turns' events are a run of the daemon from its start, over the kernels from k to l and the
-- disks from o to p: each write that authorises is explained by the verdict in force on the very
-- device that it reached, and the rule file is kept, in texts that can be read again. Each device
-- that is there and that an event was told of stands as judged, or stays named.
pub record IsRunOfTurns (policy : Judging) (hub : Option Write) (turns : List Turned)
    (k : Kernel) (o : Option Disk) (d : DaemonState)
    (l : Kernel) (p : Option Disk) (e : DaemonState) : Type 0 where
  pub happened : List Happened
  pub events : map (λ h. h.event) happened ≡ map (λ e. e.event) (turns_events turns)
  pub entries : journal happened ≡ without_drops (turns_entries turns)
  pub chain : Chain k o d happened l p e
  pub run : IsRun policy hub k o happened l p e
  pub readable : AllReadable happened
  pub keeps : KeepsTold hub happened l e.sweep.standings

-- What holds of any turns that follow a start. Where the kernel is told at the end, one was told at
-- the start, and if that is sound, the turns are a run between the two; and what links, waiter and
-- clock tell grew by the turns' calls, tokens and moments, in order.
pub record TellTurns {Y D N W C : Type 0} (sysfs : Sysfs.Ghosts Y) (disk : RuleDisk.Ghosts D)
    (net : Links.Ghosts N) (wait : Waiter.Ghosts W) (ticks : Clock.Ghosts C)
    (policy : Judging) (hub : Option Write)
    (s : TurnWorld Y D N W C) (turns : List Turned) (t : TurnWorld Y D N W C) : Type 0 where
  pub run : (l : Kernel) → sysfs.told t.core.sysfs ≡ Some l
      → (k : Kernel) × (sysfs.told s.core.sysfs ≡ Some k)
      × (IsKernel k → IsRunOfTurns policy hub turns
      k (disk.told s.core.disk) s.core.daemon l (disk.told t.core.disk) t.core.daemon)
  pub calls : (after : List LinkStep) → net.told t.links ≡ Some after
      → TellsSteps (net.told s.links) (turns_calls turns) after
  pub tokens : (after : List (List Ready)) → wait.told t.waiter ≡ Some after
      → GrowsBy (wait.told s.waiter) (turns_tokens turns) after
  pub moments : (after : List Moment) → ticks.told t.clock ≡ Some after
      → GrowsBy (ticks.told s.clock) (turns_moments turns) after

abbrev pub TurnsTell : {Y D N W C : Type 0} → Sysfs.Ghosts Y → RuleDisk.Ghosts D
    → Links.Ghosts N → Waiter.Ghosts W → Clock.Ghosts C → Type 0
TurnsTell {Y} {D} {N} {W} {C} sysfs disk net wait ticks =
    (policy : Judging) (hub : Option Write) (first : ℕ)
    (s : TurnWorld Y D N W C) (turns : List Turned) (t : TurnWorld Y D N W C)
    → IsStarted policy hub first s.core.daemon → Turns sysfs disk net wait ticks s turns t
    → TellTurns sysfs disk net wait ticks policy hub s turns t

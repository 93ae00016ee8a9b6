-- What holds wherever a script has come to.
use Rattle.std.specs.Prelude.{◌≡◌, ◌<◌, ◌≤◌, ◌+◌, ℕ, length, true, false, List, [], Option, Some, None}
use Rattle.ug_types.specs.Elements.{AllDistinct}
use Rattle.ug_kernel.specs.Defaults.{HasOnEntries}
use Rattle.ug_kernel.specs.Kernel.{IsKernel, Kernel, Moves}
use Rattle.ug_kernel.specs.Tree.{Prog, Return, Ask, Room}
use Rattle.ug_iface.specs.Bus.{IsSoundBus}
use Rattle.ug_iface.specs.declared.rules.IfaceRule.{IfaceRule}
use Rattle.ug_sysfs.specs.Serving.{bus_in}
use Rattle.ug_sysfs.specs.World.{World, Gives, scripted_answer, event_begun, over}
use Rattle.ug_table.specs.Laws.{Stand}
use Rattle.ug_table.specs.Parts.{unsettled_names}
use Rattle.ug_script.specs.Play.{play, tells_memory}
use Rattle.ug_core.specs.Answering.{acting, asking, deed_after}
use Rattle.ug_core.specs.Event.{DaemonState, handling, has_numbers, ready}
use Rattle.ug_core.specs.Laws.{AnswersEvent, Handled, TellsEvent}
use Rattle.ug_core.specs.Storing.{stored_with, storing}
use Rattle.ug_core.specs.declared.choosing.Choice.{Choice}
use Rattle.ug_core.specs.declared.storing.Stored.{Stored}
use Rattle.ug_types.specs.Principals.{Named}
use Rattle.ug_types.specs.declared.event.Event.{Event}
use Rattle.ug_types.specs.declared.event.Event.TheVariants.{Sweep, Order, Hint}
use Rattle.ug_types.specs.declared.saved.Saved.{Saved}
use Rattle.ug_store.specs.Disk.{IsImage}
use Rattle.ug_store.specs.PlayDisk.{play_disk}
use Rattle.ug_store.specs.Scripted.{DiskWorld, plan_at, stops_by}
use Rattle.ug_store.specs.declared.mishap.Planned.{Planned}
use Rattle.ug_command_io.specs.Fold.{Going, plays}
use Rattle.ug_script.specs.Script.{Script, daemon_in, disk_in}
use Rattle.ug_script.specs.Passes.{IsPassBehind, Pass, pass_behind}
use Rattle.ug_script.specs.Replay.{Played, answered_of, disk_of, event_of, halted, script_step, stop_in, tried_by}

abbrev pub faults_of : World → ℕ
faults_of w = w.faults

abbrev pub calls_of : World → ℕ
calls_of w = w.calls

-- what became of a save that was pending
abbrev pub tried_of : Script → Option Saved
tried_of s = (tried_by (daemon_in s) (disk_of s)).0

-- what the order of an event begins with
abbrev pub order_ready : Event → Script → DaemonState
order_ready event s = ready event (tried_of s) (daemon_in s)

-- The first of so many calls of the disk for which the last line stops the machine in it: the call
-- in which it stops.
pub record IsFirstStop (plan : List Planned) (calls call : ℕ) : Type 0 where
  pub first : 1 ≤ call
  pub among : call ≤ calls
  pub planned : stops_by (plan_at call None plan) ≡ true
  pub none : (earlier : ℕ) → 1 ≤ earlier → earlier < call
      → stops_by (plan_at earlier None plan) ≡ false

-- for none of them it does
abbrev pub HasNoStop : List Planned → ℕ → Type 0
HasNoStop plan calls =
    (call : ℕ) → 1 ≤ call → call ≤ calls → stops_by (plan_at call None plan) ≡ false

-- the kernel before the first call that a tree makes of that world, and behind each call, is so
abbrev pub BehindEach : {R : Type 0} → (Kernel → Type 0) → Prog R → World → Type 0
BehindEach holds (Return value) w = holds w.kernel
BehindEach holds (Ask call next) w =
    holds w.kernel × BehindEach holds (next (scripted_answer w call).0) (scripted_answer w call).1
BehindEach holds (Room next) w = BehindEach holds (next true) w

-- what is done in an order, where this was chosen and that became of the save of its change
abbrev pub done_with : Named → DaemonState → Choice → Stored → Prog DaemonState
done_with who d chosen became =
    acting who (stored_with became chosen.change d) (deed_after became chosen.deed)

abbrev pub EachInDeed : (Kernel → Type 0) → Named → DaemonState → Choice × World → DiskWorld
    → Type 0
EachInDeed holds who d chosen o =
    BehindEach holds
    (done_with who d chosen.0 (play_disk (storing d chosen.0.change) o).0) chosen.1

-- in the order of an event: before the save of its change, and behind it
abbrev pub EachInOrder : (Kernel → Type 0) → Event → DaemonState → World → DiskWorld → Type 0
EachInOrder holds (Sweep moment) d w o = holds w.kernel
EachInOrder holds (Hint moment piece) d w o = holds w.kernel
EachInOrder holds (Order moment who line) d w o =
    BehindEach holds (asking d who line) w
    × EachInDeed holds who d (play (asking d who line) w) o

-- behind each call of an event, if one comes next: in its order, in its sweep, and at its end. It
-- is so too where the machine stops
abbrev pub AtEachCall : (Kernel → Type 0) → Event → Script → World → Type 0
AtEachCall holds event s w =
    EachInOrder holds event (order_ready event s)
    (halted (tried_by (daemon_in s) (disk_of s)).1 (event_begun w))
    (tried_by (daemon_in s) (disk_of s)).1
    × BehindEach holds (handling (answered_of event s w).daemon)
    (halted (answered_of event s w).disk (answered_of event s w).world)
    × holds (over (event_of event s w).world).kernel

-- what stands behind an event
abbrev pub behind_event : List IfaceRule → Played → Pass
behind_event rules p = pass_behind rules p.daemon p.world

-- is its pass
abbrev pub HasPass : List IfaceRule → Played → Type 0
HasPass rules p =
    IsPassBehind rules p.daemon p.world (behind_event rules p).text (behind_event rules p).world

-- An event, if one comes next. Its order is refused and changes nothing but that a save may have
-- failed, or was given by one who may and does that alone which it asks for, once its change is
-- saved. The sweep behind it is fair and leaves each device settled or named. The calls of the
-- kernel are those of the order, the listing and one part for each name; unless the machine stops
-- in a call of the disk, each that failed is told with its number and its count, and no other is;
-- no name is told twice as unsettled; and none of the entries tells want of memory, as a script
-- refuses none. Where the machine stops, no device is written to in this event. The machine stops
-- in the first call of the disk for which lines stop it, which is the one that `stopped` tells, and
-- it does where there is one. A device that was born while its controller's default was off is on
-- only after an On entry, behind each call, if so it was before. Devices and interfaces stay sound;
-- and where the machine doesn't stop, the pass behind the event is one call of `settle_ifaces` for
-- each standing that it goes over. In a pass devices only come and go.
pub record IsLawfulEvent (event : Event) (s : Script) (w : World) : Type 0 where
  pub answers : AnswersEvent event w.kernel (order_ready event s) (answered_of event s w).became
      (answered_of event s w).world.kernel (answered_of event s w).daemon
  pub handled : Handled (answered_of event s w).world.kernel (answered_of event s w).daemon
      (event_of event s w).world.kernel (event_of event s w).daemon
  pub faults : (event_of event s w).disk.stopped ≡ false
      → TellsEvent Gives calls_of faults_of event (event_begun w) (order_ready event s)
      (answered_of event s w).became (answered_of event s w).world (answered_of event s w).daemon
      (event_of event s w).world (event_of event s w).daemon
  pub once : AllDistinct (unsettled_names (event_of event s w).daemon.sweep.entries)
  pub room : tells_memory (event_of event s w).daemon.sweep.entries ≡ false
  pub unwritten : (event_of event s w).disk.stopped ≡ true
      → (event_of event s w).world.kernel.log ≡ w.kernel.log
  pub stop : (event_of event s w).disk.stopped ≡ true
      → IsFirstStop s.planned (event_of event s w).disk.calls
      (stop_in s.planned (event_of event s w))
  pub running : (event_of event s w).disk.stopped ≡ false
      → HasNoStop s.planned (event_of event s w).disk.calls
  pub on_entries : HasOnEntries w.kernel → AtEachCall HasOnEntries event s w
  pub bus : IsSoundBus (bus_in w) → IsSoundBus (bus_in (event_of event s w).world)
  pub moved : Moves (event_of event s w).world.kernel
      (behind_event s.setup.ifaces (event_of event s w)).world.kernel
  pub passed : (event_of event s w).disk.stopped ≡ false
      → HasPass s.setup.ifaces (event_of event s w)

-- how many devices there are, with those that moves may still bring
abbrev pub coming_in : World → ℕ
coming_in w = length w.moves + length w.kernel.devices

-- no failure was counted, devices and interfaces are sound, and there are few devices
abbrev pub IsFaultless : World → Type 0
IsFaultless w = (w.faults ≡ 0) × IsSoundBus (bus_in w) × (coming_in w ≤ 1048576)

-- The kernel is sound, and a device that was born while its controller's default was off is on only
-- after an On entry, if it was so in the first world; and each standing of the daemon, or of the
-- one that an event would start, is of one of its devices; and so is an event, if one comes next.
-- The disk is told, and a crash may leave the rule file as it is. And where the first world was
-- without faults, the numbers leave room for one, so that the line of an event is never bad. Where
-- devices and interfaces were sound at first, they are.
pub record IsLawful (first : World) (s : Script) (w : World) : Type 0 where
  pub sound : IsKernel w.kernel
  pub on_entries : HasOnEntries first.kernel → HasOnEntries w.kernel
  pub bus : IsSoundBus (bus_in first) → IsSoundBus (bus_in w)
  pub stand : Stand w.kernel (daemon_in s).sweep.standings (daemon_in s).sweep.next
  pub events : (event : Event) → IsLawfulEvent event s w
  pub told : (disk_in s).ran_out ≡ false
  pub possible : IsImage (disk_in s).disk.left (disk_in s).disk.text
  pub numbers : IsFaultless first → has_numbers (daemon_in s) w.faults (disk_in s).faults ≡ true

-- wherever lines lead from a world without a daemon
abbrev pub StaysLawful : World → Type 0
StaysLawful first = (lines : List (List ℕ)) (n : ℕ) (text : List ℕ) (s : Script) (w : World)
    → plays script_step (Going 0 [] (None, first)) lines ≡ Going n text (Some s, w)
    → IsLawful first s w

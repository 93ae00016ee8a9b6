-- The calls of an event, in order; and that the moves of lines happen at just those that they name.
use Rattle.std.specs.Prelude.{◌≡◌, ℕ, true, cond, List, [], ◌∷◌, ◌++◌, flat_map, length, Some, None}
use Rattle.ug_types.specs.Principals.{Named}
use Rattle.ug_types.specs.declared.event.Event.{Event}
use Rattle.ug_types.specs.declared.event.Event.TheVariants.{Sweep, Order, Hint}
use Rattle.ug_kernel.specs.Calls.{Call, Names, Open, Read, Ask_alive, Put, Close, Answer}
use Rattle.ug_kernel.specs.Tree.{Prog, Return, Ask, Room}
use Rattle.ug_iface.specs.Calls as iface
use Rattle.ug_iface.specs.Calls.{IfaceCall, IfaceAnswer, Names_of, Ask_device, Put_off}
use Rattle.ug_iface.specs.Order.{in_iface_order}
use Rattle.ug_iface.specs.Settle.{Aim, beginning, walking}
use Rattle.ug_iface.specs.Tree as tree
use Rattle.ug_iface.specs.Tree.{IfaceProg, Make}
use Rattle.ug_iface.specs.declared.rules.IfaceRule.{IfaceRule}
use Rattle.ug_iface.specs.declared.settle.Begun.{Begun}
use Rattle.ug_iface.specs.declared.settle.Begun.TheVariants.{Walks, Ends}
use Rattle.ug_sysfs.specs.declared.script.Scheduled.{Scheduled}
use Rattle.ug_sysfs.specs.AtCalls.{AnyCall, AreCallsAt, IsRestDone, Of_devices, Of_ifaces}
use Rattle.ug_sysfs.specs.Serving.{bus_in, iface_answer_of}
use Rattle.ug_sysfs.specs.World.{World, event_begun, over, scripted_answer}
use Rattle.ug_command_io.specs.Fold.{Going, plays}
use Rattle.ug_core.specs.Answering.{asking}
use Rattle.ug_core.specs.Event.{DaemonState, handling, has_numbers}
use Rattle.ug_core.specs.Storing.{storing}
use Rattle.ug_core.specs.declared.choosing.Choice.{Choice}
use Rattle.ug_store.specs.PlayDisk.{play_disk}
use Rattle.ug_store.specs.Scripted.{DiskWorld}
use Rattle.ug_script.specs.Journal.{left_by}
use Rattle.ug_script.specs.Laws.{behind_event, done_with, order_ready}
use Rattle.ug_script.specs.Passes.{aims_in, device_pass, play_ifaces}
use Rattle.ug_script.specs.Play.{play}
use Rattle.ug_script.specs.Replay.{answered_of, disk_of, event_of, event_taken, halted, script_step, tried_by}
use Rattle.ug_script.specs.Schedules.{move_asked, since_event}
use Rattle.ug_script.specs.Script.{Script, can_start, daemon_in, disk_in}
use Rattle.ug_script.specs.Setup.{steps_of}

-- ---- programs

-- a call that has a number; closing has none
abbrev pub numbered_call : (call : Call) → Answer call → List AnyCall
numbered_call Names answer = Of_devices Names answer ∷ []
numbered_call (Open name control) answer = Of_devices (Open name control) answer ∷ []
numbered_call (Read name attr) answer = Of_devices (Read name attr) answer ∷ []
numbered_call (Ask_alive held) answer = Of_devices (Ask_alive held) answer ∷ []
numbered_call (Put held write) answer = Of_devices (Put held write) answer ∷ []
numbered_call (Close held) answer = []

abbrev pub numbered_iface_call : (call : IfaceCall) → IfaceAnswer call → List AnyCall
numbered_iface_call (Names_of name) answer = Of_ifaces (Names_of name) answer ∷ []
numbered_iface_call (iface.Open name) answer = Of_ifaces (iface.Open name) answer ∷ []
numbered_iface_call (iface.Read name) answer = Of_ifaces (iface.Read name) answer ∷ []
numbered_iface_call (Ask_device held) answer = Of_ifaces (Ask_device held) answer ∷ []
numbered_iface_call (iface.Ask held) answer = Of_ifaces (iface.Ask held) answer ∷ []
numbered_iface_call (Put_off held) answer = Of_ifaces (Put_off held) answer ∷ []
numbered_iface_call (iface.Close held) answer = []

-- the calls of a program, where the script alone answers them (`play`)
abbrev pub calls_played : {R : Type 0} → Prog R → World → List AnyCall
calls_played (Return value) w = []
calls_played (Ask call next) w =
    numbered_call call (scripted_answer w call).0
    ++ calls_played (next (scripted_answer w call).0) (scripted_answer w call).1
calls_played (Room next) w = calls_played (next true) w

abbrev pub iface_calls_played : {R : Type 0} → IfaceProg R → World → List AnyCall
iface_calls_played (tree.Return value) w = []
iface_calls_played (Make call next) w =
    numbered_iface_call call (iface_answer_of w call).0
    ++ iface_calls_played (next (iface_answer_of w call).0) (iface_answer_of w call).1
iface_calls_played (tree.Room next) w = iface_calls_played (next true) w

-- ---- an event

-- those of what is done in an order, where this was chosen
abbrev pub deed_calls : Named → DaemonState → Choice × World → DiskWorld → List AnyCall
deed_calls who d chosen o =
    calls_played (done_with who d chosen.0 (play_disk (storing d chosen.0.change) o).0) chosen.1

-- those of its order
abbrev pub order_calls : Event → DaemonState → World → DiskWorld → List AnyCall
order_calls (Sweep moment) d w o = []
order_calls (Hint moment piece) d w o = []
order_calls (Order moment who line) d w o =
    calls_played (asking d who line) w ++ deed_calls who d (play (asking d who line) w) o

-- those of its last stage too
abbrev pub event_calls : Event → Script → World → List AnyCall
event_calls event s w =
    order_calls event (order_ready event s)
    (halted (tried_by (daemon_in s) (disk_of s)).1 (event_begun w))
    (tried_by (daemon_in s) (disk_of s)).1
    ++ calls_played (handling (answered_of event s w).daemon)
    (halted (answered_of event s w).disk (answered_of event s w).world)

-- ---- its pass

abbrev pub walk_calls : Aim → Begun × World → List AnyCall
walk_calls aim (Ends end, w) = []
walk_calls aim (Walks names, w) = iface_calls_played (walking aim (in_iface_order names) []) w

abbrev pub device_calls : Aim → World → List AnyCall
device_calls aim w =
    iface_calls_played (beginning aim.device.via_port) w
    ++ walk_calls aim (play_ifaces (beginning aim.device.via_port) w)

abbrev pub calls_over : List Aim → World → List AnyCall
calls_over [] w = []
calls_over (aim ∷ aims) w = device_calls aim w ++ calls_over aims (device_pass aim w).world

abbrev pub pass_calls : List IfaceRule → DaemonState → World → List AnyCall
pass_calls [] d w = []
pass_calls (rule ∷ rules) d w = calls_over (aims_in (rule ∷ rules) d.sweep.standings) w

-- ---- both

-- all calls of an event, and of the pass behind it unless the machine stops
abbrev pub calls_of_event : Event → Script → World → List AnyCall
calls_of_event event s w =
    event_calls event s w
    ++ cond (event_of event s w).disk.stopped []
    (pass_calls s.setup.ifaces (event_of event s w).daemon (event_of event s w).world)

-- what they leave
abbrev pub behind_calls : Event → Script → World → World
behind_calls event s w =
    cond (event_of event s w).disk.stopped (event_of event s w).world
    (behind_event s.setup.ifaces (event_of event s w)).world

-- An event, if one comes next, for which lines wrote these moves. Its calls are numbered from 1 on,
-- those of its order, of its last stage and of the pass behind it. Each has the moves of just the
-- lines that name it, of devices and of interfaces: at its start those of `before`, behind its
-- effect those of `after`, in the order of the lines. What names a later call happens behind them
-- all, in its turn, and that is what the line of the event leaves.
pub record MovesAtCalls (written : List Scheduled) (event : Event) (s : Script) (w : World) : Type 0
  where
    pub calls : AreCallsAt written 0 (calls_of_event event s w) (bus_in w)
        (bus_in (behind_calls event s w))
    pub rest : IsRestDone written (length (calls_of_event event s w))
        (bus_in (behind_calls event s w)) (bus_in (over (behind_calls event s w)))
    pub left : can_start s.setup s.phase ≡ true
        → has_numbers (daemon_in s) w.faults (disk_in s).faults ≡ true
        → (left_by (event_taken event s w)).1 ≡ over (behind_calls event s w)

-- the lines are those since the event before
abbrev pub StaysAtCalls : World → Type 0
StaysAtCalls first = (lines : List (List ℕ)) (n : ℕ) (text : List ℕ) (s : Script) (w : World)
    → plays script_step (Going 0 [] (None, first)) lines ≡ Going n text (Some s, w)
    → (event : Event)
    → MovesAtCalls (flat_map move_asked (since_event (steps_of lines))) event s w

-- A kernel with its script, and what the script fixes.
use Rattle.std.specs.Prelude.{◌≡◌, ℕ, ◌+◌, ◌-◌, ◌^◌, Bool, true, false, cond, not, ◌&&◌, ◌||◌, ◌⊎◌, eqb, nat_lt, List, [], ◌∷◌, ◌++◌, length, set, Option, Some, None}
use Rattle.std.specs.List.{slice_get}
use Rattle.ug_kernel.specs.declared.device.Device.{Device}
use Rattle.ug_kernel.specs.declared.device.HeldFile.{HeldFile}
use Rattle.ug_kernel.specs.declared.control.Control.{Control}
use Rattle.ug_kernel.specs.declared.control.Attr.{Attr}
use Rattle.ug_kernel.specs.declared.control.Write.{Write}
use Rattle.ug_kernel.specs.declared.calls.Listing.TheVariants as listing
use Rattle.ug_kernel.specs.declared.calls.Opened.{Opened}
use Rattle.ug_kernel.specs.declared.calls.Opened.TheVariants as opened
use Rattle.ug_kernel.specs.declared.calls.ReadOut.{ReadOut}
use Rattle.ug_kernel.specs.declared.calls.ReadOut.TheVariants as out
use Rattle.ug_kernel.specs.declared.calls.Probe.{Probe}
use Rattle.ug_kernel.specs.declared.calls.Probe.TheVariants as probe
use Rattle.ug_kernel.specs.declared.calls.Wrote.{Wrote}
use Rattle.ug_kernel.specs.declared.calls.Wrote.TheVariants as wrote
use Rattle.ug_kernel.specs.Calls.{Call, Names, Open, Read, Ask_alive, Put, Close, Closed, Answer, raised}
use Rattle.ug_kernel.specs.Kernel.{Kernel, has_file}
use Rattle.ug_kernel.specs.Called.{read_of, written_to}
use Rattle.ug_sysfs.specs.declared.script.Failing.{Failing}
use Rattle.ug_sysfs.specs.declared.script.Move.{Move}
use Rattle.ug_sysfs.specs.declared.script.Move.TheVariants.{Plug, Unplug, Iface}
use Rattle.ug_sysfs.specs.declared.script.Scheduled.{Scheduled}
use Rattle.ug_kernel.specs.declared.record.CallRecord.{CallRecord}
use Rattle.ug_iface.specs.declared.interface.Interface.{Interface}
use Rattle.ug_sysfs.specs.Devices.{find, plugged, unplugged}
use Rattle.ug_sysfs.specs.Interfaces.{iface_moved, adds_in}
use Rattle.ug_sysfs.specs.Reply.{Reply, failing_reply, is_failure, is_failed, IsMemory, calls_listed}

-- devices, and interfaces with their held files and the log of those that were switched off; what
-- is still to come, which calls fail, the event's calls, and whether an entry of a log or of these
-- calls found no memory
pub record World : Type 0 where
  pub kernel : Kernel
  pub interfaces : List Interface
  pub iface_files : List ℕ
  pub iface_log : List ℕ
  pub moves : List Scheduled
  pub fails : List Failing
  pub halted : Bool
  pub calls : ℕ
  pub faults : ℕ
  pub made : List CallRecord
  pub ran_out : Bool

-- one fault more, up to the greatest number of 64 bits
abbrev pub one_fault_more : ℕ → ℕ
one_fault_more n = cond (nat_lt n (2 ^ 64 - 1)) (n + 1) n

abbrev pub moved : Move → List Device → List Device
moved (Plug d) ds = plugged d ds
moved (Unplug name) ds = unplugged name ds
moved (Iface change) ds = ds

-- an interface goes with its device by itself
abbrev pub ifaces_moved : Move → List Device → List Interface → List Interface
ifaces_moved (Plug d) ds xs = xs
ifaces_moved (Unplug name) ds xs = xs
ifaces_moved (Iface change) ds xs = iface_moved change ds xs

-- whether a move has its turn, before the effect of call n or after it
abbrev pub due : ℕ → Bool → Scheduled → Bool
due n after m = nat_lt m.call n || (eqb m.call n && (not m.after || after))

abbrev pub first_is_due : ℕ → Bool → List Scheduled → Bool
first_is_due n after [] = false
first_is_due n after (m ∷ ms) = due n after m

-- the moves from the front on that have their turn
abbrev pub happen : ℕ → Bool → List Scheduled → List Device → List Scheduled × List Device
happen n after [] ds = ([], ds)
happen n after (m ∷ ms) ds =
    cond (due n after m) (happen n after ms (moved m.action ds)) (m ∷ ms, ds)

-- all of them
abbrev pub happen_all : List Scheduled → List Device → List Device
happen_all [] ds = ds
happen_all (m ∷ ms) ds = happen_all ms (moved m.action ds)

-- what the same moves leave of the interfaces
abbrev pub ifaces_happen : ℕ → Bool → List Scheduled → List Device → List Interface
    → List Interface
ifaces_happen n after [] ds xs = xs
ifaces_happen n after (m ∷ ms) ds xs =
    cond (due n after m)
    (ifaces_happen n after ms (moved m.action ds) (ifaces_moved m.action ds xs)) xs

abbrev pub ifaces_happen_all : List Scheduled → List Device → List Interface → List Interface
ifaces_happen_all [] ds xs = xs
ifaces_happen_all (m ∷ ms) ds xs =
    ifaces_happen_all ms (moved m.action ds) (ifaces_moved m.action ds xs)

abbrev pub plugs_of : Move → ℕ
plugs_of (Plug d) = 1
plugs_of (Unplug name) = 0
plugs_of (Iface change) = 0

-- how many devices are still to be born, at most
abbrev pub plugs : List Scheduled → ℕ
plugs [] = 0
plugs (m ∷ ms) = plugs_of m.action + plugs ms

abbrev pub iface_adds_of : Move → ℕ
iface_adds_of (Plug d) = 0
iface_adds_of (Unplug name) = 0
iface_adds_of (Iface change) = adds_in change

-- how many interfaces are still to be added, at most
abbrev pub iface_adds : List Scheduled → ℕ
iface_adds [] = 0
iface_adds (m ∷ ms) = iface_adds_of m.action + iface_adds ms

-- whether call n fails, and then whether it has its effect. The last line counts
abbrev pub fate : ℕ → Option Bool → List Failing → Option Bool
fate n so_far [] = so_far
fate n so_far (f ∷ fs) = fate n (cond (eqb f.call n) (Some f.effect) so_far) fs

abbrev pub live_names : List Device → List (List ℕ)
live_names [] = []
live_names (d ∷ ds) = cond d.gone (live_names ds) (d.name ∷ live_names ds)

-- the device at a place, where it has that file

abbrev pub if_has : Control → ℕ → Option Device → Option ℕ
if_has control i None = None
if_has control i (Some d) = cond (has_file control d) (Some i) None

abbrev pub with_file : Control → Option ℕ → List Device → Option ℕ
with_file control None ds = None
with_file control (Some i) ds = if_has control i (slice_get ds i)

abbrev pub opened_at : Control → Option ℕ → Kernel → Opened × Kernel
opened_at control None k = (opened.Absent, k)
opened_at control (Some i) k = (
  opened.Token (record { 0 = length k.held }),
  record k
      { held = k.held ++ record { device = i; control = control } ∷ [] },
)

abbrev pub read_from : Attr → Option Device → ReadOut
read_from attr None = out.Absent
read_from attr (Some d) = read_of attr d

abbrev pub read_at : Attr → Option ℕ → List Device → ReadOut
read_at attr None ds = out.Absent
read_at attr (Some i) ds = read_from attr (slice_get ds i)

abbrev pub if_live : ℕ → Option Device → Option ℕ
if_live i None = None
if_live i (Some d) = cond d.gone None (Some i)

abbrev pub live_place : Option HeldFile → List Device → Option ℕ
live_place None ds = None
live_place (Some file) ds = if_live file.device (slice_get ds file.device)

-- the device of a held file, unless it is gone
abbrev pub live_held : ℕ → List HeldFile → List Device → Option ℕ
live_held h held ds = live_place (slice_get held h) ds

abbrev pub alive_of : Option Device → Probe
alive_of None = probe.Gone
alive_of (Some d) = probe.Alive d.on

abbrev pub probed_at : Option ℕ → List Device → Probe
probed_at None ds = probe.Gone
probed_at (Some i) ds = alive_of (slice_get ds i)

abbrev pub switched_to : Write → ℕ → Option Device → List Device → List Device
switched_to write i None ds = ds
switched_to write i (Some d) ds = set ds i (written_to write d)

abbrev pub switched : Write → ℕ → List Device → List Device
switched write i ds = switched_to write i (slice_get ds i) ds

abbrev pub put_at : Write → Option ℕ → Kernel → Wrote × Kernel
put_at write None k = (wrote.Gone, k)
put_at write (Some i) k = (
  wrote.Done,
  record k {
    devices = switched write i k.devices;
    log = k.log ++ record { device = i; write = write } ∷ [];
  },
)

-- what a call answers, and what it does
abbrev pub act : (call : Call) → Kernel → Reply call × Kernel
act Names k = (listing.Names (live_names k.devices), k)
act (Open name control) k =
    opened_at control (with_file control (find name 0 k.devices) k.devices) k
act (Read name attr) k = (read_at attr (find name 0 k.devices) k.devices, k)
act (Ask_alive held) k = (probed_at (live_held held k.held k.devices) k.devices, k)
act (Put held write) k = put_at write (live_held held k.held k.devices) k
act (Close held) k = (Closed, k)

-- what a failed call does that has its effect
abbrev pub hidden : Call → Kernel → Kernel
hidden (Put held write) k = (put_at write (live_held held k.held k.devices) k).1
hidden Names k = k
hidden (Open name control) k = k
hidden (Read name attr) k = k
hidden (Ask_alive held) k = k
hidden (Close held) k = k

abbrev pub effect : Option Bool → (call : Call) → Kernel → Reply call × Kernel
effect None call k = act call k
effect (Some b) call k = (failing_reply call, cond b (hidden call k) k)

abbrev pub shift : ℕ → Bool → World → World
shift n after w = record w {
  kernel = record w.kernel { devices = (happen n after w.moves w.kernel.devices).1 };
  interfaces = ifaces_happen n after w.moves w.kernel.devices w.interfaces;
  moves = (happen n after w.moves w.kernel.devices).0;
  calls = n;
}

-- a call begins: it has its number, and the moves before its effect happen
abbrev pub entered : World → World
entered w = shift (raised w.calls) false w

-- the moves after its effect happen, and the call is listed
abbrev pub call_noted : List CallRecord → World → World
call_noted made w = record (shift w.calls true w) { made = w.made ++ made }

abbrev pub call_ended : (call : Call) → Reply call → World → World
call_ended call reply w = call_noted (calls_listed call reply) w

-- a call of a kernel that is halted fails without effect
abbrev pub fate_of : World → Option Bool
fate_of w = cond w.halted (Some false) (fate w.calls None w.fails)

-- no call fails by itself
abbrev pub IsUnfailing : World → Type 0
IsUnfailing w = (w.fails ≡ []) × (w.halted ≡ false)

abbrev pub faults_after : Option Bool → ℕ → ℕ
faults_after None n = n
faults_after (Some b) n = one_fault_more n

-- a call that fails is counted
abbrev pub failure_counted : World → World
failure_counted w = record w { faults = faults_after (fate_of w) w.faults }

abbrev pub with_kernel : World → Kernel → World
with_kernel w k = record w { kernel = k }

-- the answer that a call returns in a world
abbrev pub told_as : (call : Call) → Reply call → World → Answer call
told_as Names reply w = record { answer = reply; number = w.calls; count = w.faults }
told_as (Open name control) reply w = record { answer = reply; number = w.calls; count = w.faults }
told_as (Read name attr) reply w = record { answer = reply; number = w.calls; count = w.faults }
told_as (Ask_alive held) reply w = record { answer = reply; number = w.calls; count = w.faults }
told_as (Put held write) reply w = record { answer = reply; number = w.calls; count = w.faults }
told_as (Close held) reply w = Closed

abbrev pub answering : (call : Call) → Reply call → World → Answer call × World
answering call reply w = (told_as call reply w, w)

-- the call's effect in a world that it has entered, and its end
abbrev pub answer_from : World → (call : Call) → Answer call × World
answer_from w call =
    answering call (effect (fate_of w) call w.kernel).0
    (call_ended call (effect (fate_of w) call w.kernel).0
    (with_kernel (failure_counted w) (effect (fate_of w) call w.kernel).1))

-- a kernel that has run out fails
abbrev pub refused : World → World
refused w = record w { calls = raised w.calls; faults = one_fault_more w.faults }

abbrev pub refusing_memory : World → (call : Call) → Answer call × World
refusing_memory w call = answering call (failing_reply call) (refused w)

abbrev pub answer_unless : Bool → World → (call : Call) → Answer call × World
answer_unless out w (Close held) = (Closed, w)
answer_unless out w Names = cond out (refusing_memory w Names) (answer_from (entered w) Names)
answer_unless out w (Open name control) =
    cond out (refusing_memory w (Open name control)) (answer_from (entered w) (Open name control))
answer_unless out w (Read name attr) =
    cond out (refusing_memory w (Read name attr)) (answer_from (entered w) (Read name attr))
answer_unless out w (Ask_alive held) =
    cond out (refusing_memory w (Ask_alive held)) (answer_from (entered w) (Ask_alive held))
answer_unless out w (Put held write) =
    cond out (refusing_memory w (Put held write)) (answer_from (entered w) (Put held write))

-- what the script fixes. Closing changes nothing
abbrev pub scripted_answer : World → (call : Call) → Answer call × World
scripted_answer w call = answer_unless w.ran_out w call

-- a call begins, unless the kernel has run out
abbrev pub Enters : World → Bool → World → Type 0
Enters w true u = (w.ran_out ≡ false) × (u ≡ entered w)
Enters w false u = (w.ran_out ≡ true) × (u ≡ refused w)

-- the effect of a call that has begun, and its reply
abbrev pub Effects : World → (call : Call) → Reply call → World → Type 0
Effects w call reply u =
    (((reply ≡ (effect (fate_of w) call w.kernel).0)
    × (u ≡ with_kernel (failure_counted w) (effect (fate_of w) call w.kernel).1))
    ⊎ ((IsMemory call reply × (u ≡ w) × (fate_of w ≡ None))
    ⊎ ((reply ≡ failing_reply call) × (u.ran_out ≡ true) × (u.calls ≡ w.calls))))
    × (u.faults ≡ cond (is_failure call reply) (one_fault_more w.faults) w.faults)

-- the call is listed, or there is no memory for that. A call that then fails is counted
abbrev pub Ends : World → CallRecord → Bool → World → Type 0
Ends w made true u = u ≡ call_noted (made ∷ []) w
Ends w made false u =
    (u.ran_out ≡ true) × (u.calls ≡ w.calls)
    × (u.faults ≡ cond (is_failed made.kind) w.faults (one_fault_more w.faults))

-- a write that has its effect
abbrev pub PutsWrite : World → ℕ → Write → Wrote → World → Type 0
PutsWrite w held write reply u =
    (reply ≡ (act (Put held write) w.kernel).0)
    × (u ≡ with_kernel w (act (Put held write) w.kernel).1)

abbrev pub RunsOut : World → World → Type 0
RunsOut w u = (u.ran_out ≡ true) × (u.calls ≡ w.calls) × (u.faults ≡ w.faults)

abbrev pub IsListedCall : Call → Type 0
IsListedCall (Close held) = ⊥
IsListedCall Names = Unit {0}
IsListedCall (Open name control) = Unit {0}
IsListedCall (Read name attr) = Unit {0}
IsListedCall (Ask_alive held) = Unit {0}
IsListedCall (Put held write) = Unit {0}

-- memory for the answer was refused: the call does nothing, but it is counted, and its moves happen
pub record Wants (s : World) (call : Call) (a : Answer call) (t : World) : Type 0 where
  pub reply : Reply call
  pub memory : IsMemory call reply
  pub ran : s.ran_out ≡ false
  pub unscheduled : fate_of (entered s) ≡ None
  pub after : t ≡ call_ended call reply (entered s)
  pub answer : a ≡ told_as call reply t

-- memory for an entry was refused: the call fails, and nothing is told from then on
pub record Loses (s : World) (call : Call) (a : Answer call) (t : World) : Type 0 where
  pub listed : IsListedCall call
  pub out : t.ran_out ≡ true
  pub call_counted : t.calls ≡ raised s.calls
  pub fault_counted : t.faults ≡ one_fault_more s.faults
  pub answer : a ≡ told_as call (failing_reply call) t

-- the script's answer; or want of memory
abbrev pub Gives : World → (call : Call) → Answer call → World → Type 0
Gives s call a t =
    ((a ≡ (scripted_answer s call).0) × (t ≡ (scripted_answer s call).1))
    ⊎ (Wants s call a t ⊎ Loses s call a t)

-- an event begins
abbrev pub event_begun : World → World
event_begun w = record w { calls = 0; made = [] }

-- each call fails from now on, up to the event's end
abbrev pub halting : World → World
halting w = record w { halted = true }

-- the kernel did something by itself
abbrev pub carried : Move → World → World
carried action w = record w {
  kernel = record w.kernel { devices = moved action w.kernel.devices };
  interfaces = ifaces_moved action w.kernel.devices w.interfaces;
}

-- an event is over: what is still to come happens, and no call fails any more
abbrev pub over : World → World
over w = record w {
  kernel = record w.kernel { devices = happen_all w.moves w.kernel.devices };
  interfaces = ifaces_happen_all w.moves w.kernel.devices w.interfaces;
  moves = [];
  fails = [];
  halted = false;
}

abbrev pub told : World → Option Kernel
told w = cond w.ran_out None (Some w.kernel)

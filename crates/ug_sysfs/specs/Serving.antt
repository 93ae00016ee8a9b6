-- What the files of interfaces answer, and what a script fixes of that.
use Rattle.std.specs.Prelude.{◌≡◌, ℕ, Bool, true, false, cond, ◌⊎◌, List, [], ◌∷◌, ◌++◌, length, Option, Some, None}
use Rattle.std.specs.List.{slice_get}
use Rattle.ug_kernel.specs.declared.calls.Probe.{Probe}
use Rattle.ug_kernel.specs.declared.calls.Probe.TheVariants as probe
use Rattle.ug_kernel.specs.declared.calls.Wrote.{Wrote}
use Rattle.ug_kernel.specs.declared.calls.Wrote.TheVariants as wrote
use Rattle.ug_kernel.specs.Calls.{Closing, Closed, is_probe_failed, failed_put, raised}
use Rattle.ug_iface.specs.declared.interface.Interface.{Interface}
use Rattle.ug_iface.specs.declared.calls.IfaceListing.{IfaceListing}
use Rattle.ug_iface.specs.declared.calls.IfaceListing.TheVariants as listing
use Rattle.ug_iface.specs.declared.calls.IfaceOpened.{IfaceOpened}
use Rattle.ug_iface.specs.declared.calls.IfaceOpened.TheVariants as opened
use Rattle.ug_iface.specs.declared.calls.IfaceRead.{IfaceRead}
use Rattle.ug_iface.specs.declared.calls.IfaceRead.TheVariants as read
use Rattle.ug_iface.specs.Bus.{Bus}
use Rattle.ug_iface.specs.Calls.{IfaceCall, Names_of, Open, Read, Ask_device, Ask, Put_off, Close, IfaceAnswer, failed_iface_listing, failed_iface_open, failed_iface_read}
use Rattle.ug_sysfs.specs.Devices.{find}
use Rattle.ug_sysfs.specs.Interfaces.{place_named, with_iface_off, iface_names, live_iface}
use Rattle.ug_sysfs.specs.World.{World, probed_at, live_held, shift, entered, fate_of, failure_counted, one_fault_more, refused}

-- ---- replies

-- what a call's method returns
abbrev pub IfaceReply : IfaceCall → Type 0
IfaceReply (Names_of name) = IfaceListing
IfaceReply (Open name) = IfaceOpened
IfaceReply (Read name) = IfaceRead
IfaceReply (Ask_device held) = Probe
IfaceReply (Ask held) = Probe
IfaceReply (Put_off held) = Wrote
IfaceReply (Close held) = Closing

-- a failure. Closing has none
abbrev pub iface_failure : (call : IfaceCall) → IfaceReply call
iface_failure (Names_of name) = listing.Failed
iface_failure (Open name) = opened.Failed
iface_failure (Read name) = read.Failed
iface_failure (Ask_device held) = probe.Failed
iface_failure (Ask held) = probe.Failed
iface_failure (Put_off held) = wrote.Failed
iface_failure (Close held) = Closed

abbrev pub is_iface_failure : (call : IfaceCall) → IfaceReply call → Bool
is_iface_failure (Names_of name) reply = failed_iface_listing reply
is_iface_failure (Open name) reply = failed_iface_open reply
is_iface_failure (Read name) reply = failed_iface_read reply
is_iface_failure (Ask_device held) reply = is_probe_failed reply
is_iface_failure (Ask held) reply = is_probe_failed reply
is_iface_failure (Put_off held) reply = failed_put reply
is_iface_failure (Close held) reply = false

-- want of memory, where the call takes memory
abbrev pub IsIfaceMemory : (call : IfaceCall) → IfaceReply call → Type 0
IsIfaceMemory (Names_of name) reply = reply ≡ listing.Memory
IsIfaceMemory (Open name) reply = reply ≡ opened.Memory
IsIfaceMemory (Read name) reply = ⊥
IsIfaceMemory (Ask_device held) reply = ⊥
IsIfaceMemory (Ask held) reply = ⊥
IsIfaceMemory (Put_off held) reply = ⊥
IsIfaceMemory (Close held) reply = ⊥

-- a write takes an entry of the log
abbrev pub TakesEntry : IfaceCall → Type 0
TakesEntry (Put_off held) = Unit {0}
TakesEntry (Names_of name) = ⊥
TakesEntry (Open name) = ⊥
TakesEntry (Read name) = ⊥
TakesEntry (Ask_device held) = ⊥
TakesEntry (Ask held) = ⊥
TakesEntry (Close held) = ⊥

-- ---- effects

abbrev pub listed_under : Option ℕ → List ℕ → List Interface → IfaceListing
listed_under None name xs = listing.Absent
listed_under (Some device) name xs = listing.Names (iface_names device name xs)

abbrev pub iface_opened : Option ℕ → Bus → IfaceOpened × Bus
iface_opened None b = (opened.Absent, b)
iface_opened (Some i) b = (
  opened.Token (record { 0 = length b.files }),
  record b
      { files = b.files ++ i ∷ [] },
)

abbrev pub triple_in : Option Interface → IfaceRead
triple_in None = read.Absent
triple_in (Some x) = read.Is x.triple

abbrev pub iface_read : Option ℕ → List Interface → IfaceRead
iface_read None xs = read.Absent
iface_read (Some i) xs = triple_in (slice_get xs i)

abbrev pub value_in : Option Interface → Probe
value_in None = probe.Gone
value_in (Some x) = probe.Alive x.on

abbrev pub iface_probed : Option ℕ → List Interface → Probe
iface_probed None xs = probe.Gone
iface_probed (Some i) xs = value_in (slice_get xs i)

abbrev pub put_off : Option ℕ → Bus → Wrote × Bus
put_off None b = (wrote.Gone, b)
put_off (Some i) b = (
  wrote.Done,
  record b {
    interfaces = with_iface_off i b.interfaces;
    log = b.log ++ i ∷ [];
  },
)

-- the interface of a held file, where it is live
abbrev pub live_file : ℕ → Bus → Option ℕ
live_file held b = live_iface held b.files b.interfaces b.kernel.devices

-- what a call answers, and what it does
abbrev pub iface_act : (call : IfaceCall) → Bus → IfaceReply call × Bus
iface_act (Names_of name) b = (listed_under (find name 0 b.kernel.devices) name b.interfaces, b)
iface_act (Open name) b = iface_opened (place_named name b.kernel.devices b.interfaces) b
iface_act (Read name) b =
    (iface_read (place_named name b.kernel.devices b.interfaces) b.interfaces, b)
iface_act (Ask_device held) b =
    (probed_at (live_held held b.kernel.held b.kernel.devices) b.kernel.devices, b)
iface_act (Ask held) b = (iface_probed (live_file held b) b.interfaces, b)
iface_act (Put_off held) b = put_off (live_file held b) b
iface_act (Close held) b = (Closed, b)

-- what a failed call does that has its effect
abbrev pub iface_hidden : IfaceCall → Bus → Bus
iface_hidden (Put_off held) b = (put_off (live_file held b) b).1
iface_hidden (Names_of name) b = b
iface_hidden (Open name) b = b
iface_hidden (Read name) b = b
iface_hidden (Ask_device held) b = b
iface_hidden (Ask held) b = b
iface_hidden (Close held) b = b

abbrev pub iface_effect : Option Bool → (call : IfaceCall) → Bus → IfaceReply call × Bus
iface_effect None call b = iface_act call b
iface_effect (Some has) call b = (iface_failure call, cond has (iface_hidden call b) b)

-- ---- calls, in a world with its numbers, its failing calls and its moves

-- devices and interfaces together
abbrev pub bus_in : World → Bus
bus_in w = record {
  kernel = w.kernel;
  interfaces = w.interfaces;
  files = w.iface_files;
  log = w.iface_log;
}

abbrev pub with_bus : World → Bus → World
with_bus w b = record w {
  kernel = b.kernel;
  interfaces = b.interfaces;
  iface_files = b.files;
  iface_log = b.log;
}

-- the moves after the effect happen. The event's list of calls is of the devices' files alone
abbrev pub left : World → World
left w = shift w.calls true w

-- the answer that a call returns in a world
abbrev pub iface_told_as : (call : IfaceCall) → IfaceReply call → World → IfaceAnswer call
iface_told_as (Names_of name) reply w =
    record { answer = reply; number = w.calls; count = w.faults }
iface_told_as (Open name) reply w = record { answer = reply; number = w.calls; count = w.faults }
iface_told_as (Read name) reply w = record { answer = reply; number = w.calls; count = w.faults }
iface_told_as (Ask_device held) reply w =
    record { answer = reply; number = w.calls; count = w.faults }
iface_told_as (Ask held) reply w = record { answer = reply; number = w.calls; count = w.faults }
iface_told_as (Put_off held) reply w =
    record { answer = reply; number = w.calls; count = w.faults }
iface_told_as (Close held) reply w = Closed

abbrev pub iface_answering : (call : IfaceCall) → IfaceReply call → World
    → IfaceAnswer call × World
iface_answering call reply w = (iface_told_as call reply w, w)

-- the call's effect in a world that it has entered, and its end
abbrev pub iface_answer_from : World → (call : IfaceCall) → IfaceAnswer call × World
iface_answer_from w call =
    iface_answering call (iface_effect (fate_of w) call (bus_in w)).0
    (left (with_bus (failure_counted w) (iface_effect (fate_of w) call (bus_in w)).1))

-- what has run out fails
abbrev pub iface_refusing : World → (call : IfaceCall) → IfaceAnswer call × World
iface_refusing w call = iface_answering call (iface_failure call) (refused w)

abbrev pub iface_answer_unless : Bool → World → (call : IfaceCall) → IfaceAnswer call × World
iface_answer_unless out w (Close held) = (Closed, w)
iface_answer_unless out w (Names_of name) =
    cond out (iface_refusing w (Names_of name)) (iface_answer_from (entered w) (Names_of name))
iface_answer_unless out w (Open name) =
    cond out (iface_refusing w (Open name)) (iface_answer_from (entered w) (Open name))
iface_answer_unless out w (Read name) =
    cond out (iface_refusing w (Read name)) (iface_answer_from (entered w) (Read name))
iface_answer_unless out w (Ask_device held) =
    cond out (iface_refusing w (Ask_device held))
    (iface_answer_from (entered w) (Ask_device held))
iface_answer_unless out w (Ask held) =
    cond out (iface_refusing w (Ask held)) (iface_answer_from (entered w) (Ask held))
iface_answer_unless out w (Put_off held) =
    cond out (iface_refusing w (Put_off held)) (iface_answer_from (entered w) (Put_off held))

-- what the script fixes. Closing changes nothing
abbrev pub iface_answer_of : World → (call : IfaceCall) → IfaceAnswer call × World
iface_answer_of w call = iface_answer_unless w.ran_out w call

-- the effect of a call that has begun, and its reply
abbrev pub IfaceEffects : World → (call : IfaceCall) → IfaceReply call → World → Type 0
IfaceEffects w call reply u =
    (((reply ≡ (iface_effect (fate_of w) call (bus_in w)).0)
    × (u ≡ with_bus (failure_counted w) (iface_effect (fate_of w) call (bus_in w)).1))
    ⊎ ((IsIfaceMemory call reply × (u ≡ w) × (fate_of w ≡ None))
    ⊎ ((reply ≡ iface_failure call) × (u.ran_out ≡ true) × (u.calls ≡ w.calls)
    × TakesEntry call)))
    × (u.faults ≡ cond (is_iface_failure call reply) (one_fault_more w.faults) w.faults)

-- a write that has its effect
abbrev pub PutsOff : World → ℕ → Wrote → World → Type 0
PutsOff w held reply u =
    (reply ≡ (put_off (live_file held (bus_in w)) (bus_in w)).0)
    × (u ≡ with_bus w (put_off (live_file held (bus_in w)) (bus_in w)).1)

-- memory for the answer was refused: the call does nothing, but it is counted, and its moves happen
pub record WantsIface (s : World) (call : IfaceCall) (a : IfaceAnswer call)
    (t : World) : Type 0 where
  pub reply : IfaceReply call
  pub memory : IsIfaceMemory call reply
  pub ran : s.ran_out ≡ false
  pub unscheduled : fate_of (entered s) ≡ None
  pub after : t ≡ left (entered s)
  pub answer : a ≡ iface_told_as call reply t

-- memory for an entry was refused: the write fails, and nothing is told from then on
pub record LosesIface (s : World) (call : IfaceCall) (a : IfaceAnswer call)
    (t : World) : Type 0 where
  pub entry : TakesEntry call
  pub out : t.ran_out ≡ true
  pub call_counted : t.calls ≡ raised s.calls
  pub fault_counted : t.faults ≡ one_fault_more s.faults
  pub answer : a ≡ iface_told_as call (iface_failure call) t

-- the script's answer; or want of memory
abbrev pub ServesIfaces : World → (call : IfaceCall) → IfaceAnswer call → World → Type 0
ServesIfaces s call a t =
    ((a ≡ (iface_answer_of s call).0) × (t ≡ (iface_answer_of s call).1))
    ⊎ (WantsIface s call a t ⊎ LosesIface s call a t)

-- what is told: nothing once memory for an entry was refused
abbrev pub bus_told : World → Option Bus
bus_told w = cond w.ran_out None (Some (bus_in w))

-- A script's numbers don't run out within its limit of lines.
use Rattle.std.proofs.Common.{◌≡◌, ℕ, ◌+◌, ◌*◌, ◌-◌, ◌^◌, ◌<◌, ◌≤◌, Bool, true, false, cond, ◌&&◌, if◌then◌else◌, nat_lt, nat_le, List, [], ◌∷◌, length, Option, Some, None, inl, inr, refl, sym, ap, subst, arith}
use Rattle.std.proofs.lemmas.Bool.{le-leb}
use Rattle.std.proofs.lemmas.Bool.Decides.{nat_tests}
use Rattle.ug_kernel.specs.declared.device.Device.{Device}
use Rattle.ug_kernel.specs.declared.calls.Listing.{Listing}
use Rattle.ug_kernel.specs.declared.calls.Listing.TheVariants as listing
use Rattle.ug_kernel.specs.Calls.{Call, Names, Open, Read, Ask_alive, Put, Close, ToldAnswer, Answer, raised, Counts}
use Rattle.ug_kernel.specs.Kernel.{Kernel, live_count, IsSound, IsKernel}
use Rattle.ug_kernel.specs.Along.{Made, Along, counts_as, count_calls}
use Rattle.ug_kernel.proofs.Ways.{Went, ways_run}
use Rattle.ug_sysfs.specs.World.{World, Gives, event_begun, live_names, effect, entered, fate_of, answer_unless}
use Rattle.ug_sysfs.specs.Count.{counts_each}
use Rattle.ug_sysfs.specs.Sound.{sound_happen}
use Rattle.ug_table.specs.State.{State}
use Rattle.ug_script.specs.Play.{play}
use Rattle.ug_script.proofs.Plays.{play_runs}
use Rattle.ug_core.specs.Starting.{Marked}
use Rattle.ug_core.specs.Event as event
use Rattle.ug_core.specs.Due.{standings_due}
use Rattle.ug_core.specs.Event.{DaemonState, has_numbers, is_low, most_standings, ready}
use Rattle.ug_types.specs.Events.{FitsEvent, longest_piece}
use Rattle.ug_core.specs.Policy.{Judging}
use Rattle.ug_script.proofs.Spent.{SpendsDue, due_low, due_spends, found}
use Rattle.ug_kernel.specs.Tree.{Prog}
use Rattle.ug_store.specs.PlayDisk.{play_disk}
use Rattle.ug_store.specs.Scripted.{DiskWorld}
use Rattle.ug_store.proofs.PlayedDisk.{play_stays_told}
use Rattle.ug_kernel.proofs.Ways.{Ways}
use Rattle.ug_core.specs.Answering.{acting, asking, deed_after}
use Rattle.ug_core.specs.Event.{trying}
use Rattle.ug_core.specs.Storing.{stored_with, storing}
use Rattle.ug_core.specs.declared.choosing.Deed.{Deed}
use Rattle.ug_types.specs.declared.event.Event.{Event}
use Rattle.ug_types.specs.declared.event.Event.TheVariants.{Sweep, Order, Hint}
use Rattle.ug_script.specs.Replay.{order_played_by, answered_from, event_from, halted, tried_by}
use Rattle.ug_script.proofs.Answers.{ActsSo, Asks, acting_ways, asking_ways, asks_few, is_short_deed}
use Rattle.ug_script.proofs.OrdersPlayed.{answered_faults, answered_few, answered_so, order_can, trying_so}
use Rattle.ug_script.specs.Laws.{coming_in}
use Rattle.ug_script.proofs.FewStandings.{event_few}
use Rattle.ug_script.proofs.Halts.{halted_faults}
use Rattle.ug_script.proofs.Lawful.{Holds, answered_holds, halted_holds, plays_sweep, start_of}

-- how many names a listing has

names_count : (ds : List Device) → length (live_names ds) ≡ live_count ds
names_count [] = refl
names_count (d ∷ ds) = by d.gone (names_count ds)
  where
    by : (b : Bool) → length (live_names ds) ≡ live_count ds → length (cond b (live_names ds) (d.name ∷ live_names ds)) ≡ (if b then 0 else 1) + live_count ds
    by true e = omega (arith, e)
    by false e = omega (arith, e)

abbrev names_in : Listing → ℕ
names_in (listing.Names names) = length names
names_in listing.Failed = 0
names_in listing.Memory = 0

effect_few : (f : Option Bool) (k : Kernel) → IsSound k.devices → names_in (effect f Names k).0 ≤ 65536
effect_few None k s = let few = s.few in let same = names_count k.devices in omega (arith, few, same)
effect_few (Some b) k s = omega arith

script_few : (out : Bool) (s : World) → IsKernel s.kernel → names_in (answer_unless out s Names).0.answer ≤ 65536
script_few true s k = omega arith
script_few false s k = effect_few (fate_of (entered s)) (entered s).kernel (sound_happen (raised s.calls) false s.moves s.kernel.devices k.devices)

listing_few : (s : World) (a : ToldAnswer Listing) (u : World) → IsKernel s.kernel → Gives s Names a u → names_in a.answer ≤ 65536
listing_few s a u k g = elim g [
  | inl x ↦ subst (λ (b : ToldAnswer Listing). names_in b.answer ≤ 65536) (sym x.0) (script_few s.ran_out s k)
  | inr y ↦ elim y [
    | inl z ↦
        let short : names_in z.reply ≤ 65536 = subst (λ (r : Listing). names_in r ≤ 65536) (sym z.memory) (omega arith) in
        subst (λ (b : ToldAnswer Listing). names_in b.answer ≤ 65536) (sym z.answer) short
    | inr z ↦ subst (λ (b : ToldAnswer Listing). names_in b.answer ≤ 65536) (sym z.answer) (omega arith)
  ]
]

call_few : (call : Call) (answer : Answer call) (ms : List Made) (s u : World) → IsKernel s.kernel → Gives s call answer u → found (record { call = call; answer = answer } ∷ ms) ≤ 65536
call_few Names answer ms s u k g = listing_few s answer u k g
call_few (Open name control) answer ms s u k g = omega arith
call_few (Read name attr) answer ms s u k g = omega arith
call_few (Ask_alive held) answer ms s u k g = omega arith
call_few (Put held write) answer ms s u k g = omega arith
call_few (Close held) answer ms s u k g = omega arith

pub found_few : (ms : List Made) (s t : World) → IsKernel s.kernel → Along Gives s ms t → found ms ≤ 65536
found_few [] s t k a = omega arith
found_few (m ∷ ms) s t k a = call_few m.call m.answer ms s a.0 k a.1

-- each call raises the count of faults by one at most

raises : (call : Call) (answer : Answer call) (c f d g : ℕ) → Counts call answer c f d g → g ≤ f + counts_as call
raises Names answer c f d g h = h.by_one
raises (Open name control) answer c f d g h = h.by_one
raises (Read name attr) answer c f d g h = h.by_one
raises (Ask_alive held) answer c f d g h = h.by_one
raises (Put held write) answer c f d g h = h.by_one
raises (Close held) answer c f d g h = omega (arith, h.1)

pub along_faults : (ms : List Made) (s t : World) → Along Gives s ms t → t.faults ≤ s.faults + count_calls ms
along_faults [] s t a = let same = ap (λ (w : World). w.faults) a in omega (arith, same)
along_faults (m ∷ ms) s t a =
    let one = raises m.call m.answer s.calls s.faults a.0.calls a.0.faults (counts_each s m.call m.answer a.0 a.1) in
    let rest = along_faults ms a.0 t a.2 in
    omega (arith, one, rest)

-- how far the numbers have come after so many lines: an event gives out 1,048,576 device numbers at most, has no more than
-- 1 + 17 (65,536 + 2,097,152) calls of the kernel, and saves twice at most
pub record Fits (lines event next id faults disk_faults : ℕ) : Type 0 where
  pub few_events : event ≤ lines + 1
  pub few_numbers : next ≤ 1048576 * lines + 1
  pub few_ids : id ≤ lines + 65537
  pub few_faults : faults ≤ 2199023255552 * lines
  pub few_disk_faults : disk_faults ≤ 2 * lines

pub fits_more : {n event next id faults disk_faults : ℕ} → Fits n event next id faults disk_faults → Fits (n + 1) event next id faults disk_faults
fits_more h =
    let a = h.few_events in
    let b = h.few_numbers in
    let c = h.few_ids in
    let d = h.few_faults in
    let e = h.few_disk_faults in
    record { few_events = omega (arith, a); few_numbers = omega (arith, b); few_ids = omega (arith, c); few_faults = omega (arith, d); few_disk_faults = omega (arith, e) }

abbrev pub FitsOf : ℕ → DaemonState → World → DiskWorld → Type 0
FitsOf n d w o = Fits n d.event d.sweep.next d.sweep.judge.next w.faults o.faults

-- so many calls raise the count of faults by so much at most
few_calls : {R : Type 0} (P : Bool → List Made → R → Type 0) (p : Prog R) (w : World) (most : ℕ) → Ways p P → ((ok : Bool) (ms : List Made) (r : R) → P ok ms r → count_calls ms ≤ most) → (play p w).1.faults ≤ w.faults + most
few_calls P p w most ways few =
    let went = ways_run Gives P p w (play p w).0 (play p w).1 ways (play_runs p w) in
    let faults = along_faults went.made w (play p w).1 went.along in
    let low = few went.granted went.made (play p w).0 went.so in
    omega (arith, faults, low)

-- an order has five calls of the kernel at most
pub answer_calls : (event : Event) (d : DaemonState) (w : World) (o : DiskWorld) → o.ran_out ≡ false → (order_played_by event d w o).world.faults ≤ w.faults + 5
answer_calls (Sweep moment) d w o out = omega arith
answer_calls (Hint moment piece) d w o out = omega arith
answer_calls (Order moment who line) d w o out =
    let c = play (asking d who line) w in
    let b = play_disk (storing d c.0.change) o in
    let kept : DaemonState = stored_with b.0 c.0.change d in
    let done : Deed = deed_after b.0 c.0.deed in
    let asks = few_calls (Asks d.sweep.standings) (asking d who line) w 1 (asking_ways d who line) (λ ok ms x so. asks_few d.sweep.standings ok ms x so) in
    let acts = few_calls (ActsSo kept (is_short_deed done)) (acting who kept done) c.1 4 (acting_ways who kept done (order_can who line d w o out)) (λ ok ms x so. so.few) in
    omega (arith, asks, acts)

swept_fits : (n : ℕ) (a : DaemonState) (m : World) (faults : ℕ) → n < 1048576 → Holds a.sweep.standings a.sweep.next m → length a.sweep.standings ≤ most_standings → standings_due a.due ≤ longest_piece → a.event ≤ n + 1 → a.sweep.next ≤ 1048576 * n + 1 → a.sweep.judge.next ≤ n + 65538 → m.faults ≤ 2199023255552 * n + 5 → faults ≤ 2 * n + 2 → Fits (n + 1) (play (event.handling a) m).0.event (play (event.handling a) m).0.sweep.next (play (event.handling a) m).0.sweep.judge.next (play (event.handling a) m).1.faults faults
swept_fits n a m faults lt h stands names old_event old_next old_id old_faults few_disk =
    let u : State Judging = a.sweep in
    let p = event.settling_due a.due u in
    let v : State Judging = (play p m).0 in
    let t : World = (play p m).1 in
    let went : Went Gives (SpendsDue a.due u) m v t = ways_run Gives (SpendsDue a.due u) p m v t (due_spends a.due u) (play_runs p m) in
    let listed = found_few went.made m t h.sound went.along in
    let low = due_low a.due went.made u names listed stands in
    let few_next = low.0 in
    let few_calls = low.1 in
    let faults = along_faults went.made m t went.along in
    let next = went.so.next in
    let made = went.so.made in
    let id = went.so.id in
    rw (plays_sweep a m) (record {
      few_events = omega (arith, old_event);
      few_numbers = omega (arith, next, few_next, old_next);
      few_ids = omega (arith, id, old_id);
      few_faults = omega (arith, faults, made, few_calls, old_faults);
      few_disk_faults = omega (arith, few_disk);
    })

-- an event
pub event_fits : (n : ℕ) (event : Event) (d : DaemonState) (w : World) (o : DiskWorld) → n < 1048576 → Holds d.sweep.standings d.sweep.next w → o.ran_out ≡ false → coming_in w ≤ most_standings → FitsEvent event → d.stream.messages ≡ [] → FitsOf n d w o → FitsOf (n + 1) (event_from event d w o).daemon (event_from event d w o).world (event_from event d w o).disk
event_fits n event d w o lt h out coming fits none f =
    let r : DaemonState = ready event (tried_by d o).0 d in
    let q : DiskWorld = (tried_by d o).1 in
    let still : q.ran_out ≡ false = play_stays_told (trying d) o out in
    let a = answered_from event d w o in
    let so = answered_so event r (start_of d w o) q still in
    let calls = answer_calls event r (start_of d w o) q still in
    let start = halted_faults q (event_begun w) in
    let middle = halted_faults a.disk a.world in
    let tried = (trying_so d o out).faults in
    let saved = answered_faults event r (start_of d w o) q still in
    let same_event = so.event in
    let same_next = so.next in
    let more_ids = so.ids in
    let old_event = f.few_events in
    let old_next = f.few_numbers in
    let old_id = f.few_ids in
    let old_faults = f.few_faults in
    let old_disk = f.few_disk_faults in
    swept_fits n a.daemon (halted a.disk a.world) a.disk.faults lt (halted_holds a.daemon a.disk a.world (answered_holds event d w o h)) (event_few event d w o h coming).0 (answered_few event r (start_of d w o) q fits none refl) (omega (arith, same_event, old_event)) (omega (arith, same_next, old_next)) (omega (arith, more_ids, old_id)) (omega (arith, calls, start, middle, old_faults)) (omega (arith, tried, saved, old_disk))

-- a daemon that has had no event, or isn't there yet
pub started_fits : (n event : ℕ) (rules : List Marked) (faults disk_faults : ℕ) → event ≤ n + 1 → length rules ≤ 65536 → faults ≤ 2199023255552 * n → disk_faults ≤ 2 * n → Fits n event 1 (length rules + 1) faults disk_faults
started_fits n event rules faults disk_faults first few low few_disk = record { few_events = omega (arith, first); few_numbers = omega arith; few_ids = omega (arith, few); few_faults = omega (arith, low); few_disk_faults = omega (arith, few_disk) }

-- the numbers leave room

low : (n : ℕ) → n ≤ 2 ^ 64 - 1 - 4194304 → is_low n ≡ true
low n le = grind (arith, nat_tests, le)

all_true : (a b c d e f : Bool) → a ≡ true → b ≡ true → c ≡ true → d ≡ true → e ≡ true → f ≡ true → (a && b && c && d && e && f) ≡ true
all_true true true true true true true p q r s t u = refl
all_true true true true true true false p q r s t u = u
all_true true true true true false f p q r s t u = t
all_true true true true false e f p q r s t u = s
all_true true true false d e f p q r s t u = r
all_true true false c d e f p q r s t u = q
all_true false b c d e f p q r s t u = p

pub fits_numbers : (n : ℕ) (d : DaemonState) (w : World) (o : DiskWorld) → n ≤ 1048576 → length d.sweep.standings ≤ most_standings → FitsOf n d w o → has_numbers d w.faults o.faults ≡ true
fits_numbers n d w o le stands f =
    let a = f.few_events in
    let b = f.few_numbers in
    let c = f.few_ids in
    let e = f.few_faults in
    let g = f.few_disk_faults in
    let id : d.sweep.judge.next < 2 ^ 64 - 1 = omega (arith, le, c) in
    all_true (is_low d.sweep.next) (is_low d.event) (is_low w.faults) (is_low o.faults) (nat_le (length d.sweep.standings) most_standings) (nat_lt d.sweep.judge.next (2 ^ 64 - 1))
    (low d.sweep.next (omega (arith, le, b))) (low d.event (omega (arith, le, a))) (low w.faults (omega (arith, le, e))) (low o.faults (omega (arith, le, g))) (le-leb (length d.sweep.standings) most_standings stands) (grind (arith, nat_tests, id))

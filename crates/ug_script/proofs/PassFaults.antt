-- How many calls of a pass can fail.
use Rattle.std.proofs.Common.{◌≡◌, ℕ, ◌+◌, ◌*◌, ◌≤◌, Bool, true, false, cond, if◌then◌else◌, ◌&&◌, List, [], ◌∷◌, length, flat_map, Option, Some, None, refl, ap, ◌∙◌, inl, arith, length-append}
use Rattle.std.proofs.lemmas.List.{length-map}
use Rattle.ug_types.specs.declared.record.Judged.{Judged}
use Rattle.ug_types.specs.declared.record.Judged.TheVariants as judged
use Rattle.ug_types.specs.declared.record.Triple.{Triple}
use Rattle.ug_types.specs.declared.verdict.Target.{Target}
use Rattle.ug_types.specs.declared.verdict.Target.TheVariants as target
use Rattle.ug_kernel.specs.declared.calls.Probe.{Probe}
use Rattle.ug_kernel.specs.declared.calls.Probe.TheVariants as probe
use Rattle.ug_table.specs.Allowed.{allowed_of}
use Rattle.ug_table.specs.declared.standing.Standing.{Standing}
use Rattle.ug_sysfs.specs.Devices.{find}
use Rattle.ug_sysfs.specs.Listing.{length_iface_names}
use Rattle.ug_sysfs.specs.IfaceCount.{counts_ifaces}
use Rattle.ug_sysfs.specs.IfaceMoves.{bus_shifts_sound}
use Rattle.ug_sysfs.specs.World.{World, entered, fate_of}
use Rattle.ug_sysfs.specs.Serving.{bus_in, iface_answer_of, iface_answer_unless, iface_effect, listed_under}
use Rattle.ug_iface.specs.Bus.{Bus, IsSoundBus}
use Rattle.ug_iface.specs.declared.calls.IfaceHeld.{IfaceHeld}
use Rattle.ug_iface.specs.declared.calls.IfaceListing.{IfaceListing}
use Rattle.ug_iface.specs.declared.calls.IfaceListing.TheVariants as listing
use Rattle.ug_iface.specs.declared.calls.IfaceOpened.{IfaceOpened}
use Rattle.ug_iface.specs.declared.calls.IfaceOpened.TheVariants as opened
use Rattle.ug_iface.specs.declared.calls.IfaceRead.{IfaceRead}
use Rattle.ug_iface.specs.declared.calls.IfaceRead.TheVariants as read
use Rattle.ug_iface.specs.declared.look.Look.{Look}
use Rattle.ug_iface.specs.declared.look.Look.TheVariants as look
use Rattle.ug_iface.specs.declared.name.IfaceName.{IfaceName}
use Rattle.ug_iface.specs.declared.rules.IfaceRule.{IfaceRule}
use Rattle.ug_iface.specs.declared.settle.Begun.{Begun}
use Rattle.ug_iface.specs.declared.settle.Begun.TheVariants.{Walks, Ends}
use Rattle.ug_iface.specs.declared.settle.IfaceEntry.{IfaceEntry}
use Rattle.ug_iface.specs.declared.settle.Passed.{Passed}
use Rattle.ug_iface.specs.declared.settle.Passed.TheVariants as passed
use Rattle.ug_iface.specs.Calls.{IfaceAnswer, IfaceCall, Names_of, Open, Read, Ask_device, Ask, Put_off, Close, CountsIface}
use Rattle.ug_iface.specs.Look.{after_ask, after_device, after_iface_open, after_iface_read, looking}
use Rattle.ug_iface.specs.Named.{is_named_off}
use Rattle.ug_iface.specs.Order.{in_iface_order}
use Rattle.ug_iface.proofs.Order.{ordered}
use Rattle.std.proofs.lemmas.List.Sorted.{length_permutation}
use Rattle.ug_iface.specs.Settle.{Aim, after_listing, after_look, beginning, leaving, settling_iface, switching, walking}
use Rattle.ug_iface.specs.Tree.{IfaceProg, Return, Make, Room, then_iface}
use Rattle.ug_core.specs.Event as event
use Rattle.ug_core.specs.Event.{DaemonState}
use Rattle.ug_core.specs.DeviceRows.{by_number}
use Rattle.ug_script.specs.Passes.{aims_at, aims_in, device_pass, later_than, pass_behind, pass_over, play_ifaces, walk_from}
use Rattle.ug_script.proofs.BusSound.{IsSoundWorld, device_sound}
use Rattle.ug_script.proofs.PassBehind.{device_behind}

-- a run of it raises the count of faults by so much at most
record Raises {R : Type 0} (n : ℕ) (p : IfaceProg R) : Type 0 where
  most : (w : World) → (play_ifaces p w).1.faults ≤ w.faults + n

call_raises : (w : World) (call : IfaceCall) → (iface_answer_of w call).1.faults ≤ w.faults + 1
call_raises w call = by call (iface_answer_of w call).0 (iface_answer_of w call).1 (counts_ifaces w call (iface_answer_of w call).0 (iface_answer_of w call).1 (inl (refl, refl)))
  where
    by : (call : IfaceCall) (a : IfaceAnswer call) (t : World) → CountsIface call a w.calls w.faults t.calls t.faults → t.faults ≤ w.faults + 1
    by (Names_of name) a t h = h.by_one
    by (Open name) a t h = h.by_one
    by (Read name) a t h = h.by_one
    by (Ask_device held) a t h = h.by_one
    by (Ask held) a t h = h.by_one
    by (Put_off held) a t h = h.by_one
    by (Close held) a t h = let same : t.faults ≡ w.faults = h.1 in omega arith

returns : {R : Type 0} (n : ℕ) (value : R) → Raises n (Return value)
returns n value = record { most = λ w. omega arith }

makes : {R : Type 0} (n : ℕ) (call : IfaceCall) (next : IfaceAnswer call → IfaceProg R) → ((a : IfaceAnswer call) → Raises n (next a)) → Raises (n + 1) (Make call next)
makes n call next h = record {
  most = λ w.
      let one = call_raises w call in
      let rest = (h (iface_answer_of w call).0).most (iface_answer_of w call).1 in
      omega (arith, one, rest);
}

closes : {R : Type 0} (n held : ℕ) (next : IfaceAnswer (Close held) → IfaceProg R) → ((a : IfaceAnswer (Close held)) → Raises n (next a)) → Raises n (Make (Close held) next)
closes n held next h = record { most = λ w. (h (iface_answer_of w (Close held)).0).most w }

play_joined : {R Q : Type 0} (p : IfaceProg R) (f : R → IfaceProg Q) (w : World) → play_ifaces (then_iface p f) w ≡ play_ifaces (f (play_ifaces p w).0) (play_ifaces p w).1
play_joined (Return value) f w = refl
play_joined (Make call next) f w = play_joined (next (iface_answer_of w call).0) f (iface_answer_of w call).1
play_joined (Room next) f w = play_joined (next true) f w

joins : {R Q : Type 0} (m n : ℕ) (p : IfaceProg R) (f : R → IfaceProg Q) → Raises m p → ((r : R) → Raises n (f r)) → Raises (m + n) (then_iface p f)
joins m n p f h k = record {
  most = λ w.
      let first = h.most w in
      let second = (k (play_ifaces p w).0).most (play_ifaces p w).1 in
      let same = ap (λ x. x.1.faults) (play_joined p f w) in
      omega (arith, first, second, same);
}

-- ---- one interface

ask_raises : (file : IfaceHeld) (triple : Triple) (answer : Probe) (count : ℕ) → Raises 0 (after_ask file triple answer count)
ask_raises file triple (probe.Alive on) count = returns 0 _
ask_raises file triple probe.Gone count = closes 0 file.0 _ (λ a. returns 0 _)
ask_raises file triple probe.Failed count = closes 0 file.0 _ (λ a. returns 0 _)

device_raises : (file : IfaceHeld) (triple : Triple) (answer : Probe) (count : ℕ) → Raises 1 (after_device file triple answer count)
device_raises file triple (probe.Alive on) count = makes 0 (Ask file.0) _ (λ t. ask_raises file triple t.answer t.count)
device_raises file triple probe.Gone count = closes 1 file.0 _ (λ a. returns 1 _)
device_raises file triple probe.Failed count = closes 1 file.0 _ (λ a. returns 1 _)

read_raises : (held : ℕ) (file : IfaceHeld) (answer : IfaceRead) (count : ℕ) → Raises 2 (after_iface_read held file answer count)
read_raises held file (read.Is triple) count = makes 1 (Ask_device held) _ (λ t. device_raises file triple t.answer t.count)
read_raises held file read.Absent count = closes 2 file.0 _ (λ a. returns 2 _)
read_raises held file read.Failed count = closes 2 file.0 _ (λ a. returns 2 _)

open_raises : (name : IfaceName) (held : ℕ) (answer : IfaceOpened) (count : ℕ) → Raises 3 (after_iface_open name held answer count)
open_raises name held (opened.Token file) count = makes 2 (Read name) _ (λ t. read_raises held file t.answer t.count)
open_raises name held opened.Absent count = returns 3 _
open_raises name held opened.Failed count = returns 3 _
open_raises name held opened.Memory count = returns 3 _

look_raises : (name : IfaceName) (held : ℕ) → Raises 4 (looking name held)
look_raises name held = makes 3 (Open name) _ (λ t. open_raises name held t.answer t.count)

switch_raises : (number : ℕ) (name : IfaceName) (file : IfaceHeld) (es : List IfaceEntry) → Raises 1 (switching number name file es)
switch_raises number name file es = makes 0 (Put_off file.0) _ (λ t. closes 0 file.0 _ (λ a. returns 0 _))

looked_raises : (aim : Aim) (name : IfaceName) (es : List IfaceEntry) (l : Look) → Raises 1 (after_look aim name es l)
looked_raises aim name es (look.Here file triple on) = by (on && is_named_off aim.rules aim.device triple)
  where
    by : (b : Bool) → Raises 1 (if b then then_iface (switching aim.number name file es) (λ more. Return (true, more)) else leaving file es)
    by true = joins 1 0 (switching aim.number name file es) (λ more. Return (true, more)) (switch_raises aim.number name file es) (λ r. returns 0 _)
    by false = closes 1 file.0 _ (λ a. returns 1 _)
looked_raises aim name es look.Absent = returns 1 _
looked_raises aim name es look.Gone = returns 1 _
looked_raises aim name es (look.Failed count) = returns 1 _
looked_raises aim name es look.Memory = returns 1 _

settle_raises : (aim : Aim) (name : IfaceName) (es : List IfaceEntry) → Raises 5 (settling_iface aim name es)
settle_raises aim name es = joins 4 1 (looking name aim.held) (after_look aim name es) (look_raises name aim.held) (λ l. looked_raises aim name es l)

abbrev goes_on : Aim → List IfaceName → Bool × List IfaceEntry → IfaceProg (Passed × List IfaceEntry)
goes_on aim names p = if p.0 then walking aim names p.1 else Return (passed.Gone, p.1)

go_raises : (aim : Aim) (names : List IfaceName) (n : ℕ) → ((fs : List IfaceEntry) → Raises n (walking aim names fs)) → (b : Bool) (fs : List IfaceEntry) → Raises n (goes_on aim names (b, fs))
go_raises aim names n rest true fs = rest fs
go_raises aim names n rest false fs = returns n _

walk_raises : (aim : Aim) (names : List IfaceName) (es : List IfaceEntry) → Raises (5 * length names) (walking aim names es)
walk_raises aim [] es = returns 0 _
walk_raises aim (name ∷ names) es =
    let all = joins 5 (5 * length names) (settling_iface aim name es) (goes_on aim names) (settle_raises aim name es) (λ p. go_raises aim names (5 * length names) (λ fs. walk_raises aim names fs) p.0 p.1) in
    record { most = λ w. let most = all.most w in omega (arith, most) }

-- ---- one device

abbrev BegunFew : Begun → Type 0
BegunFew (Walks names) = length names ≤ 1024
BegunFew (Ends end) = Unit {0}

abbrev ListingFew : IfaceListing → Type 0
ListingFew (listing.Names names) = length names ≤ 1024
ListingFew listing.Absent = Unit {0}
ListingFew listing.Failed = Unit {0}
ListingFew listing.Memory = Unit {0}

after_few : (answer : IfaceListing) (count : ℕ) (w : World) → ListingFew answer → BegunFew (play_ifaces (after_listing answer count) w).0
after_few (listing.Names names) count w few = few
after_few listing.Absent count w few = tt
after_few listing.Failed count w few = tt
after_few listing.Memory count w few = tt

under_few : (b : Bus) (name : List ℕ) → IsSoundBus b → (o : Option ℕ) → ListingFew (listed_under o name b.interfaces)
under_few b name s None = tt
under_few b name s (Some device) = let few = s.few device in let same = length_iface_names device name b.interfaces in omega (arith, few, same)

effect_few : (fate : Option Bool) (b : Bus) (name : List ℕ) → IsSoundBus b → ListingFew (iface_effect fate (Names_of name) b).0
effect_few None b name s = under_few b name s (find name 0 b.kernel.devices)
effect_few (Some has) b name s = tt

listing_few : (out : Bool) (w : World) (name : List ℕ) → IsSoundWorld w → ListingFew (iface_answer_unless out w (Names_of name)).0.answer
listing_few true w name s = tt
listing_few false w name s = effect_few (fate_of (entered w)) (bus_in (entered w)) name (bus_shifts_sound (Rattle.ug_kernel.specs.Calls.raised w.calls) false w s)

begun_few : (name : List ℕ) (w : World) → IsSoundWorld w → BegunFew (play_ifaces (beginning name) w).0
begun_few name w s =
    let a = (iface_answer_of w (Names_of name)).0 in
    after_few a.answer a.count (iface_answer_of w (Names_of name)).1 (listing_few w.ran_out w name s)

listed_raises : (answer : IfaceListing) (count : ℕ) → Raises 0 (after_listing answer count)
listed_raises (listing.Names names) count = record { most = λ w. omega arith }
listed_raises listing.Absent count = returns 0 _
listed_raises listing.Failed count = returns 0 _
listed_raises listing.Memory count = returns 0 _

begin_raises : (name : List ℕ) → Raises 1 (beginning name)
begin_raises name = makes 0 (Names_of name) _ (λ t. listed_raises t.answer t.count)

walked_faults : (aim : Aim) (p : Begun × World) → BegunFew p.0 → (walk_from aim p).world.faults ≤ p.1.faults + 5120
walked_faults aim (Ends end, u) few = omega arith
walked_faults aim (Walks names, u) few =
    let low = (walk_raises aim (in_iface_order names) []).most u in
    let same : length (in_iface_order names) ≡ length names = length_permutation names (in_iface_order names) (ordered names) in
    omega (arith, low, same, few)

device_faults : (aim : Aim) (w : World) → IsSoundWorld w → (device_pass aim w).world.faults ≤ w.faults + 5121
device_faults aim w s =
    let begun = play_ifaces (beginning aim.device.via_port) w in
    let first = (begin_raises aim.device.via_port).most w in
    let rest = walked_faults aim begun (begun_few aim.device.via_port w s) in
    omega (arith, first, rest)

aims_faults : (aims : List Aim) (w : World) → w.ran_out ≡ false → IsSoundWorld w → (pass_over aims w).world.faults ≤ w.faults + 5121 * length aims
aims_faults [] w e s = omega arith
aims_faults (aim ∷ aims) w e s =
    let u : World = (device_pass aim w).world in
    let first = device_faults aim w s in
    let rest = aims_faults aims u ((device_behind aim w).out ∙ e) (device_sound aim w e s) in
    omega (arith, first, rest)

-- ---- all of them

allowed_few : (settled : Bool) (verdict : Target) (judged : Judged) → length (allowed_of settled verdict judged) ≤ 1
allowed_few true target.Allow (judged.Good device) = omega arith
allowed_few true target.Allow (judged.Malformed kind place) = omega arith
allowed_few true target.Block judged = omega arith
allowed_few true target.Reject judged = omega arith
allowed_few false verdict judged = omega arith

aims_few : (rules : List IfaceRule) (ss : List Standing) → length (flat_map (aims_at rules) ss) ≤ length ss
aims_few rules [] = omega arith
aims_few rules (s ∷ ss) =
    let one = allowed_few s.settled s.verdict s.judged in
    let same = length-map (allowed_of s.settled s.verdict s.judged) (λ device. Rattle.ug_iface.specs.Settle.aim_of rules device s.number s.held.0) in
    let both = length-append (aims_at rules s) (flat_map (aims_at rules) ss) in
    let rest = aims_few rules ss in
    omega (arith, one, same, both, rest)

later_few : (number : ℕ) (ss : List Standing) → length (later_than number ss) ≤ length ss
later_few number [] = omega arith
later_few number (s ∷ ss) = by (Rattle.std.proofs.Common.nat_lt number s.number) (later_few number ss)
  where
    by : (b : Bool) → length (later_than number ss) ≤ length ss → length (cond b (s ∷ later_than number ss) (later_than number ss)) ≤ length (s ∷ ss)
    by true low = omega (arith, low)
    by false low = omega (arith, low)

placed_few : (s : Standing) (ss : List Standing) → length (Rattle.ug_core.specs.DeviceRows.number_placed s ss) ≡ length ss + 1
placed_few s [] = refl
placed_few s (x ∷ xs) = by (Rattle.std.proofs.Common.nat_lt x.number s.number) (placed_few s xs)
  where
    by : (b : Bool) → length (Rattle.ug_core.specs.DeviceRows.number_placed s xs) ≡ length xs + 1 → length (cond b (x ∷ Rattle.ug_core.specs.DeviceRows.number_placed s xs) (s ∷ x ∷ xs)) ≡ length (x ∷ xs) + 1
    by true same = omega (arith, same)
    by false same = omega arith

by_number_few : (ss : List Standing) → length (by_number ss) ≡ length ss
by_number_few [] = refl
by_number_few (s ∷ ss) = let one = placed_few s (by_number ss) in let rest = by_number_few ss in omega (arith, one, rest)

pub pass_faults : (rules : List IfaceRule) (d : DaemonState) (w : World) → w.ran_out ≡ false → IsSoundWorld w → length d.sweep.standings ≤ event.most_standings → (pass_behind rules d w).world.faults ≤ w.faults + 10739515392
pass_faults [] d w e s few = omega arith
pass_faults (rule ∷ rules) d w e s few =
    let ss : List Standing = d.sweep.standings in
    let low = aims_faults (aims_in (rule ∷ rules) ss) w e s in
    let aims = aims_few (rule ∷ rules) (later_than 0 (by_number ss)) in
    let later = later_few 0 (by_number ss) in
    let same = by_number_few ss in
    omega (arith, low, aims, later, same, few)

-- How many devices there are, with those that may still come: a call adds none, and a line one at most.
use Rattle.std.proofs.Common.{◌≡◌, ℕ, ◌+◌, ◌≤◌, Bool, true, false, cond, nat_lt, List, [], ◌∷◌, map, length, take, drop, zero, suc, Option, Some, None, refl, subst, ◌∙◌, arith, inl, inr, length-append, length-take, length-drop}
use Rattle.std.specs.Prelude.{insert}
use Rattle.std.specs.List.{slice_get}
use Rattle.std.proofs.lemmas.List.{length-map}
use Rattle.std.proofs.lemmas.Option.{same_Some}
use Rattle.ug_types.specs.Elements.{Has}
use Rattle.ug_types.specs.Names.{parent_of}
use Rattle.ug_types.proofs.Elements.{has_map, map_has}
use Rattle.ug_kernel.specs.declared.device.Device.{Device}
use Rattle.ug_kernel.specs.Calls.{Call, Answer}
use Rattle.ug_kernel.specs.Kernel.{Kernel, live_count}
use Rattle.ug_kernel.specs.Tree.{Prog, Return, Ask, Room}
use Rattle.ug_sysfs.specs.Begins.{length_fall}
use Rattle.ug_sysfs.specs.Devices.{born, born_as, born_under, find, placed, plug_at, plugged, unplug_at}
use Rattle.ug_sysfs.specs.Queue.{queue_place}
use Rattle.ug_sysfs.specs.declared.script.Move.{Move}
use Rattle.ug_sysfs.specs.declared.script.Move.TheVariants.{Plug, Unplug, Iface}
use Rattle.ug_sysfs.specs.declared.script.NewDevice.{NewDevice}
use Rattle.ug_sysfs.specs.declared.script.Scheduled.{Scheduled}
use Rattle.ug_sysfs.specs.World.{World, answer_from, carried, due, effect, entered, failure_counted, fate_of, halting, happen, happen_all, moved, over, scripted_answer, shift, with_kernel}
use Rattle.ug_script.specs.Play.{play}
use Rattle.ug_script.proofs.Plays.{unless_cases}
use Rattle.ug_script.proofs.Still.{length_effect}
use Rattle.ug_store.specs.Scripted.{DiskWorld}
use Rattle.ug_table.specs.Laws.{Stand}
use Rattle.ug_table.specs.Sweep.{names_of}
use Rattle.ug_table.specs.declared.standing.Standing.{Standing}
use Rattle.ug_steps.specs.declared.step.Plan.{Plan}
use Rattle.ug_steps.specs.declared.step.Plan.TheVariants as plan
use Rattle.ug_script.specs.Laws.{coming_in}
use Rattle.ug_script.specs.Replay.{halted, planned}
use Rattle.ug_script.proofs.DistinctFew.{distinct_few}

-- ---- a move

born_few : (d : NewDevice) (parent : Option ℕ) (ds : List Device) → length (born d parent ds) ≤ length ds + 1
born_few d parent ds = omega (arith, length-append ds (born_as d parent ds ∷ []))

under_few : (d : NewDevice) (o : Option ℕ) (ds : List Device) → length (born_under d o ds) ≤ length ds + 1
under_few d None ds = omega arith
under_few d (Some i) ds = born_few d (Some i) ds

placed_few : (d : NewDevice) (o : Option (List ℕ)) (ds : List Device) → length (placed d o ds) ≤ length ds + 1
placed_few d None ds = born_few d None ds
placed_few d (Some name) ds = under_few d (find name 0 ds) ds

plug_few : (o : Option ℕ) (d : NewDevice) (ds : List Device) → length (plug_at o d ds) ≤ length ds + 1
plug_few None d ds = placed_few d (parent_of d.name) ds
plug_few (Some i) d ds = omega arith

plugged_few : (d : NewDevice) (ds : List Device) → length (plugged d ds) ≤ length ds + 1
plugged_few d ds = by (nat_lt (live_count ds) 65536)
  where
    by : (b : Bool) → length (cond b (plug_at (find d.name 0 ds) d ds) ds) ≤ length ds + 1
    by true = plug_few (find d.name 0 ds) d ds
    by false = omega arith

unplug_few : (o : Option ℕ) (ds : List Device) → length (unplug_at o ds) ≤ length ds
unplug_few None ds = omega arith
unplug_few (Some i) ds = omega (arith, length_fall i (take i ds) (drop i ds), length-take i ds, length-drop i ds)

moved_few : (action : Move) (ds : List Device) → length (moved action ds) ≤ length ds + 1
moved_few (Plug d) ds = plugged_few d ds
moved_few (Unplug name) ds = let few = unplug_few (find name 0 ds) ds in omega (arith, few)
moved_few (Iface change) ds = omega arith

-- ---- moves that are scheduled

happen_few : (n : ℕ) (after : Bool) (ms : List Scheduled) (ds : List Device) → length (happen n after ms ds).0 + length (happen n after ms ds).1 ≤ length ms + length ds
happen_few n after [] ds = omega arith
happen_few n after (m ∷ ms) ds = by (due n after m) (happen_few n after ms (moved m.action ds))
  where
    by : (b : Bool) → length (happen n after ms (moved m.action ds)).0 + length (happen n after ms (moved m.action ds)).1 ≤ length ms + length (moved m.action ds)
        → length (cond b (happen n after ms (moved m.action ds)) (m ∷ ms, ds)).0 + length (cond b (happen n after ms (moved m.action ds)) (m ∷ ms, ds)).1 ≤ length (m ∷ ms) + length ds
    by true low = let one = moved_few m.action ds in omega (arith, low, one)
    by false low = omega arith

happen_all_few : (ms : List Scheduled) (ds : List Device) → length (happen_all ms ds) ≤ length ms + length ds
happen_all_few [] ds = omega arith
happen_all_few (m ∷ ms) ds = let rest = happen_all_few ms (moved m.action ds) in let one = moved_few m.action ds in omega (arith, rest, one)

pub shift_few : (n : ℕ) (after : Bool) (w : World) → coming_in (shift n after w) ≤ coming_in w
shift_few n after w = happen_few n after w.moves w.kernel.devices

pub over_few : (w : World) → coming_in (over w) ≤ coming_in w
over_few w = let low = happen_all_few w.moves w.kernel.devices in omega (arith, low)

-- ---- a call

answer_few : (s : World) (call : Call) → coming_in (answer_from (entered s) call).1 ≤ coming_in s
answer_few s call =
    let e : World = entered s in
    let u : World = with_kernel (failure_counted e) (effect (fate_of e) call e.kernel).1 in
    let first = shift_few e.calls false s in
    let last = shift_few u.calls true u in
    let same : length u.kernel.devices ≡ length e.kernel.devices = length_effect (fate_of e) call e.kernel in
    omega (arith, first, last, same)

call_few : (s : World) (call : Call) → coming_in (scripted_answer s call).1 ≤ coming_in s
call_few s call = unless_cases (λ call (p : Answer call × World). coming_in p.1 ≤ coming_in s) s.ran_out s (λ held. omega arith) (λ call t. omega arith) (λ call f. answer_few s call) call

pub play_few : {R : Type 0} (p : Prog R) (s : World) → coming_in (play p s).1 ≤ coming_in s
play_few (Return value) s = omega arith
play_few (Ask call next) s =
    let one = call_few s call in
    let rest = play_few (next (scripted_answer s call).0) (scripted_answer s call).1 in
    omega (arith, one, rest)
play_few (Room next) s = play_few (next true) s

pub halted_few : (o : DiskWorld) (w : World) → coming_in (halted o w) ≡ coming_in w
halted_few o w = by o.stopped
  where
    by : (b : Bool) → coming_in (cond b (halting w) w) ≡ coming_in w
    by true = refl
    by false = refl

-- ---- a line

inserted_few : (ms : List Scheduled) (i : ℕ) (m : Scheduled) → length (insert ms i m) ≤ length ms + 1
inserted_few ms i m = omega (arith, length-append (take i ms) (m ∷ drop i ms), length-take i ms, length-drop i ms)

pub carried_few : (action : Move) (w : World) → coming_in (carried action w) ≤ coming_in w + 1
carried_few action w = let one = moved_few action w.kernel.devices in omega (arith, one)

pub plan_few : (p : Plan) (w : World) → coming_in (planned p w) ≤ coming_in w + 1
plan_few (plan.Move m) w = let one = inserted_few w.moves (queue_place m w.moves) m in omega (arith, one)
plan_few (plan.Fail f) w = omega arith
plan_few (plan.OnDisk p) w = omega arith

-- ---- standings

has_at : (ds : List Device) (i : ℕ) (d : Device) → slice_get ds i ≡ Some d → Has ds d
has_at [] i d e = let none : ⊥ = cc in absurd none
has_at (x ∷ ds) zero d e = inl (same_Some x d e)
has_at (x ∷ ds) (suc i) d e = inr (has_at ds i d e)

-- no two standings have one name, and each has that of its device
pub standings_few : (k : Kernel) (ss : List Standing) (next : ℕ) → Stand k ss next → length ss ≤ length k.devices
standings_few k ss next stand =
    let named : (n : List ℕ) → Has (names_of ss) n → Has (map (λ (e : Device). e.name) k.devices) n = λ n h.
    let x = map_has (λ (s : Standing). s.name) ss n h in
    let d = (stand.devices x.0 x.1).1 in
    subst (Has (map (λ (e : Device). e.name) k.devices)) (d.named ∙ x.2) (has_map (λ (e : Device). e.name) k.devices d.d (has_at k.devices (stand.devices x.0 x.1).0 d.d d.device)) in
    let most = distinct_few (names_of ss) (map (λ (e : Device). e.name) k.devices) stand.names named in
    let old = length-map ss (λ (s : Standing). s.name) in
    let new = length-map k.devices (λ (d : Device). d.name) in
    omega (arith, most, old, new)

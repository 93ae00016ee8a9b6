-- The devices that a script's lines bear.
use Rattle.std.proofs.Common.{◌≡◌, ℕ, zero, suc, ◌+◌, ◌<◌, arith, Bool, true, false, cond, nat_lt, List, [], ◌∷◌, ◌++◌, flat_map, length, map, set, Option, Some, None, Result, Ok, Err, ◌⊎◌, inl, inr, refl, sym, ap, subst, ◌∙◌, append-nil, append_assoc}
use Rattle.std.specs.Cmp.Lexicographic.{pointwise}
use Rattle.std.specs.List.{slice_get}
use Rattle.std.specs.Prelude.{nat_eq}
use Rattle.std.proofs.lemmas.Bool.{both_ways, lt-ltb, ltb-true}
use Rattle.std.proofs.lemmas.Grind.{flat_map-append}
use Rattle.std.proofs.lemmas.List.{map-append}
use Rattle.std.proofs.lemmas.Option.{none-some, same_Some}
use Rattle.ug_types.specs.Names.{parent_of}
use Rattle.ug_kernel.specs.declared.control.Write.{Write}
use Rattle.ug_types.specs.declared.rule.Rule as types
use Rattle.ug_kernel.specs.declared.device.Device.{Device}
use Rattle.ug_kernel.specs.declared.device.Effect.{Effect}
use Rattle.ug_kernel.specs.Called.{written_to}
use Rattle.ug_kernel.specs.Calls.{Call, Open, Put}
use Rattle.ug_kernel.specs.Kernel.{BeginsWith, IsSound, Kernel, Moved, live_count}
use Rattle.ug_kernel.specs.Tree.{Prog, Return, Ask, Room}
use Rattle.ug_kernel.proofs.Sounds.{sound_set}
use Rattle.ug_sysfs.specs.declared.script.Move.{Move}
use Rattle.ug_sysfs.specs.declared.script.Move.TheVariants as move
use Rattle.ug_sysfs.specs.declared.script.NewDevice.{NewDevice}
use Rattle.ug_sysfs.specs.declared.script.Scheduled.{Scheduled}
use Rattle.ug_sysfs.specs.Below.{unplugged_felled, unplugged_nobody}
use Rattle.ug_sysfs.specs.Birth.{CanBeBorn, IsParent, plugged_born, plugged_not}
use Rattle.ug_sysfs.specs.Devices.{find}
use Rattle.ug_sysfs.specs.Find.{find_none, find_some, live_held_some}
use Rattle.ug_sysfs.specs.Sound.{sound_happen}
use Rattle.ug_sysfs.specs.World.{World, answer_from, scripted_answer, event_begun, due, effect, entered, fate_of, happen, happen_all, live_held, moved, opened_at, over, put_at, switched, switched_to, with_file}
use Rattle.ug_kernel.specs.Calls.{Answer, raised}
use Rattle.ug_script.specs.Play.{play}
use Rattle.ug_script.proofs.Plays.{unless_cases}
use Rattle.ug_store.specs.PlayDisk.{play_disk}
use Rattle.ug_store.specs.Scripted.{DiskWorld}
use Rattle.ug_command_io.specs.Fold.{LineRefusal, BadLine, Going, Halted, InputTooLong, LineOutcome, Refused, Stage, Writes, is_within, plays, stage_after}
use Rattle.ug_core.specs.Answering.{acting, asking, deed_after}
use Rattle.ug_core.specs.Event.{DaemonState, handling, has_numbers, ready}
use Rattle.ug_core.specs.Storing.{stored_with, storing}
use Rattle.ug_types.specs.declared.event.Event as events
use Rattle.ug_types.specs.declared.event.Event.TheVariants.{Sweep, Order, Hint}
use Rattle.ug_steps.specs.declared.step.Plan.{Plan}
use Rattle.ug_steps.specs.declared.step.Plan.TheVariants as plan
use Rattle.ug_steps.specs.declared.step.Step.{Step}
use Rattle.ug_steps.specs.declared.step.Step.TheVariants as step
use Rattle.ug_script.specs.Births.{AreMovesOf, Becomes, BecomesBy, Born, Change, Facts, Idle, StaysBorn, Unplugged, Wrote, birth_in, effect_in, facts_given, facts_of, move_in}
use Rattle.ug_sysfs.specs.AtCalls.{scheduled_action}
use Rattle.ug_steps.specs.Grammar.{step_of_line}
use Rattle.ug_sysfs.specs.Serving.{bus_in, iface_answer_from, iface_answer_of, iface_answer_unless, iface_effect, with_bus}
use Rattle.ug_sysfs.specs.World.{failure_counted}
use Rattle.ug_iface.specs.declared.rules.IfaceRule.{IfaceRule}
use Rattle.ug_iface.specs.declared.settle.Begun.{Begun}
use Rattle.ug_iface.specs.declared.settle.Begun.TheVariants.{Walks, Ends}
use Rattle.ug_iface.specs.Calls.{IfaceCall, Close as CloseIface}
use Rattle.ug_iface.specs.Order.{in_iface_order}
use Rattle.ug_iface.specs.Settle.{Aim, beginning, walking}
use Rattle.ug_iface.specs.Tree.{IfaceProg, Return as Gives, Make, Room as IfaceRoom}
use Rattle.ug_script.specs.Passes.{aims_in, device_pass, pass_behind, pass_over, play_ifaces, walk_from}
use Rattle.ug_script.proofs.PassBehind.{effect_kernel}
use Rattle.ug_script.specs.Replay.{Played, order_played_by, answered_from, begun_disk, came_of, event_from, finished, halted, header, in_script, line_added, planned, quiet, restarted, script_step, stop_in, stopped_of, taken, taken_if, tried_by}
use Rattle.ug_sysfs.specs.Queue.{IsSchedule}
use Rattle.ug_script.specs.Script.{Script, can_start, daemon_in, disk_in, fresh, takes_setup}
use Rattle.ug_script.specs.Setup.{SetupState, one_line_more, rules_from, steps_of}
use Rattle.ug_script.proofs.Halts.{halted_kernel, halted_moves}
use Rattle.ug_script.proofs.Turns.{one_more_move}

-- ---- one move

orphan : (name : List ℕ) (ds : List Device) (p : List ℕ) → parent_of name ≡ Some p → find p 0 ds ≡ None → (o : Option ℕ) → IsParent o name ds → ⊥
orphan name ds p h none None is = none-some p (sym is ∙ h)
orphan name ds p h none (Some i) is = find_none p 0 ds none i is.0 is.1 (same_Some is.0.name p (sym is.2 ∙ h))

decide_born : (d : NewDevice) (ds : List Device) → CanBeBorn d ds ⊎ (CanBeBorn d ds → ⊥)
decide_born d ds = roomy (nat_lt (live_count ds) 65536) refl
  where
    under : live_count ds < 65536 → find d.name 0 ds ≡ None → (p : List ℕ) → parent_of d.name ≡ Some p → (o : Option ℕ) → find p 0 ds ≡ o → CanBeBorn d ds ⊎ (CanBeBorn d ds → ⊥)
    under few free p h None none = inr (λ can. orphan d.name ds p h none can.parent.0 can.parent.1)
    under few free p h (Some i) some =
        let f = find_some p i ds some in
        inl (record { few = few; free = find_none d.name 0 ds free; parent = (Some i, (f.device, f.live, h ∙ ap Some (sym f.named))) })

    placed : live_count ds < 65536 → find d.name 0 ds ≡ None → (o : Option (List ℕ)) → parent_of d.name ≡ o → CanBeBorn d ds ⊎ (CanBeBorn d ds → ⊥)
    placed few free None h = inl (record { few = few; free = find_none d.name 0 ds free; parent = (None, h) })
    placed few free (Some p) h = under few free p h (find p 0 ds) refl

    at : live_count ds < 65536 → (o : Option ℕ) → find d.name 0 ds ≡ o → CanBeBorn d ds ⊎ (CanBeBorn d ds → ⊥)
    at few None h = placed few h (parent_of d.name) refl
    at few (Some i) h = inr (λ can. let f = find_some d.name i ds h in can.free i f.device f.live f.named)

    roomy : (b : Bool) → nat_lt (live_count ds) 65536 ≡ b → CanBeBorn d ds ⊎ (CanBeBorn d ds → ⊥)
    roomy true h = at (ltb-true (live_count ds) 65536 h) (find d.name 0 ds) refl
    roomy false h = inr (λ can. both_ways (nat_lt (live_count ds) 65536) h (lt-ltb (live_count ds) 65536 can.few))

record Does (action : Move) (ds : List Device) : Type 0 where
  change : Change
  move : move_in change ≡ action ∷ []
  effect : effect_in change ≡ []
  becomes : Becomes change ds (moved action ds)

does_move : (action : Move) (ds : List Device) → IsSound ds → Does action ds
does_move (move.Plug d) ds s = elim (decide_born d ds) [
  | inl can ↦ record { change = Born d; move = refl; effect = refl; becomes = (can, plugged_born d ds can) }
  | inr cannot ↦ record { change = Idle (move.Plug d); move = refl; effect = refl; becomes = (cannot, plugged_not d ds cannot) }
]
does_move (move.Unplug name) ds s = at (find name 0 ds) refl
  where
    at : (o : Option ℕ) → find name 0 ds ≡ o → Does (move.Unplug name) ds
    at None h = record { change = Idle (move.Unplug name); move = refl; effect = refl; becomes = (find_none name 0 ds h, unplugged_nobody name ds (find_none name 0 ds h)) }
    at (Some i) h =
        let f = find_some name i ds h in
        record { change = Unplugged name; move = refl; effect = refl; becomes = record { i = i; d = f.device; live = f.live; named = f.named; felled = unplugged_felled name ds i f.device s f.live f.named } }
does_move (move.Iface change) ds s = record { change = Idle (move.Iface change); move = refl; effect = refl; becomes = (tt, refl) }

sound_move : (action : Move) (ds : List Device) → IsSound ds → IsSound (moved action ds)
sound_move action ds s = sound_happen 1 false (record { call = 0; after = false; action = action } ∷ []) ds s

-- ---- from one kernel to the next, where these moves are still to come

becomes_then : (cs es : List Change) (ds fs gs : List Device) → BecomesBy cs ds fs → BecomesBy es fs gs → BecomesBy (cs ++ es) ds gs
becomes_then [] es ds fs gs x y = subst (λ (v : List Device). BecomesBy es v gs) x y
becomes_then (c ∷ cs) es ds fs gs x y = (x.0, x.1, becomes_then cs es x.0 fs gs x.2 y)

record Goes (ms : List Scheduled) (k : Kernel) (ns : List Scheduled) (l : Kernel) : Type 0 where
  done : List Scheduled
  split : ms ≡ done ++ ns
  changes : List Change
  moves : flat_map move_in changes ≡ map scheduled_action done
  log : l.log ≡ k.log ++ flat_map effect_in changes
  becomes : BecomesBy changes k.devices l.devices
  sound : IsSound l.devices

log_then : (a b c : List Effect) (cs es : List Change) → b ≡ a ++ flat_map effect_in cs → c ≡ b ++ flat_map effect_in es → c ≡ a ++ flat_map effect_in (cs ++ es)
log_then a b c cs es x y = y ∙ ap (λ (l : List Effect). l ++ flat_map effect_in es) x ∙ append_assoc a (flat_map effect_in cs) (flat_map effect_in es) ∙ ap (λ (l : List Effect). a ++ l) (sym (flat_map-append effect_in cs es))

goes_then : (ms ns os : List Scheduled) (k l m : Kernel) → Goes ms k ns l → Goes ns l os m → Goes ms k os m
goes_then ms ns os k l m x y = record {
  done = x.done ++ y.done;
  split = x.split ∙ ap (λ (v : List Scheduled). x.done ++ v) y.split ∙ sym (append_assoc x.done y.done os);
  changes = x.changes ++ y.changes;
  moves = flat_map-append move_in x.changes y.changes ∙ ap (λ (v : List Move). v ++ flat_map move_in y.changes) x.moves ∙ ap (λ (v : List Move). map scheduled_action x.done ++ v) y.moves ∙ sym (map-append scheduled_action x.done y.done);
  log = log_then k.log l.log m.log x.changes y.changes x.log y.log;
  becomes = becomes_then x.changes y.changes k.devices l.devices m.devices x.becomes y.becomes;
  sound = y.sound;
}

goes_still : (ms : List Scheduled) (k l : Kernel) → l.devices ≡ k.devices → l.log ≡ k.log → IsSound k.devices → Goes ms k ms l
goes_still ms k l devices log s = record {
  done = [];
  split = refl;
  changes = [];
  moves = refl;
  log = log ∙ sym (append-nil k.log);
  becomes = devices;
  sound = subst IsSound (sym devices) s;
}

goes_one : (m : Scheduled) (ms : List Scheduled) (k : Kernel) → IsSound k.devices → Goes (m ∷ ms) k ms (record k { devices = moved m.action k.devices })
goes_one m ms k s =
    let x = does_move m.action k.devices s in
    record {
      done = m ∷ [];
      split = refl;
      changes = x.change ∷ [];
      moves = append-nil (move_in x.change) ∙ x.move;
      log = sym (ap (λ (l : List Effect). k.log ++ l) (append-nil (effect_in x.change) ∙ x.effect) ∙ append-nil k.log);
      becomes = (moved m.action k.devices, x.becomes, refl);
      sound = sound_move m.action k.devices s;
    }

goes_on : (n : ℕ) (after : Bool) (m : Scheduled) (ms : List Scheduled) (k : Kernel) → IsSound k.devices → (b : Bool) → ((l : Kernel) → IsSound l.devices → Goes ms l (happen n after ms l.devices).0 (record l { devices = (happen n after ms l.devices).1 })) → Goes (m ∷ ms) k (cond b (happen n after ms (moved m.action k.devices)) (m ∷ ms, k.devices)).0 (record k { devices = (cond b (happen n after ms (moved m.action k.devices)) (m ∷ ms, k.devices)).1 })
goes_on n after m ms k s true rest =
    let next : Kernel = record k { devices = moved m.action k.devices } in
    goes_then (m ∷ ms) ms (happen n after ms next.devices).0 k next (record next { devices = (happen n after ms next.devices).1 }) (goes_one m ms k s) (rest next (sound_move m.action k.devices s))
goes_on n after m ms k s false rest = goes_still (m ∷ ms) k k refl refl s

happen_goes : (n : ℕ) (after : Bool) (ms : List Scheduled) (k : Kernel) → IsSound k.devices → Goes ms k (happen n after ms k.devices).0 (record k { devices = (happen n after ms k.devices).1 })
happen_goes n after [] k s = goes_still [] k k refl refl s
happen_goes n after (m ∷ ms) k s = goes_on n after m ms k s (due n after m) (λ l sound. happen_goes n after ms l sound)

all_go : (ms : List Scheduled) (k : Kernel) → IsSound k.devices → Goes ms k [] (record k { devices = happen_all ms k.devices })
all_go [] k s = goes_still [] k k refl refl s
all_go (m ∷ ms) k s =
    let next : Kernel = record k { devices = moved m.action k.devices } in
    goes_then (m ∷ ms) ms [] k next (record next { devices = happen_all ms next.devices }) (goes_one m ms k s) (all_go ms next (sound_move m.action k.devices s))

-- ---- a call

put_goes : (held : ℕ) (write : Write) (ms : List Scheduled) (k : Kernel) → IsSound k.devices → (o : Option ℕ) → live_held held k.held k.devices ≡ o → Goes ms k ms (put_at write o k).1
put_goes held write ms k s None h = goes_still ms k k refl refl s
put_goes held write ms k s (Some i) h =
    let f = live_held_some held i k.held k.devices h in
    let e : Effect = record { device = i; write = write } in
    let is : switched write i k.devices ≡ set k.devices i (written_to write f.device) = ap (λ (o : Option Device). switched_to write i o k.devices) f.live.at in
    record {
      done = [];
      split = refl;
      changes = Wrote e ∷ [];
      moves = refl;
      log = refl;
      becomes = (switched write i k.devices, record { d = f.device; live = f.live; is = is }, refl);
      sound = subst IsSound (sym is) (sound_set write k.devices i f.device f.live.at s);
    }

effect_goes : (f : Option Bool) (call : Call) (ms : List Scheduled) (k : Kernel) → IsSound k.devices → Goes ms k ms (effect f call k).1
effect_goes None (Open name control) ms k s = elim (with_file control (find name 0 k.devices) k.devices) as (λ (o : Option ℕ). Goes ms k ms (opened_at control o k).1) [ None ↦ goes_still ms k k refl refl s | Some i ↦ goes_still ms k (opened_at control (Some i) k).1 refl refl s ]
effect_goes None (Put held write) ms k s = put_goes held write ms k s (live_held held k.held k.devices) refl
effect_goes (Some true) (Put held write) ms k s = put_goes held write ms k s (live_held held k.held k.devices) refl
effect_goes f call ms k s = goes_still ms k k refl refl s

abbrev GoesTo : World → World → Type 0
GoesTo w t = Goes w.moves w.kernel t.moves t.kernel

-- a call from its effect on
from_goes : (w : World) (call : Call) → IsSound w.kernel.devices → GoesTo w (answer_from w call).1
from_goes w call s =
    let k : Kernel = (effect (fate_of w) call w.kernel).1 in
    let x = effect_goes (fate_of w) call w.moves w.kernel s in
    goes_then w.moves w.moves (answer_from w call).1.moves w.kernel k (answer_from w call).1.kernel x (happen_goes w.calls true w.moves k x.sound)

answer_goes : (w : World) (call : Call) → IsSound w.kernel.devices → GoesTo w (answer_from (entered w) call).1
answer_goes w call s =
    let x = happen_goes (raised w.calls) false w.moves w.kernel s in
    let t : World = (answer_from (entered w) call).1 in
    goes_then w.moves (entered w).moves t.moves w.kernel (entered w).kernel t.kernel x (from_goes (entered w) call x.sound)

call_goes : (w : World) (call : Call) → IsSound w.kernel.devices → GoesTo w (scripted_answer w call).1
call_goes w call s = unless_cases (λ call (p : Answer call × World). GoesTo w p.1) w.ran_out w (λ held. goes_still w.moves w.kernel w.kernel refl refl s) (λ call t. goes_still w.moves w.kernel w.kernel refl refl s) (λ call f. answer_goes w call s) call

play_goes : {R : Type 0} (p : Prog R) (w : World) → IsSound w.kernel.devices → GoesTo w (play p w).1
play_goes (Return value) w s = goes_still w.moves w.kernel w.kernel refl refl s
play_goes (Ask call next) w s =
    let u : World = (scripted_answer w call).1 in
    let t : World = (play (next (scripted_answer w call).0) u).1 in
    let x = call_goes w call s in
    goes_then w.moves u.moves t.moves w.kernel u.kernel t.kernel x (play_goes (next (scripted_answer w call).0) u x.sound)
play_goes (Room next) w s = play_goes (next true) w s

-- ---- an event

to_then : (w u t : World) → GoesTo w u → GoesTo u t → GoesTo w t
to_then w u t x y = goes_then w.moves u.moves t.moves w.kernel u.kernel t.kernel x y

halted_goes : (o : DiskWorld) (w : World) → IsSound w.kernel.devices → GoesTo w (halted o w)
halted_goes o w s =
    let still : Goes w.moves w.kernel w.moves (halted o w).kernel = goes_still w.moves w.kernel (halted o w).kernel (ap (λ (k : Kernel). k.devices) (halted_kernel o w)) (ap (λ (k : Kernel). k.log) (halted_kernel o w)) s in
    subst (λ (ms : List Scheduled). Goes w.moves w.kernel ms (halted o w).kernel) (sym (halted_moves o w)) still

answered_goes : (event : events.Event) (d : DaemonState) (w : World) (o : DiskWorld) → IsSound w.kernel.devices → GoesTo w (order_played_by event d w o).world
answered_goes (Sweep moment) d w o s = goes_still w.moves w.kernel w.kernel refl refl s
answered_goes (Hint moment piece) d w o s = goes_still w.moves w.kernel w.kernel refl refl s
answered_goes (Order moment who line) d w o s =
    let c = play (asking d who line) w in
    let b = play_disk (storing d c.0.change) o in
    let x = play_goes (asking d who line) w s in
    to_then w c.1 (play (acting who (stored_with b.0 c.0.change d) (deed_after b.0 c.0.deed)) c.1).1 x (play_goes (acting who (stored_with b.0 c.0.change d) (deed_after b.0 c.0.deed)) c.1 x.sound)

-- an event
event_reaches : (event : events.Event) (d : DaemonState) (w : World) (o : DiskWorld) → IsSound w.kernel.devices → GoesTo w (event_from event d w o).world
event_reaches event d w o s =
    let q : DiskWorld = (tried_by d o).1 in
    let start : World = halted q (event_begun w) in
    let a = answered_from event d w o in
    let middle : World = halted a.disk a.world in
    let p = event_from event d w o in
    let x : GoesTo (event_begun w) start = halted_goes q (event_begun w) s in
    let y : GoesTo start a.world = answered_goes event (ready event (tried_by d o).0 d) start q x.sound in
    let z : GoesTo a.world middle = halted_goes a.disk a.world y.sound in
    let v : GoesTo middle p.world = play_goes (handling a.daemon) middle z.sound in
    to_then (event_begun w) start p.world x (to_then start a.world p.world y (to_then a.world middle p.world z v))

-- and what is still to come
over_goes : (w v : World) → GoesTo w v → Goes w.moves w.kernel [] (over v).kernel
over_goes w v g = goes_then w.moves v.moves [] w.kernel v.kernel (over v).kernel g (all_go v.moves v.kernel g.sound)

-- ---- a pass

iface_goes : (w : World) (call : IfaceCall) → IsSound w.kernel.devices → GoesTo w (iface_answer_from (entered w) call).1
iface_goes w call s =
    let u : World = entered w in
    let v : World = with_bus (failure_counted u) (iface_effect (fate_of u) call (bus_in u)).1 in
    let same : v.kernel ≡ u.kernel = effect_kernel (fate_of u) call (bus_in u) in
    let x : GoesTo w u = happen_goes (raised w.calls) false w.moves w.kernel s in
    let y : GoesTo u v = goes_still u.moves u.kernel v.kernel (ap (λ (k : Kernel). k.devices) same) (ap (λ (k : Kernel). k.log) same) x.sound in
    let z : GoesTo v (iface_answer_from u call).1 = happen_goes v.calls true v.moves v.kernel y.sound in
    to_then w u (iface_answer_from u call).1 x (to_then u v (iface_answer_from u call).1 y z)

iface_unless : (out : Bool) (w : World) (call : IfaceCall) → IsSound w.kernel.devices → GoesTo w (iface_answer_unless out w call).1
iface_unless out w (CloseIface held) s = goes_still w.moves w.kernel w.kernel refl refl s
iface_unless true w call s = goes_still w.moves w.kernel w.kernel refl refl s
iface_unless false w call s = iface_goes w call s

play_ifaces_goes : {R : Type 0} (p : IfaceProg R) (w : World) → IsSound w.kernel.devices → GoesTo w (play_ifaces p w).1
play_ifaces_goes (Gives value) w s = goes_still w.moves w.kernel w.kernel refl refl s
play_ifaces_goes (Make call next) w s =
    let u : World = (iface_answer_of w call).1 in
    let x : GoesTo w u = iface_unless w.ran_out w call s in
    to_then w u (play_ifaces (next (iface_answer_of w call).0) u).1 x (play_ifaces_goes (next (iface_answer_of w call).0) u x.sound)
play_ifaces_goes (IfaceRoom next) w s = play_ifaces_goes (next true) w s

walk_goes : (aim : Aim) (w : World) (p : Begun × World) → GoesTo w p.1 → GoesTo w (walk_from aim p).world
walk_goes aim w (Ends end, u) g = g
walk_goes aim w (Walks names, u) g = to_then w u (play_ifaces (walking aim (in_iface_order names) []) u).1 g (play_ifaces_goes (walking aim (in_iface_order names) []) u g.sound)

pass_goes : (aims : List Aim) (w : World) → IsSound w.kernel.devices → GoesTo w (pass_over aims w).world
pass_goes [] w s = goes_still w.moves w.kernel w.kernel refl refl s
pass_goes (aim ∷ aims) w s =
    let u : World = (device_pass aim w).world in
    let x : GoesTo w u = walk_goes aim w (play_ifaces (beginning aim.device.via_port) w) (play_ifaces_goes (beginning aim.device.via_port) w s) in
    to_then w u (pass_over aims u).world x (pass_goes aims u x.sound)

behind_goes : (rules : List IfaceRule) (d : DaemonState) (w : World) → IsSound w.kernel.devices → GoesTo w (pass_behind rules d w).world
behind_goes [] d w s = goes_still w.moves w.kernel w.kernel refl refl s
behind_goes (rule ∷ rules) d w s = pass_goes (aims_in (rule ∷ rules) d.sweep.standings) w s

-- ---- steps one after another

-- from one kernel to the other by these steps, where these moves were written for the next event
record Comes (written : List Scheduled) (steps : List (Option Step)) (k l : Kernel) : Type 0 where
  changes : List Change
  moves : AreMovesOf written steps (flat_map move_in changes)
  log : l.log ≡ k.log ++ flat_map effect_in changes
  becomes : BecomesBy changes k.devices l.devices

abbrev Leads : List Scheduled → Option Step → Kernel → List Scheduled → Kernel → Type 0
Leads written asked k next l = (steps : List (Option Step)) (m : Kernel) → Comes next steps l m → Comes written (asked ∷ steps) k m

-- what a step leads to
abbrev After : List Scheduled → Option Step → Kernel → LineOutcome (Option Script × World) → Type 0
After written asked k (Writes more (Some s, w)) = (next : List Scheduled) × IsSchedule next w.moves × IsSound w.kernel.devices × Leads written asked k next w.kernel
After written asked k (Writes more (None, w)) = ⊥
After written asked k (Refused fault next) = Unit {0}

after_when : (written : List Scheduled) (asked : Option Step) (k : Kernel) (b : Bool) (o p : LineOutcome (Option Script × World)) → After written asked k o → After written asked k p → After written asked k (cond b o p)
after_when written asked k true o p x y = x
after_when written asked k false o p x y = y

added_after : (written : List Scheduled) (asked : Step) (s : Script) (w : World) (o : Option SetupState) → IsSchedule written w.moves → IsSound w.kernel.devices → Leads written (Some asked) w.kernel written w.kernel → After written (Some asked) w.kernel (line_added o s w)
added_after written asked s w None schedule sound leads = tt
added_after written asked s w (Some setup) schedule sound leads = (written, schedule, sound, leads)

restarted_after : (written : List Scheduled) (s : Script) (w : World) (loaded : Result (List types.Rule) LineRefusal) → IsSchedule written w.moves → IsSound w.kernel.devices → After written (Some step.Restart) w.kernel (restarted loaded s w)
restarted_after written s w (Ok rules) schedule sound = (written, schedule, sound, λ steps m h. record { changes = h.changes; moves = h.moves; log = h.log; becomes = h.becomes })
restarted_after written s w (Err fault) schedule sound = tt

move_leads : (written : List Scheduled) (action : Move) (k : Kernel) → IsSound k.devices → Leads written (Some (step.Move action)) k written (record k { devices = moved action k.devices })
move_leads written action k s = λ steps m h.
    let x = does_move action k.devices s in
    record {
      changes = x.change ∷ h.changes;
      moves = (flat_map move_in h.changes, ap (λ (v : List Move). v ++ flat_map move_in h.changes) x.move, h.moves);
      log = h.log ∙ ap (λ (v : List Effect). k.log ++ (v ++ flat_map effect_in h.changes)) (sym x.effect);
      becomes = (moved action k.devices, x.becomes, h.becomes);
    }

plan_after : (written : List Scheduled) (p : Plan) (s : Script) (w : World) → IsSchedule written w.moves → IsSound w.kernel.devices → (next : List Scheduled) × IsSchedule next (planned p w).moves × IsSound (planned p w).kernel.devices × Leads written (Some (step.Schedule p)) w.kernel next (planned p w).kernel
plan_after written (plan.Move m) s w schedule sound = (written ++ m ∷ [], one_more_move written w.moves m schedule, sound, λ steps n h. record { changes = h.changes; moves = h.moves; log = h.log; becomes = h.becomes })
plan_after written (plan.Fail f) s w schedule sound = (written, schedule, sound, λ steps n h. record { changes = h.changes; moves = h.moves; log = h.log; becomes = h.becomes })
plan_after written (plan.OnDisk p) s w schedule sound = (written, schedule, sound, λ steps n h. record { changes = h.changes; moves = h.moves; log = h.log; becomes = h.becomes })

nothing_written : IsSchedule [] []
nothing_written = record { in_turn = tt; each = λ n. refl }

event_leads : (written ms : List Scheduled) (event : events.Event) (k l : Kernel) → IsSchedule written ms → Goes ms k [] l → Leads written (Some (step.Event event)) k [] l
event_leads written ms event k l schedule g = λ steps m h.
    let all : g.done ≡ ms = sym (g.split ∙ append-nil g.done) in
    record {
      changes = g.changes ++ h.changes;
      moves = (ms, flat_map move_in h.changes, schedule, flat_map-append move_in g.changes h.changes ∙ ap (λ (v : List Move). v ++ flat_map move_in h.changes) (g.moves ∙ ap (λ (v : List Scheduled). map scheduled_action v) all), h.moves);
      log = log_then k.log l.log m.log g.changes h.changes g.log h.log;
      becomes = becomes_then g.changes h.changes k.devices l.devices m.devices g.becomes h.becomes;
    }

over_after : (written : List Scheduled) (event : events.Event) (k : Kernel) (v : World) → Leads written (Some (step.Event event)) k [] (over v).kernel → IsSound (over v).kernel.devices → (next : List Scheduled) × IsSchedule next (over v).moves × IsSound (over v).kernel.devices × Leads written (Some (step.Event event)) k next (over v).kernel
over_after written event k v leads sound = ([], nothing_written, sound, leads)

stopped_after : (written : List Scheduled) (event : events.Event) (k : Kernel) (s : Script) (call : ℕ) (p : Played) (loaded : Result (List types.Rule) LineRefusal) → Leads written (Some (step.Event event)) k [] (over p.world).kernel → IsSound (over p.world).kernel.devices → After written (Some (step.Event event)) k (in_script s (stopped_of s.setup call p loaded))
stopped_after written event k s call p (Ok rules) leads sound = over_after written event k p.world leads sound
stopped_after written event k s call p (Err fault) leads sound = tt

came_after : (written : List Scheduled) (event : events.Event) (k : Kernel) (s : Script) (p : Played) (stopped : Bool) → ((v : World) → GoesTo p.world v → Leads written (Some (step.Event event)) k [] (over v).kernel × IsSound (over v).kernel.devices) → IsSound p.world.kernel.devices → After written (Some (step.Event event)) k (in_script s (cond stopped (stopped_of s.setup (stop_in s.planned p) p (rules_from s.setup.folder.count p.disk.disk.text)) (finished s.setup.ifaces p)))
came_after written event k s p true leads sound =
    let here = leads p.world (goes_still p.world.moves p.world.kernel p.world.kernel refl refl sound) in
    stopped_after written event k s (stop_in s.planned p) p (rules_from s.setup.folder.count p.disk.disk.text) here.0 here.1
came_after written event k s p false leads sound =
    let v : World = (pass_behind s.setup.ifaces p.daemon p.world).world in
    let there = leads v (behind_goes s.setup.ifaces p.daemon p.world sound) in
    over_after written event k v there.0 there.1

event_after : (written : List Scheduled) (event : events.Event) (k : Kernel) (s : Script) (w : World) (start room : Bool) (came : LineOutcome Played) (other : Played) → After written (Some (step.Event event)) k (in_script s came) → After written (Some (step.Event event)) k (cond start (in_script s (cond room came (Refused BadLine other))) (Refused InputTooLong (Some s, w)))
event_after written event k s w true true came other h = h
event_after written event k s w true false came other h = tt
event_after written event k s w false room came other h = tt

step_after : (written : List Scheduled) (asked : Step) (s : Script) (w : World) → IsSchedule written w.moves → IsSound w.kernel.devices → After written (Some asked) w.kernel (taken asked s w)
step_after written step.Skip s w schedule sound = (written, schedule, sound, λ steps m h. record { changes = h.changes; moves = h.moves; log = h.log; becomes = h.becomes })
step_after written (step.Setup line) s w schedule sound = after_when written (Some (step.Setup line)) w.kernel (takes_setup s.phase) (line_added (one_line_more line s.setup) s w) (Refused BadLine (Some s, w)) (added_after written (step.Setup line) s w (one_line_more line s.setup) schedule sound (λ steps m h. record { changes = h.changes; moves = h.moves; log = h.log; becomes = h.becomes })) tt
step_after written (step.Move action) s w schedule sound = (written, schedule, sound_move action w.kernel.devices sound, move_leads written action w.kernel sound)
step_after written (step.Schedule p) s w schedule sound = plan_after written p s w schedule sound
step_after written (step.Event event) s w schedule sound =
    let p : Played = event_from event (daemon_in s) w (begun_disk s.planned (disk_in s)) in
    let g : GoesTo w p.world = event_reaches event (daemon_in s) w (begun_disk s.planned (disk_in s)) sound in
    let leads : (v : World) → GoesTo p.world v → Leads written (Some (step.Event event)) w.kernel [] (over v).kernel × IsSound (over v).kernel.devices = λ v more.
    let x = over_goes w v (to_then w p.world v g more) in
    (event_leads written w.moves event w.kernel (over v).kernel schedule x, x.sound) in
    event_after written event w.kernel s w (can_start s.setup s.phase) (has_numbers (daemon_in s) w.faults (disk_in s).faults) (came_of s.setup s.planned p) _ (came_after written event w.kernel s p p.disk.stopped leads g.sound)
step_after written step.Restart s w schedule sound = after_when written (Some step.Restart) w.kernel (can_start s.setup s.phase) (restarted (rules_from s.setup.folder.count (disk_in s).disk.text) s w) (Refused InputTooLong (Some s, w)) (restarted_after written s w (rules_from s.setup.folder.count (disk_in s).disk.text) schedule sound) tt

line_after : (written : List Scheduled) (asked : Option Step) (s : Script) (w : World) → IsSchedule written w.moves → IsSound w.kernel.devices → After written asked w.kernel (taken_if asked s w)
line_after written None s w schedule sound = tt
line_after written (Some asked) s w schedule sound = step_after written asked s w schedule sound

-- ---- lines one after another

refused_on : (fault : LineRefusal) (n : ℕ) (text : List ℕ) (p : Option Script × World) (lines : List (List ℕ)) → plays script_step (Halted fault n text p) lines ≡ Halted fault n text p
refused_on fault n text p [] = refl
refused_on fault n text p (line ∷ lines) = refused_on fault n text p lines

never : {X : Type 0} (fault : LineRefusal) (n : ℕ) (text : List ℕ) (p : Option Script × World) (lines : List (List ℕ)) (m : ℕ) (out : List ℕ) (q : Option Script × World) → plays script_step (Halted fault n text p) lines ≡ Going m out q → X
never fault n text p lines m out q e = let h : Halted fault n text p ≡ Going m out q = sym (refused_on fault n text p lines) ∙ e in let none : ⊥ = cc in absurd none

abbrev EndsAt : List Scheduled → Kernel → Stage (Option Script × World) → Type 0
EndsAt written k (Going n text (Some s, w)) = Comes written [] k w.kernel
EndsAt written k (Going n text (None, w)) = ⊥
EndsAt written k (Halted fault n text p) = Unit {0}

rest_comes : (written : List Scheduled) (asked : Option Step) (k : Kernel) (n : ℕ) (text : List ℕ) (p : Option Script × World) (lines : List (List ℕ)) (m : ℕ) (out : List ℕ) (t : Script) (v : World)
    → ((next : List Scheduled) (more : List ℕ) (s : Script) (w : World) → IsSchedule next w.moves → IsSound w.kernel.devices → plays script_step (Going (n + 1) more (Some s, w)) lines ≡ Going m out (Some t, v) → Comes next (map step_of_line lines) w.kernel v.kernel)
    → (b : Bool) (o : LineOutcome (Option Script × World)) → After written asked k o → plays script_step (cond b (stage_after n text o) (Halted BadLine n text p)) lines ≡ Going m out (Some t, v) → Comes written (asked ∷ map step_of_line lines) k v.kernel
rest_comes written asked k n text p lines m out t v again true (Writes more (Some s, w)) h e = h.3 (map step_of_line lines) v.kernel (again h.0 (text ++ more) s w h.1 h.2 e)
rest_comes written asked k n text p lines m out t v again true (Writes more (None, w)) h e = absurd h
rest_comes written asked k n text p lines m out t v again true (Refused fault next) h e = never fault n text next lines m out (Some t, v) e
rest_comes written asked k n text p lines m out t v again false o h e = never BadLine n text p lines m out (Some t, v) e

lines_come : (lines : List (List ℕ)) (written : List Scheduled) (n : ℕ) (text : List ℕ) (s : Script) (w : World) (m : ℕ) (out : List ℕ) (t : Script) (v : World) → IsSchedule written w.moves → IsSound w.kernel.devices → plays script_step (Going n text (Some s, w)) lines ≡ Going m out (Some t, v) → Comes written (map step_of_line lines) w.kernel v.kernel
lines_come [] written n text s w m out t v schedule sound e =
    subst (EndsAt written w.kernel) e (record { changes = []; moves = refl; log = sym (append-nil w.kernel.log); becomes = refl })
lines_come (line ∷ lines) written n text s w m out t v schedule sound e =
    let asked : Option Step = step_of_line line in
    rest_comes written asked w.kernel n text (Some s, w) lines m out t v (λ next more r u schedules sounds f. lines_come lines next (n + 1) more r u m out t v schedules sounds f) (is_within n line) (script_step (Some s, w) line) (line_after written asked s w schedule sound) e

header_comes : (first : World) (lines : List (List ℕ)) (m : ℕ) (out : List ℕ) (t : Script) (v : World) (b c : Bool) → IsSchedule [] first.moves → IsSound first.kernel.devices → plays script_step (cond b (stage_after 0 [] (cond c (quiet fresh first) (Refused BadLine (None, first)))) (Halted BadLine 0 [] (None, first))) lines ≡ Going m out (Some t, v) → Comes [] (map step_of_line lines) first.kernel v.kernel
header_comes first lines m out t v true true schedule sound e = lines_come lines [] 1 [] fresh first m out t v schedule sound e
header_comes first lines m out t v true false schedule sound e = never BadLine 0 [] (None, first) lines m out (Some t, v) e
header_comes first lines m out t v false c schedule sound e = never BadLine 0 [] (None, first) lines m out (Some t, v) e

abbrev BeforeHeader : Stage (Option Script × World) → Type 0
BeforeHeader (Going n text (None, w)) = Unit {0}
BeforeHeader (Going n text (Some s, w)) = ⊥
BeforeHeader (Halted fault n text p) = Unit {0}

all_come : (first : World) → first.moves ≡ [] → IsSound first.kernel.devices → (lines : List (List ℕ)) (n : ℕ) (text : List ℕ) (s : Script) (w : World) → plays script_step (Going 0 [] (None, first)) lines ≡ Going n text (Some s, w) → Comes [] (steps_of lines) first.kernel w.kernel
all_come first moves sound [] n text s w e = absurd (subst BeforeHeader e tt)
all_come first moves sound (line ∷ lines) n text s w e =
    header_comes first lines n text s w (is_within 0 line) (pointwise nat_eq line header) (subst (λ (ms : List Scheduled). IsSchedule [] ms) (sym moves) nothing_written) sound e

-- ---- what stays of a device

facts_moved : (d e : Device) → Moved d e → facts_of e ≡ facts_of d
facts_moved d e m = rw (m.stays.name, m.stays.descriptors, m.stays.product, m.stays.serial, m.stays.connect) refl

facts_begin : (ds es : List Device) → BeginsWith ds es → length es ≡ length ds → map facts_of es ≡ map facts_of ds
facts_begin [] [] b n = refl
facts_begin [] (e ∷ es) b n = absurd (omega (arith, n))
facts_begin (d ∷ ds) [] b n = absurd b
facts_begin (d ∷ ds) (e ∷ es) b n =
    let fewer : length es ≡ length ds = omega (arith, n) in
    ap (λ (f : Facts). f ∷ map facts_of es) (facts_moved d e b.0) ∙ ap (λ (fs : List Facts). facts_of d ∷ fs) (facts_begin ds es b.1 fewer)

facts_set : (write : Write) (ds : List Device) (i : ℕ) (d : Device) → slice_get ds i ≡ Some d → map facts_of (set ds i (written_to write d)) ≡ map facts_of ds
facts_set write [] i d at = absurd (none-some d at)
facts_set write (e ∷ ds) zero d at = ap (λ (x : Device). facts_of x ∷ map facts_of ds) (sym (same_Some e d at))
facts_set write (e ∷ ds) (suc i) d at = ap (λ (fs : List Facts). facts_of e ∷ fs) (facts_set write ds i d at)

one_facts : (c : Change) (ds es : List Device) → Becomes c ds es → map facts_of es ≡ map facts_of ds ++ map facts_given (birth_in c)
one_facts (Born d) ds es h = ap (λ (x : List Device). map facts_of x) h.1.newest ∙ map-append facts_of ds (_ ∷ [])
one_facts (Unplugged name) ds es h = facts_begin ds es h.felled.facts h.felled.number ∙ sym (append-nil (map facts_of ds))
one_facts (Idle action) ds es h = ap (λ (x : List Device). map facts_of x) h.1 ∙ sym (append-nil (map facts_of ds))
one_facts (Wrote e) ds es h = ap (λ (x : List Device). map facts_of x) h.is ∙ facts_set e.write ds e.device h.d h.live.at ∙ sym (append-nil (map facts_of ds))

all_facts : (cs : List Change) (ds fs : List Device) → BecomesBy cs ds fs → map facts_of fs ≡ map facts_of ds ++ map facts_given (flat_map birth_in cs)
all_facts [] ds fs h = ap (λ (x : List Device). map facts_of x) h ∙ sym (append-nil (map facts_of ds))
all_facts (c ∷ cs) ds fs h =
    let rest : List Facts = map facts_given (flat_map birth_in cs) in
    all_facts cs h.0 fs h.2 ∙ ap (λ (x : List Facts). x ++ rest) (one_facts c ds h.0 h.1) ∙ append_assoc (map facts_of ds) (map facts_given (birth_in c)) rest ∙ ap (λ (x : List Facts). map facts_of ds ++ x) (sym (map-append facts_given (birth_in c) (flat_map birth_in cs)))

pub stays_born : (first : World) → first.moves ≡ [] → IsSound first.kernel.devices → StaysBorn first
stays_born first moves sound lines n text s w e =
    let h = all_come first moves sound lines n text s w e in
    record { changes = h.changes; moves = h.moves; log = h.log; becomes = h.becomes; births = all_facts h.changes first.kernel.devices w.kernel.devices h.becomes }

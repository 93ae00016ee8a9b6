-- The moves of lines happen at just the calls that the lines name.
use Rattle.std.proofs.Common.{◌≡◌, ℕ, ◌+◌, Bool, true, false, cond, List, [], ◌∷◌, ◌++◌, drop, flat_map, length, map, Option, Some, None, Result, Ok, Err, refl, sym, ap, subst, ◌∙◌, arith, append-nil, length-append}
use Rattle.std.specs.List.{AllByRecursion, fold}
use Rattle.std.proofs.lemmas.Bool.{both_ways}
use Rattle.ug_types.specs.declared.event.Event.{Event}
use Rattle.ug_types.specs.declared.event.Event.TheVariants.{Sweep, Order, Hint}
use Rattle.ug_types.specs.declared.rule.Rule as types
use Rattle.ug_kernel.specs.Calls.{Call, Names, Open, Read, Ask_alive, Put, Close}
use Rattle.ug_kernel.specs.Kernel.{IsKernel}
use Rattle.ug_kernel.specs.Tree.{Prog, Return, Ask, Room}
use Rattle.ug_iface.specs.Bus.{Bus, IsSoundBus}
use Rattle.ug_iface.specs.Calls as iface
use Rattle.ug_iface.specs.Calls.{IfaceCall, Names_of, Ask_device, Put_off}
use Rattle.ug_iface.specs.Order.{in_iface_order}
use Rattle.ug_iface.specs.Settle.{Aim, beginning, walking}
use Rattle.ug_iface.specs.Tree as tree
use Rattle.ug_iface.specs.Tree.{IfaceProg, Make}
use Rattle.ug_iface.specs.declared.rules.IfaceRule.{IfaceRule}
use Rattle.ug_iface.specs.declared.settle.Begun.{Begun}
use Rattle.ug_iface.specs.declared.settle.Begun.TheVariants.{Walks, Ends}
use Rattle.ug_sysfs.specs.declared.script.Scheduled.{Scheduled}
use Rattle.ug_sysfs.specs.AtCalls.{AnyCall, AreCallsAt}
use Rattle.ug_sysfs.specs.Queue.{IsSchedule}
use Rattle.ug_sysfs.specs.Serving.{bus_in, iface_answer_of, iface_answer_unless}
use Rattle.ug_sysfs.specs.World.{World, answer_unless, event_begun, halting, over, scripted_answer}
use Rattle.ug_sysfs.proofs.AtCalls.{AreOfCalls, CallsOn, IsBehindCalls, device_call, iface_call, rest_done, scheduled_left}
use Rattle.ug_command_io.specs.Fold.{BadLine, Going, InputTooLong, LineOutcome, LineRefusal, Refused, plays}
use Rattle.ug_core.specs.Answering.{asking}
use Rattle.ug_core.specs.Event.{DaemonState, handling, has_numbers}
use Rattle.ug_core.specs.Storing.{storing}
use Rattle.ug_store.specs.PlayDisk.{play_disk}
use Rattle.ug_store.specs.Scripted.{DiskWorld}
use Rattle.ug_steps.specs.declared.step.Plan.TheVariants as plan
use Rattle.ug_steps.specs.declared.step.Step.{Step}
use Rattle.ug_steps.specs.declared.step.Step.TheVariants as step
use Rattle.ug_steps.specs.Grammar.{step_of_line}
use Rattle.ug_steps.proofs.LineReads.{line_so}
use Rattle.ug_script.specs.EventCalls.{MovesAtCalls, StaysAtCalls, behind_calls, calls_played, calls_of_event, calls_over, device_calls, event_calls, iface_calls_played, numbered_call, numbered_iface_call, order_calls, pass_calls, walk_calls}
use Rattle.ug_script.specs.Journal.{left_by}
use Rattle.ug_script.specs.Laws.{behind_event, done_with, order_ready}
use Rattle.ug_script.specs.Passes.{aims_in, device_pass, pass_behind, pass_over, play_ifaces, walk_from}
use Rattle.ug_script.specs.Play.{play}
use Rattle.ug_script.specs.Replay.{Played, answered_of, came_of, disk_of, event_of, event_taken, finished, halted, in_script, order_played_by, script_step, stop_in, stopped_of, tried_by}
use Rattle.ug_script.specs.Schedules as schedules
use Rattle.ug_script.specs.Schedules.{move_asked, since_event}
use Rattle.ug_script.specs.Script.{Script, can_start, daemon_in, disk_in}
use Rattle.ug_script.specs.Setup.{rules_from, steps_of}
use Rattle.ug_script.proofs.Journals.{stays_lawful, stays_told}
use Rattle.ug_script.proofs.Schedules.{stays_scheduled}

-- ---- calls one after another

calls_then : (written : List Scheduled) (n : ℕ) (xs ys : List AnyCall) (b c d : Bus) → AreCallsAt written n xs b c → AreCallsAt written (n + length xs) ys c d → AreCallsAt written n (xs ++ ys) b d
calls_then written n [] ys b c d g h =
    let none : n + 0 ≡ n = omega arith in
    subst (λ (x : Bus). AreCallsAt written n ys x d) g (subst (λ (m : ℕ). AreCallsAt written m ys c d) none h)
calls_then written n (x ∷ xs) ys b c d g h =
    let more : n + length (x ∷ xs) ≡ n + 1 + length xs = omega arith in
    (g.0, g.1, calls_then written (n + 1) xs ys g.0 c d g.2 (subst (λ (m : ℕ). AreCallsAt written m ys c d) more h))

record Goes (written : List Scheduled) (n : ℕ) (calls : List AnyCall) (w v : World) : Type 0 where
  at : AreCallsAt written n calls (bus_in w) (bus_in v)
  behind : IsBehindCalls written (n + length calls) v

still : (written : List Scheduled) (n : ℕ) (w : World) → IsBehindCalls written n w → Goes written n [] w w
still written n w h = record {
  at = refl;
  behind = let none : n ≡ n + 0 = omega arith in subst (λ (m : ℕ). IsBehindCalls written m w) none h;
}

goes_then : (written : List Scheduled) (n : ℕ) (xs ys : List AnyCall) (w v u : World) → Goes written n xs w v → Goes written (n + length xs) ys v u → Goes written n (xs ++ ys) w u
goes_then written n xs ys w v u g h = record {
  at = calls_then written n xs ys (bus_in w) (bus_in v) (bus_in u) g.at h.at;
  behind = let all : n + length xs + length ys ≡ n + length (xs ++ ys) = omega (arith, length-append xs ys) in subst (λ (m : ℕ). IsBehindCalls written m u) all h.behind;
}

single : (written : List Scheduled) (n : ℕ) (call : AnyCall) (w v : World) → CallsOn written n call w v → Goes written n (call ∷ []) w v
single written n call w v h = record {
  at = (bus_in v, h.is, refl);
  behind = let one : n + 1 ≡ n + length (call ∷ []) = omega arith in subst (λ (m : ℕ). IsBehindCalls written m v) one h.behind;
}

-- ---- programs

on_call : (written : List Scheduled) (n : ℕ) (w : World) (out : Bool) (call : Call) → out ≡ false → IsBehindCalls written n w → Goes written n (numbered_call call (answer_unless out w call).0) w (answer_unless out w call).1
on_call written n w out (Close held) e h = still written n w h
on_call written n w false Names e h = single written n _ w _ (device_call written n w Names h)
on_call written n w false (Open name control) e h = single written n _ w _ (device_call written n w (Open name control) h)
on_call written n w false (Read name attr) e h = single written n _ w _ (device_call written n w (Read name attr) h)
on_call written n w false (Ask_alive held) e h = single written n _ w _ (device_call written n w (Ask_alive held) h)
on_call written n w false (Put held write) e h = single written n _ w _ (device_call written n w (Put held write) h)
on_call written n w true call e h = absurd (both_ways true e refl)

play_goes : {R : Type 0} (written : List Scheduled) (n : ℕ) (p : Prog R) (w : World) → IsBehindCalls written n w → Goes written n (calls_played p w) w (play p w).1
play_goes written n (Return value) w h = still written n w h
play_goes written n (Ask call next) w h =
    let x = scripted_answer w call in
    let first = on_call written n w w.ran_out call h.out h in
    goes_then written n (numbered_call call x.0) (calls_played (next x.0) x.1) w x.1 _ first (play_goes written (n + length (numbered_call call x.0)) (next x.0) x.1 first.behind)
play_goes written n (Room next) w h = play_goes written n (next true) w h

on_iface_call : (written : List Scheduled) (n : ℕ) (w : World) (out : Bool) (call : IfaceCall) → out ≡ false → IsBehindCalls written n w → Goes written n (numbered_iface_call call (iface_answer_unless out w call).0) w (iface_answer_unless out w call).1
on_iface_call written n w out (iface.Close held) e h = still written n w h
on_iface_call written n w false (Names_of name) e h = single written n _ w _ (iface_call written n w (Names_of name) h)
on_iface_call written n w false (iface.Open name) e h = single written n _ w _ (iface_call written n w (iface.Open name) h)
on_iface_call written n w false (iface.Read name) e h = single written n _ w _ (iface_call written n w (iface.Read name) h)
on_iface_call written n w false (Ask_device held) e h = single written n _ w _ (iface_call written n w (Ask_device held) h)
on_iface_call written n w false (iface.Ask held) e h = single written n _ w _ (iface_call written n w (iface.Ask held) h)
on_iface_call written n w false (Put_off held) e h = single written n _ w _ (iface_call written n w (Put_off held) h)
on_iface_call written n w true call e h = absurd (both_ways true e refl)

ifaces_go : {R : Type 0} (written : List Scheduled) (n : ℕ) (p : IfaceProg R) (w : World) → IsBehindCalls written n w → Goes written n (iface_calls_played p w) w (play_ifaces p w).1
ifaces_go written n (tree.Return value) w h = still written n w h
ifaces_go written n (Make call next) w h =
    let x = iface_answer_of w call in
    let first = on_iface_call written n w w.ran_out call h.out h in
    goes_then written n (numbered_iface_call call x.0) (iface_calls_played (next x.0) x.1) w x.1 _ first (ifaces_go written (n + length (numbered_iface_call call x.0)) (next x.0) x.1 first.behind)
ifaces_go written n (tree.Room next) w h = ifaces_go written n (next true) w h

-- ---- an event

halted_behind : (written : List Scheduled) (n : ℕ) (o : DiskWorld) (w : World) → IsBehindCalls written n w → IsBehindCalls written n (halted o w)
halted_behind written n o w h = elim o.stopped as (λ b. IsBehindCalls written n (cond b (halting w) w)) [
  | true ↦ record { out = h.out; sound = h.sound; calls = h.calls; moves = h.moves }
  | false ↦ h
]

halted_bus : (o : DiskWorld) (w : World) → bus_in (halted o w) ≡ bus_in w
halted_bus o w = elim o.stopped as (λ b. bus_in (cond b (halting w) w) ≡ bus_in w) [
  | true ↦ refl
  | false ↦ refl
]

order_goes : (written : List Scheduled) (n : ℕ) (event : Event) (d : DaemonState) (w : World) (o : DiskWorld) → IsBehindCalls written n w → Goes written n (order_calls event d w o) w (order_played_by event d w o).world
order_goes written n (Sweep moment) d w o h = still written n w h
order_goes written n (Hint moment piece) d w o h = still written n w h
order_goes written n (Order moment who line) d w o h =
    let c = play (asking d who line) w in
    let act = done_with who d c.0 (play_disk (storing d c.0.change) o).0 in
    let first = play_goes written n (asking d who line) w h in
    goes_then written n (calls_played (asking d who line) w) (calls_played act c.1) w c.1 _ first (play_goes written (n + length (calls_played (asking d who line) w)) act c.1 first.behind)

event_goes : (written : List Scheduled) (event : Event) (s : Script) (w : World) → IsBehindCalls written 0 (event_begun w) → Goes written 0 (event_calls event s w) w (event_of event s w).world
event_goes written event s w h =
    let q : DiskWorld = (tried_by (daemon_in s) (disk_of s)).1 in
    let start : World = halted q (event_begun w) in
    let a = answered_of event s w in
    let middle : World = halted a.disk a.world in
    let order = order_goes written 0 event (order_ready event s) start q (halted_behind written 0 q (event_begun w) h) in
    let calls : List AnyCall = order_calls event (order_ready event s) start q in
    let first : Goes written 0 calls w middle = record {
      at = subst (λ (b : Bus). AreCallsAt written 0 calls b (bus_in middle)) (halted_bus q (event_begun w)) (subst (AreCallsAt written 0 calls (bus_in start)) (sym (halted_bus a.disk a.world)) order.at);
      behind = halted_behind written (0 + length calls) a.disk a.world order.behind;
    } in
    goes_then written 0 calls (calls_played (handling a.daemon) middle) w middle _ first (play_goes written (0 + length calls) (handling a.daemon) middle first.behind)

-- ---- its pass

walk_goes : (written : List Scheduled) (n : ℕ) (aim : Aim) (p : Begun × World) → IsBehindCalls written n p.1 → Goes written n (walk_calls aim p) p.1 (walk_from aim p).world
walk_goes written n aim (Ends end, u) h = still written n u h
walk_goes written n aim (Walks names, u) h = ifaces_go written n (walking aim (in_iface_order names) []) u h

device_goes : (written : List Scheduled) (n : ℕ) (aim : Aim) (w : World) → IsBehindCalls written n w → Goes written n (device_calls aim w) w (device_pass aim w).world
device_goes written n aim w h =
    let p = play_ifaces (beginning aim.device.via_port) w in
    let calls = iface_calls_played (beginning aim.device.via_port) w in
    let first = ifaces_go written n (beginning aim.device.via_port) w h in
    goes_then written n calls (walk_calls aim p) w p.1 _ first (walk_goes written (n + length calls) aim p first.behind)

aims_go : (written : List Scheduled) (n : ℕ) (aims : List Aim) (w : World) → IsBehindCalls written n w → Goes written n (calls_over aims w) w (pass_over aims w).world
aims_go written n [] w h = still written n w h
aims_go written n (aim ∷ aims) w h =
    let v = (device_pass aim w).world in
    let first = device_goes written n aim w h in
    goes_then written n (device_calls aim w) (calls_over aims v) w v _ first (aims_go written (n + length (device_calls aim w)) aims v first.behind)

pass_goes : (written : List Scheduled) (n : ℕ) (rules : List IfaceRule) (d : DaemonState) (w : World) → IsBehindCalls written n w → Goes written n (pass_calls rules d w) w (pass_behind rules d w).world
pass_goes written n [] d w h = still written n w h
pass_goes written n (rule ∷ rules) d w h = aims_go written n (aims_in (rule ∷ rules) d.sweep.standings) w h

all_go : (written : List Scheduled) (event : Event) (s : Script) (w : World) → IsBehindCalls written 0 (event_begun w) → Goes written 0 (calls_of_event event s w) w (behind_calls event s w)
all_go written event s w h =
    let p = event_of event s w in
    let xs = event_calls event s w in
    let ys = pass_calls s.setup.ifaces p.daemon p.world in
    let first = event_goes written event s w h in
    elim p.disk.stopped as (λ b. Goes written 0 (xs ++ cond b [] ys) w (cond b p.world (behind_event s.setup.ifaces p).world)) [
      | true ↦ goes_then written 0 xs [] w p.world p.world first (still written (0 + length xs) p.world first.behind)
      | false ↦ goes_then written 0 xs ys w p.world _ first (pass_goes written (0 + length xs) s.setup.ifaces p.daemon p.world first.behind)
    ]

-- ---- where the line leads

came_left : (s : Script) (p : Played) (loaded : Result (List types.Rule) LineRefusal) (stopped : Bool) → (left_by (in_script s (cond stopped (stopped_of s.setup (stop_in s.planned p) p loaded) (finished s.setup.ifaces p)))).1 ≡ over (cond stopped p.world (behind_event s.setup.ifaces p).world)
came_left s p (Ok rules) true = refl
came_left s p (Err fault) true = refl
came_left s p loaded false = refl

event_left : (event : Event) (s : Script) (w : World) → can_start s.setup s.phase ≡ true → has_numbers (daemon_in s) w.faults (disk_in s).faults ≡ true → (left_by (event_taken event s w)).1 ≡ over (behind_calls event s w)
event_left event s w can room =
    let p : Played = event_of event s w in
    ap (λ (b : Bool). (left_by (cond b (in_script s (cond (has_numbers (daemon_in s) w.faults (disk_in s).faults) (came_of s.setup s.planned p) (Refused BadLine (record { daemon = daemon_in s; world = w; disk = disk_in s })))) (Refused InputTooLong (Some s, w)))).1) can
    ∙ ap (λ (b : Bool). (left_by (in_script s (cond b (came_of s.setup s.planned p) (Refused BadLine (record { daemon = daemon_in s; world = w; disk = disk_in s }))))).1) room
    ∙ came_left s p (rules_from s.setup.folder.count p.disk.disk.text) p.disk.stopped

-- ---- lines

abbrev AskCalls : List (Option Step) → Type 0
AskCalls steps = AllByRecursion (λ step. AreOfCalls (move_asked step)) steps

line_asks : (line : List ℕ) (asked : Option Step) → step_of_line line ≡ asked → AreOfCalls (move_asked asked)
line_asks line None e = tt
line_asks line (Some step.Skip) e = tt
line_asks line (Some (step.Setup setup)) e = tt
line_asks line (Some (step.Move action)) e = tt
line_asks line (Some (step.Schedule (plan.Move m))) e = ((line_so line (step.Schedule (plan.Move m)) e).call, tt)
line_asks line (Some (step.Schedule (plan.Fail f))) e = tt
line_asks line (Some (step.Schedule (plan.OnDisk p))) e = tt
line_asks line (Some (step.Event event)) e = tt
line_asks line (Some step.Restart) e = tt

lines_ask : (lines : List (List ℕ)) → AskCalls (map step_of_line lines)
lines_ask [] = tt
lines_ask (line ∷ lines) = (line_asks line (step_of_line line) refl, lines_ask lines)

one_more : (steps : List (Option Step)) (asked : Option Step) → AskCalls steps → AreOfCalls (move_asked asked) → AskCalls (steps ++ asked ∷ [])
one_more [] asked h k = (k, tt)
one_more (step ∷ steps) asked h k = (h.0, one_more steps asked h.1 k)

behind_step : (steps : List (Option Step)) (asked : Option Step) → AskCalls steps → AreOfCalls (move_asked asked) → AskCalls (schedules.behind_event steps asked)
behind_step steps None h k = one_more steps None h k
behind_step steps (Some step.Skip) h k = one_more steps (Some step.Skip) h k
behind_step steps (Some (step.Setup setup)) h k = one_more steps (Some (step.Setup setup)) h k
behind_step steps (Some (step.Move action)) h k = one_more steps (Some (step.Move action)) h k
behind_step steps (Some (step.Schedule p)) h k = one_more steps (Some (step.Schedule p)) h k
behind_step steps (Some (step.Event event)) h k = tt
behind_step steps (Some step.Restart) h k = one_more steps (Some step.Restart) h k

since_ask : (done steps : List (Option Step)) → AskCalls done → AskCalls steps → AskCalls (fold schedules.behind_event done steps)
since_ask done [] h k = h
since_ask done (step ∷ steps) h k = since_ask (schedules.behind_event done step) steps (behind_step done step h k.0) k.1

calls_append : (xs ys : List Scheduled) → AreOfCalls xs → AreOfCalls ys → AreOfCalls (xs ++ ys)
calls_append [] ys h k = k
calls_append (x ∷ xs) ys h k = (h.0, calls_append xs ys h.1 k)

moves_ask : (steps : List (Option Step)) → AskCalls steps → AreOfCalls (flat_map move_asked steps)
moves_ask [] h = tt
moves_ask (step ∷ steps) h = calls_append (move_asked step) (flat_map move_asked steps) h.0 (moves_ask steps h.1)

-- ---- wherever lines have led

pub stays_at_calls : (first : World) → first.ran_out ≡ false → first.moves ≡ [] → first.fails ≡ [] → IsSoundBus (bus_in first) → StaysAtCalls first
stays_at_calls first run moves fails bus lines n text s w e event =
    let written : List Scheduled = flat_map move_asked (since_event (steps_of lines)) in
    let law = stays_lawful first run bus.kernel lines n text s w e in
    let schedule : IsSchedule written w.moves = (stays_scheduled first moves fails lines n text s w e).moves in
    let calls : AreOfCalls written = moves_ask (since_event (steps_of lines)) (since_ask [] (steps_of lines) tt (lines_ask (drop 1 lines))) in
    let begun : IsBehindCalls written 0 (event_begun w) = record {
      out = stays_told first run bus.kernel lines n text s w e;
      sound = law.bus bus;
      calls = omega arith;
      moves = scheduled_left written w.moves calls schedule;
    } in
    let g = all_go written event s w begun in
    record {
      calls = g.at;
      rest = rest_done written (length (calls_of_event event s w)) (behind_calls event s w) (subst (λ (m : ℕ). IsBehindCalls written m (behind_calls event s w)) (omega arith) g.behind);
      left = event_left event s w;
    }

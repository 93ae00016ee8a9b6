-- The first call in which the machine is to stop, call by call; and it is the one in which it stops.
use Rattle.std.proofs.Common.{◌≡◌, ℕ, zero, suc, ◌-◌, ◌+◌, ◌^◌, ◌<◌, ◌≤◌, ◌||◌, Bool, true, false, cond, nat_le, nat_lt, List, None, refl, sym, ◌∙◌, ap, subst, arith}
use Rattle.std.proofs.lemmas.Bool.{both_ways, cond_both}
use Rattle.std.proofs.lemmas.Bool.Decides.{nat_tests}
use Rattle.ug_script.specs.Play.{play}
use Rattle.ug_store.specs.DiskCalls.{DiskCall, DiskTold, Load, Write_new, Sync_new, Swap}
use Rattle.ug_store.specs.PlayDisk.{play_disk}
use Rattle.ug_store.specs.Scripted.{DiskWorld, disk_answer, one_up, plan_at, stops_by}
use Rattle.ug_store.specs.Store.{DiskProg, Ended, AskDisk, DiskRoom}
use Rattle.ug_store.specs.declared.mishap.Planned.{Planned}
use Rattle.ug_store.proofs.PlayedDisk.{play_stays_told}
use Rattle.ug_sysfs.specs.World.{World, event_begun}
use Rattle.ug_core.specs.Answering.{asking}
use Rattle.ug_core.specs.Event.{DaemonState, ready, trying}
use Rattle.ug_core.specs.Storing.{storing}
use Rattle.ug_types.specs.declared.event.Event.{Event}
use Rattle.ug_types.specs.declared.event.Event.TheVariants.{Sweep, Order, Hint}
use Rattle.ug_script.specs.Laws.{HasNoStop, IsFirstStop}
use Rattle.ug_script.specs.Replay.{order_played_by, begun_disk, event_from, first_stop, halted, tried_by}

pub first_stop_at : (plan : List Planned) (other n : ℕ) → 0 < n → first_stop plan other n ≡ first_stop plan (cond (stops_by (plan_at n None plan)) n other) (n - 1)
first_stop_at plan other zero h = let none : ⊥ = omega (arith, h) in absurd none
first_stop_at plan other (suc n) h = let same : n ≡ suc n - 1 = omega arith in ap (λ (m : ℕ). first_stop plan (cond (stops_by (plan_at (suc n) None plan)) (suc n) other) m) same

-- ---- the first of calls

abbrev StopsMachine : List Planned → ℕ → Bool
StopsMachine plan call = stops_by (plan_at call None plan)

-- the first of the calls behind that many
record IsNextStop (plan : List Planned) (n calls call : ℕ) : Type 0 where
  behind : n < call
  among : call ≤ calls
  planned : StopsMachine plan call ≡ true
  none : (earlier : ℕ) → n < earlier → earlier < call → StopsMachine plan earlier ≡ false

next_here : (plan : List Planned) (calls call n : ℕ) → IsNextStop plan (suc n) calls call → StopsMachine plan (suc n) ≡ true → IsNextStop plan n calls (suc n)
next_here plan calls call n h is = record {
  behind = omega arith;
  among = omega (arith, h.behind, h.among);
  planned = is;
  none = λ earlier more less. let none : ⊥ = omega (arith, more, less) in absurd none;
}

-- at that one, or behind it
by_place : (plan : List Planned) (n earlier : ℕ) → n < earlier → StopsMachine plan (suc n) ≡ false → (suc n < earlier → StopsMachine plan earlier ≡ false) → (b : Bool) → nat_lt (suc n) earlier ≡ b → StopsMachine plan earlier ≡ false
by_place plan n earlier more is later true t = later (grind (arith, nat_tests, t))
by_place plan n earlier more is later false t = let same : earlier ≡ suc n = grind (arith, nat_tests, t, more) in subst (λ (k : ℕ). StopsMachine plan k ≡ false) (sym same) is

next_still : (plan : List Planned) (calls call n : ℕ) → IsNextStop plan (suc n) calls call → StopsMachine plan (suc n) ≡ false → IsNextStop plan n calls call
next_still plan calls call n h is = record {
  behind = omega (arith, h.behind);
  among = h.among;
  planned = h.planned;
  none = λ earlier more less. by_place plan n earlier more is (λ later. h.none earlier later less) (nat_lt (suc n) earlier) refl;
}

next_by : (plan : List Planned) (calls call n : ℕ) → IsNextStop plan (suc n) calls call → ((c : ℕ) → IsNextStop plan n calls c → IsFirstStop plan calls (first_stop plan c n)) → (b : Bool) → StopsMachine plan (suc n) ≡ b → IsFirstStop plan calls (first_stop plan (cond b (suc n) call) n)
next_by plan calls call n h again true is = again (suc n) (next_here plan calls call n h is)
next_by plan calls call n h again false is = again call (next_still plan calls call n h is)

next_stop : (plan : List Planned) (calls call n : ℕ) → IsNextStop plan n calls call → IsFirstStop plan calls (first_stop plan call n)
next_stop plan calls call zero h = record { first = omega (arith, h.behind); among = h.among; planned = h.planned; none = λ earlier some less. h.none earlier (omega (arith, some)) less }
next_stop plan calls call (suc n) h = next_by plan calls call n h (λ c k. next_stop plan calls c n k) (StopsMachine plan (suc n)) refl

-- where there is one among them
here_stop : (plan : List Planned) (calls n : ℕ) → suc n ≤ calls → StopsMachine plan (suc n) ≡ true → IsFirstStop plan calls (first_stop plan (suc n) n)
here_stop plan calls n within is = next_stop plan calls (suc n) n (record {
  behind = omega arith;
  among = within;
  planned = is;
  none = λ earlier more less. let none : ⊥ = omega (arith, more, less) in absurd none;
})

earlier_stop : (plan : List Planned) (n at : ℕ) → at ≤ suc n → StopsMachine plan at ≡ true → StopsMachine plan (suc n) ≡ false → (b : Bool) → nat_le at n ≡ b → at ≤ n
earlier_stop plan n at among is other true t = grind (arith, nat_tests, t)
earlier_stop plan n at among is other false t =
    let same : at ≡ suc n = grind (arith, nat_tests, t, among) in
    absurd (both_ways (StopsMachine plan (suc n)) other (subst (λ (k : ℕ). StopsMachine plan k ≡ true) same is))

some_by : (plan : List Planned) (calls other n at : ℕ) → suc n ≤ calls → at ≤ suc n → StopsMachine plan at ≡ true → (at ≤ n → IsFirstStop plan calls (first_stop plan other n)) → (b : Bool) → StopsMachine plan (suc n) ≡ b → IsFirstStop plan calls (first_stop plan (cond b (suc n) other) n)
some_by plan calls other n at within among is again true here = here_stop plan calls n within here
some_by plan calls other n at within among is again false here = again (earlier_stop plan n at among is here (nat_le at n) refl)

some_stop : (plan : List Planned) (calls other n at : ℕ) → n ≤ calls → 1 ≤ at → at ≤ n → StopsMachine plan at ≡ true → IsFirstStop plan calls (first_stop plan other n)
some_stop plan calls other zero at within some among is = let none : ⊥ = omega (arith, some, among) in absurd none
some_stop plan calls other (suc n) at within some among is =
    some_by plan calls other n at within among is (λ less. some_stop plan calls other n at (omega (arith, within)) some less is) (StopsMachine plan (suc n)) refl

-- ---- a play over a disk

-- the machine has stopped just where one of the calls so far stops it
record Stopping (plan : List Planned) (o : DiskWorld) : Type 0 where
  planned : o.planned ≡ plan
  stopped : o.stopped ≡ true → (call : ℕ) × (1 ≤ call) × (call ≤ o.calls) × (StopsMachine plan call ≡ true)
  running : o.stopped ≡ false → HasNoStop plan o.calls

-- one call more, which is numbered, unless the numbers have run out
up_cases : (n : ℕ) → (1 ≤ one_up n) × (n ≤ one_up n) × (one_up n ≤ n + 1)
up_cases n = by_room (nat_lt n (2 ^ 64 - 1)) refl
  where
    by_room : (b : Bool) → nat_lt n (2 ^ 64 - 1) ≡ b → (1 ≤ cond b (n + 1) n) × (n ≤ cond b (n + 1) n) × (cond b (n + 1) n ≤ n + 1)
    by_room true is = (omega arith, omega arith, omega arith)
    by_room false is = let most : 2 ^ 64 - 1 ≤ n = grind (arith, nat_tests, is) in (omega (arith, most), omega arith, omega arith)

-- by whether it had stopped before
stopped_by : (plan : List Planned) (o : DiskWorld) (calls : ℕ) → Stopping plan o → calls ≡ one_up o.calls → (b : Bool) → o.stopped ≡ b → (b || StopsMachine plan (one_up o.calls)) ≡ true → (call : ℕ) × (1 ≤ call) × (call ≤ calls) × (StopsMachine plan call ≡ true)
stopped_by plan o calls h same true was e = let k = h.stopped was in (k.0, k.1, omega (arith, k.2, same, (up_cases o.calls).1), k.3)
stopped_by plan o calls h same false was e = (one_up o.calls, (up_cases o.calls).0, omega (arith, same), e)

running_at : (plan : List Planned) (o : DiskWorld) (calls call : ℕ) → HasNoStop plan o.calls → calls ≡ one_up o.calls → StopsMachine plan (one_up o.calls) ≡ false → 1 ≤ call → call ≤ calls → (b : Bool) → nat_le call o.calls ≡ b → StopsMachine plan call ≡ false
running_at plan o calls call before same last some within true less = before call some (grind (arith, nat_tests, less))
running_at plan o calls call before same last some within false more =
    let up = up_cases o.calls in
    let is : call ≡ one_up o.calls = grind (arith, nat_tests, more, within, same, up.2) in
    subst (λ (k : ℕ). StopsMachine plan k ≡ false) (sym is) last

running_by : (plan : List Planned) (o : DiskWorld) (calls : ℕ) → Stopping plan o → calls ≡ one_up o.calls → (b : Bool) → o.stopped ≡ b → (b || StopsMachine plan (one_up o.calls)) ≡ false → HasNoStop plan calls
running_by plan o calls h same true was e = let none : ⊥ = cc in absurd none
running_by plan o calls h same false was e = λ call some within. running_at plan o calls call (h.running was) same e some within (nat_le call o.calls) refl

numbered : (plan : List Planned) (o t : DiskWorld) → Stopping plan o → t.planned ≡ o.planned → t.calls ≡ one_up o.calls → t.stopped ≡ (o.stopped || stops_by (plan_at (one_up o.calls) None o.planned)) → Stopping plan t
numbered plan o t h same calls is =
    let by : t.stopped ≡ (o.stopped || StopsMachine plan (one_up o.calls)) = is ∙ ap (λ (ps : List Planned). o.stopped || stops_by (plan_at (one_up o.calls) None ps)) h.planned in
    record {
      planned = same ∙ h.planned;
      stopped = λ e. stopped_by plan o t.calls h calls o.stopped refl (sym by ∙ e);
      running = λ e. running_by plan o t.calls h calls o.stopped refl (sym by ∙ e);
    }

call_stopping : (plan : List Planned) (o : DiskWorld) (call : DiskCall) → o.ran_out ≡ false → Stopping plan o → Stopping plan (disk_answer o call).1
call_stopping plan o Load told h = cond_both o.ran_out _ _ (λ (p : DiskTold Load × DiskWorld). Stopping plan p.1) (λ out. absurd (both_ways o.ran_out told out)) (λ in_turn. record { planned = h.planned; stopped = h.stopped; running = h.running })
call_stopping plan o (Write_new text) told h = cond_both o.ran_out _ _ (λ (p : DiskTold (Write_new text) × DiskWorld). Stopping plan p.1) (λ out. absurd (both_ways o.ran_out told out)) (λ in_turn. numbered plan o _ h refl refl refl)
call_stopping plan o Sync_new told h = cond_both o.ran_out _ _ (λ (p : DiskTold Sync_new × DiskWorld). Stopping plan p.1) (λ out. absurd (both_ways o.ran_out told out)) (λ in_turn. numbered plan o _ h refl refl refl)
call_stopping plan o Swap told h = cond_both o.ran_out _ _ (λ (p : DiskTold Swap × DiskWorld). Stopping plan p.1) (λ out. absurd (both_ways o.ran_out told out)) (λ in_turn. numbered plan o _ h refl refl refl)

play_stopping : {R : Type 0} (plan : List Planned) (p : DiskProg R) (o : DiskWorld) → o.ran_out ≡ false → Stopping plan o → Stopping plan (play_disk p o).1
play_stopping plan (Ended value) o told h = h
play_stopping plan (AskDisk call next) o told h =
    play_stopping plan (next (disk_answer o call).0) (disk_answer o call).1 (play_stays_told (AskDisk call (λ a. Ended a)) o told) (call_stopping plan o call told h)
play_stopping plan (DiskRoom next) o told h = play_stopping plan (next true) o told h

-- ---- an event

begun_stopping : (plan : List Planned) (o : DiskWorld) → Stopping plan (begun_disk plan o)
begun_stopping plan o = record {
  planned = refl;
  stopped = λ e. let none : ⊥ = cc in absurd none;
  running = λ e call some within. let none : ⊥ = omega (arith, some, within) in absurd none;
}

order_stopping : (plan : List Planned) (event : Event) (d : DaemonState) (w : World) (o : DiskWorld) → o.ran_out ≡ false → Stopping plan o → Stopping plan (order_played_by event d w o).disk
order_stopping plan (Sweep moment) d w o told h = h
order_stopping plan (Hint moment piece) d w o told h = h
order_stopping plan (Order moment who line) d w o told h = play_stopping plan (storing d (play (asking d who line) w).0.change) o told h

event_stopping : (plan : List Planned) (event : Event) (d : DaemonState) (w : World) (o : DiskWorld) → o.ran_out ≡ false → Stopping plan (event_from event d w (begun_disk plan o)).disk
event_stopping plan event d w o told =
    let b : DiskWorld = begun_disk plan o in
    let q : DiskWorld = (tried_by d b).1 in
    order_stopping plan event (ready event (tried_by d b).0 d) (halted q (event_begun w)) q (play_stays_told (trying d) b told) (play_stopping plan (trying d) b told (begun_stopping plan o))

pub event_stops : (plan : List Planned) (event : Event) (d : DaemonState) (w : World) (o : DiskWorld) → o.ran_out ≡ false → (event_from event d w (begun_disk plan o)).disk.stopped ≡ true → IsFirstStop plan (event_from event d w (begun_disk plan o)).disk.calls (first_stop plan 0 (event_from event d w (begun_disk plan o)).disk.calls)
event_stops plan event d w o told e =
    let p = event_from event d w (begun_disk plan o) in
    let k = (event_stopping plan event d w o told).stopped e in
    some_stop plan p.disk.calls 0 p.disk.calls k.0 (omega arith) k.1 k.2 k.3

pub event_runs_on : (plan : List Planned) (event : Event) (d : DaemonState) (w : World) (o : DiskWorld) → o.ran_out ≡ false → (event_from event d w (begun_disk plan o)).disk.stopped ≡ false → HasNoStop plan (event_from event d w (begun_disk plan o)).disk.calls
event_runs_on plan event d w o told e = (event_stopping plan event d w o told).running e

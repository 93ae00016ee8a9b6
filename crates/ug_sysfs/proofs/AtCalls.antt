-- At each call of an event its moves happen, and no other.
use Rattle.std.proofs.Common.{◌≡◌, ℕ, suc, ◌+◌, ◌-◌, ◌*◌, ◌^◌, ◌≤◌, min, Bool, true, false, not, ◌&&◌, ◌||◌, cond, eqb, nat_eq, nat_lt, List, [], ◌∷◌, ◌++◌, map, Option, Some, ◌⊎◌, inl, inr, refl, sym, ◌∙◌, ap, subst, arith}
use Rattle.std.specs.List.{AllByRecursion, filter}
use Rattle.std.proofs.lemmas.Bool.Decides.{nat_tests}
use Rattle.ug_kernel.specs.declared.device.Device.{Device}
use Rattle.ug_kernel.specs.Calls.{Call, raised}
use Rattle.ug_kernel.specs.Kernel.{IsSound}
use Rattle.ug_kernel.proofs.Grow.{does_grow}
use Rattle.ug_iface.specs.Bus.{Bus, IsSoundBus}
use Rattle.ug_iface.specs.Calls.{IfaceCall}
use Rattle.ug_sysfs.specs.declared.script.IfaceMove.TheVariants.{Add, Remove}
use Rattle.ug_sysfs.specs.declared.script.Move.{Move}
use Rattle.ug_sysfs.specs.declared.script.Move.TheVariants as move
use Rattle.ug_sysfs.specs.declared.script.Scheduled.{Scheduled}
use Rattle.ug_sysfs.specs.AtCalls.{AnyCall, IsCallAt, IsRestDone, Of_devices, Of_ifaces, after_call, before_call, of_later_calls, scheduled_action}
use Rattle.ug_sysfs.specs.Below.{unplugged_felled, unplugged_nobody}
use Rattle.ug_sysfs.specs.Birth.{plugged_born, plugged_not}
use Rattle.ug_sysfs.specs.Doing.{Does, DoesIfaces, DoesMove, DoMoves}
use Rattle.ug_sysfs.specs.IfaceBirth.{iface_added, iface_gone, iface_nobody, iface_refused}
use Rattle.ug_sysfs.specs.IfaceEffects.{ready_iface}
use Rattle.ug_sysfs.specs.IfaceMoves.{bus_moved, bus_shifts_sound, sound_one, sound_under}
use Rattle.ug_sysfs.specs.Law.{ready_effect}
use Rattle.ug_sysfs.specs.Queue.{AreInTurn, IsSchedule, of_turn, turn_of}
use Rattle.ug_sysfs.specs.Serving.{bus_in, iface_answer_from, iface_effect, left, with_bus}
use Rattle.ug_sysfs.specs.World.{World, answer_from, call_ended, due, effect, entered, failure_counted, fate_of, happen, happen_all, ifaces_happen, ifaces_happen_all, moved, over, shift, with_kernel}

-- ---- one move

pub does : (action : Move) (ds : List Device) → IsSound ds → Does action ds (moved action ds)
does (move.Plug device) ds sound = (plugged_born device ds, plugged_not device ds)
does (move.Unplug name) ds sound = (λ i d live named. unplugged_felled name ds i d sound live named, unplugged_nobody name ds)
does (move.Iface change) ds sound = refl

pub does_ifaces : (action : Move) (b : Bus) → IsSoundBus b → DoesIfaces action b (bus_moved action b).interfaces
does_ifaces (move.Plug device) b s = refl
does_ifaces (move.Unplug name) b s = refl
does_ifaces (move.Iface (Add new)) b s = (λ i can. iface_added new b i s.kernel.devices can, iface_refused new b s.kernel.devices)
does_ifaces (move.Iface (Remove name)) b s = (λ j x l called. iface_gone name b j x s l called, iface_nobody name b)

does_move : (action : Move) (b : Bus) → IsSoundBus b → DoesMove action b (bus_moved action b)
does_move action b s = record {
  devices = does action b.kernel.devices s.kernel.devices;
  interfaces = does_ifaces action b s;
  files = (refl, refl);
  written = (refl, refl);
}

-- ---- turns

abbrev turn_at : ℕ → Bool → ℕ
turn_at k after = k * 2 + cond after 1 0

due_by : (c k : ℕ) (a after : Bool) → (nat_lt c k || (eqb c k && (not a || after))) ≡ true → c * 2 + cond a 1 0 ≤ k * 2 + cond after 1 0
due_by c k true true h = grind (arith, nat_tests)
due_by c k true false h = grind (arith, nat_tests)
due_by c k false true h = grind (arith, nat_tests)
due_by c k false false h = grind (arith, nat_tests)

not_due_by : (c k : ℕ) (a after : Bool) → (nat_lt c k || (eqb c k && (not a || after))) ≡ false → suc (k * 2 + cond after 1 0) ≤ c * 2 + cond a 1 0
not_due_by c k true true h = grind (arith, nat_tests)
not_due_by c k true false h = grind (arith, nat_tests)
not_due_by c k false true h = grind (arith, nat_tests)
not_due_by c k false false h = grind (arith, nat_tests)

same : (a b : ℕ) → a ≡ b → nat_eq a b ≡ true
same a b e = grind (arith, nat_tests)

other : (a b : ℕ) → suc b ≤ a → nat_eq a b ≡ false
other a b lt = grind (arith, nat_tests)

abbrev AreLate : ℕ → List Scheduled → Type 0
AreLate t ms = AllByRecursion (λ m. t ≤ turn_of m) ms

all_late : (t n : ℕ) (ms : List Scheduled) → t ≤ n → AreLate n ms → AreLate t ms
all_late t n [] le h = tt
all_late t n (m ∷ ms) le h = (omega (arith, le, h.0), all_late t n ms le h.1)

none_of_turn : (n : ℕ) (ms : List Scheduled) → AreLate (suc n) ms → of_turn n ms ≡ []
none_of_turn n [] h = refl
none_of_turn n (m ∷ ms) h = rw (other (turn_of m) n h.0) (none_of_turn n ms h.1)

-- what has its turn, and what is left
abbrev taken : ℕ → Bool → List Scheduled → List Scheduled
taken k after [] = []
taken k after (m ∷ ms) = cond (due k after m) (m ∷ taken k after ms) []

abbrev rest : ℕ → Bool → List Scheduled → List Scheduled
rest k after [] = []
rest k after (m ∷ ms) = cond (due k after m) (rest k after ms) (m ∷ ms)

rest_so : (k : ℕ) (after : Bool) (ms : List Scheduled) (ds : List Device) → (happen k after ms ds).0 ≡ rest k after ms
rest_so k after [] ds = refl
rest_so k after (m ∷ ms) ds = elim (due k after m) as (λ c. (cond c (happen k after ms (moved m.action ds)) (m ∷ ms, ds)).0 ≡ cond c (rest k after ms) (m ∷ ms)) [
  | true ↦ rest_so k after ms (moved m.action ds)
  | false ↦ refl
]

taken_so : (k : ℕ) (after : Bool) (ms : List Scheduled) → AreInTurn ms → AreLate (turn_at k after) ms → taken k after ms ≡ of_turn (turn_at k after) ms
taken_so k after [] h late = refl
taken_so k after (m ∷ ms) h late = by (due k after m) refl (taken_so k after ms h.1 late.1)
  where
    by : (v : Bool) → due k after m ≡ v → taken k after ms ≡ of_turn (turn_at k after) ms → cond v (m ∷ taken k after ms) [] ≡ of_turn (turn_at k after) (m ∷ ms)
    by true e so =
        let le = due_by m.call k m.after after e in
        let at : nat_eq (turn_of m) (turn_at k after) ≡ true = same (turn_of m) (turn_at k after) (omega (arith, le, late.0)) in
        rw at (ap (λ (l : List Scheduled). m ∷ l) so)
    by false e so =
        let lt = not_due_by m.call k m.after after e in
        let none : of_turn (turn_at k after) (m ∷ ms) ≡ [] = none_of_turn (turn_at k after) (m ∷ ms) (lt, all_late (suc (turn_at k after)) (turn_of m) ms lt h.0) in
        sym none

rest_in_turn : (k : ℕ) (after : Bool) (ms : List Scheduled) → AreInTurn ms → AreInTurn (rest k after ms)
rest_in_turn k after [] h = tt
rest_in_turn k after (m ∷ ms) h = elim (due k after m) as (λ c. AreInTurn (cond c (rest k after ms) (m ∷ ms))) [
  | true ↦ rest_in_turn k after ms h.1
  | false ↦ h
]

rest_late : (k : ℕ) (after : Bool) (ms : List Scheduled) → AreInTurn ms → AreLate (suc (turn_at k after)) (rest k after ms)
rest_late k after [] h = tt
rest_late k after (m ∷ ms) h = by (due k after m) refl (rest_late k after ms h.1)
  where
    by : (v : Bool) → due k after m ≡ v → AreLate (suc (turn_at k after)) (rest k after ms) → AreLate (suc (turn_at k after)) (cond v (rest k after ms) (m ∷ ms))
    by true e so = so
    by false e so =
        let lt = not_due_by m.call k m.after after e in
        (lt, all_late (suc (turn_at k after)) (turn_of m) ms lt h.0)

rest_each : (k : ℕ) (after : Bool) (n : ℕ) (ms : List Scheduled) → suc (turn_at k after) ≤ n → of_turn n (rest k after ms) ≡ of_turn n ms
rest_each k after n [] lt = refl
rest_each k after n (m ∷ ms) lt = by (due k after m) refl (rest_each k after n ms lt)
  where
    differ : (a b : ℕ) → suc a ≤ b → nat_eq a b ≡ false
    differ a b le = grind (arith, nat_tests)

    by : (v : Bool) → due k after m ≡ v → of_turn n (rest k after ms) ≡ of_turn n ms → of_turn n (cond v (rest k after ms) (m ∷ ms)) ≡ of_turn n (m ∷ ms)
    by true e so =
        let le = due_by m.call k m.after after e in
        let none : nat_eq (turn_of m) n ≡ false = differ (turn_of m) n (omega (arith, le, lt)) in
        rw none so
    by false e so = refl

abbrev AreLow : List Scheduled → Type 0
AreLow ms = AllByRecursion (λ m. m.call ≤ 1048576) ms

rest_low : (k : ℕ) (after : Bool) (ms : List Scheduled) → AreLow ms → AreLow (rest k after ms)
rest_low k after [] h = tt
rest_low k after (m ∷ ms) h = elim (due k after m) as (λ c. AreLow (cond c (rest k after ms) (m ∷ ms))) [
  | true ↦ rest_low k after ms h.1
  | false ↦ h
]

-- what is left from a turn on of what lines wrote
pub record IsLeft (t : ℕ) (written ms : List Scheduled) : Type 0 where
  pub in_turn : AreInTurn ms
  pub late : AreLate t ms
  pub each : (n : ℕ) → t ≤ n → of_turn n ms ≡ of_turn n written
  pub low : AreLow ms

rest_left : (k : ℕ) (after : Bool) (written ms : List Scheduled) → IsLeft (turn_at k after) written ms → IsLeft (suc (turn_at k after)) written (rest k after ms)
rest_left k after written ms h = record {
  in_turn = rest_in_turn k after ms h.in_turn;
  late = rest_late k after ms h.in_turn;
  each = λ n le. rest_each k after n ms le ∙ h.each n (omega (arith, le));
  low = rest_low k after ms h.low;
}

-- ---- the moves that have their turn

abbrev bus_shifted : ℕ → Bool → List Scheduled → Bus → Bus
bus_shifted k after ms b = record b {
  kernel = record b.kernel { devices = (happen k after ms b.kernel.devices).1 };
  interfaces = ifaces_happen k after ms b.kernel.devices b.interfaces;
}

do_taken : (k : ℕ) (after : Bool) (ms : List Scheduled) (b : Bus) → IsSoundBus b → DoMoves (map scheduled_action (taken k after ms)) b (bus_shifted k after ms b)
do_taken k after [] b s = refl
do_taken k after (m ∷ ms) b s =
    elim (due k after m) as
    (λ c. DoMoves (map scheduled_action (cond c (m ∷ taken k after ms) [])) b (record b {
      kernel = record b.kernel { devices = (cond c (happen k after ms (moved m.action b.kernel.devices)) (m ∷ ms, b.kernel.devices)).1 };
      interfaces = cond c (ifaces_happen k after ms (moved m.action b.kernel.devices) (bus_moved m.action b).interfaces) b.interfaces;
    })) [
      | true ↦ (bus_moved m.action b, does_move m.action b s, do_taken k after ms (bus_moved m.action b) (sound_one m.action b s))
      | false ↦ refl
    ]

do_rest : (ms : List Scheduled) (b : Bus) → IsSoundBus b
    → DoMoves (map scheduled_action ms) b (record b {
      kernel = record b.kernel { devices = happen_all ms b.kernel.devices };
      interfaces = ifaces_happen_all ms b.kernel.devices b.interfaces;
    })
do_rest [] b s = refl
do_rest (m ∷ ms) b s = (bus_moved m.action b, does_move m.action b s, do_rest ms (bus_moved m.action b) (sound_one m.action b s))

-- a number that stands still at its end is that of the call, or nothing is left
none_left : (t : ℕ) (ms : List Scheduled) → AreLate t ms → AreLow ms → 2097154 ≤ t → ms ≡ []
none_left t [] late low le = refl
none_left t (m ∷ ms) late low le = absurd (too_late m.call m.after late.0 low.0)
  where
    too_late : (c : ℕ) (a : Bool) → t ≤ c * 2 + cond a 1 0 → c ≤ 1048576 → ⊥
    too_late c true h l = omega (arith, h, l, le)
    too_late c false h l = omega (arith, h, l, le)

numbered : (k j : ℕ) (after : Bool) (written ms : List Scheduled) → j ≡ min k (2 ^ 64 - 1) → IsLeft (turn_at k after) written ms → (j ≡ k) ⊎ (ms ≡ [])
numbered k j after written ms e h = by (nat_lt k (2 ^ 64)) refl
  where
    by : (v : Bool) → nat_lt k (2 ^ 64) ≡ v → (j ≡ k) ⊎ (ms ≡ [])
    by true t = let lt : suc k ≤ 2 ^ 64 = grind (arith, nat_tests) in inl (omega (arith, e, lt))
    by false t = let le : 2 ^ 64 ≤ k = grind (arith, nat_tests) in inr (none_left (turn_at k after) ms h.late h.low (omega (arith, le)))

record Steps (k : ℕ) (after : Bool) (written : List Scheduled) (w v : World) : Type 0 where
  does : DoMoves (map scheduled_action (of_turn (turn_at k after) written)) (bus_in w) (bus_in v)
  left : IsLeft (suc (turn_at k after)) written v.moves

steps : (k j : ℕ) (after : Bool) (written : List Scheduled) (w : World) → j ≡ min k (2 ^ 64 - 1) → IsSoundBus (bus_in w) → IsLeft (turn_at k after) written w.moves → Steps k after written w (shift j after w)
steps k j after written w e s h =
    let at : (j ≡ k) ⊎ (w.moves ≡ []) = numbered k j after written w.moves e h in
    let which : taken k after w.moves ≡ of_turn (turn_at k after) written = taken_so k after w.moves h.in_turn h.late ∙ h.each (turn_at k after) (omega arith) in
    record {
      does = subst (λ (ms : List Scheduled). DoMoves (map scheduled_action ms) (bus_in w) (bus_in (shift j after w))) which (subst (DoMoves (map scheduled_action (taken k after w.moves)) (bus_in w)) (same_bus at) (do_taken k after w.moves (bus_in w) s));
      left = subst (λ (ms : List Scheduled). IsLeft (suc (turn_at k after)) written ms) (sym (same_rest at)) (rest_left k after written w.moves h);
    }
  where
    same_bus : (j ≡ k) ⊎ (w.moves ≡ []) → bus_shifted k after w.moves (bus_in w) ≡ bus_shifted j after w.moves (bus_in w)
    same_bus (inl i) = ap (λ (n : ℕ). bus_shifted n after w.moves (bus_in w)) (sym i)
    same_bus (inr i) = subst (λ (ms : List Scheduled). bus_shifted k after ms (bus_in w) ≡ bus_shifted j after ms (bus_in w)) (sym i) refl

    same_rest : (j ≡ k) ⊎ (w.moves ≡ []) → (happen j after w.moves w.kernel.devices).0 ≡ rest k after w.moves
    same_rest (inl i) = ap (λ (n : ℕ). (happen n after w.moves w.kernel.devices).0) i ∙ rest_so k after w.moves w.kernel.devices
    same_rest (inr i) = subst (λ (ms : List Scheduled). (happen j after ms w.kernel.devices).0 ≡ rest k after ms) (sym i) refl

-- ---- the lines of a call

before_test : (c k : ℕ) (a : Bool) → (nat_eq c k && not a) ≡ nat_eq (c * 2 + cond a 1 0) (turn_at k false)
before_test c k true = grind (arith, nat_tests)
before_test c k false = grind (arith, nat_tests)

after_test : (c k : ℕ) (a : Bool) → (nat_eq c k && a) ≡ nat_eq (c * 2 + cond a 1 0) (turn_at k true)
after_test c k true = grind (arith, nat_tests)
after_test c k false = grind (arith, nat_tests)

same_filter : (p q : Scheduled → Bool) → ((m : Scheduled) → p m ≡ q m) → (ms : List Scheduled) → filter p ms ≡ filter q ms
same_filter p q h [] = refl
same_filter p q h (m ∷ ms) = rw (h m) (ap (λ (l : List Scheduled). cond (q m) (m ∷ l) l) (same_filter p q h ms))

before_so : (k : ℕ) (written : List Scheduled) → map scheduled_action (of_turn (turn_at k false) written) ≡ before_call k written
before_so k written = ap (map scheduled_action) (sym (same_filter _ _ (λ m. before_test m.call k m.after) written))

after_so : (k : ℕ) (written : List Scheduled) → map scheduled_action (of_turn (turn_at k true) written) ≡ after_call k written
after_so k written = ap (map scheduled_action) (sym (same_filter _ _ (λ m. after_test m.call k m.after) written))

-- ---- a call

-- behind so many calls of an event
pub record IsBehindCalls (written : List Scheduled) (n : ℕ) (w : World) : Type 0 where
  pub out : w.ran_out ≡ false
  pub sound : IsSoundBus (bus_in w)
  pub calls : w.calls ≡ min n (2 ^ 64 - 1)
  pub moves : IsLeft (turn_at (n + 1) false) written w.moves

raised_so : (n c : ℕ) → c ≡ min n (2 ^ 64 - 1) → raised c ≡ min (n + 1) (2 ^ 64 - 1)
raised_so n c e = omega (arith, e)

next_turn : (n : ℕ) (written ms : List Scheduled) → IsLeft (suc (turn_at (n + 1) true)) written ms → IsLeft (turn_at (n + 1 + 1) false) written ms
next_turn n written ms h = subst (λ (t : ℕ). IsLeft t written ms) (omega arith) h

next_effect : (n : ℕ) (written ms : List Scheduled) → IsLeft (suc (turn_at (n + 1) false)) written ms → IsLeft (turn_at (n + 1) true) written ms
next_effect n written ms h = subst (λ (t : ℕ). IsLeft t written ms) (omega arith) h

pub record CallsOn (written : List Scheduled) (n : ℕ) (call : AnyCall) (w v : World) : Type 0 where
  pub is : IsCallAt written (n + 1) call (bus_in w) (bus_in v)
  pub behind : IsBehindCalls written (n + 1) v

pub device_call : (written : List Scheduled) (n : ℕ) (w : World) (call : Call) → IsBehindCalls written n w → CallsOn written n (Of_devices call (answer_from (entered w) call).0) w (answer_from (entered w) call).1
device_call written n w call h =
    let e : World = entered w in
    let number : e.calls ≡ min (n + 1) (2 ^ 64 - 1) = raised_so n w.calls h.calls in
    let first = steps (n + 1) e.calls false written w number h.sound h.moves in
    let at : IsSoundBus (bus_in e) = bus_shifts_sound e.calls false w h.sound in
    let r = (effect (fate_of e) call e.kernel).0 in
    let u : World = with_kernel (failure_counted e) (effect (fate_of e) call e.kernel).1 in
    let ok = ready_effect (fate_of e) call (call_ended call r u) e.kernel in
    let sound : IsSoundBus (bus_in u) = sound_under (bus_in e) u.kernel at (does_grow call _ e.kernel u.kernel ok.does) (ok.sound at.kernel) in
    let second = steps (n + 1) u.calls true written u number sound (next_effect n written e.moves first.left) in
    record {
      is = record {
        at_effect = bus_in e;
        behind_effect = bus_in u;
        before = subst (λ (ms : List Move). DoMoves ms (bus_in w) (bus_in e)) (before_so (n + 1) written) first.does;
        effect = (ok.does, refl);
        after = subst (λ (ms : List Move). DoMoves ms (bus_in u) (bus_in (shift u.calls true u))) (after_so (n + 1) written) second.does;
      };
      behind = record {
        out = h.out;
        sound = bus_shifts_sound u.calls true u sound;
        calls = number;
        moves = next_turn n written (shift u.calls true u).moves second.left;
      };
    }

pub iface_call : (written : List Scheduled) (n : ℕ) (w : World) (call : IfaceCall) → IsBehindCalls written n w → CallsOn written n (Of_ifaces call (iface_answer_from (entered w) call).0) w (iface_answer_from (entered w) call).1
iface_call written n w call h =
    let e : World = entered w in
    let number : e.calls ≡ min (n + 1) (2 ^ 64 - 1) = raised_so n w.calls h.calls in
    let first = steps (n + 1) e.calls false written w number h.sound h.moves in
    let at : IsSoundBus (bus_in e) = bus_shifts_sound e.calls false w h.sound in
    let u : World = with_bus (failure_counted e) (iface_effect (fate_of e) call (bus_in e)).1 in
    let ok = ready_iface (fate_of e) call (left u) (bus_in e) in
    let sound : IsSoundBus (bus_in u) = ok.sound at in
    let second = steps (n + 1) u.calls true written u number sound (next_effect n written e.moves first.left) in
    record {
      is = record {
        at_effect = bus_in e;
        behind_effect = bus_in u;
        before = subst (λ (ms : List Move). DoMoves ms (bus_in w) (bus_in e)) (before_so (n + 1) written) first.does;
        effect = ok.does;
        after = subst (λ (ms : List Move). DoMoves ms (bus_in u) (bus_in (shift u.calls true u))) (after_so (n + 1) written) second.does;
      };
      behind = record {
        out = h.out;
        sound = bus_shifts_sound u.calls true u sound;
        calls = number;
        moves = next_turn n written (shift u.calls true u).moves second.left;
      };
    }

-- ---- before the first call, and behind the last

-- what lines wrote names a call
abbrev pub AreOfCalls : List Scheduled → Type 0
AreOfCalls ms = AllByRecursion (λ m. (1 ≤ m.call) × (m.call ≤ 1048576)) ms

-- what holds of each move that was written holds of each that is left
first_of : (m : Scheduled) (ms : List Scheduled) → of_turn (turn_of m) (m ∷ ms) ≡ m ∷ of_turn (turn_of m) ms
first_of m ms = rw (same (turn_of m) (turn_of m) refl) refl

filter_calls : (n : ℕ) (ms : List Scheduled) → AreOfCalls ms → AreOfCalls (of_turn n ms)
filter_calls n [] h = tt
filter_calls n (m ∷ ms) h = elim (nat_eq (turn_of m) n) as (λ c. AreOfCalls (cond c (m ∷ of_turn n ms) (of_turn n ms))) [
  | true ↦ (h.0, filter_calls n ms h.1)
  | false ↦ filter_calls n ms h.1
]

each_calls : (ms : List Scheduled) → ((n : ℕ) → AreOfCalls (of_turn n ms)) → AreOfCalls ms
each_calls [] h = tt
each_calls (m ∷ ms) h = ((subst AreOfCalls (first_of m ms) (h (turn_of m))).0, each_calls ms (λ n. by n (nat_eq (turn_of m) n) (h n)))
  where
    by : (n : ℕ) (v : Bool) → AreOfCalls (cond v (m ∷ of_turn n ms) (of_turn n ms)) → AreOfCalls (of_turn n ms)
    by n true k = k.1
    by n false k = k

calls_late : (ms : List Scheduled) → AreOfCalls ms → AreLate 2 ms
calls_late [] h = tt
calls_late (m ∷ ms) h = (late m.call m.after h.0.0, calls_late ms h.1)
  where
    late : (c : ℕ) (a : Bool) → 1 ≤ c → 2 ≤ c * 2 + cond a 1 0
    late c true le = omega (arith, le)
    late c false le = omega (arith, le)

calls_low : (ms : List Scheduled) → AreOfCalls ms → AreLow ms
calls_low [] h = tt
calls_low (m ∷ ms) h = (h.0.1, calls_low ms h.1)

pub scheduled_left : (written ms : List Scheduled) → AreOfCalls written → IsSchedule written ms → IsLeft (turn_at (0 + 1) false) written ms
scheduled_left written ms calls h =
    let own : AreOfCalls ms = each_calls ms (λ n. subst AreOfCalls (sym (h.each n)) (filter_calls n written calls)) in
    record {
      in_turn = h.in_turn;
      late = calls_late ms own;
      each = λ n le. h.each n;
      low = calls_low ms own;
    }

-- of the later calls are just those that have their turn behind
later_turn : (n t : ℕ) (written : List Scheduled) → turn_at (n + 1) false ≤ t → of_turn t (of_later_calls n written) ≡ of_turn t written
later_turn n t [] le = refl
later_turn n t (m ∷ ms) le = by (nat_lt n m.call) refl (later_turn n t ms le)
  where
    differ : (c : ℕ) (a : Bool) → nat_lt n c ≡ false → nat_eq (c * 2 + cond a 1 0) t ≡ false
    differ c true e = grind (arith, nat_tests)
    differ c false e = grind (arith, nat_tests)

    by : (v : Bool) → nat_lt n m.call ≡ v → of_turn t (of_later_calls n ms) ≡ of_turn t ms → of_turn t (cond v (m ∷ of_later_calls n ms) (of_later_calls n ms)) ≡ of_turn t (m ∷ ms)
    by true e h = ap (λ (l : List Scheduled). cond (nat_eq (turn_of m) t) (m ∷ l) l) h
    by false e h = rw (differ m.call m.after e) h

none_later : (n t : ℕ) (written : List Scheduled) → suc t ≤ turn_at (n + 1) false → of_turn t (of_later_calls n written) ≡ []
none_later n t [] lt = refl
none_later n t (m ∷ ms) lt = by (nat_lt n m.call) refl (none_later n t ms lt)
  where
    differ : (c : ℕ) (a : Bool) → nat_lt n c ≡ true → nat_eq (c * 2 + cond a 1 0) t ≡ false
    differ c true e = grind (arith, nat_tests)
    differ c false e = grind (arith, nat_tests)

    by : (v : Bool) → nat_lt n m.call ≡ v → of_turn t (of_later_calls n ms) ≡ [] → of_turn t (cond v (m ∷ of_later_calls n ms) (of_later_calls n ms)) ≡ []
    by true e h = rw (differ m.call m.after e) h
    by false e h = h

left_schedule : (n : ℕ) (written ms : List Scheduled) → IsLeft (turn_at (n + 1) false) written ms → IsSchedule (of_later_calls n written) ms
left_schedule n written ms h = record { in_turn = h.in_turn; each = λ t. by t (nat_lt t (turn_at (n + 1) false)) refl }
  where
    by : (t : ℕ) (v : Bool) → nat_lt t (turn_at (n + 1) false) ≡ v → of_turn t ms ≡ of_turn t (of_later_calls n written)
    by t true e =
        let lt : suc t ≤ turn_at (n + 1) false = grind (arith, nat_tests) in
        none_of_turn t ms (all_late (suc t) (turn_at (n + 1) false) ms lt h.late) ∙ sym (none_later n t written lt)
    by t false e =
        let le : turn_at (n + 1) false ≤ t = grind (arith, nat_tests) in
        h.each t le ∙ sym (later_turn n t written le)

pub rest_done : (written : List Scheduled) (n : ℕ) (w : World) → IsBehindCalls written n w → IsRestDone written n (bus_in w) (bus_in (over w))
rest_done written n w h = record {
  rest = w.moves;
  in_turn = left_schedule n written w.moves h.moves;
  done = do_rest w.moves (bus_in w) h.sound;
}

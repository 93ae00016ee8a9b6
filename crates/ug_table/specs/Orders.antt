-- An order on the device of one standing: its verdict is set and told, and the writes are made from
-- the value that was probed.
use Rattle.std.specs.Prelude.{◌≡◌, ℕ, Bool, ◌^◌, ◌<◌, ◌≤◌, nat_eq, cond, map, List, [], ◌∷◌, ◌++◌, Option, Some, None, ◌⊎◌}
use Rattle.ug_types.specs.Elements.{Has}
use Rattle.ug_types.specs.Principals.{Named}
use Rattle.ug_kernel.specs.declared.control.Control.TheVariants.{Authorized}
use Rattle.ug_kernel.specs.declared.control.Write.{Write}
use Rattle.ug_types.specs.declared.verdict.Cause.{Cause}
use Rattle.ug_types.specs.declared.verdict.Cause.TheVariants as cause
use Rattle.ug_types.specs.declared.verdict.Target.{Target}
use Rattle.ug_kernel.specs.declared.calls.Probe.{Probe}
use Rattle.ug_kernel.specs.declared.calls.Probe.TheVariants as probe
use Rattle.ug_kernel.specs.declared.device.Device.{Device}
use Rattle.ug_kernel.specs.declared.device.Effect.{Effect}
use Rattle.ug_kernel.specs.Along.{Made, made_with, count_calls, Along, failures, AreNumbered, Rises}
use Rattle.ug_kernel.specs.Called.{Lived, says_probe}
use Rattle.ug_kernel.specs.Calls.{Call, Answer, Ask_alive, ToldAnswer}
use Rattle.ug_kernel.specs.Kernel.{Kernel, IsKernel}
use Rattle.ug_kernel.specs.Quiet.{Quiet}
use Rattle.ug_kernel.specs.Tree.{Prog, Return, Ask, then}
use Rattle.ug_kernel.specs.CallOrder.{OnlyCloses, GoBy}
use Rattle.ug_audit.specs.declared.entry.Entry.{Entry}
use Rattle.ug_audit.specs.declared.entry.Entry.TheVariants as entry
use Rattle.ug_table.specs.Bring.{bringing}
use Rattle.ug_table.specs.PartOrder.{verdict_acts}
use Rattle.ug_table.specs.Laws.{Stand, AreDefaulted, Tries, IsFair, IsGone, IsAsJudged}
use Rattle.ug_table.specs.One.{IsOf, whys, failed_of}
use Rattle.ug_table.specs.Parts.{open_file, Behind, AreAbout, files_after, known_files, EndsAtFailure, AreDue, puts_of, AtMostOneEach, writes_in, TellsWrites, AllBear, number_of, AreOfNumber, numbers_given}
use Rattle.ug_table.specs.Settle.{tried_standings}
use Rattle.ug_table.specs.Standings.{known_of, numbered, standing_of}
use Rattle.ug_table.specs.State.{State, Kept, Answers, Laters, Terms}
use Rattle.ug_table.specs.Sweep.{names_of}
use Rattle.ug_table.specs.declared.standing.Settled.{Settled}
use Rattle.ug_table.specs.declared.standing.Settled.TheVariants as settled
use Rattle.ug_table.specs.declared.standing.Standing.{Standing}

-- the probe of the held file of that number's standing

abbrev pub to_probe : Option Standing → Prog Probe
to_probe (Some s) = Ask (Ask_alive s.held.0) (λ t. Return t.answer)
to_probe None = Return probe.Gone

unfoldable pub probing : ℕ → List Standing → Prog Probe
probing number ss = to_probe (numbered number ss)

-- nothing is written, and the answer speaks of the standing's device
pub record ProbedOne (s : Standing) (k l : Kernel) (found : Probe) : Type 0 where
  pub sound : IsKernel l
  pub quiet : Quiet k l
  pub says : says_probe s.held.0 found k l

-- where a kernel is told at its end, one was told at its start; and where that is sound, that is so
abbrev pub ProbesOne : {S : Type 0} → (S → Option Kernel) → ℕ → List Standing → S → S → Probe
    → Type 0
ProbesOne told number ss s t found =
    (l : Kernel) → told t ≡ Some l
    → (k : Kernel) × (told s ≡ Some k)
    × (IsKernel k → (x : Standing) → numbered number ss ≡ Some x → ProbedOne x k l found)

-- the order

-- a standing with the verdict that was ordered
abbrev pub with_verdict : Target → Named → Standing → Standing
with_verdict verdict who s = record s { verdict = verdict; cause = cause.Order who }

abbrev pub verdict_by : ℕ → Target → Standing → Target
verdict_by number verdict s = cond (nat_eq s.number number) verdict s.verdict

abbrev pub cause_by : ℕ → Named → Standing → Cause
cause_by number who s = cond (nat_eq s.number number) (cause.Order who) s.cause

-- the standing of that number has it
abbrev pub ordered_standing : ℕ → Target → Named → Standing → Standing
ordered_standing number verdict who s =
    record s { verdict = verdict_by number verdict s; cause = cause_by number who s }

abbrev pub with_order : ℕ → Target → Named → List Standing → List Standing
with_order number verdict who ss = map (ordered_standing number verdict who) ss

abbrev pub verdict_entry : Standing → Entry
verdict_entry s = entry.Judged s.number s.name s.held s.verdict s.cause

-- a standing that was tried is marked; no name is told as unsettled
abbrev pub to_tried : List Standing → List ℕ → Settled × List Entry → Prog (Settled × Kept)
to_tried ss name p = Return (p.0, record { standings = tried_standings ss name p.0; entries = p.1 })

abbrev pub to_order : ℕ → Target → Named → Bool → Kept → Option Standing → Prog (Settled × Kept)
to_order number verdict who on k (Some s) =
    then
    (bringing s.name (known_of (with_verdict verdict who s)) on
    (k.entries ++ verdict_entry (with_verdict verdict who s) ∷ []))
    (to_tried (with_order number verdict who k.standings) s.name)
to_order number verdict who on k None = Return (settled.Nobody, k)

-- the verdict is set and told, and the device is brought to it from that value
unfoldable pub ordering : ℕ → Target → Named → Bool → Kept → Prog (Settled × Kept)
ordering number verdict who on k = to_order number verdict who on k (numbered number k.standings)

-- what it does, in the words of calls

-- the probe of that file was the last call
abbrev pub behind_probe : ℕ → ToldAnswer Probe → Behind
behind_probe held t =
    record {
      last = Some (made_with (Ask_alive held) t);
      earlier = None;
      found = Some
          (made_with (Ask_alive held) t);
    }

-- The calls of an order on that standing, which has the ordered verdict. They are about its name,
-- and are over with one that fails; they are just those of the verdict's writes, from that value
-- on; behind a probe that found the device alive with it each write is due. The verdict is told
-- first, then the writes, and no other verdict and no name as unsettled; each kind of write is made
-- once at most. Each entry bears the name and the number. The answer tells the call that failed,
-- with its number and count, and whether the name has a standing still.
pub record GoesAsOrder {S : Type 0} (gives : S → (call : Call) → Answer call → S → Type 0)
    (calls faults : S → ℕ) (x : Standing) (on : Bool) (s : S) (es : List Entry) (t : S)
    (after : List Standing) (fs : List Entry) (how : Settled) : Type 0 where
  pub made : List Made
  pub along : Along gives s made t
  pub rest : List Entry
  pub entries : fs ≡ es ++ verdict_entry x ∷ rest
  pub about : AreAbout x.name (open_file x.held.0 Authorized ∷ []) made
  pub leaves : files_after (open_file x.held.0 Authorized ∷ []) made
      ≡ known_files (standing_of x.name after)
  pub ends : EndsAtFailure [] made
  pub due : (t : ToldAnswer Probe) → t.answer ≡ probe.Alive on
      → AreDue (behind_probe x.held.0 t) made
  pub single : AtMostOneEach (puts_of made)
  pub writes : TellsWrites x.name (puts_of made) (writes_in rest)
  pub few : count_calls made ≤ 4
  pub order : GoBy (verdict_acts x.name (known_of x) on) OnlyCloses made
  pub bears : AllBear x.name rest
  pub numbers : AreOfNumber (Some x.number) rest (number_of (standing_of x.name after))
  pub given : numbers_given rest ≡ []
  pub why : whys rest ≡ []
  pub failed : failures made ≡ failed_of how
  pub stays : (how ≡ settled.Nobody → ⊥) → Has (names_of after) x.name
  pub nobody : how ≡ settled.Nobody → Has (names_of after) x.name → ⊥
  pub numbered : AreNumbered (calls s) made
  pub rises : calls s < 2 ^ 64 → Rises (calls s) (faults s) (failures made)

-- the standing of that number keeps all but its marks, and has the ordered verdict
abbrev pub HasOrdered : ℕ → Target → Named → List Standing → List Standing → Type 0
HasOrdered number verdict who before after =
    (x : Standing) → numbered number before ≡ Some x → (s : Standing) → Has after s
    → s.number ≡ number
    → (s.name ≡ x.name) × (s.held ≡ x.held) × (s.judged ≡ x.judged) × (s.verdict ≡ verdict)
    × (s.cause ≡ cause.Order who)

-- and in the words of devices

-- an answer that tells a failure or want of memory
abbrev pub IsStopped : Settled → Type 0
IsStopped settled.Stands = ⊥
IsStopped settled.Nobody = ⊥
IsStopped (settled.Fault failed) = Unit {0}
IsStopped settled.Memory = Unit {0}

-- the ordered verdict is set and told
abbrev pub just_ordered : {J : Type 0} → ℕ → Target → Named → Standing → State J → State J
just_ordered number verdict who x w =
    record w {
      standings = with_order number verdict who w.standings;
      entries = w.entries
          ++ verdict_entry (with_verdict verdict who x) ∷ [];
    }

-- From the state in which the verdict was just set and told on, the order is fair, whatever judge
-- there is, as none is asked. Each effect that the log gains is on the standing's own device. That
-- device, where it lived through and had the value that was probed, is as ordered, or the answer
-- tells what stopped it; and where the answer says that there is nobody, it is gone.
pub record OrderedOne {J : Type 0} (number : ℕ) (verdict : Target) (who : Named) (on : Bool)
    (x : Standing) (k : Kernel) (w : State J) (l : Kernel) (v : State J) (how : Settled) : Type 0
  where
    pub fair : (answer : Answers J) (later : Laters J) (terms : Terms) (tried : Tries)
        → IsFair answer later terms tried k (just_ordered number verdict who x w) l v
    pub defaults : (hub : Option Write) → AreDefaulted hub k w.standings
        → AreDefaulted hub l v.standings
    pub own : (e : Effect) → Has l.log e → Has k.log e ⊎ IsOf l x e.device
    pub ended : (i : ℕ) (d : Device) → IsOf k x i → Lived k.devices l.devices i d → d.on ≡ on
        → IsAsJudged None l v.standings i ⊎ IsStopped how
    pub nobody : how ≡ settled.Nobody → (i : ℕ) → IsOf k x i → IsGone l i

-- where a kernel is told at its end, one was told at its start; and where that is sound and the
-- standings are of its devices, that is so
abbrev pub OrdersOne : {S J : Type 0} → (S → Option Kernel) → ℕ → Target → Named → Bool → S
    → State J → S → State J → Settled → Type 0
OrdersOne told number verdict who on s w t v how =
    (l : Kernel) → told t ≡ Some l
    → (k : Kernel) × (told s ≡ Some k) × (IsKernel k → Stand k w.standings w.next → (x : Standing)
    → numbered number w.standings ≡ Some x → OrderedOne number verdict who on x k w l v how)

-- What the settling of one name does, in the words of calls, devices and journal.
use Rattle.std.specs.Prelude.{◌≡◌, ℕ, Bool, ◌^◌, ◌<◌, List, [], ◌∷◌, ◌++◌, Option, Some, None, ◌⊎◌, slice_get}
use Rattle.ug_types.specs.Elements.{Has}
use Rattle.ug_kernel.specs.declared.device.Device.{Device}
use Rattle.ug_kernel.specs.declared.control.Control.TheVariants.{Authorized}
use Rattle.ug_kernel.specs.Calls.{Call, Answer}
use Rattle.ug_kernel.specs.Kernel.{Kernel, IsKernel}
use Rattle.ug_kernel.specs.Called.{Lived}
use Rattle.ug_kernel.specs.Tree.{Prog, Return}
use Rattle.ug_kernel.specs.declared.calls.FailedCall.{FailedCall}
use Rattle.ug_kernel.specs.Along.{Made, Along, failures, AreNumbered, Rises}
use Rattle.ug_audit.specs.declared.entry.Entry.{Entry}
use Rattle.ug_audit.specs.declared.entry.Entry.TheVariants as entry
use Rattle.ug_audit.specs.declared.entry.Fault.{Fault}
use Rattle.ug_audit.specs.declared.entry.Fault.TheVariants as fault
use Rattle.ug_table.specs.State.{State, Kept, Answers, Laters, Terms, terms_of}
use Rattle.ug_table.specs.Settle.{resettling}
use Rattle.ug_table.specs.Sweep.{names_of}
use Rattle.ug_kernel.specs.declared.control.Write.{Write}
use Rattle.ug_table.specs.Bring.{NeedsMemory}
use Rattle.ug_table.specs.Standings.{known_of, numbered}
use Rattle.ug_table.specs.Laws.{Stand, AreDefaulted, Tries, none_before, IsFair, IsGone, IsNamed, IsAsJudged}
use Rattle.ug_table.specs.Ending.{ending_calls, kept_file}
use Rattle.ug_table.specs.Parts.{Part}
use Rattle.ug_table.specs.declared.standing.Standing.{Standing}
use Rattle.ug_table.specs.declared.standing.Settled.{Settled}
use Rattle.ug_table.specs.declared.standing.Settled.TheVariants as settled

abbrev pub again_numbered : Option Write → Kept → Option Standing → Prog (Settled × Kept)
again_numbered hub k (Some s) = resettling hub s.name k
again_numbered hub k None = Return (settled.Nobody, k)

-- the known name of that number's standing
unfoldable pub resettling_numbered : Option Write → ℕ → Kept → Prog (Settled × Kept)
resettling_numbered hub number k = again_numbered hub k (numbered number k.standings)

-- why entries tell names as unsettled
abbrev pub why_in : Entry → List Fault
why_in (entry.Unsettled name why) = why ∷ []
why_in e = []

abbrev pub whys : List Entry → List Fault
whys [] = []
whys (e ∷ es) = why_in e ++ whys es

-- why an answer says so
abbrev pub why_of : Settled → List Fault
why_of settled.Stands = []
why_of settled.Nobody = []
why_of (settled.Fault failed) = fault.Call failed ∷ []
why_of settled.Memory = fault.Memory ∷ []

-- the failed call that an answer tells
abbrev pub failed_of : Settled → List FailedCall
failed_of settled.Stands = []
failed_of settled.Nobody = []
failed_of (settled.Fault failed) = failed ∷ []
failed_of settled.Memory = []

-- The settling of a name is one part of a sweep, in which a name without a standing is bound or
-- isn't, from the standings and the entries before it to those after it. A fault is answered just
-- where a call of the part failed, but for the probe of its parent's held file, with its number and
-- count; and want of memory just where it is told. A standing of the name is there where the answer
-- says so, and none where it says that there is nobody. Calls are numbered on, and so both numbers
-- of a fault rise.
pub record GoesAsPart {S : Type 0} (hub : Option Write) (binds : Bool)
    (gives : S → (call : Call) → Answer call → S → Type 0) (calls faults : S → ℕ) (name : List ℕ)
    (s : S) (before : List Standing) (es : List Entry) (t : S) (after : List Standing)
    (fs : List Entry) (how : Settled) : Type 0 where
  pub made : List Made
  pub along : Along gives s made t
  pub rest : List Entry
  pub entries : fs ≡ es ++ rest
  pub part : Part hub binds name before after made rest
  pub why : whys rest ≡ why_of how
  pub failed : failures (ending_calls name (kept_file name before) made) ≡ failed_of how
  pub stands : how ≡ settled.Stands → Has (names_of after) name
  pub nobody : how ≡ settled.Nobody → Has (names_of after) name → ⊥
  pub numbered : AreNumbered (calls s) made
  pub rises : calls s < 2 ^ 64
      → Rises (calls s) (faults s) (failures (ending_calls name (kept_file name before) made))

-- a device of that name lived through
abbrev pub LivedAs : Kernel → Kernel → List ℕ → ℕ → Type 0
LivedAs k l name i = (d : Device) × Lived k.devices l.devices i d × (d.name ≡ name)

-- The settling of a name is fair; a device of the name that lived through is as judged or the name
-- is told; and where the answer says that there is nobody, no device of the name lived through.
pub record SettledOne {J : Type 0} (answer : Answers J) (later : Laters J) (terms : Terms)
    (name : List ℕ) (k : Kernel) (w : State J) (l : Kernel) (v : State J) (how : Settled) : Type 0
  where
    pub fair : IsFair answer later terms none_before k w l v
    pub defaults : AreDefaulted terms.hub k w.standings → AreDefaulted terms.hub l v.standings
    pub ended : (i : ℕ) → LivedAs k l name i
        → IsAsJudged terms.hub l v.standings i ⊎ IsNamed fair.rest name
    pub nobody : how ≡ settled.Nobody → (i : ℕ) → LivedAs k l name i → ⊥

-- where a kernel is told at its end, one was told at its start; and where that is sound and the
-- standings are of its devices, that is so
abbrev pub SettlesOne : {S J : Type 0} → (S → Option Kernel) → Answers J → Laters J → Terms → List ℕ
    → S → State J → S → State J → Settled → Type 0
SettlesOne told answer later terms name s w t v how =
    (l : Kernel) → told t ≡ Some l
    → (k : Kernel) × (told s ≡ Some k)
    × (IsKernel k → Stand k w.standings w.next → SettledOne answer later terms name k w l v how)

-- the standing's held file is the device's
abbrev pub IsOf : Kernel → Standing → ℕ → Type 0
IsOf k s i = slice_get k.held s.held.0 ≡ Some (record { device = i; control = Authorized })

-- A standing settled again is so fairly, whatever judge there is, as none is asked; its device,
-- where it lived through, is as judged or its name is told; and where the answer says that there is
-- nobody, it is gone.
pub record ResettledOne (hub : Option Write) (s : Standing) (k : Kernel) (w : State (Unit {0}))
    (l : Kernel) (v : State (Unit {0})) (how : Settled) : Type 0 where
  pub fair : (answer : Answers (Unit {0})) (later : Laters (Unit {0})) (present : Bool)
      (tried : Tries)
      → IsFair answer later (terms_of present hub) tried k w l v
  pub defaults : AreDefaulted hub k w.standings → AreDefaulted hub l v.standings
  pub ended : (i : ℕ) (d : Device) → IsOf k s i → Lived k.devices l.devices i d
      → IsAsJudged hub l v.standings i
      ⊎ ((rest : List Entry) × (v.entries ≡ w.entries ++ rest) × IsNamed rest s.name)
  pub nobody : how ≡ settled.Nobody → (i : ℕ) → IsOf k s i → IsGone l i

abbrev pub ResettlesOne : {S : Type 0} → Option Write → (S → Option Kernel) → ℕ → S
    → State (Unit {0}) → S → State (Unit {0}) → Settled → Type 0
ResettlesOne hub told number s w t v how =
    (l : Kernel) → told t ≡ Some l
    → (k : Kernel) × (told s ≡ Some k) × (IsKernel k → Stand k w.standings w.next → (x : Standing)
    → numbered number w.standings ≡ Some x → ResettledOne hub x k w l v how)

-- memory may be wanted for the device of that number's standing
abbrev pub NeedsRoom : Option Write → ℕ → List Standing → Type 0
NeedsRoom hub number ss =
    (s : Standing) × (numbered number ss ≡ Some s) × NeedsMemory hub s.name (known_of s)

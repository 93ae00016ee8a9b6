-- By which calls an event bound each device that its sweep judged, and what they say of the kernel.
use Rattle.std.specs.Prelude.{◌≡◌, ℕ, Bool, List, [], ◌∷◌, ◌++◌, Some}
use Rattle.ug_types.specs.Elements.{Has}
use Rattle.ug_kernel.specs.declared.control.Control.TheVariants.{Authorized}
use Rattle.ug_types.specs.declared.verdict.Cause.{Cause}
use Rattle.ug_types.specs.declared.verdict.Cause.TheVariants as causes
use Rattle.ug_kernel.specs.declared.control.Held.{Held}
use Rattle.ug_types.specs.declared.verdict.Target.{Target}
use Rattle.ug_kernel.specs.declared.calls.Opened.{Opened}
use Rattle.ug_kernel.specs.declared.calls.Opened.TheVariants as opened
use Rattle.ug_kernel.specs.declared.calls.Probe.{Probe}
use Rattle.ug_kernel.specs.declared.calls.Probe.TheVariants as probe
use Rattle.ug_kernel.specs.declared.sysfs.Sysfs
use Rattle.ug_kernel.specs.Along.{Made, made_with, Along}
use Rattle.ug_kernel.specs.Called.{IsAlive, IsOpened}
use Rattle.ug_kernel.specs.Calls.{Call, Names, Open, Read, Ask_alive, Put, Close, ToldAnswer}
use Rattle.ug_kernel.specs.Kernel.{Kernel, IsKernel, Moves}
use Rattle.ug_kernel.specs.Quiet.{Quiet}
use Rattle.ug_audit.specs.declared.entry.Entry.{Entry}
use Rattle.ug_audit.specs.declared.entry.Entry.TheVariants as entry
use Rattle.ug_core.specs.Event.{DaemonState}
use Rattle.ug_core.specs.Policy.{kept}
use Rattle.ug_core.specs.Values.{LogsValues}

-- From the kernel k at the entry of an opening to the kernel m at that of a probe: the held file
-- was opened by that name, of a live device, and nothing was written since; and at the entry of the
-- probe that device is live, and has that value.
pub record LivesToProbe (name : List ℕ) (k m : Kernel) (held : ℕ) (on : Bool) : Type 0 where
  pub before : Kernel
  pub opening : Kernel
  pub start : Moves k before
  pub opened : IsOpened name Authorized held before opening
  pub quiet : Quiet opening m
  pub alive : IsAlive held on m

-- a call that opens, writes and closes nothing
abbrev pub OnlyAsks : Call → Type 0
OnlyAsks (Read name attr) = Unit {0}
OnlyAsks (Ask_alive held) = Unit {0}
OnlyAsks Names = ⊥
OnlyAsks (Open name control) = ⊥
OnlyAsks (Put held what) = ⊥
OnlyAsks (Close held) = ⊥

abbrev pub AllOnlyAsk : List Made → Type 0
AllOnlyAsk [] = Unit {0}
AllOnlyAsk (m ∷ ms) = OnlyAsks m.call × AllOnlyAsk ms

-- Among these calls the device of that name was bound: its `authorized` was opened as that held
-- file, then calls opened, wrote and closed nothing, and then that file was probed and the device
-- found alive, with that value.
pub record Binds (name : List ℕ) (held : Held) (on : Bool) (made : List Made) : Type 0 where
  pub earlier : List Made
  pub opening : ToldAnswer Opened
  pub asked : List Made
  pub probing : ToldAnswer Probe
  pub later : List Made
  pub cut : made ≡ earlier ++ made_with (Open name Authorized) opening
      ∷ (asked ++ made_with (Ask_alive held.0) probing ∷ later)
  pub token : opening.answer ≡ opened.Token held
  pub only : AllOnlyAsk asked
  pub found : probing.answer ≡ probe.Alive on

module _ {S : Type 0} (sysfs : Sysfs.Ghosts S) where
  open sysfs use {gives, told}

  -- The states between those calls. Where a kernel is told behind the probe, one was told at its
  -- entry, at that of the opening and at the start; the device lived between these and had that
  -- value at the probe's entry; and since the start values changed by writes in the log alone.
  pub record BoundAmong {name : List ℕ} {held : Held} {on : Bool} {made : List Made}
      (calls : Binds name held on made) (s t : S) : Type 0 where
    pub before : S
    pub behind : S
    pub reading : S
    pub read : S
    pub until : Along gives s calls.earlier before
    pub opens : gives before (Open name Authorized) calls.opening behind
    pub asks : Along gives behind calls.asked reading
    pub probes : gives reading (Ask_alive held.0) calls.probing read
    pub since : Along gives read calls.later t
    pub lives : (l : Kernel) → told read ≡ Some l
        → (m : Kernel) × (told reading ≡ Some m) × (k : Kernel) × (told before ≡ Some k)
        × (first : Kernel) × (told s ≡ Some first)
        × (IsKernel first → LivesToProbe name k m held.0 on × LogsValues first m)

  -- The device of a verdict was bound by calls among these. Where the verdict is to keep what the
  -- device had, it is that of the value which the probe of that binding found.
  pub record WasBound (made : List Made) (s t : S) (name : List ℕ) (held : Held) (verdict : Target)
      (cause : Cause) : Type 0 where
    pub on : Bool
    pub calls : Binds name held on made
    pub states : BoundAmong calls s t
    pub keeps : cause ≡ causes.Keep → verdict ≡ (kept on).0

  -- from one state to another calls were made that end with a sweep, which began at the daemon's
  -- state d; each device that it judged was bound among them
  pub record BindsJudged (s : S) (d : DaemonState) (t : S) (e : DaemonState) : Type 0 where
    pub made : List Made
    pub along : Along gives s made t
    pub rest : List Entry
    pub entries : e.sweep.entries ≡ d.sweep.entries ++ rest
    pub each : (number : ℕ) (name : List ℕ) (held : Held) (verdict : Target) (cause : Cause)
        → Has rest (entry.Judged number name held verdict cause)
        → WasBound made s t name held verdict cause

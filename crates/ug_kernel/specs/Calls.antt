-- The calls of the kernel's files, and what each may be answered.
use Rattle.std.specs.Prelude.{◌≡◌, ℕ, ◌+◌, ◌-◌, ◌^◌, ◌<◌, ◌≤◌, min, Bool, true, false, List}
use Rattle.ug_kernel.specs.declared.control.Control.{Control}
use Rattle.ug_kernel.specs.declared.control.Attr.{Attr}
use Rattle.ug_kernel.specs.declared.control.Control.TheVariants.{Authorized, Remove, Default}
use Rattle.ug_kernel.specs.declared.control.Write.{Write}
use Rattle.ug_kernel.specs.declared.control.Write.TheVariants as write
use Rattle.ug_kernel.specs.declared.calls.Listing.{Listing}
use Rattle.ug_kernel.specs.declared.calls.Listing.TheVariants as listing
use Rattle.ug_kernel.specs.declared.calls.Opened.{Opened}
use Rattle.ug_kernel.specs.declared.calls.Opened.TheVariants as opened
use Rattle.ug_kernel.specs.declared.calls.ReadOut.{ReadOut}
use Rattle.ug_kernel.specs.declared.calls.ReadOut.TheVariants as out
use Rattle.ug_kernel.specs.declared.calls.Probe.{Probe}
use Rattle.ug_kernel.specs.declared.calls.Probe.TheVariants as probe
use Rattle.ug_kernel.specs.declared.calls.Wrote.{Wrote}
use Rattle.ug_kernel.specs.declared.calls.Wrote.TheVariants as wrote

-- the file that a write goes to
abbrev pub control_of : Write → Control
control_of write.On = Authorized
control_of write.Off = Authorized
control_of write.Remove = Remove
control_of write.DefaultOff = Default
control_of write.DefaultOn = Default

pub data Call : Type 0 where
  -- the names of all devices
  Names : Call
  Open : (name : List ℕ) → (control : Control) → Call
  Read : (name : List ℕ) → (attr : Attr) → Call
  -- these go to a held file
  Ask_alive : (held : ℕ) → Call
  Put : (held : ℕ) → (write : Write) → Call
  Close : (held : ℕ) → Call

-- an answer, with the number of its call in the event, and the count of faults after it
pub record ToldAnswer (X : Type 0) : Type 0 where
  pub answer : X
  pub number : ℕ
  pub count : ℕ

pub data Closing : Type 0 where
  Closed : Closing

abbrev pub Answer : Call → Type 0
Answer Names = ToldAnswer Listing
Answer (Open name control) = ToldAnswer Opened
Answer (Read name attr) = ToldAnswer ReadOut
Answer (Ask_alive held) = ToldAnswer Probe
Answer (Put held write) = ToldAnswer Wrote
Answer (Close held) = Closing

-- one more, up to the greatest number of 64 bits
abbrev pub raised : ℕ → ℕ
raised n = min (n + 1) (2 ^ 64 - 1)

abbrev pub failed_listing : Listing → Bool
failed_listing listing.Failed = true
failed_listing answer = false

abbrev pub failed_open : Opened → Bool
failed_open opened.Failed = true
failed_open answer = false

abbrev pub failed_read : ReadOut → Bool
failed_read out.Failed = true
failed_read answer = false

abbrev pub is_probe_failed : Probe → Bool
is_probe_failed probe.Failed = true
is_probe_failed answer = false

abbrev pub failed_put : Wrote → Bool
failed_put wrote.Failed = true
failed_put answer = false

-- an answer tells the number of calls and the count of faults after it; each call raises the one,
-- and a failure the other
pub record Counted {X : Type 0} (failed : X → Bool) (told : ToldAnswer X)
    (calls faults calls_after faults_after : ℕ) : Type 0 where
  pub number : told.number ≡ calls_after
  pub count : told.count ≡ faults_after
  pub call : calls_after ≡ raised calls
  pub never_falls : faults ≤ faults_after
  pub by_one : faults_after ≤ faults + 1
  pub rises : failed told.answer ≡ true → faults < 2 ^ 64 - 1 → faults < faults_after

-- the same of each call; closing isn't counted
abbrev pub Counts : (call : Call) → Answer call → ℕ → ℕ → ℕ → ℕ → Type 0
Counts Names a c f d g = Counted failed_listing a c f d g
Counts (Open name control) a c f d g = Counted failed_open a c f d g
Counts (Read name attr) a c f d g = Counted failed_read a c f d g
Counts (Ask_alive held) a c f d g = Counted is_probe_failed a c f d g
Counts (Put held write) a c f d g = Counted failed_put a c f d g
Counts (Close held) a c f d g = (d ≡ c) × (g ≡ f)

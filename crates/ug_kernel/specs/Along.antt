-- A run as the list of its calls, each with its answer.
use Rattle.std.specs.Prelude.{◌≡◌, ℕ, ◌+◌, ◌-◌, ◌^◌, ◌<◌, ◌≤◌, Bool, if◌then◌else◌, List, [], ◌∷◌, ◌++◌}
use Rattle.ug_kernel.specs.declared.calls.FailedCall.{FailedCall}
use Rattle.ug_kernel.specs.Calls.{Call, Names, Open, Read, Ask_alive, Put, Close, ToldAnswer, Answer, failed_listing, failed_open, failed_read, is_probe_failed, failed_put, raised}

-- a call that was made, and what it was answered
pub record Made : Type 0 where
  pub call : Call
  pub answer : Answer call

abbrev pub made_with : (call : Call) → Answer call → Made
made_with call answer = record { call = call; answer = answer }

-- these calls lead from one state to the other
abbrev pub Along : {S : Type 0} → (S → (call : Call) → Answer call → S → Type 0) → S → List Made → S
    → Type 0
Along gives s [] t = t ≡ s
Along {S} gives s (m ∷ ms) t = (u : S) × gives s m.call m.answer u × Along gives u ms t

-- how many calls there are; closings aren't counted
abbrev pub counts_as : Call → ℕ
counts_as (Close held) = 0
counts_as Names = 1
counts_as (Open name control) = 1
counts_as (Read name attr) = 1
counts_as (Ask_alive held) = 1
counts_as (Put held what) = 1

abbrev pub count_calls : List Made → ℕ
count_calls [] = 0
count_calls (m ∷ ms) = counts_as m.call + count_calls ms

-- a call that failed, as its answer tells it
abbrev pub failure_of : {X : Type 0} → ToldAnswer X → FailedCall
failure_of told = record { call = told.number; count = told.count }

abbrev pub failure_if : {X : Type 0} → (X → Bool) → ToldAnswer X → List FailedCall
failure_if failed told = if failed told.answer then failure_of told ∷ [] else []

-- the failure of a call, if it failed; closing never does
abbrev pub failure : (call : Call) → Answer call → List FailedCall
failure Names answer = failure_if failed_listing answer
failure (Open name control) answer = failure_if failed_open answer
failure (Read name attr) answer = failure_if failed_read answer
failure (Ask_alive held) answer = failure_if is_probe_failed answer
failure (Put held write) answer = failure_if failed_put answer
failure (Close held) answer = []

-- the failures of calls, in their order
abbrev pub failures : List Made → List FailedCall
failures [] = []
failures (m ∷ ms) = failure m.call m.answer ++ failures ms

-- the number that a call bears; closing has none, and leaves the last one as it is
abbrev pub number_after : ℕ → (call : Call) → Answer call → ℕ
number_after last Names answer = answer.number
number_after last (Open name control) answer = answer.number
number_after last (Read name attr) answer = answer.number
number_after last (Ask_alive held) answer = answer.number
number_after last (Put held write) answer = answer.number
number_after last (Close held) answer = last

abbrev pub IsNext : ℕ → (call : Call) → Answer call → Type 0
IsNext last Names answer = answer.number ≡ raised last
IsNext last (Open name control) answer = answer.number ≡ raised last
IsNext last (Read name attr) answer = answer.number ≡ raised last
IsNext last (Ask_alive held) answer = answer.number ≡ raised last
IsNext last (Put held write) answer = answer.number ≡ raised last
IsNext last (Close held) answer = Unit {0}

-- each call bears the number behind the one before it
abbrev pub AreNumbered : ℕ → List Made → Type 0
AreNumbered last [] = Unit {0}
AreNumbered last (m ∷ ms) =
    IsNext last m.call m.answer × AreNumbered (number_after last m.call m.answer) ms

-- above it, or where that is the greatest number of 64 bits not below it
abbrev pub IsAbove : ℕ → ℕ → Type 0
IsAbove low high = (low ≤ high) × (low < 2 ^ 64 - 1 → low < high)

-- both numbers of each failure are above those before
abbrev pub Rises : ℕ → ℕ → List FailedCall → Type 0
Rises call count [] = Unit {0}
Rises call count (f ∷ fs) = IsAbove call f.call × IsAbove count f.count × Rises f.call f.count fs

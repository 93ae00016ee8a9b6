-- What a wait gives, and the waits of a waiter in memory.
use Rattle.std.specs.Prelude.{◌≡◌, ℕ, ◌≤◌, List, [], ◌∷◌, take, Option, Some, None}
use Rattle.std.specs.List.{slice_get}
use Rattle.ug_types.specs.Told.{one_more, told_by_count}
use Rattle.ug_links.specs.declared.waiter.Ready.{Ready}
use Rattle.ug_links.specs.declared.waiter.Woken.{Woken}
use Rattle.ug_links.specs.declared.waiter.Woken.TheVariants as woken
use Rattle.ug_links.specs.declared.list_waiter.ListWaiter.{ListWaiter}
use Rattle.ug_links.specs.declared.list_waiter.PlannedWait.{PlannedWait}
use Rattle.ug_links.specs.declared.list_waiter.PlannedWait.TheVariants as planned

pub data Waited : Type 0 where
  Tokens : (tokens : List Ready) → Waited
  Failed : Waited

-- what an answer and the places that were lent say
abbrev pub waited : Woken → List Ready → Waited
waited (woken.Got n) into = Tokens (take n into)
waited woken.Failed into = Failed

-- no more tokens than there are places for
abbrev pub FitsWait : Woken → Type 0
FitsWait (woken.Got n) = n ≤ 256
FitsWait woken.Failed = Unit {0}

-- a wait that failed gave none
abbrev pub wait_tokens : Waited → List (List Ready)
wait_tokens (Tokens tokens) = tokens ∷ []
wait_tokens Failed = []

-- a wait that was planned, or is past the plan
abbrev pub waited_by : Option PlannedWait → Waited
waited_by None = Tokens []
waited_by (Some (planned.Gives tokens)) = Tokens (take 256 tokens)
waited_by (Some planned.Fails) = Failed

-- the wait that has so many before it
abbrev pub waited_at : List PlannedWait → ℕ → Waited
waited_at plan calls = waited_by (slice_get plan calls)

abbrev pub tokens_told : List PlannedWait → ℕ → Option (List (List Ready))
tokens_told plan calls = told_by_count (λ call. wait_tokens (waited_at plan call)) calls

abbrev pub faults_waited : Waited → ℕ → ℕ
faults_waited (Tokens tokens) faults = faults
faults_waited Failed faults = one_more faults

-- one wait more, as it was planned
pub record GivesTokens (s : ListWaiter) (waited : Waited) (t : ListWaiter) : Type 0 where
  pub answer : waited ≡ waited_at s.planned.items s.calls
  pub planned : t.planned ≡ s.planned
  pub calls : t.calls ≡ one_more s.calls
  pub faults : t.faults ≡ faults_waited waited s.faults

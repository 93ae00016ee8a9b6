-- The verdict in force: the last that entries tell of a number, or else that of its standing from
-- before.
use Rattle.std.specs.Prelude.{◌≡◌, ℕ, ◌+◌, Bool, true, false, cond, List, [], ◌∷◌, ◌++◌, map, Option, Some, None, if◌then◌else◌, nat_eq}
use Rattle.ug_types.specs.Elements.{Has}
use Rattle.ug_kernel.specs.declared.control.Held.{Held}
use Rattle.ug_types.specs.declared.verdict.Target.{Target}
use Rattle.ug_types.specs.declared.verdict.Cause.{Cause}
use Rattle.ug_types.specs.declared.verdict.Cause.TheVariants as cause
use Rattle.ug_audit.specs.declared.entry.Entry.{Entry}
use Rattle.ug_audit.specs.declared.entry.Entry.TheVariants as entry
use Rattle.ug_table.specs.declared.standing.Standing.{Standing}

-- a verdict and its cause, with the number, the name and the held file that it is on
pub record Decision : Type 0 where
  pub number : ℕ
  pub name : List ℕ
  pub held : Held
  pub verdict : Target
  pub cause : Cause

-- the decision that an entry tells
abbrev pub decision_in : Entry → List Decision
decision_in (entry.Judged number name held verdict cause) =
    record { number = number; name = name; held = held; verdict = verdict; cause = cause } ∷ []
decision_in e = []

-- the entry that tells it
abbrev pub decided_entry : Decision → Entry
decided_entry d = entry.Judged d.number d.name d.held d.verdict d.cause

-- those that entries tell, in order
abbrev pub decisions_in : List Entry → List Decision
decisions_in [] = []
decisions_in (e ∷ es) = decision_in e ++ decisions_in es

abbrev pub decision_of : Standing → Decision
decision_of s =
    record { number = s.number; name = s.name; held = s.held; verdict = s.verdict; cause = s.cause }

abbrev pub or_else : {X : Type 0} → Option X → Option X → Option X
or_else (Some x) other = Some x
or_else None other = other

-- the decision, if it is on that number
abbrev pub on_number : ℕ → Decision → Option Decision
on_number n d = if nat_eq d.number n then Some d else None

-- the last of them on that number
abbrev pub last_decision : List Decision → ℕ → Option Decision
last_decision [] n = None
last_decision (d ∷ ds) n = or_else (last_decision ds n) (on_number n d)

abbrev pub last_judged : List Entry → ℕ → Option Decision
last_judged es n = last_decision (decisions_in es) n

-- that of the standing of the number
abbrev pub standing_decision : List Standing → ℕ → Option Decision
standing_decision [] n = None
standing_decision (s ∷ ss) n = or_else (on_number n (decision_of s)) (standing_decision ss n)

-- among these entries it is the last that is told of its number
pub record IsLastTold (es : List Entry) (d : Decision) : Type 0 where
  pub before : List Entry
  pub since : List Entry
  pub at : es ≡ before ++ decided_entry d ∷ since
  pub none : last_judged since d.number ≡ None

-- the last that was told since, or else the standing's from before
abbrev pub in_force : List Standing → List Entry → ℕ → Option Decision
in_force before es n = or_else (last_judged es n) (standing_decision before n)

-- these standings have the verdicts in force
abbrev pub AgreeInForce : List Standing → List Entry → List Standing → Type 0
AgreeInForce before es ss =
    (s : Standing) → Has ss s → in_force before es s.number ≡ Some (decision_of s)

-- an administrator ordered it
abbrev pub is_ordered : Cause → Bool
is_ordered (cause.Order who) = true
is_ordered why = false

-- the decisions but for those that were ordered
abbrev pub unordered : List Decision → List Decision
unordered [] = []
unordered (d ∷ ds) = cond (is_ordered d.cause) (unordered ds) (d ∷ unordered ds)

abbrev pub numbers_on : List Decision → List ℕ
numbers_on ds = map (λ d. d.number) ds

-- the numbers that were given out, in order: an order gives none
abbrev pub given_numbers : List Entry → List ℕ
given_numbers es = numbers_on (unordered (decisions_in es))

-- these numbers follow one another from the first one on, and the next comes behind the last
abbrev pub Follow : ℕ → List ℕ → ℕ → Type 0
Follow first [] next = next ≡ first
Follow first (n ∷ ns) next = (n ≡ first) × Follow (first + 1) ns next

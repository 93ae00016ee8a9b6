-- The members of a panel, and what a line does to them.
use Rattle.std.specs.Prelude.{◌≡◌, ℕ, ◌+◌, ◌*◌, Bool, true, false, List, [], ◌∷◌, Option, if◌then◌else◌}
use Rattle.ug_types.specs.Ends.{IsCounted, Rose}
use Rattle.ug_audit.specs.declared.auditor.Noted.TheVariants as noted
use Rattle.ug_audit.specs.Auditors.{TakesEntryLine}

-- the text that a member took, its count of faults, and whether it is given no more lines
pub record Member : Type 0 where
  pub text : Option (List ℕ)
  pub faults : ℕ
  pub dropped : Bool

-- by whether it was dropped before, and is so after: a member that isn't dropped is given the line,
-- and is dropped just where it fails; to one that is dropped nothing is done
abbrev pub TakesAs : Bool → Bool → List ℕ → Member → Member → Type 0
TakesAs true true line m n = n ≡ m
TakesAs true false line m n = ⊥
TakesAs false false line m n =
    TakesEntryLine m.text n.text line noted.Done × IsCounted m.faults n.faults
TakesAs false true line m n =
    TakesEntryLine m.text n.text line noted.Failed × IsCounted m.faults n.faults
    × Rose m.faults n.faults

abbrev pub NotesAll : List ℕ → List Member → List Member → Type 0
NotesAll line [] [] = Unit {0}
NotesAll line [] (n ∷ ns) = ⊥
NotesAll line (m ∷ ms) [] = ⊥
NotesAll line (m ∷ ms) (n ∷ ns) = TakesAs m.dropped n.dropped line m n × NotesAll line ms ns

-- 1 for a member that is dropped now, and wasn't
abbrev pub newly : Bool → Bool → ℕ
newly false true = 1
newly before after = 0

abbrev pub is_newly : Bool → Bool → Bool
is_newly false true = true
is_newly before after = false

-- the set of those members: bit i stands for member i
abbrev pub dropped_between : List Member → List Member → ℕ
dropped_between [] ns = 0
dropped_between (m ∷ ms) [] = 0
dropped_between (m ∷ ms) (n ∷ ns) = newly m.dropped n.dropped + 2 * dropped_between ms ns

-- the members, by their auditors and whether these are dropped
abbrev pub members_of : {A : Type 0} → (A → Option (List ℕ)) → (A → ℕ) → List A → List Bool
    → List Member
members_of text faults [] marks = []
members_of text faults (a ∷ auditors) [] = []
members_of text faults (a ∷ auditors) (mark ∷ marks) =
    record { text = text a; faults = faults a; dropped = mark }
    ∷ members_of text faults auditors marks

-- 1 for a member that isn't dropped
abbrev pub one_live : Bool → ℕ
one_live false = 1
one_live true = 0

-- how many members aren't dropped
abbrev pub live : List Member → ℕ
live [] = 0
live (m ∷ ms) = one_live m.dropped + live ms

-- the same, by the auditors and whether these are dropped
abbrev pub live_of : {A : Type 0} → List A → List Bool → ℕ
live_of [] marks = 0
live_of (a ∷ auditors) [] = 0
live_of (a ∷ auditors) (mark ∷ marks) = one_live mark + live_of auditors marks

-- the numbers, in order, of the members that are dropped now, and weren't; the first member has
-- that number
abbrev pub newly_dropped : ℕ → List Member → List Member → List ℕ
newly_dropped first [] ns = []
newly_dropped first (m ∷ ms) [] = []
newly_dropped first (m ∷ ms) (n ∷ ns) =
    (if is_newly m.dropped n.dropped then first ∷ newly_dropped (first + 1) ms ns
    else newly_dropped (first + 1) ms ns)

-- What the calls of a source and of a sink leave, where these tell their bytes.
use Rattle.std.specs.Prelude.{ℕ, ◌≡◌, ◌<◌, ◌≤◌, ◌+◌, ◌-◌, ◌^◌, ◌++◌, List, take, Option}
use Rattle.std.specs.Io.KnownBytes.{Appends, Consumes, Keeps, IsAtEnd}
use Rattle.ug_types.specs.declared.source.Taken.{Taken}
use Rattle.ug_types.specs.declared.source.Taken.TheVariants as taken
use Rattle.ug_types.specs.declared.sink.Put.{Put}
use Rattle.ug_types.specs.declared.sink.Put.TheVariants as put

-- at least one byte came, and no more than there was room for
abbrev pub Fits : ℕ → Taken → Type 0
Fits room (taken.Bytes n) = (0 < n) × (n ≤ room)
Fits room taken.End = Unit {0}
Fits room taken.Failed = Unit {0}

-- the bytes that came stood at the front of those that were left; at the end there
-- are none; a failure took none
abbrev pub Takes : Option (List ℕ) → Option (List ℕ) → List ℕ → Taken → Type 0
Takes before after buffer (taken.Bytes n) = Consumes before after (take n buffer)
Takes before after buffer taken.End = Keeps before after × IsAtEnd after
Takes before after buffer taken.Failed = Keeps before after

-- all of the bytes were appended, or a front of them where the call failed
abbrev pub Puts : Option (List ℕ) → Option (List ℕ) → List ℕ → Put → Type 0
Puts before after bytes put.Done = Appends before after bytes
Puts before after bytes put.Failed =
    (front : List ℕ) × (rest : List ℕ) × (bytes ≡ front ++ rest) × Appends before after front

-- a count of faults doesn't fall, and rises by at most one
abbrev pub IsCounted : ℕ → ℕ → Type 0
IsCounted before after = (before ≤ after) × (after ≤ before + 1)

-- a count of faults rose, unless it stood at its highest
abbrev pub Rose : ℕ → ℕ → Type 0
Rose before after = before < 2 ^ 64 - 1 → before < after

-- Which calls of a source or a sink in memory fail: those whose numbers are
-- listed. The first call is number 1.
use Rattle.std.specs.Prelude.{◌≡◌, ◌↔◌, ℕ, ◌+◌, ◌-◌, ◌^◌, min, Bool, false, List}
use Rattle.ug_types.specs.Elements.{Has}
use Rattle.ug_types.specs.declared.source.Taken.{Taken}
use Rattle.ug_types.specs.declared.source.Taken.TheVariants as taken
use Rattle.ug_types.specs.declared.sink.Put.{Put}
use Rattle.ug_types.specs.declared.sink.Put.TheVariants as put

-- calls count on, and the count stands still at its type's end
abbrev pub next_call : ℕ → ℕ
next_call calls = min (calls + 1) (2 ^ 64 - 1)

-- a taking behind so many calls fails exactly where its number is listed
abbrev pub TakesUnlessListed : List ℕ → ℕ → Taken → Type 0
TakesUnlessListed failing calls result = (result ≡ taken.Failed) ↔ Has failing (next_call calls)

-- so does a putting, unless memory was short for it
abbrev pub PutsUnlessListed : List ℕ → ℕ → Bool → Put → Type 0
PutsUnlessListed failing calls short result =
    (Has failing (next_call calls) → result ≡ put.Failed)
    × (short ≡ false → result ≡ put.Failed → Has failing (next_call calls))

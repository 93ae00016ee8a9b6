-- Fault lines for words.
use Rattle.std.specs.Prelude.{◌≡◌, ◌⊎◌, ℕ, List, Option, codes}
use Rattle.std.specs.Io.KnownBytes.{Appends}
use Rattle.ug_types.specs.Ends.{Puts}
use Rattle.ug_types.specs.declared.sink.Put.TheVariants.{Failed}
use Rattle.ug_command_io.specs.Fold.{no_memory}

unfoldable pub bad_words : List ℕ
bad_words = codes "bad words\n"

-- a fault line was written, or a front of it where the sink failed
abbrev pub EndsIn : List ℕ → ℕ → Option (List ℕ) → Option (List ℕ) → ℕ → Type 0
EndsIn line wanted before after status =
    ((status ≡ wanted) × Appends before after line) ⊎ ((status ≡ 5) × Puts before after line Failed)

abbrev pub IsRefused : Option (List ℕ) → Option (List ℕ) → ℕ → Type 0
IsRefused = EndsIn bad_words 1

abbrev pub IsOutOfMemory : Option (List ℕ) → Option (List ℕ) → ℕ → Type 0
IsOutOfMemory = EndsIn no_memory 6

-- What auditors are given and take.
use Rattle.std.specs.Prelude.{◌≡◌, ℕ, List, [], ◌∷◌, ◌++◌, Option, Some, None}
use Rattle.std.specs.Io.KnownBytes.{Appends}
use Rattle.ug_audit.specs.declared.auditor.Noted.{Noted}
use Rattle.ug_audit.specs.declared.auditor.Noted.TheVariants as noted

-- the line and a newline were taken, or a front of these where the call failed
abbrev pub TakesEntryLine : Option (List ℕ) → Option (List ℕ) → List ℕ → Noted → Type 0
TakesEntryLine before after line noted.Done = Appends before after (line ++ 10 ∷ [])
TakesEntryLine before after line noted.Failed =
    (front : List ℕ) × (rest : List ℕ) × (line ++ 10 ∷ [] ≡ front ++ rest)
    × Appends before after front

-- what is handed out is the text
abbrev pub IsTextTaken : Option (List ℕ) → Option (List ℕ) → Type 0
IsTextTaken None text = Unit {0}
IsTextTaken (Some bytes) text = text ≡ Some bytes

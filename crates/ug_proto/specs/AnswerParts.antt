-- The parts of a reply that says what was done.
use Rattle.std.specs.Prelude.{◌≡◌, ℕ, ◌<◌, ◌^◌, List, ◌∷◌, ◌++◌, length, decimal}
use Rattle.ug_types.specs.Elements.{Has}
use Rattle.ug_proto.specs.declared.scan.Stop.{Stop}
use Rattle.ug_proto.specs.declared.scan.Stop.TheVariants as stop
use Rattle.ug_proto.specs.Replies.{ended_lines, AreWholeLines}

-- no line ends among the bytes, unless memory was refused
abbrev pub IsUnended : List ℕ → Stop → Type 0
IsUnended bytes stop.Short = ¬ Has bytes 10
IsUnended bytes stop.Bad = ⊥
IsUnended bytes stop.Memory = Unit {0}

abbrev pub AreCountedLines : ℕ → List (List ℕ) → Type 0
AreCountedLines count lines = AreWholeLines lines × (length lines ≡ count)

-- the number of lines, and they
abbrev pub answer_text : List (List ℕ) → List ℕ
answer_text lines = decimal (length lines) ++ (10 ∷ ended_lines lines)

abbrev pub IsAnswer : List (List ℕ) → Type 0
IsAnswer lines = AreWholeLines lines × (length lines < 2 ^ 64)

-- A line about its first equals sign, with blanks about it and about the sign.
use Rattle.std.specs.Prelude.{◌≡◌, ◌≤◌, ℕ, ◌+◌, ◌-◌, nat_eq, if◌then◌else◌, List, [], ◌∷◌, length, take, drop, Option, Some, None}
use Rattle.std.specs.List.{position}
use Rattle.ug_lines.specs.Blanks.{without_front, without_end}
use Rattle.ug_lines.specs.Equations.{IsTextOf, IsSkipped, IsEquation}
use Rattle.ug_types.specs.Elements.{Has}
use Rattle.ug_lines.specs.declared.cut.LineCut.{LineCut}
use Rattle.ug_lines.specs.declared.cut.LineCut.TheVariants as line_cut

-- what a line is
pub data EquationCut : Type 0 where
  -- empty, or a comment
  Skip : EquationCut
  -- it has no sign
  NoSign : EquationCut
  -- a word, a value, and the place where the value begins in the line without its blanks
  Sides : (word value : List ℕ) (place : ℕ) → EquationCut

abbrev pub cut_sides : List ℕ → List ℕ → List ℕ → EquationCut
cut_sides text word value = Sides word value (length text - length value)

abbrev pub cut_at : List ℕ → Option ℕ → EquationCut
cut_at text None = NoSign
cut_at text (Some at) =
    cut_sides text (without_end (take at text)) (without_front (drop (at + 1) text))

-- a text that is neither empty nor a comment
abbrev pub cut_shown : List ℕ → EquationCut
cut_shown text = cut_at text (position (nat_eq 61) text)

-- a line without its blanks
abbrev pub cut_bare : List ℕ → EquationCut
cut_bare [] = Skip
cut_bare (b ∷ bytes) = if nat_eq b 35 then Skip else cut_shown (b ∷ bytes)

abbrev pub cut_of : List ℕ → EquationCut
cut_of line = cut_bare (without_end (without_front line))

-- the cut as a relation
abbrev pub IsEquationCut : List ℕ → EquationCut → Type 0
IsEquationCut line Skip = (text : List ℕ) × IsTextOf line text × IsSkipped text
IsEquationCut line NoSign =
    (text : List ℕ) × IsTextOf line text × (¬ IsSkipped text) × (¬ Has text 61)
IsEquationCut line (Sides word value place) =
    (text : List ℕ) × IsTextOf line text × (¬ IsSkipped text) × IsEquation text word value
    × (length text ≡ place + length value)

-- what a call answers
abbrev pub cut_as : LineCut → EquationCut
cut_as line_cut.Skipped = Skip
cut_as line_cut.NoSign = NoSign
cut_as (line_cut.Equation word value place) = Sides word.now value.now place

-- the value stands within so many bytes
abbrev pub IsWithin : ℕ → LineCut → Type 0
IsWithin total line_cut.Skipped = Unit {0}
IsWithin total line_cut.NoSign = Unit {0}
IsWithin total (line_cut.Equation word value place) = place + length value.now ≤ total

-- A text about its first or last byte of one kind.
use Rattle.std.specs.Prelude.{◌≡◌, ℕ, suc, ◌<◌, nat_eq, if◌then◌else◌, List, [], ◌∷◌, ◌++◌, length}
use Rattle.std.specs.Prelude.{Option, Some, None}
use Rattle.ug_types.specs.Elements.{Has}

-- how many bytes stand before the first such byte; all, where there is none
abbrev pub length_before : ℕ → List ℕ → ℕ
length_before sign [] = 0
length_before sign (b ∷ bytes) = if nat_eq b sign then 0 else suc (length_before sign bytes)

-- a text is two parts about its first such byte
pub record IsCutAtFirst (sign : ℕ) (text front back : List ℕ) : Type 0 where
  pub is : text ≡ front ++ sign ∷ back
  pub first : ¬ Has front sign

-- a text is two parts about its last such byte, of which the first has so many bytes
pub record IsLastCut (sign : ℕ) (text : List ℕ) (at : ℕ) : Type 0 where
  pub front : List ℕ
  pub back : List ℕ
  pub is : text ≡ front ++ sign ∷ back
  pub long : length front ≡ at
  pub last : ¬ Has back sign

-- the place of the last such byte
abbrev pub IsLastPlace : ℕ → List ℕ → Option ℕ → Type 0
IsLastPlace sign text None = ¬ Has text sign
IsLastPlace sign text (Some at) = (at < length text) × IsLastCut sign text at

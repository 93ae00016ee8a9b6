-- Lines of which each is skipped or gives an entry under a key of its own, up to the first bad one.
use Rattle.std.specs.Prelude.{◌≡◌, ◌⊎◌, ℕ, ◌+◌, List, [], ◌∷◌, ◌++◌, length, map}
use Rattle.ug_lines.specs.Lines.{lines_of}
use Rattle.ug_types.specs.Elements.{AllDistinct}
use Rattle.ug_types.specs.declared.text_fault.TextFault.{TextFault}
use Rattle.ug_lines.specs.Cuts.{IsEquationCut, Skip}

-- empty, or a comment
abbrev pub IsSkippedLine : List ℕ → Type 0
IsSkippedLine line = IsEquationCut line Skip

-- what lines that are numbered from a number on give, each of which is skipped or gives an entry
abbrev pub AreEntries : {E : Type 0} → (ℕ → List ℕ → E → Type 0) → ℕ → List (List ℕ) → List E
    → Type 0
AreEntries Gives number [] entries = entries ≡ []
AreEntries {E} Gives number (line ∷ lines) entries =
    (IsSkippedLine line × AreEntries Gives (number + 1) lines entries)
    ⊎ ((entry : E) × (others : List E) × (entries ≡ entry ∷ others) × Gives number line entry
    × AreEntries Gives (number + 1) lines others)

-- the lines before are good and give each an entry under another key, and this one is bad behind
-- those keys
pub record IsFirstBad {E Q K : Type 0} (Gives : ℕ → List ℕ → E → Type 0) (key_of : E → Q)
    (IsBad : List Q → List ℕ → K → ℕ → Type 0) (number_of : K → ℕ) (text : List ℕ)
    (fault : TextFault) : Type 0 where
  pub before : List (List ℕ)
  pub line : List ℕ
  pub behind : List (List ℕ)
  pub entries : List E
  pub kind : K
  pub lines : lines_of text ≡ before ++ line ∷ behind
  pub good : AreEntries Gives 1 before entries
  pub once : AllDistinct (map key_of entries)
  pub bad : IsBad (map key_of entries) line kind fault.place
  pub number : fault.line ≡ length before + 1
  pub kind_is : fault.kind ≡ number_of kind

-- Lines of the form `word=value`, with blanks about each part, as relations. A line is skipped
-- where it is empty or begins with `#`.
use Rattle.std.specs.Prelude.{◌≡◌, ◌⊎◌, ℕ, List, [], ◌∷◌, ◌++◌}
use Rattle.ug_types.specs.Elements.{Has}

-- space or tab
abbrev pub IsBlank : ℕ → Type 0
IsBlank b = (b ≡ 32) ⊎ (b ≡ 9)

abbrev pub AreBlanks : List ℕ → Type 0
AreBlanks [] = Unit {0}
AreBlanks (b ∷ bytes) = IsBlank b × AreBlanks bytes

-- it doesn't begin with a blank
abbrev pub BeginsBare : List ℕ → Type 0
BeginsBare [] = Unit {0}
BeginsBare (b ∷ bytes) = ¬ IsBlank b

-- it doesn't end with a blank
abbrev pub EndsBare : List ℕ → Type 0
EndsBare text = (front : List ℕ) (b : ℕ) → text ≡ front ++ b ∷ [] → ¬ IsBlank b

-- a line is a text with blanks before and behind it
pub record IsTextOf (line text : List ℕ) : Type 0 where
  pub before : List ℕ
  pub behind : List ℕ
  pub is : line ≡ before ++ (text ++ behind)
  pub before_blank : AreBlanks before
  pub behind_blank : AreBlanks behind
  pub begins : BeginsBare text
  pub ends : EndsBare text

-- empty, or a comment
abbrev pub IsSkipped : List ℕ → Type 0
IsSkipped [] = Unit {0}
IsSkipped (b ∷ bytes) = b ≡ 35

-- a word, the first equals sign, and a value, with blanks about the sign
pub record IsEquation (text word value : List ℕ) : Type 0 where
  pub before : List ℕ
  pub behind : List ℕ
  pub is : text ≡ word ++ (before ++ 61 ∷ (behind ++ value))
  pub before_blank : AreBlanks before
  pub behind_blank : AreBlanks behind
  pub no_sign : ¬ Has word 61
  pub ends : EndsBare word
  pub begins : BeginsBare value

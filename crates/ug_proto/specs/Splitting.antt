-- Words with one space between.
use Rattle.std.specs.Prelude.{◌≡◌, ◌≢◌, ℕ, ◌⊎◌, nat_eq, if◌then◌else◌, List, [], ◌∷◌}
use Rattle.ug_types.specs.Elements.{Has}

-- the word that a text begins with, which may be empty
abbrev pub word_in_front : List ℕ → List ℕ
word_in_front [] = []
word_in_front (b ∷ bytes) = if nat_eq b 32 then [] else b ∷ word_in_front bytes

-- what stands behind that word, from its space on
abbrev pub behind_word : List ℕ → List ℕ
behind_word [] = []
behind_word (b ∷ bytes) = if nat_eq b 32 then b ∷ bytes else behind_word bytes

-- at least one byte, and no space
abbrev pub IsPlainWord : List ℕ → Type 0
IsPlainWord word = (word ≢ []) × (¬ Has word 32)

-- nothing, or a space and more
abbrev pub IsRest : List ℕ → Type 0
IsRest rest = (rest ≡ []) ⊎ ((text : List ℕ) × (rest ≡ 32 ∷ text))

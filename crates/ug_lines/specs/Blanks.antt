-- Blanks about a text: space and tab.
use Rattle.std.specs.Prelude.{ℕ, Bool, ◌||◌, nat_eq, if◌then◌else◌, List, [], ◌∷◌}

abbrev pub is_line_blank : ℕ → Bool
is_line_blank b = nat_eq b 32 || nat_eq b 9

-- the text without the blanks in front
abbrev pub without_front : List ℕ → List ℕ
without_front [] = []
without_front (b ∷ bytes) = if is_line_blank b then without_front bytes else b ∷ bytes

abbrev pub before_end : ℕ → List ℕ → List ℕ
before_end b [] = if is_line_blank b then [] else b ∷ []
before_end b (c ∷ bytes) = b ∷ c ∷ bytes

-- the text without the blanks behind
abbrev pub without_end : List ℕ → List ℕ
without_end [] = []
without_end (b ∷ bytes) = before_end b (without_end bytes)

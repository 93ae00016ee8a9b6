-- Names with blanks between.
use Rattle.std.specs.Prelude.{ℕ, suc, Bool, if◌then◌else◌, List, [], ◌∷◌, Option, Some, None}
use Rattle.std.specs.Option.{option_map}
use Rattle.ug_lines.specs.Blanks.{is_line_blank}
use Rattle.ug_types.specs.Principals.{Named, is_name}

-- how many bytes stand before the first blank
abbrev pub first_blank : List ℕ → ℕ
first_blank [] = 0
first_blank (b ∷ bytes) = if is_line_blank b then 0 else suc (first_blank bytes)

-- the word that a text begins with, which may be empty, and the words behind it
abbrev pub words : List ℕ → List (List ℕ) → List (List ℕ)
words [] behind = behind
words (b ∷ bytes) behind = (b ∷ bytes) ∷ behind

abbrev pub cut : List ℕ → List ℕ × List (List ℕ)
cut [] = ([], [])
cut (b ∷ bytes) =
    let rest =
    cut bytes in if is_line_blank b then ([], words rest.0 rest.1) else (b ∷ rest.0, rest.1)

-- what stands between blanks
abbrev pub words_between : List ℕ → List (List ℕ)
words_between text = words (cut text).0 (cut text).1

abbrev pub with_principal : Bool → List ℕ → Option (List Named) → Option (List Named)
with_principal group name names =
    if is_name name then option_map (λ others. record { group = group; name = name } ∷ others) names
    else None

-- the users or the groups of the names, if each is a name
abbrev pub all_named : Bool → List (List ℕ) → Option (List Named)
all_named group [] = Some []
all_named group (name ∷ names) = with_principal group name (all_named group names)

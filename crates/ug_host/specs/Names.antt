-- Names in a folder.
use Rattle.std.specs.Prelude.{ℕ, ◌<◌, ◌^◌, List, length}
use Rattle.ug_types.specs.Elements.{AllDistinct}

-- fewer than 2,147,483,648 names, none of them twice
abbrev pub AreFewNames : List (List ℕ) → Type 0
AreFewNames names = (length names < 2 ^ 31) × AllDistinct names

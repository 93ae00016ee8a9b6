-- A text that is cut at a mark.
use Rattle.std.specs.Prelude.{ℕ, nat_eq, if◌then◌else◌, List, [], ◌∷◌, Option, Some, None}

abbrev pub onto_front : ℕ → Option (List ℕ × List ℕ) → Option (List ℕ × List ℕ)
onto_front b None = None
onto_front b (Some cut) = Some (b ∷ cut.0, cut.1)

-- what stands before the first such byte, and what stands behind it
abbrev pub cut_at_mark : ℕ → List ℕ → Option (List ℕ × List ℕ)
cut_at_mark mark [] = None
cut_at_mark mark (b ∷ bytes) =
    if nat_eq b mark then Some ([], bytes) else onto_front b (cut_at_mark mark bytes)

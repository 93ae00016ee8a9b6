-- Lines, each with its newline.
use Rattle.std.proofs.Common.{◌≡◌, ℕ, suc, ◌+◌, ◌<◌, List, [], ◌∷◌, ◌++◌, length, drop, slice_index_or, ap, ◌∙◌, append_assoc, arith, drop-cons}
use Rattle.ug_proto.specs.Replies.{ended_lines}

pub next_line : (lines : List (List ℕ)) (i : ℕ) (d : List ℕ) → i < length lines → ended_lines (drop i lines) ≡ slice_index_or lines i d ++ (10 ∷ ended_lines (drop (i + 1) lines))
next_line lines i d h =
    let one : suc i ≡ i + 1 = omega arith in
    ap ended_lines (drop-cons lines i d h) ∙ ap (λ (k : ℕ). slice_index_or lines i d ++ (10 ∷ ended_lines (drop k lines))) one

pub longer : (out next after line whole : List ℕ) (rest : List ℕ) → next ≡ out ++ line → after ≡ next ++ 10 ∷ [] → out ++ (line ++ (10 ∷ rest)) ≡ whole → after ++ rest ≡ whole
longer out next after line whole rest e f q =
    ap (λ (l : List ℕ). l ++ rest) (f ∙ ap (λ (l : List ℕ). l ++ 10 ∷ []) e)
    ∙ append_assoc (out ++ line) (10 ∷ []) rest ∙ append_assoc out line (10 ∷ rest) ∙ q

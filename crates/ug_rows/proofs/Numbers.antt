-- Numbers of rows, one row after another.
use Rattle.std.proofs.Common.{◌≡◌, ◌∙◌, ℕ, ◌+◌, ◌<◌, List, [], ◌∷◌, ◌++◌, length, take, get_or, Option, Some, None, refl, sym, ap}
use Rattle.std.proofs.lemmas.List.{take_more}
use Rattle.ug_types.specs.declared.rule.Query.{Query}
use Rattle.ug_rows.specs.Rows.{matching_number, matching_numbers, onto_numbers}

onto_both : (number : Option ℕ) (numbers more : List ℕ) → onto_numbers number numbers ++ more ≡ onto_numbers number (numbers ++ more)
onto_both None numbers more = refl
onto_both (Some n) numbers more = refl

last_row : (query : Query) (rows : List (List ℕ)) (row : List ℕ) → matching_numbers query (rows ++ row ∷ []) ≡ matching_numbers query rows ++ onto_numbers (matching_number query row) []
last_row query [] row = refl
last_row query (first ∷ rows) row =
    ap (onto_numbers (matching_number query first)) (last_row query rows row)
    ∙ sym (onto_both (matching_number query first) (matching_numbers query rows) (onto_numbers (matching_number query row) []))

pub one_more : (query : Query) (rows : List (List ℕ)) (i : ℕ) (d : List ℕ) → i < length rows
    → matching_numbers query (take (i + 1) rows) ≡ matching_numbers query (take i rows) ++ onto_numbers (matching_number query (get_or rows i d)) []
one_more query rows i d lt = ap (matching_numbers query) (take_more rows i d lt) ∙ last_row query (take i rows) (get_or rows i d)

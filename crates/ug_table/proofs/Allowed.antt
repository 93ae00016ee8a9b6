-- Whether some device is allowed, by its standing and by its record.
use Rattle.std.proofs.Common.{◌≡◌, List, [], ◌∷◌, Bool, ◌||◌, refl, sym, ◌∙◌, ap}
use Rattle.std.proofs.lemmas.List.Folds.{list_any-append}
use Rattle.ug_types.specs.declared.rule.Query.{Query}
use Rattle.ug_match.specs.Queries.{query_matches}
use Rattle.ug_table.specs.Allowed.{allowed_of, allowed_records}
use Rattle.ug_table.proofs.Common.{Standing, list_any}

pub records_any : (query : Query) (ss : List Standing) → list_any (λ (s : Standing). list_any (query_matches query) (allowed_of s.settled s.verdict s.judged)) ss ≡ list_any (query_matches query) (allowed_records ss)
records_any query [] = refl
records_any query (s ∷ ss) =
    ap (λ (v : Bool). list_any (query_matches query) (allowed_of s.settled s.verdict s.judged) || v) (records_any query ss)
    ∙ sym (list_any-append (query_matches query) (allowed_of s.settled s.verdict s.judged) (allowed_records ss))

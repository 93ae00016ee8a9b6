use Rattle.std.proofs.Common.{◌∙◌, ap}
use Rattle.std.specs.List.{list_any}
use Rattle.ug_match.specs.Queries.{query_matches}
use Rattle.ug_table.specs.Allowed.{allowed_records}
use Rattle.ug_table.specs.Table.{TableState}
use Rattle.ug_table.proofs.Allowed.{records_any}
use Rattle.ug_table.proofs.table.Table.any_allowed.Goals as goal

pub returns : goal.returns
returns c =
    c.any_allowed.ensures
    ∙ records_any c.args.query.now c.self.inside.standings.items
    ∙ ap (λ (v : TableState). list_any (query_matches c.args.query.now) (allowed_records v.standings)) c.self.view_is

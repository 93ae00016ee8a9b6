use Rattle.std.proofs.Common.{◌∙◌, ap}
use Rattle.ug_table.proofs.NamedStandings.{none_numbered}
use Rattle.ug_table.specs.Standings.{numbered}
use Rattle.ug_table.specs.Table.{TableState}
use Rattle.ug_table.proofs.table.Table.standing.Goals as goal

pub returns-clause-none : goal.returns-clause-none
returns-clause-none c = none_numbered c.numbered.result c.args.number c.args.self.now.standings (c.numbered.ensures ∙ ap (λ (v : TableState). numbered c.args.number v.standings) c.self.view_is)

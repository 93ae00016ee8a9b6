use Rattle.std.proofs.Common.{sym, ap, ◌∙◌}
use Rattle.std.specs.Prelude.{option_copied}
use Rattle.ug_core.proofs.RowWalk.{first_at}
use Rattle.ug_core.proofs.device_list.standing_from.Goals as goal

pub returns-in-Some : goal.returns-in-Some
returns-in-Some c = first_at c.args.number c.args.table.now.standings c.in-Some.s.now (sym c.standing.ensures.value ∙ ap option_copied c.in-Some.is)

use Rattle.std.proofs.Common.{◌∙◌, sym}
use Rattle.ug_table.specs.Allowed.{matches_allowed}
use Rattle.ug_table.specs.Slots.{filled}
use Rattle.ug_table.proofs.MapChanges.{named_has}
use Rattle.ug_table.proofs.Watched.{any_has}
use Rattle.ug_table.proofs.watch.matches_found.Goals as goal

pub returns-in-Some : goal.returns-in-Some
returns-in-Some c t =
    let s = c.in-Some.s.now in
    let k = named_has c.in-Some-Some.name (filled c.args.slots.now.entries) s (sym c.in-Some.ensures) in
    any_has (matches_allowed c.args.query.now) (filled c.args.slots.now.entries) s k.0 (sym c.is_allowed.ensures ∙ t)

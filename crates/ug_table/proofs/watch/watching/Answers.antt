use Rattle.std.proofs.Common.{◌∙◌, ap, sym}
use Rattle.std.specs.Prelude.{is_some}
use Rattle.ug_table.specs.Allowed.{matches_allowed}
use Rattle.ug_table.specs.Slots.{filled}
use Rattle.ug_table.proofs.Watched.{any_none}
use Rattle.ug_table.proofs.watch.watching.Goals as goal

pub returns : goal.returns
returns c none = any_none (matches_allowed c.in-Ok.query) (filled c.args.slots.now.entries) (sym c.find_allowed-found.ensures ∙ ap is_some none)

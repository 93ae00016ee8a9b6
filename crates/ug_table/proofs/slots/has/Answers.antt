use Rattle.std.proofs.Common.{◌∙◌}
use Rattle.ug_table.proofs.Entries.{search_lists}
use Rattle.ug_table.proofs.slots.has.Goals as goal

pub returns : goal.returns
returns c = c.is_ok.ensures.value ∙ search_lists c.args.names.now c.args.name.now c.binary_search.result c.requires c.binary_search.ensures.bound c.binary_search.ensures.position

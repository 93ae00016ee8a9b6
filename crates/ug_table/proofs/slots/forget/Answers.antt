use Rattle.std.proofs.Common.{◌∙◌, ap, sym, subst}
use Rattle.ug_table.specs.Slots.{filled, empty_of, AllNamed}
use Rattle.ug_table.proofs.Entries.{without_slot, bear_remove, empty_remove}
use Rattle.ug_table.proofs.slots.forget.Goals as goal

pub returns-clause-items : goal.returns-clause-items
returns-clause-items c = ap filled c.remove.ensures.entries ∙ without_slot c.args.name.now c.args.slots.now.entries c.requires.ordered c.requires.bear

pub returns-clause-bear : goal.returns-clause-bear
returns-clause-bear c = subst AllNamed (sym c.remove.ensures.entries) (bear_remove c.args.name.now c.args.slots.now.entries c.requires.bear)

pub returns-clause-empty : goal.returns-clause-empty
returns-clause-empty c = ap empty_of c.remove.ensures.entries ∙ empty_remove c.args.name.now c.args.slots.now.entries c.requires.ordered

use Rattle.std.proofs.Common.{◌∙◌, ap, sym, option_copied}
use Rattle.ug_table.proofs.Entries.{named_slot, flat}
use Rattle.ug_table.proofs.slots.find.Goals as goal

-- src/slots.rt:15:1
pub returns-in-Some : goal.returns-in-Some
returns-in-Some c = c.as_ref.ensures.value ∙ ap flat c.in-Some.ensures.value ∙ sym (named_slot c.args.name.now c.args.slots.now.entries c.requires.ordered c.requires.bear)

-- src/slots.rt:15:1
pub returns-in-None : goal.returns-in-None
returns-in-None c = ap flat (sym (ap option_copied c.in-None.is) ∙ c.get.ensures.value) ∙ sym (named_slot c.args.name.now c.args.slots.now.entries c.requires.ordered c.requires.bear)

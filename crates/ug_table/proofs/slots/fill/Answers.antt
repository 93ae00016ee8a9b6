use Rattle.std.proofs.Common.{◌∙◌, ap, sym, subst, refl, Some}
use Rattle.ug_types.specs.Names.{sweep_cmp}
use Rattle.std.specs.BTreeMap.{is_at}
use Rattle.std.specs.Map.{set_value}
use Rattle.ug_table.specs.Slots.{filled, empty_of, AllNamed}
use Rattle.ug_table.proofs.Entries.{fill_slot, empty_fill, bear_set}
use Rattle.ug_table.proofs.slots.fill.Goals as goal

pub returns-in-Some-clause-items : goal.returns-in-Some-clause-items
returns-in-Some-clause-items c =
    ap filled ((c.get_mut.follows.holds c.replace.new.dest).0 ∙ ap (set_value (is_at (sweep_cmp c.args.standing.name)) c.args.slots.now.entries) c.replace.ensures.after)
    ∙ fill_slot c.args.standing.name c.args.standing c.args.slots.now.entries refl c.requires.ordered c.requires.bear c.requires.place

pub returns-in-Some-clause-bear : goal.returns-in-Some-clause-bear
returns-in-Some-clause-bear c = subst AllNamed (sym ((c.get_mut.follows.holds c.replace.new.dest).0 ∙ ap (set_value (is_at (sweep_cmp c.args.standing.name)) c.args.slots.now.entries) c.replace.ensures.after)) (bear_set c.args.standing.name c.args.slots.now.entries (Some c.args.standing) c.requires.bear refl)

pub returns-in-Some-clause-empty : goal.returns-in-Some-clause-empty
returns-in-Some-clause-empty c =
    ap empty_of ((c.get_mut.follows.holds c.replace.new.dest).0 ∙ ap (set_value (is_at (sweep_cmp c.args.standing.name)) c.args.slots.now.entries) c.replace.ensures.after)
    ∙ empty_fill c.args.standing.name c.args.standing c.args.slots.now.entries c.requires.only c.requires.place

use Rattle.std.proofs.Common.{◌∙◌, ap, sym, subst, rules}
use Rattle.ug_table.specs.Standings.{lists}
use Rattle.ug_table.specs.Slots.{Slot, filled, empty_of, AllNamed}
use Rattle.ug_table.proofs.Entries.{filter_slot, bear_filter, empty_filter}
use Rattle.ug_table.proofs.slots.retain_listed.Goals as goal
use Rattle.std.proofs.lemmas.Map.Made.{filter_same_pairs}

pub returns-clause-entries : goal.returns-clause-entries
returns-clause-entries c = filter_same_pairs _ (λ (e : Slot). lists c.args.names.now e.0) _ (λ k v b w f t. search rules) _ _ c.retain.ensures.filtered

pub returns-clause-items : goal.returns-clause-items
returns-clause-items c = ap filled (filter_same_pairs _ (λ (e : Slot). lists c.args.names.now e.0) _ (λ k v b w f t. search rules) _ _ c.retain.ensures.filtered) ∙ filter_slot (lists c.args.names.now) c.args.slots.now.entries c.requires.bear

pub returns-clause-bear : goal.returns-clause-bear
returns-clause-bear c = subst AllNamed (sym (filter_same_pairs _ (λ (e : Slot). lists c.args.names.now e.0) _ (λ k v b w f t. search rules) _ _ c.retain.ensures.filtered)) (bear_filter (λ (e : Slot). lists c.args.names.now e.0) c.args.slots.now.entries c.requires.bear)

pub returns-clause-empty : goal.returns-clause-empty
returns-clause-empty c = ap empty_of (filter_same_pairs _ (λ (e : Slot). lists c.args.names.now e.0) _ (λ k v b w f t. search rules) _ _ c.retain.ensures.filtered) ∙ empty_filter (lists c.args.names.now) c.args.slots.now.entries

use Rattle.std.proofs.Common.{◌≡◌, ◌∙◌, ap, sym, subst}
use Rattle.std.proofs.lemmas.Bool.{OnTrue_from}
use Rattle.ug_table.specs.Slots.{filled, empty_of, AllNamed}
use Rattle.ug_table.proofs.Entries.{place_slot, bear_place, empty_place, either_way, when_ok}
use Rattle.ug_table.proofs.slots.make_place.Goals as goal

pub returns-clause-items : goal.returns-clause-items
returns-clause-items c =
    either_way c.insert-made.result _ _ (filled c.insert-made.new.self.entries ≡ filled c.args.slots.now.entries) c.insert-made.ensures.entries c.insert-made.ensures.err
    (λ e. ap filled e ∙ place_slot c.args.name.now c.args.slots.now.entries c.requires.ordered c.requires.bear c.requires.absent)
    (λ e. ap filled e)

pub returns-clause-bear : goal.returns-clause-bear
returns-clause-bear c =
    either_way c.insert-made.result _ _ (AllNamed c.insert-made.new.self.entries) c.insert-made.ensures.entries c.insert-made.ensures.err
    (λ e. subst AllNamed (sym e) (bear_place c.args.name.now c.args.slots.now.entries c.requires.bear))
    (λ e. subst AllNamed (sym e) c.requires.bear)

pub returns-clause-place : goal.returns-clause-place
returns-clause-place c = OnTrue_from c.is_ok-has_place.result _ (λ t. ap empty_of (when_ok c.insert-made.result _ (sym c.is_ok-has_place.ensures.value ∙ t) c.insert-made.ensures.entries) ∙ empty_place c.args.name.now c.args.slots.now.entries c.requires.full)

-- The places with those of the rule, where it gets one, and the others raised.
use Rattle.std.proofs.Common.{◌≡◌, ℕ, List, Bool, true, false, if◌then◌else◌, arith, refl, sym, ap, ◌∙◌}
use Rattle.std.specs.List.{insert}
use Rattle.std.proofs.lemmas.List.{with_items_is}
use Rattle.ug_policy.specs.Places.{count_before, places_raised, put_in}
use Rattle.ug_policy.proofs.places.put_in.Goals as goal

then_is : {A : Type 0} (test : Bool) (x y now : A) → now ≡ (if test then x else y) → test ≡ true → now ≡ x
then_is true x y now e h = e
then_is false x y now e h = let none : ⊥ = cc in absurd none

pub returns-then-here : goal.returns-then-here
returns-then-here c =
    let at = c.args.at in
    let raised = c.raise-before.ensures in
    let slice = c.as_mut_slice.ensures in
    let same = with_items_is c.args.places.now c.raise-before.new.places (raised.len ∙ slice.len) in
    let ok = c.insert-put.ensures.succeeds c.requires.room in
    let longer = then_is _ _ _ _ c.insert-put.ensures.len ok in
    record {
      items = then_is _ _ _ _ c.insert-put.ensures.items ok
          ∙ ap (λ (ps : List ℕ). insert ps c.raise-before.result at) (same ∙ raised.places)
          ∙ ap (λ (n : ℕ). insert (places_raised at c.as_mut_slice.result.now) n at) raised.before
          ∙ ap (λ (ps : List ℕ). insert (places_raised at ps) (count_before at ps) at) slice.value
          ∙ ap (λ (here : Bool). put_in here at c.args.places.now.items) (sym c.if-here.true);
      len = omega (arith, longer);
      capacity = (c.insert-put.ensures.in_place c.requires.room).1.0;
    }

pub returns-else-here : goal.returns-else-here
returns-else-here c =
    let at = c.args.at in
    let raised = c.raise-before.ensures in
    let slice = c.as_mut_slice.ensures in
    let same = with_items_is c.args.places.now c.raise-before.new.places (raised.len ∙ slice.len) in
    record {
      items = same ∙ raised.places
          ∙ ap (λ (ps : List ℕ). places_raised at ps) slice.value
          ∙ ap (λ (here : Bool). put_in here at c.args.places.now.items) (sym c.if-here.false);
      len = omega arith;
      capacity = refl;
    }

-- The places without that of the rule, where it has one, and the others lowered.
use Rattle.std.proofs.Common.{◌≡◌, ℕ, suc, ◌+◌, ◌-◌, List, Bool, arith, refl, sym, ap, ◌∙◌}
use Rattle.std.specs.List.{remove}
use Rattle.std.proofs.lemmas.List.{with_items_is}
use Rattle.ug_policy.specs.Places.{count_before, lowered, taken_out}
use Rattle.ug_policy.proofs.places.take_out.Goals as goal

pub returns-then-here : goal.returns-then-here
returns-then-here c =
    let at = c.args.at in
    let behind : at + 1 ≡ suc at = omega arith in
    let down = c.lower-before.ensures in
    let slice = c.as_mut_slice.ensures in
    let now = c.as_mut_slice.result.now in
    let same = with_items_is c.args.places.now c.lower-before.new.places (down.len ∙ slice.len) in
    record {
      items = c.remove-taken.ensures.items
          ∙ ap (λ (ps : List ℕ). remove ps (c.lower-before.result - 1)) (same ∙ down.places)
          ∙ ap (λ (n : ℕ). remove (lowered (at + 1) now) (n - 1)) down.before
          ∙ ap (λ (n : ℕ). remove (lowered n now) (count_before n now - 1)) behind
          ∙ ap (λ (ps : List ℕ). remove (lowered (suc at) ps) (count_before (suc at) ps - 1)) slice.value
          ∙ ap (λ (here : Bool). taken_out here at c.args.places.now.items) (sym c.if-here.true);
      len = omega (arith, c.remove-taken.ensures.len);
      capacity = c.remove-taken.ensures.capacity;
    }

pub returns-else-here : goal.returns-else-here
returns-else-here c =
    let at = c.args.at in
    let behind : at + 1 ≡ suc at = omega arith in
    let down = c.lower-before.ensures in
    let slice = c.as_mut_slice.ensures in
    let same = with_items_is c.args.places.now c.lower-before.new.places (down.len ∙ slice.len) in
    record {
      items = same ∙ down.places
          ∙ ap (λ (n : ℕ). lowered n c.as_mut_slice.result.now) behind
          ∙ ap (λ (ps : List ℕ). lowered (suc at) ps) slice.value
          ∙ ap (λ (here : Bool). taken_out here at c.args.places.now.items) (sym c.if-here.false);
      len = omega arith;
      capacity = refl;
    }

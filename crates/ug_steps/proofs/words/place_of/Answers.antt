use Rattle.std.proofs.Common.{◌≡◌, ℕ, ◌+◌, ◌<◌, Bool, true, false, cond, List, Some, length, get_or, drop, nat_eq, sym, ap, ◌∙◌}
use Rattle.std.specs.List.{position, position_from}
use Rattle.std.proofs.lemmas.Bool.{eq-eqb, ne_eqb}
use Rattle.std.proofs.lemmas.Iterator.Adapters.{position_from-zero}
use Rattle.std.proofs.lemmas.List.{at_drop_more, at_drop_all}
use Rattle.ug_steps.proofs.words.place_of.Goals as goal

step : (p : ℕ → Bool) (text : List ℕ) (i : ℕ) (v : Bool) → i < length text → p (get_or text i 0) ≡ v → position_from p i (drop i text) ≡ position p text → cond v (Some i) (position_from p (i + 1) (drop (i + 1) text)) ≡ position p text
step p text i v h t e = ap (λ (b : Bool). cond b (Some i) (position_from p (i + 1) (drop (i + 1) text))) (sym t) ∙ sym (at_drop_more (position_from p i) text i 0 h) ∙ e

pub loop-place-init : goal.loop-place-init
loop-place-init c = sym (position_from-zero (nat_eq c.args.byte) c.args.text.now)

pub returns-then-byte-text : goal.returns-then-byte-text
returns-then-byte-text c = step (nat_eq c.args.byte) c.args.text.now c.loop-place.place true c.loop-place-test.true (eq-eqb c.args.byte (get_or c.args.text.now c.loop-place.place 0) c.if-byte-text.true) c.loop-place.invariant

pub loop-place-preserved : goal.loop-place-preserved
loop-place-preserved c = step (nat_eq c.args.byte) c.args.text.now c.loop-place.place false c.loop-place-test.true (ne_eqb c.args.byte (get_or c.args.text.now c.loop-place.place 0) c.if-byte-text.false) c.loop-place.invariant

pub returns : goal.returns
returns c = sym (at_drop_all (position_from (nat_eq c.args.byte) c.loop-place.place) c.args.text.now c.loop-place.place c.loop-place-test.false) ∙ c.loop-place.invariant

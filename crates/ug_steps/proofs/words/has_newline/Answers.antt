use Rattle.std.proofs.Common.{◌≡◌, ℕ, ◌+◌, ◌<◌, Bool, true, false, List, length, get_or, drop, nat_eq, sym, ap, ◌∙◌}
use Rattle.std.specs.Prelude.{◌||◌}
use Rattle.std.specs.List.{list_any}
use Rattle.std.proofs.lemmas.Bool.{eq-eqb, ne_eqb}
use Rattle.std.proofs.lemmas.List.{at_drop_more, at_drop_all}
use Rattle.ug_steps.proofs.words.has_newline.Goals as goal

abbrev newline : ℕ → Bool
newline b = nat_eq b 10

step : (text : List ℕ) (i : ℕ) (v : Bool) → i < length text → newline (get_or text i 0) ≡ v → list_any newline (drop i text) ≡ list_any newline text → v || list_any newline (drop (i + 1) text) ≡ list_any newline text
step text i v h t e = ap (λ (b : Bool). b || list_any newline (drop (i + 1) text)) (sym t) ∙ sym (at_drop_more (list_any newline) text i 0 h) ∙ e

pub returns-then-byte-eq10 : goal.returns-then-byte-eq10
returns-then-byte-eq10 c = step c.args.text.now c.loop-byte.byte-index true c.loop-byte-test.true (eq-eqb (get_or c.args.text.now c.loop-byte.byte-index 0) 10 c.if-byte-eq10.true) c.loop-byte.invariant

pub loop-byte-preserved : goal.loop-byte-preserved
loop-byte-preserved c = step c.args.text.now c.loop-byte.byte-index false c.loop-byte-test.true (ne_eqb (get_or c.args.text.now c.loop-byte.byte-index 0) 10 c.if-byte-eq10.false) c.loop-byte.invariant

pub returns : goal.returns
returns c = sym (at_drop_all (list_any newline) c.args.text.now c.loop-byte.byte-index c.loop-byte-test.false) ∙ c.loop-byte.invariant

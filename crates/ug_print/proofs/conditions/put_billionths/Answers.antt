use Rattle.std.proofs.Common.{ℕ, ◌+◌, ◌-◌, ◌*◌, ◌%◌, List, ◌++◌, ap, sym, ◌∙◌, arith}
use Rattle.ug_print.specs.Items.{billionths}
use Rattle.ug_print.proofs.Fractions.{all_written, nothing_left, one_more}
use Rattle.ug_print.proofs.conditions.put_billionths.Goals as goal

pub loop-place-preserved : goal.loop-place-preserved
loop-place-preserved c =
    let place : ℕ = c.loop-place._place in
    let rest : ℕ = c.loop-place.rest in
    record {
      below = omega arith;
      written = ap (λ (l : List ℕ). l ++ billionths (9 - (place + 1)) (rest * 10 % 1000000000)) c.in_ok-push.ensures.items
          ∙ sym (one_more c.loop-place.out.items place rest c.loop-place-test.true c.if-rest-eq0.false) ∙ c.loop-place.invariant.written;
    }

pub returns-then-rest-eq0 : goal.returns-then-rest-eq0
returns-then-rest-eq0 c = sym (nothing_left c.loop-place.out.items c.loop-place._place c.loop-place.rest c.if-rest-eq0.true) ∙ c.loop-place.invariant.written

pub returns : goal.returns
returns c = sym (all_written c.loop-place.out.items c.loop-place._place c.loop-place.rest c.loop-place-test.false) ∙ c.loop-place.invariant.written

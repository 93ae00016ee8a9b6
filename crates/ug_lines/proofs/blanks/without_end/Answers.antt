use Rattle.std.proofs.Common.{sym, ◌∙◌, arith}
use Rattle.ug_lines.proofs.BlankSteps.{taken_blank, taken_found}
use Rattle.ug_lines.proofs.blanks.without_end.Goals as goal

pub returns-then-not-is_blank : goal.returns-then-not-is_blank
returns-then-not-is_blank c = sym (taken_found c.loop-end.end c.args.text.now c.loop-end-test.true c.loop-end.invariant.within (sym c.is_blank.ensures ∙ c.if-not-is_blank.true)) ∙ c.loop-end.invariant.here

pub loop-end-preserved : goal.loop-end-preserved
loop-end-preserved c = record {
  here = sym (taken_blank c.loop-end.end c.args.text.now c.loop-end-test.true c.loop-end.invariant.within (sym c.is_blank.ensures ∙ c.if-not-is_blank.false)) ∙ c.loop-end.invariant.here;
  within = omega (arith, c.loop-end.invariant.within);
}

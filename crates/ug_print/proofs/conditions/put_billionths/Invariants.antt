use Rattle.std.proofs.Common.{◌≡◌, ◌<◌, ◌-◌, ◌++◌}
use Rattle.ug_print.specs.Items.{billionths}
use Rattle.ug_print.proofs.conditions.put_billionths.Given as goal

-- what is still to be written ends the whole
abbrev pub invariant-loop-place : goal.invariant-loop-place
invariant-loop-place l = record {
  below : l.rest < 1000000000;
  written : l.out.items ++ billionths (9 - l._place) l.rest ≡ l.fn.out.items ++ billionths 9 l.n;
}

use Rattle.std.proofs.Common.{◌≡◌, ◌++◌, take}
use Rattle.ug_client.specs.Ordering.{spaced_lines}
use Rattle.ug_client.proofs.orders.put_spaced.Given as goal

abbrev pub invariant-loop-line : goal.invariant-loop-line
invariant-loop-line l = l.out.items ≡ l.fn.out.items ++ spaced_lines (take l.line-index l.lines)

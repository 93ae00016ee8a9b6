use Rattle.std.proofs.Common.{◌≡◌, take}
use Rattle.ug_proto.specs.Replies.{ended_lines}
use Rattle.ug_rows.specs.Rows.{chosen_rows}
use Rattle.ug_client.proofs.choosing.print_rows.Given as goal

abbrev pub invariant-loop-row : goal.invariant-loop-row
invariant-loop-row l = l.out.items ≡ ended_lines (chosen_rows l.choice (take l.row-index l.rows))

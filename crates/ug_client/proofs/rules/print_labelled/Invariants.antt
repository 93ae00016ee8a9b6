use Rattle.std.proofs.Common.{◌≡◌, take}
use Rattle.ug_proto.specs.Replies.{ended_lines}
use Rattle.ug_rows.specs.RuleRows.{labelled_rows}
use Rattle.ug_client.proofs.rules.print_labelled.Given as goal

abbrev pub invariant-loop-row : goal.invariant-loop-row
invariant-loop-row l = l.out.items ≡ ended_lines (labelled_rows l.label (take l.row-index l.rules))

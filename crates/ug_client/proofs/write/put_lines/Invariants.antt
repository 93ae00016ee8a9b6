use Rattle.std.proofs.Common.{◌≡◌, ◌++◌, drop}
use Rattle.ug_proto.specs.Replies.{ended_lines}
use Rattle.ug_client.proofs.write.put_lines.Given as goal

abbrev pub invariant-loop-line : goal.invariant-loop-line
invariant-loop-line l = l.out.items ++ ended_lines (drop l.line-index l.lines) ≡ l.initial.out.items ++ ended_lines l.lines

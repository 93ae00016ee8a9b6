use Rattle.std.proofs.Common.{◌≤◌, length}
use Rattle.ug_files.proofs.file.read_content.Given as goal

abbrev pub invariant-loop : goal.invariant-loop
invariant-loop g l = length l.bytes.items ≤ l.limit

use Rattle.std.proofs.Common.{◌≡◌, take}
use Rattle.std.specs.Prelude.{flat_map}
use Rattle.ug_commands.specs.LintingLines.{finding_line}
use Rattle.ug_commands.proofs.linting_lines.text_of_findings.Given as goal

abbrev pub invariant-loop-finding : goal.invariant-loop-finding
invariant-loop-finding l = l.text.items ≡ flat_map finding_line (take l.finding-index l.found)

use Rattle.ug_acl.proofs.LineCases.{line_case, skipped_read, grant_read, bad_read}
use Rattle.ug_acl.proofs.laws.access_lines_law.Goals as goal

pub returns-clause-each : goal.returns-clause-each
returns-clause-each c = line_case

pub returns-clause-skipped : goal.returns-clause-skipped
returns-clause-skipped c = skipped_read

pub returns-clause-grants : goal.returns-clause-grants
returns-clause-grants c = grant_read

pub returns-clause-bad : goal.returns-clause-bad
returns-clause-bad c = bad_read

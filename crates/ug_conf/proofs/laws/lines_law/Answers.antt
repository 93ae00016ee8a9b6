use Rattle.ug_conf.proofs.LineCases.{line_case, skipped_read, setting_read, bad_read}
use Rattle.ug_conf.proofs.laws.lines_law.Goals as goal

pub returns-clause-each : goal.returns-clause-each
returns-clause-each c = line_case

pub returns-clause-skipped : goal.returns-clause-skipped
returns-clause-skipped c = skipped_read

pub returns-clause-sets : goal.returns-clause-sets
returns-clause-sets c = setting_read

pub returns-clause-bad : goal.returns-clause-bad
returns-clause-bad c = bad_read

use Rattle.ug_rule.proofs.Counting.{count_read, fault_read}
use Rattle.ug_rule.proofs.files.count_rules.Goals as goal

pub returns-in-Ok-clause-good : goal.returns-in-Ok-clause-good
returns-in-Ok-clause-good c = count_read c.args.text.now _ c.in-Ok.ensures

pub returns-in-Err-clause-bad : goal.returns-in-Err-clause-bad
returns-in-Err-clause-bad c = fault_read c.args.text.now c.in-Err.fault _ c.in-Err.ensures

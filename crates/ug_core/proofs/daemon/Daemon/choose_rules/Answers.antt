use Rattle.ug_ruleset.specs.RuleRows.{rule_rows}
use Rattle.ug_core.specs.Event.{daemon_of}
use Rattle.ug_core.proofs.Told.{told_do, told_make, told_runs}
use Rattle.ug_core.proofs.daemon.Daemon.choose_rules.Goals as goal

pub returns-clause-runs : goal.returns-clause-runs
returns-clause-runs g c = told_runs g.Y.Sysfs.gives c.args.sysfs.now c.rule_rows.result (rule_rows c.args.self.now.policy.rules.entries) c.tell.result c.rule_rows.ensures.rows c.tell.ensures.ok c.tell.ensures.err

pub returns-clause-can_do : goal.returns-clause-can_do
returns-clause-can_do g c = told_do (daemon_of c.args.self.now) c.rule_rows.result c.tell.result c.tell.ensures.ok c.tell.ensures.err

pub returns-clause-lines : goal.returns-clause-lines
returns-clause-lines g c = c.tell.ensures.lines c.rule_rows.ensures.one_line

pub returns-clause-can_make : goal.returns-clause-can_make
returns-clause-can_make g c = told_make c.args.self.now.policy.rules.entries c.rule_rows.result c.tell.result c.tell.ensures.ok c.tell.ensures.err

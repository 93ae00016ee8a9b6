use Rattle.std.proofs.Common.{sym, subst}
use Rattle.ug_lines.specs.Splitting.{IsLine}
use Rattle.ug_core.specs.Event.{daemon_of}
use Rattle.ug_core.proofs.Told.{told_do, told_make}
use Rattle.ug_core.proofs.ValueLines.{value_line}
use Rattle.ug_core.proofs.daemon.Daemon.choose_parameter.Goals as goal

pub returns-in-Some-clause-can_do : goal.returns-in-Some-clause-can_do
returns-in-Some-clause-can_do g c = told_do (daemon_of c.args.self.now) c.one_line.result c.tell.result c.tell.ensures.ok c.tell.ensures.err

pub returns-in-Some-clause-lines : goal.returns-in-Some-clause-lines
returns-in-Some-clause-lines g c = c.tell.ensures.lines (c.one_line.ensures.whole (subst IsLine (sym c.value.ensures.text) (value_line c.parameter.result)))

pub returns-in-Some-clause-can_make : goal.returns-in-Some-clause-can_make
returns-in-Some-clause-can_make g c = told_make c.args.self.now.policy.rules.entries c.one_line.result c.tell.result c.tell.ensures.ok c.tell.ensures.err

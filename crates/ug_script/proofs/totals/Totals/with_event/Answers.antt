use Rattle.ug_script.specs.Taking.{reported}
use Rattle.ug_script.proofs.EntryCounts.{text_behind}
use Rattle.ug_script.proofs.totals.Totals.with_event.Goals as goal

pub returns : goal.returns
returns c = rw c.with_text.ensures (text_behind (reported c.args.report.now) c.args.passed.now c.args.self c.in_ok-totals.totals c.in_ok-totals.ensures)

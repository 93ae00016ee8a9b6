use Rattle.std.proofs.Common.{◌∙◌, ap}
use Rattle.ug_print.specs.DeviceLines.{malformed_text}
use Rattle.ug_print.specs.Words.{joined}
use Rattle.ug_print.proofs.OneLine.{answer_is, answer_on_line}
use Rattle.ug_print.proofs.device_lines.malformed_line.Goals as goal

pub returns-clause-text : goal.returns-clause-text
returns-clause-text c =
    answer_is (joined c.as_slice.result.now) (malformed_text c.args.verdict c.args.kind c.args.place c.args.name.now) c.join.result c.join.ensures
    (ap joined c.as_slice.ensures ∙ c.in_ok-put_malformed.ensures.text)

pub returns-clause-one_line : goal.returns-clause-one_line
returns-clause-one_line c =
    answer_on_line (malformed_text c.args.verdict c.args.kind c.args.place c.args.name.now) c.join.result (returns-clause-text c) c.in_ok-put_malformed.ensures.one_line

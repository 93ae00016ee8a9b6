use Rattle.ug_lines.proofs.Cutting.{within_line}
use Rattle.ug_lines.proofs.cut.cut_line.Goals as goal

pub returns-clause-within : goal.returns-clause-within
returns-clause-within c =
    within_line c.args.line.now c.without_front.result.now c.without_end-text.result.now c.cut_text.result
    c.without_front.ensures.shorter c.without_end-text.ensures c.cut_text.ensures.within

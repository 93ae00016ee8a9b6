use Rattle.std.proofs.Common.{◌∙◌}
use Rattle.ug_conf.proofs.Tables.{present_found}
use Rattle.ug_conf.proofs.values.present.Goals as goal

pub returns : goal.returns
returns c = c.spelled.ensures ∙ present_found c.args.word.now

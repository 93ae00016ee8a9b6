use Rattle.std.proofs.Common.{◌∙◌}
use Rattle.ug_conf.proofs.Tables.{default_found}
use Rattle.ug_conf.proofs.values.auth_default.Goals as goal

pub returns : goal.returns
returns c = c.spelled.ensures ∙ default_found c.args.word.now

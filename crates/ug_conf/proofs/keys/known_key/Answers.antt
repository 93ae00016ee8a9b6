use Rattle.std.proofs.Common.{◌∙◌}
use Rattle.ug_conf.proofs.Tables.{key_found}
use Rattle.ug_conf.proofs.keys.known_key.Goals as goal

pub returns : goal.returns
returns c = c.spelled.ensures ∙ key_found c.args.word.now

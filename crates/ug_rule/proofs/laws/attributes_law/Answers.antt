use Rattle.ug_rule.proofs.AttributeCuts.{attributes_cut, attributes_read}
use Rattle.ug_rule.proofs.laws.attributes_law.Goals as goal

pub returns : goal.returns
returns c = λ line ending query all tokens rest. (attributes_cut line ending query all tokens rest, attributes_read line ending query all tokens rest)

use Rattle.ug_rule.proofs.CondSetCuts.{conditions_cut, conditions_read}
use Rattle.ug_rule.proofs.laws.conditions_law.Goals as goal

pub returns : goal.returns
returns c = λ line ending conds tokens rest. (conditions_cut line ending conds tokens rest, conditions_read line ending conds tokens rest)

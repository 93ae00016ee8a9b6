use Rattle.ug_cond.proofs.Truths.{condition_decides}
use Rattle.ug_cond.proofs.laws.conditions_law.Goals as goal

pub returns : goal.returns
returns c = λ judgements id history ctx records held word h. condition_decides judgements id history ctx records (held, word) h

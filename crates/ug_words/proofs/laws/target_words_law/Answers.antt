use Rattle.ug_types.specs.declared.verdict.Target.TheVariants as target
use Rattle.ug_types.proofs.AccessWords.{target_law}
use Rattle.ug_words.proofs.laws.target_words_law.Goals as goal

pub returns-clause-allow : goal.returns-clause-allow
returns-clause-allow c = target_law target.Allow

pub returns-clause-block : goal.returns-clause-block
returns-clause-block c = target_law target.Block

pub returns-clause-reject : goal.returns-clause-reject
returns-clause-reject c = target_law target.Reject

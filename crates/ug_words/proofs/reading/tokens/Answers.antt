use Rattle.ug_words.specs.Lexing.{tokens_of}
use Rattle.ug_words.proofs.Meaning.{answer_good, answer_only_good, answer_bad, answer_only_bad}
use Rattle.ug_words.proofs.reading.tokens.Goals as goal

pub returns-clause-good : goal.returns-clause-good
unfolding tokens_of
returns-clause-good c = answer_good c.args.line.now c.read.result c.read.ensures

pub returns-clause-only_good : goal.returns-clause-only_good
unfolding tokens_of
returns-clause-only_good c = answer_only_good c.args.line.now c.read.result c.read.ensures

pub returns-clause-bad : goal.returns-clause-bad
unfolding tokens_of
returns-clause-bad c = answer_bad c.args.line.now c.read.result c.read.ensures

pub returns-clause-only_bad : goal.returns-clause-only_bad
unfolding tokens_of
returns-clause-only_bad c = answer_only_bad c.args.line.now c.read.result c.read.ensures

use Rattle.ug_words.proofs.Meaning.{read_good, good_read, read_bad, bad_read}
use Rattle.ug_words.proofs.laws.reading_is_grammar.Goals as goal

pub returns-clause-good : goal.returns-clause-good
returns-clause-good c = λ line tokens. (read_good line tokens, good_read line tokens)

pub returns-clause-bad : goal.returns-clause-bad
returns-clause-bad c = λ line fault. (read_bad line fault, bad_read line fault)

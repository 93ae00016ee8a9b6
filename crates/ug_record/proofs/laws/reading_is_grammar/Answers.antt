use Rattle.ug_record.proofs.Meaning.{read_good, good_read, read_bad, bad_read}
use Rattle.ug_record.proofs.laws.reading_is_grammar.Goals as goal

pub returns-clause-good : goal.returns-clause-good
returns-clause-good c = λ bytes descr. (read_good bytes descr, good_read bytes descr)

pub returns-clause-bad : goal.returns-clause-bad
returns-clause-bad c = λ bytes kind place. (read_bad bytes kind place, bad_read bytes kind place)

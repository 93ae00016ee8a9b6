use Rattle.ug_record.proofs.Meaning.{answer_good, answer_only_good, answer_bad, answer_only_bad}
use Rattle.ug_record.proofs.reading.decode.Goals as goal

pub returns-clause-good : goal.returns-clause-good
returns-clause-good c = answer_good c.args.bytes.now c.read.result c.read.ensures

pub returns-clause-only_good : goal.returns-clause-only_good
returns-clause-only_good c = answer_only_good c.args.bytes.now c.read.result c.read.ensures

pub returns-clause-bad : goal.returns-clause-bad
returns-clause-bad c = answer_bad c.args.bytes.now c.read.result c.read.ensures

pub returns-clause-only_bad : goal.returns-clause-only_bad
returns-clause-only_bad c = answer_only_bad c.args.bytes.now c.read.result c.read.ensures

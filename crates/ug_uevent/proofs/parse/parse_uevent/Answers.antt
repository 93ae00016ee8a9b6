use Rattle.ug_uevent.proofs.Meaning.{answers_good, answers_bad}
use Rattle.ug_uevent.proofs.parse.parse_uevent.Goals as goal

pub returns-clause-good : goal.returns-clause-good
returns-clause-good c = answers_good c.args.message.now c.read_message.result c.read_message.ensures

pub returns-clause-bad : goal.returns-clause-bad
returns-clause-bad c = answers_bad c.args.message.now c.read_message.result c.read_message.ensures

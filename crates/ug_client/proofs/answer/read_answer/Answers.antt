use Rattle.ug_client.proofs.Skipping.{none_skipped}
use Rattle.ug_client.proofs.answer.read_answer.Goals as goal

pub read_behind-requires-clause-notices : goal.read_behind-requires-clause-notices
read_behind-requires-clause-notices c = none_skipped c.args.text.now

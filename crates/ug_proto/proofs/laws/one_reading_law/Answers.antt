use Rattle.ug_proto.proofs.AnswerScans.{read_in_one_way}
use Rattle.ug_proto.proofs.laws.one_reading_law.Goals as goal

pub returns : goal.returns
returns c = read_in_one_way

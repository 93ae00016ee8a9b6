use Rattle.ug_proto.proofs.Pieces.{lines_more, begun_more}
use Rattle.ug_proto.proofs.laws.in_any_pieces.Goals as goal

pub returns-clause-lines : goal.returns-clause-lines
returns-clause-lines c = lines_more

pub returns-clause-begun : goal.returns-clause-begun
returns-clause-begun c = begun_more

use Rattle.ug_proto.proofs.Again.{reads}
use Rattle.ug_proto.proofs.BadPlaces.{bad_places}
use Rattle.ug_proto.proofs.laws.requests_law.Goals as goal

pub returns-clause-good : goal.returns-clause-good
returns-clause-good c = reads

pub returns-clause-bad : goal.returns-clause-bad
returns-clause-bad c = bad_places

use Rattle.ug_record.proofs.Judging.{newline_goes, other_stays}
use Rattle.ug_record.proofs.laws.one_newline_goes.Goals as goal

pub returns-clause-newline : goal.returns-clause-newline
returns-clause-newline c = newline_goes

pub returns-clause-other : goal.returns-clause-other
returns-clause-other c = other_stays

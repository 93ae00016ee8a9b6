use Rattle.ug_proto.proofs.StreamLines.{splits, splits_only, is_overlong, overlong_only}
use Rattle.ug_proto.proofs.laws.lines_in_one_way.Goals as goal

pub returns-clause-whole : goal.returns-clause-whole
returns-clause-whole c = splits

pub returns-clause-only : goal.returns-clause-only
returns-clause-only c = splits_only

pub returns-clause-overlong : goal.returns-clause-overlong
returns-clause-overlong c = is_overlong

pub returns-clause-overlong_only : goal.returns-clause-overlong_only
returns-clause-overlong_only c = overlong_only

use Rattle.ug_uevent.proofs.StreamMessages.{is_cut, cut_only, is_overlong, overlong_only}
use Rattle.ug_uevent.proofs.laws.messages_in_one_way.Goals as goal

pub returns-clause-whole : goal.returns-clause-whole
returns-clause-whole c = is_cut

pub returns-clause-only : goal.returns-clause-only
returns-clause-only c = cut_only

pub returns-clause-overlong : goal.returns-clause-overlong
returns-clause-overlong c = is_overlong

pub returns-clause-overlong_only : goal.returns-clause-overlong_only
returns-clause-overlong_only c = overlong_only

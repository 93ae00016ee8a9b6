use Rattle.ug_proto.proofs.OneReply.{one_reply}
use Rattle.ug_proto.proofs.laws.replies_law.Goals as goal

pub returns : goal.returns
returns c = one_reply

use Rattle.ug_uevent.proofs.Pieces.{stream_more}
use Rattle.ug_uevent.proofs.laws.messages_in_any_pieces.Goals as goal

pub returns : goal.returns
returns c = stream_more

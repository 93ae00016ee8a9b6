use Rattle.ug_proto.proofs.EntryLines.{entry_or_reply, start_or_reply}
use Rattle.ug_proto.proofs.laws.entries_and_replies_law.Goals as goal

pub returns : goal.returns
returns c = record { entries = entry_or_reply; starts = start_or_reply }

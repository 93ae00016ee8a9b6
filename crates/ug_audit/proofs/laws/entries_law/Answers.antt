-- No entry has the line of another.
use Rattle.ug_audit.proofs.laws.entries_law.Goals as goal
use Rattle.ug_audit.proofs.EntryRead.{one_entry, entry_on_line}

pub returns : goal.returns
returns c = record { one = one_entry; line = entry_on_line }

use Rattle.ug_acl.proofs.Printing.{reads_back}
use Rattle.ug_acl.proofs.laws.printing_reads_back.Goals as goal

pub returns : goal.returns
returns c = reads_back

use Rattle.ug_sessions.proofs.LinesSent.{flush_lines, flush_reads}
use Rattle.ug_sessions.proofs.laws.flushing_keeps_lines.Goals as goal

pub returns-clause-reads : goal.returns-clause-reads
returns-clause-reads c = flush_reads

pub returns-clause-keeps : goal.returns-clause-keeps
returns-clause-keeps c = flush_lines

-- The auditors that are still to be given the line are fewer each time.
use Rattle.std.proofs.Common.{length}
use Rattle.ug_audit.proofs.panel.+give_all.Given as goal

abbrev pub decreases-give_all : goal.decreases-give_all
decreases-give_all g l = length l.auditors.now

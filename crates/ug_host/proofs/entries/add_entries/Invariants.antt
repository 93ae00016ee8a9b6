use Rattle.ug_host.specs.Names.{AreFewNames}
use Rattle.ug_host.proofs.entries.add_entries.Given as goal

abbrev pub invariant-loop-entry : goal.invariant-loop-entry
invariant-loop-entry g l = AreFewNames l.names

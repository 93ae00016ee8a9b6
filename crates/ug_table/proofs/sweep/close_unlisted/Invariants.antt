use Rattle.ug_kernel.specs.Tree.{Runs}
use Rattle.ug_table.specs.Slots.{filled}
use Rattle.ug_table.specs.Sweep.{closing_unlisted}
use Rattle.ug_table.proofs.sweep.close_unlisted.Given as goal

-- a run of what is left ends a run of the whole
abbrev pub invariant-loop-name : goal.invariant-loop-name
invariant-loop-name g l = record {
  runs : (r : Unit {0}) (t : _) → Runs g.Y.Sysfs.gives l.sysfs (closing_unlisted l.names (filled l._name-iterator)) r t → Runs g.Y.Sysfs.gives l.fn.sysfs (closing_unlisted l.names (filled l.slots.entries)) r t;
}

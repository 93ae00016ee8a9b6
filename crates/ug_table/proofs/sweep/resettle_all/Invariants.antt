use Rattle.std.proofs.Common.{◌-◌, ◌*◌, ◌≤◌, length, drop}
use Rattle.ug_kernel.specs.Tree.{Runs}
use Rattle.ug_audit.specs.Journal.{Notes, noted_in}
use Rattle.ug_table.specs.State.{Kept, kept_of}
use Rattle.ug_table.specs.Sweep.{resettling_all}
use Rattle.ug_table.specs.Order.{KeepsOrder}
use Rattle.ug_table.proofs.sweep.resettle_all.Given as goal

-- a run of what is left ends a run of the whole
abbrev pub invariant-loop-name : goal.invariant-loop-name
invariant-loop-name g l = record {
  runs : (r : Kept) (t : _) → Runs g.Y.Sysfs.gives l.sysfs (resettling_all l.hub_default (drop l.name-index l.names) (kept_of l.standings.items (noted_in l.out).entries)) r t → Runs g.Y.Sysfs.gives l.fn.sysfs (resettling_all l.hub_default l.names (kept_of l.fn.standings.items (noted_in l.fn.out).entries)) r t;
  room : 8 * (length l.names - l.name-index) ≤ (noted_in l.out).spare;
  journal : Notes (λ b. goal.Auditor-dyn g (b.vtable, b.value)) (8 * l.name-index) l.fn.out l.out;
  keeps : KeepsOrder l.fn.standings.items l.standings.items;
  len : length l.standings.items ≤ length l.fn.standings.items;
}

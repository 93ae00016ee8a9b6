use Rattle.std.proofs.Common.{◌+◌, ◌-◌, ◌*◌, ◌<◌, ◌≤◌, ◌^◌, length, drop}
use Rattle.ug_kernel.specs.Tree.{Runs}
use Rattle.ug_audit.specs.Journal.{Notes, noted_in}
use Rattle.ug_table.specs.State.{State, state_of, terms_of}
use Rattle.ug_table.specs.Sweep.{settling_all}
use Rattle.ug_table.proofs.table.Table.settle_all.Given as goal

-- a run of what is left ends a run of the whole
abbrev pub invariant-loop-name : goal.invariant-loop-name
invariant-loop-name g l =
    let answer = g.A.Judge.answer in
    let later = g.A.Judge.later in
    let gives = g.Y.Sysfs.gives in
    record {
      runs : (r : State _) (t : _) → Runs gives l.sysfs (settling_all answer later (drop l.name-index l.names) (terms_of l.present l.hub_default) (state_of l.hub_default l.self (g.A.Judge.meaning l.judge) (noted_in l.out).entries)) r t → Runs gives l.fn.sysfs (settling_all answer later l.names (terms_of l.present l.hub_default) (state_of l.hub_default l.fn.self (g.A.Judge.meaning l.fn.judge) (noted_in l.fn.out).entries)) r t;
      room : 10 * (length l.names - l.name-index) ≤ (noted_in l.out).spare;
      next : l.self.next + (length l.names - l.name-index) < 2 ^ 64;
      journal : Notes (λ b. goal.Auditor-dyn g (b.vtable, b.value)) (10 * l.name-index) l.fn.out l.out;
      len : length l.self.standings ≤ length l.fn.self.standings + l.name-index;
      most : l.self.next ≤ l.fn.self.next + l.name-index;
    }

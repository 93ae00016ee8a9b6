-- What a binding leads to.
use Rattle.std.proofs.Common.{◌∙◌, ap, refl}
use Rattle.ug_table.specs.Table.{TableState}
use Rattle.ug_table.specs.Parent.{parent_standing}
use Rattle.ug_table.proofs.Admitted.{behind_binding, told_fault}
use Rattle.ug_table.proofs.table.Table.enter.Goals as goal

pub returns-in-Bound-clause-runs : goal.returns-in-Bound-clause-runs
returns-in-Bound-clause-runs g c = behind_binding _ _ _ _ _ _ _ _ _ _ _ _ (c.parent_standing-parent.ensures.standing ∙ ap (λ (v : TableState). parent_standing c.args.name.now v.standings) c.self.view_is) c.bind_name-binding.ensures (rw c.in-Bound.is c.admit.ensures.runs)

pub returns-in-Absent-clause-runs : goal.returns-in-Absent-clause-runs
returns-in-Absent-clause-runs g c = behind_binding _ _ _ _ _ _ _ _ _ _ _ _ (c.parent_standing-parent.ensures.standing ∙ ap (λ (v : TableState). parent_standing c.args.name.now v.standings) c.self.view_is) c.bind_name-binding.ensures (rw c.in-Absent.is (refl, refl))

pub returns-in-Vanished-clause-runs : goal.returns-in-Vanished-clause-runs
returns-in-Vanished-clause-runs g c = behind_binding _ _ _ _ _ _ _ _ _ _ _ _ (c.parent_standing-parent.ensures.standing ∙ ap (λ (v : TableState). parent_standing c.args.name.now v.standings) c.self.view_is) c.bind_name-binding.ensures (rw c.in-Vanished.is (refl, refl))

pub returns-in-Failed-clause-runs : goal.returns-in-Failed-clause-runs
returns-in-Failed-clause-runs g c = behind_binding _ _ _ _ _ _ _ _ _ _ _ _ (c.parent_standing-parent.ensures.standing ∙ ap (λ (v : TableState). parent_standing c.args.name.now v.standings) c.self.view_is) c.bind_name-binding.ensures (rw c.in-Failed.is (told_fault g.Y.Sysfs.gives _ _ _ _ _ _ c.note_fault.ensures.settled c.note_fault.ensures.entries))

pub returns-in-Memory-clause-runs : goal.returns-in-Memory-clause-runs
returns-in-Memory-clause-runs g c = behind_binding _ _ _ _ _ _ _ _ _ _ _ _ (c.parent_standing-parent.ensures.standing ∙ ap (λ (v : TableState). parent_standing c.args.name.now v.standings) c.self.view_is) c.bind_name-binding.ensures (rw c.in-Memory.is (told_fault g.Y.Sysfs.gives _ _ _ _ _ _ c.note_fault-in-Memory.ensures.settled c.note_fault-in-Memory.ensures.entries))

-- The law of a sweep, over the states of a run.
use Rattle.std.proofs.Common.{◌≡◌, Option, Some}
use Rattle.ug_table.proofs.Common.{Call, Answer, Kernel, IsKernel, Follows, Runs, calls, State, Answers, Laters, Stand, Swept, Sweeps, sweeping, told_run}
use Rattle.ug_table.proofs.Fair.{sweeping_fair}
use Rattle.ug_kernel.proofs.Defaults.{along_logs}
use Rattle.ug_table.proofs.Chains.{sweeping_run}
use Rattle.ug_table.proofs.Defaults.{fair_defaults}
use Rattle.ug_table.proofs.Lived.{sweeping_settled}
use Rattle.ug_table.proofs.Marks.{sweeping_marks}
use Rattle.ug_table.proofs.Once.{sweeping_spared}

sweeping_swept : {J : Type 0} (answer : Answers J) (later : Laters J) (w : State J) (k l : Kernel) (v : State J) → IsKernel k → Stand k w.standings w.next → Runs calls k (sweeping answer later w) v l → Swept answer later k w l v
sweeping_swept answer later w k l v sound stand r =
    let fair = sweeping_fair answer later w k l v sound stand r in
    let marks = sweeping_marks answer later w k l v fair.rest stand.names r fair.entries in
    record { fair = fair; settled = sweeping_settled answer later w k l v fair.rest stand fair.stand r fair.entries; listed = marks.0; marks = marks.1; spared = sweeping_spared answer later w k l v fair.rest stand r fair.entries; defaults = fair_defaults fair stand (let x = sweeping_run calls answer later k w l v r in along_logs x.made k l x.along) }

pub told_swept : {S J : Type 0} (gives : S → (call : Call) → Answer call → S → Type 0) (told : S → Option Kernel) (did : (s : S) (call : Call) (answer : Answer call) (t : S) (l : Kernel) → gives s call answer t → told t ≡ Some l → Follows call answer (told s) l) (answer : Answers J) (later : Laters J) (s : S) (w : State J) (t : S) (v : State J) → Runs gives s (sweeping answer later w) v t → Sweeps told answer later s w t v
told_swept gives told did answer later s w t v r = λ l e.
    let m = told_run gives told did (sweeping answer later w) s v t l r e in
    (m.kernel, m.was, λ sound stand. sweeping_swept answer later w m.kernel l v sound stand (m.run sound).0)

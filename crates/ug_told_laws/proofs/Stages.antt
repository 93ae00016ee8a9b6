-- The laws of runs whose last stages are runs over the kernel.
use Rattle.std.proofs.Common.{◌≡◌, ℕ, List, [], ◌∷◌, Option, refl, sym, subst}
use Rattle.ug_kernel.specs.Calls.{Call, Answer}
use Rattle.ug_kernel.specs.Kernel.{Kernel}
use Rattle.ug_kernel.specs.Called.{Lived}
use Rattle.ug_kernel.specs.Tree.{Prog, Return, Ask, Room, Runs, calls, then}
use Rattle.ug_kernel.specs.declared.control.Write.{Write}
use Rattle.ug_store.specs.Disk.{Disk}
use Rattle.ug_table.specs.Laws.{IsAsJudged}
use Rattle.ug_table.specs.State.{terms_for}
use Rattle.ug_table.specs.Sweep.{settling_all}
use Rattle.ug_core.specs.Event.{DaemonState, ended, handling, settling_due}
use Rattle.ug_core.specs.Policy.{policy_answer, policy_later}
use Rattle.ug_core.specs.Chain.{Happened, Chain}
use Rattle.ug_told_laws.specs.Told.{AllLeaveOthers, AllStagesRun, RunsKeepTold, RunsStandBehindEach, SettlesApart, StageRuns}
use Rattle.ug_told_laws.proofs.Dues.{events_leave}
use Rattle.ug_told_laws.proofs.Frames.{names_apart}
use Rattle.ug_told_laws.proofs.Keeping.{runs_keep, stand_behind}

runs_cut : {S A B : Type 0} (gives : S → (call : Call) → Answer call → S → Type 0) (s : S) (p : Prog A) (f : A → Prog B) (r : B) (t : S) → Runs gives s (then p f) r t → (a : A) × (u : S) × Runs gives s p a u × Runs gives u (f a) r t
runs_cut gives s (Return value) f r t h = (value, s, (refl, refl), h)
runs_cut gives s (Ask call next) f r t h =
    let x = runs_cut gives h.1 (next h.0) f r t h.3 in
    (x.0, x.1, (h.0, h.1, h.2, x.2), x.3)
runs_cut gives s (Room next) f r t h =
    let x = runs_cut gives s (next h.0) f r t h.1 in
    (x.0, x.1, (h.0, x.2), x.3)

stage_apart : (hub : Option Write) (h : Happened) → StageRuns h → SettlesApart hub h
unfolding handling
stage_apart hub h s names due i d lived ne a =
    let k = h.kernel_answered in
    let w = h.answered.sweep in
    let c = runs_cut calls k (settling_due h.answered.due w) (ended h.answered) h.after h.kernel_after s.runs in
    let last : h.kernel_after ≡ c.1 = c.3.1 in
    let run : Runs calls k (settling_all policy_answer policy_later names (terms_for w) w) c.0 c.1 = subst (λ (o : Option (List (List ℕ))). Runs calls k (settling_due o w) c.0 c.1) due c.2 in
    let there = names_apart policy_answer policy_later (terms_for w) names w k c.1 c.0 s.sound s.stand run hub i d (subst (λ (m : Kernel). Lived k.devices m.devices i d) last lived) ne a in
    subst (λ (v : DaemonState). IsAsJudged hub h.kernel_after v.sweep.standings i) (sym c.3.0)
    (subst (λ (m : Kernel). IsAsJudged hub m c.0.standings i) (sym last) there)

all_leave : (hub : Option Write) (hs : List Happened) (k : Kernel) (o : Option Disk) (d : DaemonState) (l : Kernel) (p : Option Disk) (e : DaemonState) → Chain k o d hs l p e → AllStagesRun hs → AllLeaveOthers hub hs
all_leave hub [] k o d l p e c s = tt
all_leave hub (h ∷ hs) k o d l p e c s = (events_leave hub h c.3 (stage_apart hub h s.0), all_leave hub hs h.kernel_after h.disk_after h.after l p e c.4 s.1)

pub keep_told : RunsKeepTold
keep_told policy hub number first o d hs k p e s c r = runs_keep policy hub number first o d hs k p e s c (all_leave hub hs first o d k p e c r)

pub behind_each : RunsStandBehindEach
behind_each policy hub number first o d hs k p e s c r = stand_behind policy hub number first o d hs k p e s c (all_leave hub hs first o d k p e c r)

-- A run of the program is a run of the kernel, where that is told at the end and was sound at the start.
use Rattle.std.proofs.Common.{◌≡◌, Option, Some, refl, subst}
use Rattle.ug_kernel.specs.Calls.{Call, Answer}
use Rattle.ug_kernel.specs.Kernel.{Kernel, IsKernel}
use Rattle.ug_kernel.specs.Called.{Follows}
use Rattle.ug_kernel.specs.Tree.{Prog, Return, Ask, Room, Runs, calls}

-- a kernel was told before it, and where that is sound the run is one over kernels
pub record Told_run {R : Type 0} (told : Option Kernel) (p : Prog R) (r : R) (l : Kernel) : Type 0 where
  pub kernel : Kernel
  pub was : told ≡ Some kernel
  pub run : IsKernel kernel → Runs calls kernel p r l × IsKernel l

pub told_run : {S R : Type 0} (gives : S → (call : Call) → Answer call → S → Type 0) (told : S → Option Kernel) (did : (s : S) (call : Call) (answer : Answer call) (t : S) (l : Kernel) → gives s call answer t → told t ≡ Some l → Follows call answer (told s) l) (p : Prog R) (s : S) (r : R) (t : S) (l : Kernel) → Runs gives s p r t → told t ≡ Some l → Told_run (told s) p r l
told_run gives told did (Return value) s r t l h e = record { kernel = l; was = subst (λ (v : _). told v ≡ Some l) h.1 e; run = λ k. ((h.0, refl), k) }
told_run gives told did (Ask call next) s r t l h e =
    let m = told_run gives told did (next h.0) h.1 r t l h.3 e in
    let n = did s call h.0 h.1 m.kernel h.2 m.was in
    record { kernel = n.kernel; was = n.was; run = λ k. let c = n.called k in let rest = m.run c.sound in ((h.0, m.kernel, c, rest.0), rest.1) }
told_run gives told did (Room next) s r t l h e =
    let m = told_run gives told did (next h.0) s r t l h.1 e in
    record { kernel = m.kernel; was = m.was; run = λ k. let rest = m.run k in ((h.0, rest.0), rest.1) }

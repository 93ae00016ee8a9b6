-- Interaction trees over the calls of the kernel's files (Xia et al., POPL 2020), and what it is to
-- run one.
use Rattle.std.specs.Prelude.{◌≡◌, Bool}
use Rattle.ug_kernel.specs.Calls.{Call, Answer}
use Rattle.ug_kernel.specs.Kernel.{Kernel}
use Rattle.ug_kernel.specs.Called.{Called}

-- what a program does, by the answers to its calls, and by whether memory was there
pub data Prog (R : Type 0) : Type 0 where
  Return : (value : R) → Prog R
  Ask : (call : Call) → (next : Answer call → Prog R) → Prog R
  Room : (next : Bool → Prog R) → Prog R

-- a run of the tree from one state to another, where gives says what a call may be answered and
-- what it leaves
abbrev pub Runs : {S R : Type 0} → (S → (call : Call) → Answer call → S → Type 0) → S → Prog R → R
    → S → Type 0
Runs gives s (Return value) r t = (r ≡ value) × (t ≡ s)
Runs {S} gives s (Ask call next) r t =
    (a : Answer call) × (u : S) × gives s call a u × Runs gives u (next a) r t
Runs gives s (Room next) r t = (b : Bool) × Runs gives s (next b) r t

-- one tree, and then another that its result picks
abbrev pub then : {R Q : Type 0} → Prog R → (R → Prog Q) → Prog Q
then (Return a) f = f a
then (Ask call next) f = Ask call (λ a. then (next a) f)
then (Room next) f = Room (λ b. then (next b) f)

-- calls as a relation from one kernel to the next
abbrev pub calls : Kernel → (call : Call) → Answer call → Kernel → Type 0
calls k call answer l = Called call answer k l

-- Programs as trees of these calls, and what it is to run one.
use Rattle.std.specs.Prelude.{◌≡◌, Bool}
use Rattle.ug_iface.specs.Bus.{Bus}
use Rattle.ug_iface.specs.Calls.{IfaceCall, IfaceAnswer}
use Rattle.ug_iface.specs.Called.{IfaceCalled}

-- what a program does, by the answers to its calls, and by whether memory was there
pub data IfaceProg (R : Type 0) : Type 0 where
  Return : (value : R) → IfaceProg R
  Make : (call : IfaceCall) → (next : IfaceAnswer call → IfaceProg R) → IfaceProg R
  Room : (next : Bool → IfaceProg R) → IfaceProg R

-- a run of the tree from one state to another, where serves says what a call may be answered and
-- what it leaves
abbrev pub RunsIfaces : {S R : Type 0} → (S → (call : IfaceCall) → IfaceAnswer call → S → Type 0)
    → S → IfaceProg R → R → S → Type 0
RunsIfaces serves s (Return value) r t = (r ≡ value) × (t ≡ s)
RunsIfaces {S} serves s (Make call next) r t =
    (a : IfaceAnswer call) × (u : S) × serves s call a u × RunsIfaces serves u (next a) r t
RunsIfaces serves s (Room next) r t = (b : Bool) × RunsIfaces serves s (next b) r t

-- one tree, and then another that its result picks
abbrev pub then_iface : {R Q : Type 0} → IfaceProg R → (R → IfaceProg Q) → IfaceProg Q
then_iface (Return a) f = f a
then_iface (Make call next) f = Make call (λ a. then_iface (next a) f)
then_iface (Room next) f = Room (λ b. then_iface (next b) f)

-- calls as a relation from devices and interfaces to what becomes of them
abbrev pub bus_calls : Bus → (call : IfaceCall) → IfaceAnswer call → Bus → Type 0
bus_calls b call answer c = IfaceCalled call answer b c

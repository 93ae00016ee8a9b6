-- A run of the program is a run over devices and interfaces, where these are told at the end and were sound at the start.
use Rattle.std.proofs.Common.{◌≡◌, Option, Some, refl, subst}
use Rattle.ug_iface.specs.Bus.{Bus, IsSoundBus}
use Rattle.ug_iface.specs.Calls.{IfaceCall, IfaceAnswer}
use Rattle.ug_iface.specs.Called.{IfaceFollows}
use Rattle.ug_iface.specs.Tree.{IfaceProg, Return, Make, Room, RunsIfaces, bus_calls}

-- they were told before it, and where they are sound the run is one of theirs
pub record ToldRun {R : Type 0} (told : Option Bus) (p : IfaceProg R) (r : R) (c : Bus) : Type 0 where
  pub bus : Bus
  pub was : told ≡ Some bus
  pub run : IsSoundBus bus → RunsIfaces bus_calls bus p r c × IsSoundBus c

pub told_run : {S R : Type 0} (serves : S → (call : IfaceCall) → IfaceAnswer call → S → Type 0) (told : S → Option Bus) (did : (s : S) (call : IfaceCall) (answer : IfaceAnswer call) (t : S) (c : Bus) → serves s call answer t → told t ≡ Some c → IfaceFollows call answer (told s) c) (p : IfaceProg R) (s : S) (r : R) (t : S) (c : Bus) → RunsIfaces serves s p r t → told t ≡ Some c → ToldRun (told s) p r c
told_run serves told did (Return value) s r t c h e = record { bus = c; was = subst (λ (v : _). told v ≡ Some c) h.1 e; run = λ k. ((h.0, refl), k) }
told_run serves told did (Make call next) s r t c h e =
    let m = told_run serves told did (next h.0) h.1 r t c h.3 e in
    let n = did s call h.0 h.1 m.bus h.2 m.was in
    record { bus = n.bus; was = n.was; run = λ k. let f = n.called k in let rest = m.run f.sound in ((h.0, m.bus, f, rest.0), rest.1) }
told_run serves told did (Room next) s r t c h e =
    let m = told_run serves told did (next h.0) s r t c h.1 e in
    record { bus = m.bus; was = m.was; run = λ k. let rest = m.run k in ((h.0, rest.0), rest.1) }

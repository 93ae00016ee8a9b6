use Rattle.std.proofs.Common.{arith, ◌≡◌, None, Some, ◌-◌, ℕ, List, length, take, drop, length-drop, length-take, refl, ap, subst, sym, ◌∙◌}
use Rattle.std.proofs.lemmas.List.{take_all, take-take, length-take-le}
use Rattle.ug_lines.specs.Splitting.{IsLine}
use Rattle.ug_command_io.specs.Runs.{Feeds}
use Rattle.ug_command_io.specs.declared.machine.Ran.TheVariants.{Done, SinkFailed}
use Rattle.ug_command_io.proofs.Faults.{rose-after}
use Rattle.ug_command_io.proofs.Feeding.{Feeds-none, Feeds-next, Feeds-stop}
use Rattle.ug_command_io.proofs.Refusing.{refusing-stop}
use Rattle.ug_command_io.proofs.Taking.{Taking, taking-next, taking-none}
use Rattle.ug_command_io.proofs.feed.Splitter.feed.Goals as goal

none-some : {A : Type 0} {B : Type 0} (x : A) → None ≡ Some x → B
none-some x e = absurd cc

not-failed : {B : Type 0} → Done ≡ SinkFailed → B
not-failed e = absurd cc

pub loop-at-init : goal.loop-at-init
loop-at-init g c = record {
  within = omega arith;
  fed = Feeds-none g.M.Machine.step_of c.args.self.now.line.items c.args.self.now.lines (g.M.Machine.state c.args.machine.now, c.args.world.now) (g.K.Sink.held c.args.out.now);
  taken = taking-none g.M.Machine.step_of g.M.Machine.holds c.args.self.now.line.items c.args.self.now.lines (g.M.Machine.state c.args.machine.now, c.args.world.now);
  kept = c.requires;
  further = omega arith;
  counted = omega arith;
}

pub loop-at-preserved : goal.loop-at-preserved
loop-at-preserved g c =
    let rest : take (length c.args.piece.now - c.loop-at.at) (drop c.loop-at.at c.args.piece.now) ≡ drop c.loop-at.at c.args.piece.now = take_all (length c.args.piece.now - c.loop-at.at) (drop c.loop-at.at c.args.piece.now) (omega (arith, length-drop c.loop-at.at c.args.piece.now)) in
    record {
      within = omega (arith, c.part_end-end.ensures.within, ap length rest, length-drop c.loop-at.at c.args.piece.now);
      fed = Feeds-next g.M.Machine.step_of c.args.self.now.line.items c.args.self.now.lines (g.M.Machine.state c.args.machine.now, c.args.world.now) (g.K.Sink.held c.args.out.now) c.args.piece.now c.loop-at.at c.part_end-end.result
          (take c.part_end-end.result (take (length c.args.piece.now - c.loop-at.at) (drop c.loop-at.at c.args.piece.now)))
          c.loop-at.self.line.items c.loop-at.self.lines (g.M.Machine.state c.loop-at.machine, c.loop-at.world) (g.K.Sink.held c.loop-at.out)
          c.take.new.self.line.items c.take.new.self.lines (g.M.Machine.state c.take.new.machine, c.take.new.world) (g.K.Sink.held c.take.new.out)
          (ap (λ (bytes : List ℕ). take c.part_end-end.result bytes) rest) c.loop-at.invariant.fed c.in-Done.ensures.fed;
      taken = taking-next g.M.Machine.step_of g.M.Machine.holds c.args.self.now.line.items c.args.self.now.lines (g.M.Machine.state c.args.machine.now, c.args.world.now) (g.K.Sink.held c.args.out.now) c.args.piece.now c.loop-at.at c.part_end-end.result
          (take c.part_end-end.result (take (length c.args.piece.now - c.loop-at.at) (drop c.loop-at.at c.args.piece.now)))
          c.loop-at.self.line.items c.loop-at.self.lines (g.M.Machine.state c.loop-at.machine, c.loop-at.world) (g.K.Sink.held c.loop-at.out)
          (ap (λ (bytes : List ℕ). take c.part_end-end.result bytes) rest) c.loop-at.invariant.fed c.loop-at.invariant.taken (c.in-Done.ensures.taken refl);
      kept = c.in-Done.ensures.kept refl;
      further = omega (arith, c.in-Done.ensures.further refl, c.part_end-end.ensures.within, length-take {A = ℕ}, ap length rest, length-drop c.loop-at.at c.args.piece.now);
      counted = omega (arith, c.take.ensures.counted);
    }

pub returns-clause-taken : goal.returns-clause-taken
returns-clause-taken g c = λ e.
    subst (λ (bytes : List ℕ). Taking g.M.Machine.step_of g.M.Machine.holds c.args.self.now.line.items c.args.self.now.lines (g.M.Machine.state c.args.machine.now, c.args.world.now) bytes)
    (take_all c.loop-at.at c.args.piece.now (omega arith)) c.loop-at.invariant.taken

pub returns-in_default : goal.returns-in_default
returns-in_default g c =
    let rest : take (length c.args.piece.now - c.loop-at.at) (drop c.loop-at.at c.args.piece.now) ≡ drop c.loop-at.at c.args.piece.now = take_all (length c.args.piece.now - c.loop-at.at) (drop c.loop-at.at c.args.piece.now) (omega (arith, length-drop c.loop-at.at c.args.piece.now)) in
    record {
      fed = Feeds-stop g.M.Machine.step_of c.args.self.now.line.items c.args.self.now.lines (g.M.Machine.state c.args.machine.now, c.args.world.now) (g.K.Sink.held c.args.out.now) c.args.piece.now c.loop-at.at c.part_end-end.result
          (take c.part_end-end.result (take (length c.args.piece.now - c.loop-at.at) (drop c.loop-at.at c.args.piece.now)))
          c.loop-at.self.line.items c.loop-at.self.lines (g.M.Machine.state c.loop-at.machine, c.loop-at.world) (g.K.Sink.held c.loop-at.out) c.take.result
          c.take.new.self.line.items c.take.new.self.lines (g.M.Machine.state c.take.new.machine, c.take.new.world) (g.K.Sink.held c.take.new.out)
          (ap (λ (bytes : List ℕ). take c.part_end-end.result bytes) rest) c.in_default.not-Done c.loop-at.invariant.fed c.take.ensures.fed;
      why = refusing-stop g.M.Machine.step_of g.M.Machine.because c.args.self.now.line.items c.args.self.now.lines (g.M.Machine.state c.args.machine.now, c.args.world.now) (g.K.Sink.held c.args.out.now) c.args.piece.now c.loop-at.at c.part_end-end.result
          (take c.part_end-end.result (take (length c.args.piece.now - c.loop-at.at) (drop c.loop-at.at c.args.piece.now)))
          c.loop-at.self.line.items c.loop-at.self.lines (g.M.Machine.state c.loop-at.machine, c.loop-at.world) (g.K.Sink.held c.loop-at.out) c.take.result
          (ap (λ (bytes : List ℕ). take c.part_end-end.result bytes) rest) c.loop-at.invariant.fed c.take.ensures.why;
      taken = λ e. absurd (c.in_default.not-Done e);
      kept = λ e. absurd (c.in_default.not-Done e);
      further = λ e. absurd (c.in_default.not-Done e);
      counted = omega (arith, c.take.ensures.counted);
      cause = λ e. rose-after (g.K.Sink.faults c.args.out.now) (g.K.Sink.faults c.loop-at.out) (g.K.Sink.faults c.take.new.out) c.loop-at.invariant.counted c.take.ensures.counted (c.take.ensures.cause e);
    }

pub returns-clause-fed : goal.returns-clause-fed
returns-clause-fed g c =
    subst (λ (bytes : List ℕ). Feeds g.M.Machine.step_of c.args.self.now.line.items c.args.self.now.lines (g.M.Machine.state c.args.machine.now, c.args.world.now) (g.K.Sink.held c.args.out.now) bytes Done
    c.loop-at.self.line.items c.loop-at.self.lines (g.M.Machine.state c.loop-at.machine, c.loop-at.world) (g.K.Sink.held c.loop-at.out))
    (take_all c.loop-at.at c.args.piece.now (omega arith)) c.loop-at.invariant.fed

pub returns-clause-why : goal.returns-clause-why
returns-clause-why g c = λ fault e. none-some fault e

pub returns-clause-kept : goal.returns-clause-kept
returns-clause-kept g c = λ e. c.loop-at.invariant.kept

pub returns-clause-further : goal.returns-clause-further
returns-clause-further g c = λ e. omega (arith, c.loop-at.invariant.further)

pub returns-clause-counted : goal.returns-clause-counted
returns-clause-counted g c = c.loop-at.invariant.counted

pub take-requires-clause-front : goal.take-requires-clause-front
take-requires-clause-front g c =
    let rest = take (length c.args.piece.now - c.loop-at.at) (drop c.loop-at.at c.args.piece.now) in
    let t : length (take c.part_end-end.result rest) ≡ c.part_end-end.result = length-take-le c.part_end-end.result rest c.part_end-end.ensures.within in
    subst IsLine (sym (ap (λ (n : ℕ). take (n - 1) (take c.part_end-end.result rest)) t ∙ take-take (c.part_end-end.result - 1) c.part_end-end.result rest (omega arith))) c.part_end-end.ensures.front

pub take-requires-clause-some : goal.take-requires-clause-some
take-requires-clause-some g c =
    let rest = take (length c.args.piece.now - c.loop-at.at) (drop c.loop-at.at c.args.piece.now) in
    omega (arith, length-take-le c.part_end-end.result rest c.part_end-end.ensures.within, c.part_end-end.ensures.some)

pub returns-clause-cause : goal.returns-clause-cause
returns-clause-cause g c = not-failed

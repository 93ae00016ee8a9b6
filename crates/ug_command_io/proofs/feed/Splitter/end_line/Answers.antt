use Rattle.std.proofs.Common.{arith, [], ◌∷◌, refl, sym, ap}
use Rattle.ug_command_io.proofs.Feeding.{fed-past_count, fed-line, fed-stopped}
use Rattle.ug_command_io.proofs.Refusing.{refusing-line, refusing-past_count}
use Rattle.ug_command_io.proofs.Taking.{taking-line}
use Rattle.ug_command_io.specs.declared.machine.Ran.TheVariants.{Bad}
use Rattle.ug_command_io.proofs.feed.Splitter.end_line.Goals as goal

pub returns-then-self-ge-MAX_LINES-clause-fed : goal.returns-then-self-ge-MAX_LINES-clause-fed
returns-then-self-ge-MAX_LINES-clause-fed g c =
    fed-past_count g.M.Machine.step_of c.args.self.now.line.items c.args.self.now.line.items c.args.self.now.lines (g.M.Machine.state c.args.machine.now, c.args.world.now) (g.K.Sink.held c.args.out.now) (10 ∷ []) (omega arith) c.if-self-ge-MAX_LINES.true

pub returns-then-self-ge-MAX_LINES-clause-why : goal.returns-then-self-ge-MAX_LINES-clause-why
returns-then-self-ge-MAX_LINES-clause-why g c =
    refusing-past_count g.M.Machine.step_of g.M.Machine.because c.args.self.now.line.items c.args.self.now.lines (g.M.Machine.state c.args.machine.now, c.args.world.now) (10 ∷ []) Bad (omega arith) c.if-self-ge-MAX_LINES.true

pub returns-in-Done-clause-fed : goal.returns-in-Done-clause-fed
returns-in-Done-clause-fed g c =
    fed-line g.M.Machine.step_of c.args.self.now.line.items c.clear.new.self.items c.args.self.now.lines (g.M.Machine.state c.args.machine.now, c.args.world.now) (g.M.Machine.state c.step.new.self, c.step.new.world) (g.K.Sink.held c.args.out.now) (g.K.Sink.held c.step.new.out) 10
    (g.M.Machine.step_of (g.M.Machine.state c.args.machine.now, c.args.world.now) c.deref.result.now) refl (omega arith) (omega arith) (ap (g.M.Machine.step_of (g.M.Machine.state c.args.machine.now, c.args.world.now)) (sym c.deref.ensures.value)) c.clear.ensures.items c.in-Done.ensures.ran

pub returns-in-Done-clause-taken : goal.returns-in-Done-clause-taken
returns-in-Done-clause-taken g c = λ e.
    taking-line g.M.Machine.step_of g.M.Machine.holds c.args.self.now.line.items c.deref.result.now c.args.self.now.lines (g.M.Machine.state c.args.machine.now, c.args.world.now) 10 refl c.deref.ensures.value (c.in-Done.ensures.taken refl)

pub returns-in_default : goal.returns-in_default
returns-in_default g c = record {
  fed = fed-stopped g.M.Machine.step_of c.args.self.now.line.items c.args.self.now.lines (g.M.Machine.state c.args.machine.now, c.args.world.now) (g.M.Machine.state c.step.new.self, c.step.new.world) (g.K.Sink.held c.args.out.now) (g.K.Sink.held c.step.new.out) 10
      (g.M.Machine.step_of (g.M.Machine.state c.args.machine.now, c.args.world.now) c.deref.result.now) c.step.result refl (omega arith) (omega arith) (ap (g.M.Machine.step_of (g.M.Machine.state c.args.machine.now, c.args.world.now)) (sym c.deref.ensures.value)) c.in_default.not-Done c.step.ensures.ran;
  why = refusing-line g.M.Machine.step_of g.M.Machine.because c.args.self.now.line.items c.deref.result.now c.args.self.now.lines (g.M.Machine.state c.args.machine.now, c.args.world.now) 10 c.step.result refl c.deref.ensures.value c.step.ensures.why;
  taken = λ e. absurd (c.in_default.not-Done e);
  kept = λ e. absurd (c.in_default.not-Done e);
  further = λ e. absurd (c.in_default.not-Done e);
  counted = c.step.ensures.counted;
  cause = c.step.ensures.cause;
}

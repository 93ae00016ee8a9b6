use Rattle.std.proofs.Common.{arith, refl, sym, ap}
use Rattle.ug_command_io.proofs.Feeding.{last-none, last-past_count, last-line, last-stopped}
use Rattle.ug_command_io.proofs.Refusing.{refusing-last, refusing-last_past}
use Rattle.ug_command_io.proofs.Taking.{taking-last, taking-no_last}
use Rattle.ug_command_io.specs.declared.machine.Ran.TheVariants.{Bad}
use Rattle.ug_command_io.proofs.feed.Splitter.last.Goals as goal

pub returns-then-len-eq0-clause-told : goal.returns-then-len-eq0-clause-told
returns-then-len-eq0-clause-told g c = last-none g.M.Machine.step_of c.args.self.now.line.items c.args.self.now.lines (g.M.Machine.state c.args.machine.now, c.args.world.now) (g.K.Sink.held c.args.out.now) (omega arith)

pub returns-then-self-ge-MAX_LINES-clause-told : goal.returns-then-self-ge-MAX_LINES-clause-told
returns-then-self-ge-MAX_LINES-clause-told g c = last-past_count g.M.Machine.step_of c.args.self.now.line.items c.args.self.now.lines (g.M.Machine.state c.args.machine.now, c.args.world.now) (g.K.Sink.held c.args.out.now) (omega arith) c.if-self-ge-MAX_LINES.true

pub returns-then-self-ge-MAX_LINES-clause-why : goal.returns-then-self-ge-MAX_LINES-clause-why
returns-then-self-ge-MAX_LINES-clause-why g c =
    refusing-last_past g.M.Machine.step_of g.M.Machine.because c.args.self.now.line.items c.args.self.now.lines (g.M.Machine.state c.args.machine.now, c.args.world.now) Bad (omega arith) c.if-self-ge-MAX_LINES.true

pub returns-in-Done-clause-told : goal.returns-in-Done-clause-told
returns-in-Done-clause-told g c =
    last-line g.M.Machine.step_of c.args.self.now.line.items c.args.self.now.lines (g.M.Machine.state c.args.machine.now, c.args.world.now) (g.M.Machine.state c.step.new.self, c.step.new.world) (g.K.Sink.held c.args.out.now) (g.K.Sink.held c.step.new.out)
    (g.M.Machine.step_of (g.M.Machine.state c.args.machine.now, c.args.world.now) c.deref.result.now) (omega arith) (omega arith) (omega arith) (ap (g.M.Machine.step_of (g.M.Machine.state c.args.machine.now, c.args.world.now)) (sym c.deref.ensures.value)) c.in-Done.ensures.ran

pub returns-then-len-eq0-clause-taken : goal.returns-then-len-eq0-clause-taken
returns-then-len-eq0-clause-taken g c = λ e. taking-no_last g.M.Machine.step_of g.M.Machine.holds c.args.self.now.line.items c.args.self.now.lines (g.M.Machine.state c.args.machine.now, c.args.world.now) (omega arith)

pub returns-in-Done-clause-taken : goal.returns-in-Done-clause-taken
returns-in-Done-clause-taken g c = λ e.
    taking-last g.M.Machine.step_of g.M.Machine.holds c.args.self.now.line.items c.deref.result.now c.args.self.now.lines (g.M.Machine.state c.args.machine.now, c.args.world.now) c.deref.ensures.value (c.in-Done.ensures.taken refl)

pub returns-in_default : goal.returns-in_default
returns-in_default g c = record {
  told = last-stopped g.M.Machine.step_of c.args.self.now.line.items c.args.self.now.lines (g.M.Machine.state c.args.machine.now, c.args.world.now) (g.M.Machine.state c.step.new.self, c.step.new.world) (g.K.Sink.held c.args.out.now) (g.K.Sink.held c.step.new.out)
      (g.M.Machine.step_of (g.M.Machine.state c.args.machine.now, c.args.world.now) c.deref.result.now) c.step.result (omega arith) (omega arith) (omega arith) (ap (g.M.Machine.step_of (g.M.Machine.state c.args.machine.now, c.args.world.now)) (sym c.deref.ensures.value)) c.in_default.not-Done c.step.ensures.ran;
  why = refusing-last g.M.Machine.step_of g.M.Machine.because c.args.self.now.line.items c.deref.result.now c.args.self.now.lines (g.M.Machine.state c.args.machine.now, c.args.world.now) c.step.result (omega arith) c.deref.ensures.value c.step.ensures.why;
  taken = λ e. absurd (c.in_default.not-Done e);
  counted = c.step.ensures.counted;
  cause = c.step.ensures.cause;
}

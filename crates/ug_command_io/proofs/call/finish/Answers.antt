use Rattle.std.proofs.Common.{arith}
use Rattle.ug_command_io.proofs.Faults.{rose-concluded}
use Rattle.ug_command_io.proofs.Ending.{finish-closed, finish-stopped}
use Rattle.ug_command_io.specs.Runs.{ran_words}
use Rattle.ug_command_io.proofs.Refusing.{end-closed, end-stopped}
use Rattle.ug_command_io.proofs.Taking.{unended}
use Rattle.ug_command_io.proofs.call.finish.Goals as goal

pub returns-in-Done-clause-told : goal.returns-in-Done-clause-told
returns-in-Done-clause-told g c = finish-closed g.M.Machine.step_of g.M.Machine.closing c.args.splitter.now.line.items c.args.splitter.now.lines (g.M.Machine.state c.args.machine.now, c.args.world.now) (g.K.Sink.held c.args.out.now)
    c.finish-ran.result c.last.new.self.lines (g.M.Machine.state c.last.new.machine, c.last.new.world) (g.K.Sink.held c.last.new.out) (g.K.Sink.held c.finish-ran.new.out) (g.K.Sink.held c.conclude.new.out) c.conclude.result c.in-Done.ensures.told c.finish-ran.ensures.ran c.conclude.ensures.told

pub returns-in-Done-clause-why : goal.returns-in-Done-clause-why
returns-in-Done-clause-why g c = end-closed g.M.Machine.step_of g.M.Machine.because g.M.Machine.closing c.args.splitter.now.line.items c.args.splitter.now.lines (g.M.Machine.state c.args.machine.now, c.args.world.now) (g.K.Sink.held c.args.out.now)
    c.finish-ran.result c.last.new.self.lines (g.M.Machine.state c.last.new.machine, c.last.new.world) (g.K.Sink.held c.last.new.out) (g.K.Sink.held c.finish-ran.new.out) (g.K.Sink.held c.conclude.new.out) (ran_words c.finish-ran.result c.last.new.self.lines) c.conclude.result
    c.in-Done.ensures.told c.finish-ran.ensures.ran c.conclude.ensures.told

pub returns-in_default : goal.returns-in_default
returns-in_default g c = record {
  told = finish-stopped g.M.Machine.step_of g.M.Machine.closing c.args.splitter.now.line.items c.args.splitter.now.lines (g.M.Machine.state c.args.machine.now, c.args.world.now) (g.K.Sink.held c.args.out.now)
      c.last.result c.last.new.self.lines (g.M.Machine.state c.last.new.machine, c.last.new.world) (g.K.Sink.held c.last.new.out) (g.K.Sink.held c.conclude-in_default.new.out) c.conclude-in_default.result c.in_default.not-Done c.last.ensures.told c.conclude-in_default.ensures.told;
  why = end-stopped g.M.Machine.step_of g.M.Machine.because g.M.Machine.closing c.args.splitter.now.line.items c.args.splitter.now.lines (g.M.Machine.state c.args.machine.now, c.args.world.now)
      c.last.result (g.K.Sink.held c.last.new.out) (g.K.Sink.held c.conclude-in_default.new.out) (ran_words c.last.result c.last.new.self.lines) c.conclude-in_default.result c.last.ensures.why c.conclude-in_default.ensures.told;
  taken = λ e. absurd (unended c.last.result (g.K.Sink.held c.last.new.out) (g.K.Sink.held c.conclude-in_default.new.out) (ran_words c.last.result c.last.new.self.lines) c.conclude-in_default.result c.in_default.not-Done c.conclude-in_default.ensures.told e);
  not_read = c.conclude-in_default.ensures.not_read;
  counted = omega (arith, c.last.ensures.counted, c.conclude-in_default.ensures.counted);
  cause = λ e. rose-concluded c.last.result (g.K.Sink.faults c.args.out.now) (g.K.Sink.faults c.last.new.out) (g.K.Sink.faults c.conclude-in_default.new.out) c.last.ensures.counted c.conclude-in_default.ensures.counted c.last.ensures.cause (λ n. c.conclude-in_default.ensures.cause n e);
}

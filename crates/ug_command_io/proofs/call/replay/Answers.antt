use Rattle.std.proofs.Common.{arith, take, refl}
use Rattle.ug_lines.specs.Lines.{whole_from}
use Rattle.ug_command_io.specs.Fold.{read_fault}
use Rattle.ug_command_io.proofs.Faults.{rose-after, rose-concluded}
use Rattle.ug_command_io.proofs.Ending.{reads-none, reads-piece, replay-stopped, replay-fault, replay-end}
use Rattle.ug_command_io.specs.Runs.{ran_words}
use Rattle.ug_command_io.proofs.Refusing.{ended-all, stopped-all}
use Rattle.ug_command_io.proofs.Taking.{taking-all, taking-piece, unended}
use Rattle.ug_command_io.proofs.call.replay.Goals as goal

pub pieces-init : goal.pieces-init
unfolding reads-none whole_from
pieces-init g c = record {
  reads = (reads-none g.M.Machine.step_of g.M.Machine.closing (g.M.Machine.state c.args.machine.now, c.args.world.now) (g.S.Source.left c.args.input.now) (g.K.Sink.held c.args.out.now) c.new-splitter.result.line.items c.new-splitter.result.lines c.new-splitter.ensures.line c.new-splitter.ensures.lines, tt);
  kept = c.requires;
  source = omega arith;
  sink = omega arith;
}

pub pieces-preserved : goal.pieces-preserved
unfolding reads-piece
pieces-preserved g c = record {
  reads = (
    reads-piece g.M.Machine.step_of g.M.Machine.closing (g.M.Machine.state c.args.machine.now, c.args.world.now) (g.S.Source.left c.args.input.now) (g.S.Source.left c.pieces.input) (g.S.Source.left c.take.new.self)
        (g.K.Sink.held c.args.out.now) (g.K.Sink.held c.pieces.out) (g.K.Sink.held c.feed.new.out) c.pieces.splitter.line.items c.pieces.splitter.lines (g.M.Machine.state c.pieces.machine, c.pieces.world) (take c.in-Bytes.n c.take.new.into)
        c.feed.new.self.line.items c.feed.new.self.lines (g.M.Machine.state c.feed.new.machine, c.feed.new.world) c.pieces.invariant.reads.0 c.in-Bytes.ensures.bytes c.in-Done.ensures.fed,
    taking-piece g.M.Machine.step_of g.M.Machine.holds (g.M.Machine.state c.args.machine.now, c.args.world.now) (g.S.Source.left c.args.input.now) (g.S.Source.left c.pieces.input)
        (g.K.Sink.held c.args.out.now) (g.K.Sink.held c.pieces.out) c.pieces.splitter.line.items c.pieces.splitter.lines (g.M.Machine.state c.pieces.machine, c.pieces.world) (take c.in-Bytes.n c.take.new.into)
        c.pieces.invariant.reads.0 c.pieces.invariant.reads.1 (c.in-Done.ensures.taken refl),
  );
  kept = c.in-Done.ensures.kept refl;
  source = omega (arith, c.in-Bytes.ensures.counted);
  sink = omega (arith, c.feed.ensures.counted);
}

pub returns-in_default : goal.returns-in_default
returns-in_default g c = record {
  told = replay-stopped g.M.Machine.step_of g.M.Machine.closing (g.M.Machine.state c.args.machine.now, c.args.world.now) (g.S.Source.left c.args.input.now) (g.S.Source.left c.pieces.input) (g.S.Source.left c.take.new.self)
      (g.K.Sink.held c.args.out.now) (g.K.Sink.held c.pieces.out) (g.K.Sink.held c.feed.new.out) (g.K.Sink.held c.conclude.new.out) c.pieces.splitter.line.items c.pieces.splitter.lines (g.M.Machine.state c.pieces.machine, c.pieces.world) (take c.in-Bytes.n c.take.new.into)
      c.feed.result c.feed.new.self.line.items c.feed.new.self.lines (g.M.Machine.state c.feed.new.machine, c.feed.new.world) c.conclude.result c.in_default.not-Done c.pieces.invariant.reads.0 c.in-Bytes.ensures.bytes c.feed.ensures.fed c.conclude.ensures.told;
  why = stopped-all g.M.Machine.step_of g.M.Machine.because g.M.Machine.closing (g.M.Machine.state c.args.machine.now, c.args.world.now) (g.S.Source.left c.args.input.now) (g.S.Source.left c.pieces.input) (g.S.Source.left c.take.new.self)
      (g.K.Sink.held c.args.out.now) (g.K.Sink.held c.pieces.out) c.pieces.splitter.line.items c.pieces.splitter.lines (g.M.Machine.state c.pieces.machine, c.pieces.world) (take c.in-Bytes.n c.take.new.into)
      c.feed.result (g.K.Sink.held c.feed.new.out) (g.K.Sink.held c.conclude.new.out) (ran_words c.feed.result c.feed.new.self.lines) c.conclude.result c.pieces.invariant.reads.0 c.in-Bytes.ensures.bytes c.feed.ensures.why c.conclude.ensures.told;
  taken = λ all is e. absurd (unended c.feed.result (g.K.Sink.held c.feed.new.out) (g.K.Sink.held c.conclude.new.out) (ran_words c.feed.result c.feed.new.self.lines) c.conclude.result c.in_default.not-Done c.conclude.ensures.told e);
  read = λ e. absurd (c.conclude.ensures.not_read e);
  written = λ e. rose-concluded c.feed.result (g.K.Sink.faults c.args.out.now) (g.K.Sink.faults c.feed.new.out) (g.K.Sink.faults c.conclude.new.out) (omega (arith, c.feed.ensures.counted)) c.conclude.ensures.counted
      (λ f. rose-after (g.K.Sink.faults c.args.out.now) (g.K.Sink.faults c.pieces.out) (g.K.Sink.faults c.feed.new.out) c.pieces.invariant.sink c.feed.ensures.counted (c.feed.ensures.cause f)) (λ n. c.conclude.ensures.cause n e);
}

pub returns-in-End-clause-told : goal.returns-in-End-clause-told
returns-in-End-clause-told g c = replay-end g.M.Machine.step_of g.M.Machine.closing (g.M.Machine.state c.args.machine.now, c.args.world.now) (g.S.Source.left c.args.input.now) (g.S.Source.left c.pieces.input) (g.S.Source.left c.take.new.self)
    (g.K.Sink.held c.args.out.now) (g.K.Sink.held c.pieces.out) (g.K.Sink.held c.finish.new.out) c.pieces.splitter.line.items c.pieces.splitter.lines (g.M.Machine.state c.pieces.machine, c.pieces.world) (g.M.Machine.state c.finish.new.machine, c.finish.new.world) c.finish.result
    c.pieces.invariant.reads.0 c.in-End.ensures.bytes.0 c.in-End.ensures.bytes.1 c.finish.ensures.told

pub returns-in-End-clause-why : goal.returns-in-End-clause-why
returns-in-End-clause-why g c = ended-all g.M.Machine.step_of g.M.Machine.because g.M.Machine.closing (g.M.Machine.state c.args.machine.now, c.args.world.now) (g.S.Source.left c.args.input.now) (g.S.Source.left c.pieces.input) (g.S.Source.left c.take.new.self)
    (g.K.Sink.held c.args.out.now) (g.K.Sink.held c.pieces.out) c.pieces.splitter.line.items c.pieces.splitter.lines (g.M.Machine.state c.pieces.machine, c.pieces.world) c.finish.result
    c.pieces.invariant.reads.0 c.in-End.ensures.bytes.0 c.in-End.ensures.bytes.1 c.finish.ensures.why

pub returns-in-Failed-clause-told : goal.returns-in-Failed-clause-told
unfolding read_fault
returns-in-Failed-clause-told g c = replay-fault g.M.Machine.step_of g.M.Machine.closing (g.M.Machine.state c.args.machine.now, c.args.world.now) (g.S.Source.left c.args.input.now) (g.S.Source.left c.pieces.input) (g.S.Source.left c.take.new.self)
    (g.K.Sink.held c.args.out.now) (g.K.Sink.held c.pieces.out) (g.K.Sink.held c.write_result.new.out) c.pieces.splitter.line.items c.pieces.splitter.lines (g.M.Machine.state c.pieces.machine, c.pieces.world) c.write_result.result c.pieces.invariant.reads.0 c.in-Failed.ensures.bytes c.write_result.ensures.told

pub returns-in-End-clause-taken : goal.returns-in-End-clause-taken
returns-in-End-clause-taken g c = λ all is e.
    taking-all g.M.Machine.step_of g.M.Machine.holds (g.M.Machine.state c.args.machine.now, c.args.world.now) (g.S.Source.left c.args.input.now) (g.S.Source.left c.pieces.input) (g.S.Source.left c.take.new.self)
    (g.K.Sink.held c.args.out.now) (g.K.Sink.held c.pieces.out) c.pieces.splitter.line.items c.pieces.splitter.lines (g.M.Machine.state c.pieces.machine, c.pieces.world)
    c.pieces.invariant.reads.0 c.in-End.ensures.bytes.0 c.in-End.ensures.bytes.1 c.pieces.invariant.reads.1 (c.finish.ensures.taken e) all is

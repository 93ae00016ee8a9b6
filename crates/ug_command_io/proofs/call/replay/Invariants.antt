use Rattle.std.proofs.Common.{◌≤◌, ◌+◌, ◌*◌, ◌-◌, [], vec_len}
use Rattle.ug_lines.specs.Lines.{whole_lines}
use Rattle.ug_command_io.specs.Fold.{Going}
use Rattle.ug_command_io.specs.Refusals.{HoldsOfEach}
use Rattle.ug_command_io.specs.Runs.{ReadsOn}
use Rattle.ug_command_io.proofs.call.replay.Given as goal

abbrev pub invariant-pieces : goal.invariant-pieces
invariant-pieces g l = record {
  reads : (reads : ReadsOn g.M.Machine.step_of (g.M.Machine.state l.fn.machine, l.fn.world) (g.S.Source.left l.fn.input) (g.S.Source.left l.input) (g.K.Sink.held l.fn.out) (g.K.Sink.held l.out) l.splitter.line.items l.splitter.lines (g.M.Machine.state l.machine, l.world)) × HoldsOfEach g.M.Machine.step_of g.M.Machine.holds (Going 0 [] (g.M.Machine.state l.fn.machine, l.fn.world)) (whole_lines reads.taken);
  kept : g.M.Machine.keeps (g.M.Machine.state l.machine) l.world;
  source : g.S.Source.faults l.fn.input ≤ g.S.Source.faults l.input;
  sink : g.K.Sink.faults l.fn.out ≤ g.K.Sink.faults l.out;
}

abbrev pub decreases-pieces : goal.decreases-pieces
decreases-pieces g l = 1048577 * 1048578 - (l.splitter.lines * 1048578 + vec_len l.splitter.line)

use Rattle.std.proofs.Common.{◌≤◌, ◌+◌, ◌*◌, ◌-◌, length, take, vec_len}
use Rattle.ug_command_io.specs.Runs.{Feeds}
use Rattle.ug_command_io.proofs.Taking.{Taking}
use Rattle.ug_command_io.specs.declared.machine.Ran.TheVariants.{Done}
use Rattle.ug_command_io.proofs.feed.Splitter.feed.Given as goal

abbrev pub invariant-loop-at : goal.invariant-loop-at
invariant-loop-at g l = record {
  within : l.at ≤ length l.piece;
  fed : Feeds g.M.Machine.step_of l.fn.self.line.items l.fn.self.lines (g.M.Machine.state l.fn.machine, l.fn.world) (g.K.Sink.held l.fn.out) (take l.at l.piece) Done
      l.self.line.items l.self.lines (g.M.Machine.state l.machine, l.world) (g.K.Sink.held l.out);
  taken : Taking g.M.Machine.step_of g.M.Machine.holds l.fn.self.line.items l.fn.self.lines (g.M.Machine.state l.fn.machine, l.fn.world) (take l.at l.piece);
  kept : g.M.Machine.keeps (g.M.Machine.state l.machine) l.world;
  further : l.fn.self.lines * 1048578 + vec_len l.fn.self.line + l.at ≤ l.self.lines * 1048578 + vec_len l.self.line;
  counted : g.K.Sink.faults l.fn.out ≤ g.K.Sink.faults l.out;
}

abbrev pub decreases-loop-at : goal.decreases-loop-at
decreases-loop-at g l = length l.piece - l.at

use Rattle.std.proofs.Common.{◌≡◌, take, drop}
use Rattle.ug_sessions.specs.Answering.{Each, Passes}
use Rattle.ug_sessions.proofs.answer.next_of.Given as goal

abbrev pub invariant-loop-i : goal.invariant-loop-i
invariant-loop-i l = record {
  front : Each Passes (take l.i l.fn.sessions) (take l.i l.sessions);
  same : drop l.i l.sessions ≡ drop l.i l.fn.sessions;
}

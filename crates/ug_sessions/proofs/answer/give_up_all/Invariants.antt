use Rattle.std.proofs.Common.{◌≡◌, take, drop}
use Rattle.ug_sessions.specs.Answering.{Each, GivesUpOne}
use Rattle.ug_sessions.proofs.answer.give_up_all.Given as goal

abbrev pub invariant-loop-i : goal.invariant-loop-i
invariant-loop-i l = record {
  front : Each (GivesUpOne l.id) (take l.i l.fn.sessions) (take l.i l.sessions);
  same : drop l.i l.sessions ≡ drop l.i l.fn.sessions;
}

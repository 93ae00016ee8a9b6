use Rattle.std.proofs.Common.{ap, arith, length, length-append, refl, ◌∙◌}
use Rattle.ug_audit.proofs.Noting.{goes_on, stays}
use Rattle.ug_core.specs.Hinting.{name_hinted}
use Rattle.ug_core.proofs.Pieces.{all_read, hinted_few, next_read, none_read, stream_left}
use Rattle.ug_core.proofs.hinting.read_messages.Goals as goal

pub loop-answer-init : goal.loop-answer-init
loop-answer-init g c = record {
  so = none_read _ _ _ c.requires.empty;
  begun = refl;
  few = omega (arith, ap length c.requires.empty);
  capacity = refl;
  same = stays _ _;
  room = refl;
  spare = omega arith;
}

pub take_answer-requires-clause-place : goal.take_answer-requires-clause-place
take_answer-requires-clause-place g c =
    let i = c.loop-answer.invariant in
    omega (arith, i.spare, c.requires.place, ap length c.in-Some.ensures.1)

pub take_answer-requires-clause-room : goal.take_answer-requires-clause-room
take_answer-requires-clause-room g c =
    let i = c.loop-answer.invariant in
    omega (arith, i.few, i.capacity, c.requires.room, ap length c.in-Some.ensures.1)

pub loop-answer-preserved : goal.loop-answer-preserved
loop-answer-preserved g c =
    let i = c.loop-answer.invariant in
    let h = c.in-Some.ensures in
    let t = c.take_answer.ensures in
    let first = ap length h.1 in
    record {
      so = next_read _ _ _ _ _ _ _ _ h.0 _ i.so h.1 h.3 t.names t.entries;
      begun = h.2 ∙ i.begun;
      few = omega (arith, i.few, first, ap length t.names, hinted_few c.in-Some.answer, length-append c.loop-answer.names.items (name_hinted c.in-Some.answer));
      capacity = t.capacity ∙ i.capacity;
      same = goes_on _ _ _ _ i.same t.journal.0;
      room = t.journal.1 ∙ i.room;
      spare = omega (arith, i.spare, t.journal.2, first);
    }

pub returns-clause-stream : goal.returns-clause-stream
returns-clause-stream g c = stream_left _ _ _ c.in_default.ensures c.loop-answer.invariant.begun

pub returns-clause-reads : goal.returns-clause-reads
returns-clause-reads g c = all_read _ _ _ _ _ c.loop-answer.invariant.so c.in_default.ensures.0

pub returns-clause-few : goal.returns-clause-few
returns-clause-few g c = omega (arith, c.loop-answer.invariant.few)

pub returns-clause-journal : goal.returns-clause-journal
returns-clause-journal g c =
    let i = c.loop-answer.invariant in
    (i.same, i.room, omega (arith, i.spare))

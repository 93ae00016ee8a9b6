use Rattle.ug_types.proofs.Counted.{counted_none, mark_more, no_mark_more, counted_all}
use Rattle.ug_types.proofs.marks.count_marks.Goals as goal
use Rattle.ug_types.proofs.marks.count_marks.Goals.{then-is_mark, else-is_mark}

pub loop-byte-init : goal.loop-byte-init
loop-byte-init c = counted_none

pub loop-byte-preserved : goal.loop-byte-preserved
loop-byte-preserved c = elim c.if-is_mark.branch [
  | then-is_mark w ↦ mark_more c.args.text.now c.loop-byte.byte-index c.loop-byte.count c.if-is_mark.count c.is_mark.result c.loop-byte-test.true c.loop-byte.invariant c.is_mark.ensures w.if-is_mark.true w.count-is
  | else-is_mark w ↦ no_mark_more c.args.text.now c.loop-byte.byte-index c.loop-byte.count c.if-is_mark.count c.is_mark.result c.loop-byte-test.true c.loop-byte.invariant c.is_mark.ensures w.if-is_mark.false w.count-is
]

pub returns : goal.returns
returns c = counted_all c.args.text.now c.loop-byte.byte-index c.loop-byte.count c.loop-byte-test.false c.loop-byte.invariant

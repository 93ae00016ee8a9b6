use Rattle.ug_print.specs.Items.{byte_text}
use Rattle.ug_print.proofs.Appending.{one_more}
use Rattle.ug_print.proofs.items.put_text.Goals as goal

pub loop-byte-preserved : goal.loop-byte-preserved
loop-byte-preserved c = one_more byte_text _ _ _ c.args.text.now c.loop-byte.byte-index 0 c.loop-byte-test.true c.loop-byte.invariant c.in_ok-put_escaped.ensures

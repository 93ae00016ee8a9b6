use Rattle.std.proofs.Common.{◌∙◌}
use Rattle.ug_client.proofs.Ordered.{spaced_step}
use Rattle.ug_client.proofs.orders.put_spaced.Goals as goal

pub loop-line-preserved : goal.loop-line-preserved
loop-line-preserved c = spaced_step c.args.lines.now c.loop-line.line-index c.line-item.result c.bytes.result.now c.args.out.now.items c.loop-line.out.items c.put_line.new.out.items c.loop-line-test.true c.loop-line.invariant (c.bytes.ensures ∙ c.line-item.is) c.in_ok-put_line.ensures

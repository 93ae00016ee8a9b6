use Rattle.std.proofs.Common.{◌∙◌, ap, sym}
use Rattle.ug_rows.specs.Rows.{is_chosen}
use Rattle.ug_client.proofs.Ordered.{rows_step}
use Rattle.ug_client.proofs.choosing.print_rows.Goals as goal

pub loop-row-preserved : goal.loop-row-preserved
loop-row-preserved c = rows_step (is_chosen c.args.choice.now) c.args.rows.now c.loop-row.row-index c.row-item.result c.bytes-in-loop-row.result.now c.in_ok-chosen.chosen c.loop-row.out.items c.put_row.new.out.items c.loop-row-test.true c.loop-row.invariant (c.bytes-in-loop-row.ensures ∙ c.row-item.is) (c.in_ok-chosen.ensures ∙ ap (is_chosen c.args.choice.now) (c.bytes.ensures ∙ sym c.bytes-in-loop-row.ensures)) c.in_ok-put_row.ensures

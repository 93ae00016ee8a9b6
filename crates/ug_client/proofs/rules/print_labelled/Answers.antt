use Rattle.std.proofs.Common.{◌∙◌, ap, sym}
use Rattle.ug_rows.specs.RuleRows.{is_labelled}
use Rattle.ug_client.proofs.Ordered.{rows_step}
use Rattle.ug_client.proofs.rules.print_labelled.Goals as goal

pub loop-row-preserved : goal.loop-row-preserved
loop-row-preserved c = rows_step (is_labelled c.args.label.now) c.args.rules.now c.loop-row.row-index c.row-item.result c.bytes-in-loop-row.result.now c.in_ok-shown.shown c.loop-row.out.items c.put_row.new.out.items c.loop-row-test.true c.loop-row.invariant (c.bytes-in-loop-row.ensures ∙ c.row-item.is) (c.in_ok-shown.ensures ∙ ap (is_labelled c.args.label.now) (c.bytes.ensures ∙ sym c.bytes-in-loop-row.ensures)) c.in_ok-put_row.ensures

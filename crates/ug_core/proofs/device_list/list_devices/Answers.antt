use Rattle.std.proofs.Common.{ℕ, List, Some, refl, sym, subst, ◌∙◌}
use Rattle.ug_lines.specs.Splitting.{AreLines}
use Rattle.ug_table.specs.Order.{StandInOrder}
use Rattle.ug_table.specs.declared.standing.Standing.{Standing}
use Rattle.ug_core.specs.DeviceRows.{IsFirstFrom, device_row}
use Rattle.ug_ruleset.proofs.RowLines.{lines_more}
use Rattle.ug_core.proofs.RowWalk.{rows_all, rows_more, rows_none}
use Rattle.ug_core.proofs.device_list.list_devices.Goals as goal

pub loop-s-init : goal.loop-s-init
loop-s-init c = record {
  rows = c.new-rows.ensures ∙ rows_none c.args.table.now.standings;
  one_line = subst AreLines (sym c.new-rows.ensures) tt;
}

pub loop-s-preserved : goal.loop-s-preserved
loop-s-preserved c =
    let ss : List Standing = c.args.table.now.standings in
    let s : Standing = c.in-Some.s.now in
    let order : StandInOrder c.next_number-next.result ss = c.next_number-next.ensures.standings in
    let first : IsFirstFrom ss c.loop-s.from (Some s) = c.in-Some.ensures in
    record {
      rows = c.in_ok-push_device_row.ensures.row ∙ rows_more ss c.loop-s.from s c.loop-s.rows (device_row s) order.distinct first refl c.loop-s.invariant.rows;
      one_line = subst AreLines (sym c.in_ok-push_device_row.ensures.row) (lines_more c.loop-s.rows (device_row s) c.loop-s.invariant.one_line c.in_ok-push_device_row.ensures.one_line);
    }

pub returns-clause-rows : goal.returns-clause-rows
returns-clause-rows c = c.loop-s.invariant.rows ∙ rows_all c.args.table.now.standings c.loop-s.from c.in_default.ensures

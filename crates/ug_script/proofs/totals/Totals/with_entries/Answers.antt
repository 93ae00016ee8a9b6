use Rattle.std.proofs.Common.{rules, ◌∙◌}
use Rattle.ug_audit.specs.Lines.{entry_line}
use Rattle.ug_script.proofs.EntryCounts.{all_counted, entry_next, none_next}
use Rattle.ug_script.proofs.totals.Totals.with_entries.Goals as goal

pub loop-entry-preserved : goal.loop-entry-preserved
loop-entry-preserved c =
    let e = c.entry-item.result in
    record {
      whole = entry_next c.args.entries.now c.loop-entry.entry-index e c.loop-entry.totals c.with_entry-totals.result c.loop-entry-test.true c.entry-item.is (c.is_of_sweep.ensures (search rules)) c.with_entry-totals.ensures ∙ c.loop-entry.invariant.whole;
      none = none_next (entry_line e) c.loop-entry.totals c.with_entry-totals.result c.with_entry-totals.ensures;
    }

pub returns : goal.returns
returns c =
    all_counted c.args.entries.now c.loop-entry.entry-index c.loop-entry.totals c.args.self c.loop-entry-test.false c.loop-entry.invariant.none c.loop-entry.invariant.whole

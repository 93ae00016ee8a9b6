use Rattle.std.proofs.Common.{sym, ◌∙◌, arith}
use Rattle.ug_policy.specs.declared.entry.RuleEntry.{RuleEntry}
use Rattle.ug_policy.proofs.Order.{end_more, end_stays}
use Rattle.ug_policy.proofs.edits.folder_end.Goals.{then-is_folder, else-is_folder}
use Rattle.ug_policy.proofs.edits.folder_end.Goals as goal

pub loop-place-preserved : goal.loop-place-preserved
loop-place-preserved c =
    let es = c.args.entries.now in
    let i = c.loop-place.place in
    let e : RuleEntry = c.index-entries-place.result in
    elim c.if-is_folder.branch [
      | then-is_folder w ↦ record {
        end = w.end-is ∙ sym (end_more es i e c.loop-place-test.true (sym c.is_folder.ensures ∙ w.if-is_folder.true));
        within = omega (arith, w.end-is);
      }
      | else-is_folder w ↦ record {
        end = w.end-is ∙ c.loop-place.invariant.end ∙ sym (end_stays es i e c.loop-place-test.true (sym c.is_folder.ensures ∙ w.if-is_folder.false));
        within = omega (arith, w.end-is, c.loop-place.invariant.within);
      }
    ]

use Rattle.std.proofs.Common.{◌≡◌, drop}
use Rattle.std.specs.List.{list_any}
use Rattle.ug_policy.specs.Marks.{is_folder}
use Rattle.ug_policy.proofs.edits.has_folder.Given as goal

abbrev pub invariant-loop-entry : goal.invariant-loop-entry
invariant-loop-entry l = list_any (λ e. is_folder e.mark) (drop l.entry-index l.entries) ≡ list_any (λ e. is_folder e.mark) l.entries

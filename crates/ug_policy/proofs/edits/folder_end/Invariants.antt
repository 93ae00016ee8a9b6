use Rattle.std.proofs.Common.{◌≡◌, ◌≤◌, take}
use Rattle.ug_policy.specs.Marks.{folder_end}
use Rattle.ug_policy.specs.Rules.{marks}
use Rattle.ug_policy.proofs.edits.folder_end.Given as goal

abbrev pub invariant-loop-place : goal.invariant-loop-place
invariant-loop-place l = record {
  end : l.end ≡ folder_end (marks (take l.place l.entries));
  within : l.end ≤ l.place;
}

use Rattle.ug_policy.proofs.Changes.{inserted_between, removed_between, retargeted_between, standing, lacking, removed_none, retargeted_none}
use Rattle.ug_policy.proofs.laws.edits_law.Goals as goal

pub returns : goal.returns
returns c = record {
  inserted = inserted_between;
  removed = removed_between;
  retargeted = retargeted_between;
  there = standing;
  not_there = λ rules id h. (removed_none id rules (lacking id rules h), λ target. retargeted_none id target rules (lacking id rules h));
}

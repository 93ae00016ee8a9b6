use Rattle.ug_policy.proofs.Narrow.{narrow_only, narrow_there}
use Rattle.ug_policy.proofs.Standing.{can_as_matches, candidates_are}
use Rattle.ug_policy.proofs.laws.index_law.Goals as goal

pub returns : goal.returns
returns c = record {
  narrow = narrow_there;
  only = narrow_only;
  matches = can_as_matches;
  candidates = candidates_are;
}

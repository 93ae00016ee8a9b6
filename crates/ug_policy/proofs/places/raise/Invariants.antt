use Rattle.std.proofs.Common.{◌≡◌, ◌≤◌, suc, ◌++◌, true, length, map, take, drop}
use Rattle.ug_policy.specs.Places.{all_from}
use Rattle.ug_policy.proofs.places.raise.Given as goal

-- what stands behind was not before `at`, and is one later now
abbrev pub invariant-loop-before : goal.invariant-loop-before
invariant-loop-before l = record {
  within : l.before ≤ length l.fn.places;
  places : l.places ≡ take l.before l.fn.places ++ map suc (drop l.before l.fn.places);
  behind : all_from l.fn.at (drop l.before l.fn.places) ≡ true;
}

abbrev pub decreases-loop-before : goal.decreases-loop-before
decreases-loop-before l = l.before

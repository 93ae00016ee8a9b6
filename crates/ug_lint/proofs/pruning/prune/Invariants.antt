use Rattle.std.proofs.Common.{◌≡◌, ◌≤◌, ◌++◌, reverse, vec_len}
use Rattle.ug_lint.specs.Remaining.{remaining}
use Rattle.ug_lint.proofs.pruning.prune.Given as goal

-- what is left to look at, and what was kept, the last first
abbrev pub invariant-loop-rule : goal.invariant-loop-rule
invariant-loop-rule l = record {
  few : vec_len l.rules ≤ 4096;
  left : remaining l.rules.items ++ reverse l.kept.items ≡ remaining l.fn.rules.items;
}

abbrev pub decreases-loop-rule : goal.decreases-loop-rule
decreases-loop-rule l = vec_len l.rules

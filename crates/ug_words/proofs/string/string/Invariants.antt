use Rattle.std.proofs.Common.{◌≡◌, ◌<◌, ◌≤◌, ◌+◌, ◌-◌, length, drop}
use Rattle.ug_words.specs.Lexing.{quoted_from}
use Rattle.ug_words.proofs.Steps.{grown}
use Rattle.ug_words.proofs.string.string.Given as goal

-- what is still to be read ends the whole string
abbrev pub invariant-loop-at : goal.invariant-loop-at
invariant-loop-at l = record {
  above : l.opening < l.at;
  within : l.at ≤ length l.line;
  read : grown l.text (l.at - (l.opening + 1)) (quoted_from l.opening l.at 0 (drop l.at l.line)) ≡ quoted_from l.opening (l.opening + 1) 0 (drop (l.opening + 1) l.line);
}

abbrev pub decreases-loop-at : goal.decreases-loop-at
decreases-loop-at l = length l.line - l.at

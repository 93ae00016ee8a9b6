use Rattle.std.proofs.Common.{◌≡◌, ◌≤◌, ◌-◌, length, drop}
use Rattle.ug_words.specs.Lexing.{tokens_from}
use Rattle.ug_words.proofs.Steps.{behind}
use Rattle.ug_words.proofs.reading.read.Given as goal

-- what is still to be read ends the whole line
abbrev pub invariant-loop-at : goal.invariant-loop-at
invariant-loop-at l = record {
  within : l.at ≤ length l.line;
  read : behind l.tokens (tokens_from l.at 0 (drop l.at l.line)) ≡ tokens_from 0 0 l.line;
}

abbrev pub decreases-loop-at : goal.decreases-loop-at
decreases-loop-at l = length l.line - l.at

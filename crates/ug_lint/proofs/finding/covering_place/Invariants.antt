use Rattle.std.proofs.Common.{◌≡◌, ◌+◌, drop}
use Rattle.std.specs.List.{position_or_len}
use Rattle.ug_lint.specs.Findings.{covers_rule}
use Rattle.ug_lint.proofs.finding.covering_place.Given as goal

abbrev pub invariant-loop-place : goal.invariant-loop-place
invariant-loop-place l = l.place + position_or_len (covers_rule l.rule) (drop l.place l.before) ≡ position_or_len (covers_rule l.rule) l.before

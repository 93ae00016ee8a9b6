use Rattle.std.proofs.Common.{◌≡◌, ◌++◌, take, drop}
use Rattle.ug_lint.specs.Findings.{findings, findings_behind}
use Rattle.ug_lint.proofs.linting.lint.Given as goal

-- what was found, and what is left to find
abbrev pub invariant-loop-place : goal.invariant-loop-place
invariant-loop-place l = l.found.items ++ findings_behind (take l.place l.fn.rules) (drop l.place l.fn.rules) ≡ findings l.fn.rules

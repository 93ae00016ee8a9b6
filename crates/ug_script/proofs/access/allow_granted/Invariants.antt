use Rattle.std.proofs.Common.{◌≡◌, ◌++◌, map, take}
use Rattle.ug_script.specs.Setup.{granted}
use Rattle.ug_script.proofs.access.allow_granted.Given as goal

abbrev pub invariant-loop-line : goal.invariant-loop-line
invariant-loop-line l = l.acl ≡ l.fn.acl ++ map granted (take l.line-index l.lines)

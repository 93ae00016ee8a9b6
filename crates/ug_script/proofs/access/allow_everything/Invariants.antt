use Rattle.std.proofs.Common.{◌≡◌, ◌++◌, map, take}
use Rattle.ug_script.specs.Setup.{everything}
use Rattle.ug_script.proofs.access.allow_everything.Given as goal

abbrev pub invariant-loop-who : goal.invariant-loop-who
invariant-loop-who l = l.acl ≡ l.fn.acl ++ map everything (take l.who-index l.users)

use Rattle.std.proofs.Common.{◌≡◌, ◌++◌, take}
use Rattle.ug_acl.specs.Pairs.{all_pairs}
use Rattle.ug_serve.specs.Access.{user_additions}
use Rattle.ug_serve.proofs.access.add_users.Given as goal

abbrev pub invariant-loop-user : goal.invariant-loop-user
invariant-loop-user l = record {
  all : l.all ≡ all_pairs;
  acl : l.added.acl ≡ l.fn.added.acl ++ user_additions (take l.user-index l.users);
  principals : l.added.principals.items ≡ l.fn.added.principals.items ++ take l.user-index l.users;
}

use Rattle.ug_acl.proofs.ListsRead.{list_law, own}
use Rattle.ug_acl.proofs.laws.lists_law.Goals as goal

pub returns-clause-is : goal.returns-clause-is
returns-clause-is c = list_law

pub returns-clause-own : goal.returns-clause-own
returns-clause-own c = own

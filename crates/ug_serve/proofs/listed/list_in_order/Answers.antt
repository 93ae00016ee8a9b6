use Rattle.ug_serve.proofs.Once.{listed_all}
use Rattle.ug_serve.proofs.listed.list_in_order.Goals as goal

pub returns-clause-listed : goal.returns-clause-listed
returns-clause-listed c = listed_all c.args.added.now c.in_ok-principals.principals.items c.sort.result c.in_ok-principals.ensures c.sort.ensures.all c.sort.ensures.in_order

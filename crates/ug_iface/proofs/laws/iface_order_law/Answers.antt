use Rattle.ug_iface.proofs.Order.{in_order, ordered, sorted_once}
use Rattle.ug_iface.proofs.laws.iface_order_law.Goals as goal

pub returns-clause-only : goal.returns-clause-only
returns-clause-only c = λ names order perm sorted. sorted_once names order perm sorted

pub returns-clause-all : goal.returns-clause-all
returns-clause-all c = λ names. ordered names

pub returns-clause-sorted : goal.returns-clause-sorted
returns-clause-sorted c = λ names. in_order names

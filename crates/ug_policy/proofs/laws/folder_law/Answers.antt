use Rattle.ug_policy.proofs.Order.{before_all, behind_last, behind_rule, in_front_of_none, order_so}
use Rattle.ug_policy.proofs.laws.folder_law.Goals as goal

pub returns : goal.returns
returns c = record {
  order = order_so;
  none = in_front_of_none;
  permanent = behind_last;
  temporary = before_all;
  behind = behind_rule;
}

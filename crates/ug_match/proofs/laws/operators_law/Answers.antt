use Rattle.ug_match.proofs.Membership.{all_of_decides, one_of_decides, none_of_decides, equals_decides, ordered_decides}
use Rattle.ug_match.proofs.laws.operators_law.Goals as goal

pub returns : goal.returns
returns g c = record {
  all_of = all_of_decides;
  one_of = one_of_decides;
  none_of = none_of_decides;
  equals = equals_decides;
  equals_ordered = ordered_decides;
}

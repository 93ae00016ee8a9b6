use Rattle.ug_match.proofs.Membership.{all_of_decides}
use Rattle.ug_lint.proofs.Matches.{covers_each_decides, each_covered_decides, set_itself, some_covers_decides}
use Rattle.ug_lint.proofs.laws.sets_law.Goals as goal

pub returns : goal.returns
returns g c = record {
  some_covers = some_covers_decides;
  each_covers = all_of_decides;
  each_covered = each_covered_decides;
  each_covers_all = covers_each_decides;
  itself = set_itself;
}

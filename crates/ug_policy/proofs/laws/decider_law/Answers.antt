use Rattle.ug_policy.proofs.Finding.{some_decider, one_decider, decider_or_not, judged_at, judged_by_none, stands_holds}
use Rattle.ug_policy.proofs.laws.decider_law.Goals as goal

pub returns : goal.returns
returns c = record {
  some = some_decider;
  one = one_decider;
  not_both = decider_or_not;
  found = judged_at;
  not_found = judged_by_none;
  judgements = stands_holds;
}

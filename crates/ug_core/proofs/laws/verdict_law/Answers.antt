use Rattle.ug_core.proofs.Verdicts.{rules_stay, later_verdict, stands_later, is_verdict, verdict_is}
use Rattle.ug_core.proofs.laws.verdict_law.Goals as goal

pub returns : goal.returns
returns c = record {
  cases = λ p records dev controller present on verdict why. (is_verdict p records dev controller present on verdict why, verdict_is p records dev controller present on verdict why);
  given = rules_stay;
  later = later_verdict;
  history = stands_later;
}

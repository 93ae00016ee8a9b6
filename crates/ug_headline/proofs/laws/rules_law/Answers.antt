use Rattle.ug_headline.proofs.Matching.{hold_decides, matches_decides}
use Rattle.ug_headline.proofs.laws.rules_law.Goals as goal

pub returns : goal.returns
returns c = record {
  matches = matches_decides;
  hold = λ judgements id history ctx beside conds words h. hold_decides judgements id ctx beside history conds words h;
}

use Rattle.ug_lint.proofs.AllFound.{has_finding, rise}
use Rattle.ug_lint.proofs.Deciders.{never_decides}
use Rattle.ug_lint.proofs.FilledRules.{are_filled}
use Rattle.ug_lint.proofs.Found.{is_finding}
use Rattle.ug_lint.proofs.laws.findings_law.Goals as goal

pub returns : goal.returns
returns c = record {
  found = λ rules f. (is_finding rules f, has_finding rules f);
  rise = rise;
  never_decides = λ rules f well h. never_decides rules f (are_filled rules well) h;
}

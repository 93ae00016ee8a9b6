use Rattle.ug_headline_top.proofs.Warranted.{turns_are}
use Rattle.ug_headline_top.proofs.laws.turns_law.Goals as goal

pub returns : goal.returns
returns c = turns_are

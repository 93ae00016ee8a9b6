use Rattle.ug_headline.proofs.Warrants.{each_write}
use Rattle.ug_headline.proofs.laws.headline_law.Goals as goal

pub returns : goal.returns
returns c = each_write

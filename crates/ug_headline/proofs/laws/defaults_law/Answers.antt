use Rattle.ug_headline.proofs.Defaults.{defaults_are}
use Rattle.ug_headline.proofs.laws.defaults_law.Goals as goal

pub returns : goal.returns
returns c = defaults_are

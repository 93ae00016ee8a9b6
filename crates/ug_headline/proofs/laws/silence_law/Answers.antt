use Rattle.ug_headline.proofs.Silence.{nothing_authorised}
use Rattle.ug_headline.proofs.laws.silence_law.Goals as goal

pub returns : goal.returns
returns c = nothing_authorised

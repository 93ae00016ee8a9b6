use Rattle.ug_links.proofs.Told.{told_path}
use Rattle.ug_links.proofs.laws.what_links_tell.Goals as goal

pub returns : goal.returns
returns g c = told_path g.N.Links.gives g.N.Links.told g.met.N.Links.tells _

use Rattle.ug_ruleset.proofs.Readable.{well_all}
use Rattle.ug_ruleset.proofs.kept_rules.KeptRules.rows.Goals as goal

pub returns-clause-one_line : goal.returns-clause-one_line
returns-clause-one_line c = c.list_rules.ensures.one_line (well_all c.self.inside.list.entries c.self.invariant.0)

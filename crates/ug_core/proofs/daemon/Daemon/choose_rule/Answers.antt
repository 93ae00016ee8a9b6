use Rattle.ug_core.specs.Policy.{judging_of}
use Rattle.ug_core.proofs.Told.{read_runs}
use Rattle.ug_core.proofs.daemon.Daemon.choose_rule.Goals as goal

pub returns-in-Ok-clause-runs : goal.returns-in-Ok-clause-runs
returns-in-Ok-clause-runs g c = read_runs g.Y.Sysfs.gives c.args.sysfs.now (judging_of g.Z.Zone.clock g.R.Rng.stream c.args.self.now.policy) c.args.after c.args.permanent c.args.text.now c.choose_place.result c.choose_place.ensures.chosen

use Rattle.std.proofs.Common.{ℕ, Result, true, sym, subst}
use Rattle.ug_kernel.specs.Tree.{Runs}
use Rattle.ug_proto.specs.declared.request.Request.{Request}
use Rattle.ug_core.specs.Answering.{asking, by_request}
use Rattle.ug_core.specs.Event.{daemon_of}
use Rattle.ug_core.proofs.daemon.Daemon.choose.Goals as goal

pub returns-in-Ok-clause-runs : goal.returns-in-Ok-clause-runs
unfolding asking
returns-in-Ok-clause-runs g c = (true, subst (λ (read : Result Request ℕ). Runs g.Y.Sysfs.gives c.args.sysfs.now (by_request (daemon_of c.args.self.now) c.args.who.now read) c.choose_for.result c.choose_for.new.sysfs) (sym c.in-Ok.ensures.ok) c.choose_for.ensures.runs)

use Rattle.ug_iface.specs.Settle.{aim_of}
use Rattle.ug_iface.proofs.Pass.{is_pass}
use Rattle.ug_iface.proofs.Complete.{is_complete}
use Rattle.ug_iface.proofs.Counts.{pass_counts}
use Rattle.ug_iface.proofs.settle.settle_ifaces.Goals as goal

pub returns-clause-law : goal.returns-clause-law
returns-clause-law g c = is_pass g.Y.Ifaces.serves g.Y.Ifaces.bus g.met.Y.Ifaces.did_so _ (aim_of c.args.rules.now c.args.dev.now c.args.number c.args.held.0) c.args.fs.now c.pass.new.fs c.args.out.now.items c.pass.new.out.items c.pass.result c.pass.ensures.runs

pub returns-clause-counts : goal.returns-clause-counts
returns-clause-counts g c = pass_counts g.Y.Ifaces.serves g.Y.Sysfs.calls g.Y.Sysfs.faults g.met.Y.Ifaces.counts_so _ (aim_of c.args.rules.now c.args.dev.now c.args.number c.args.held.0) c.args.fs.now c.pass.new.fs c.args.out.now.items c.pass.new.out.items c.pass.result c.pass.ensures.runs

pub returns-clause-complete : goal.returns-clause-complete
returns-clause-complete g c = is_complete g.Y.Ifaces.bus g.Y.Sysfs.faults c.args.fs.now c.pass.new.fs (aim_of c.args.rules.now c.args.dev.now c.args.number c.args.held.0) c.args.out.now.items c.pass.new.out.items c.pass.result (returns-clause-counts g c) (returns-clause-law g c)

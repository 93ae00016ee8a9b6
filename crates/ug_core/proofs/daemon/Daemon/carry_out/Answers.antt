use Rattle.std.proofs.Common.{refl, sym, ap, subst, ◌∙◌}
use Rattle.ug_kernel.specs.Tree.{Return, Runs}
use Rattle.ug_kernel.proofs.Runs.{runs_then}
use Rattle.ug_proto.specs.declared.reply.Reply.{Reply}
use Rattle.ug_table.specs.Orders.{ordering}
use Rattle.ug_table.specs.State.{kept_of}
use Rattle.ug_core.specs.Answering.{acting, answered_with, reply_to, replying}
use Rattle.ug_core.specs.Event.{DaemonState, daemon_of}
use Rattle.ug_core.specs.declared.choosing.Deed.{Deed}
use Rattle.ug_core.proofs.daemon.Daemon.carry_out.Goals as goal

pub returns-in-SetVerdict-clause-runs : goal.returns-in-SetVerdict-clause-runs
returns-in-SetVerdict-clause-runs g c =
    let d = daemon_of c.args.self.now in
    let e = daemon_of c.set_verdict-settled.new.self in
    let gives = g.Y.Sysfs.gives in
    let before = c.args.sysfs.now in
    let after = c.set_verdict-settled.new.sysfs in
    let settled = c.set_verdict-settled.result in
    let lines = c.in-SetVerdict.lines in
    let said = replying c.reply_to.result e in
    let first = ordering c.in-SetVerdict.number c.in-SetVerdict.verdict c.args.who.now c.in-SetVerdict.on (kept_of d.sweep.standings d.sweep.entries) in
    let told = ap (λ (r : Reply). replying r e) c.reply_to.ensures.reply ∙ ap (λ (x : DaemonState). replying (reply_to lines settled) x) c.set_verdict-settled.ensures.daemon in
    subst (λ (doing : Deed). Runs gives before (acting c.args.who.now d doing) said after) (sym c.in-SetVerdict.is)
    (runs_then gives before first (λ p. Return (answered_with d lines p)) (settled, kept_of e.sweep.standings e.sweep.entries) after said after c.set_verdict-settled.ensures.runs (told, refl))

use Rattle.std.proofs.Common.{List}
use Rattle.ug_iface.specs.declared.rules.IfaceRule.{IfaceRule}
use Rattle.ug_table.specs.declared.standing.Standing.{Standing}
use Rattle.ug_core.specs.Event.{daemon_of}
use Rattle.ug_script.proofs.PassWalk.{walk_all, walk_more}
use Rattle.ug_script.proofs.passes.pass_standings.Goals as goal

pub loop-standing-preserved : goal.loop-standing-preserved
loop-standing-preserved c =
    let rules : List IfaceRule = c.args.rules.now in
    let ss : List Standing = (daemon_of c.args.daemon.now).sweep.standings in
    let s : Standing = c.in-Some.standing.now in
    walk_more rules ss c.loop-standing.number s c.args.kernel.now c.loop-standing.kernel c.pass_standing.new.kernel c.args.text.now.items c.loop-standing.text.items c.pass_standing.new.text.items
    c.standing_after.ensures.standings.distinct c.in-Some.ensures.next c.loop-standing.invariant c.in_ok-pass_standing.ensures

pub returns : goal.returns
returns c =
    walk_all c.args.rules.now (daemon_of c.args.daemon.now).sweep.standings c.loop-standing.number c.args.kernel.now c.loop-standing.kernel c.args.text.now.items c.loop-standing.text.items
    (c.in_default.ensures.next) c.loop-standing.invariant

use Rattle.std.proofs.Common.{◌≤◌, ◌∙◌, ap, length, take_all, arith}
use Rattle.clap.specs.Words.{app_of, rule_of}
use Rattle.ug_arguments.specs.Arguments.{app_taking}
use Rattle.ug_arguments.proofs.SimpleApps.{one_more}
use Rattle.ug_arguments.proofs.simple.command_taking.Goals as goal

pub loop-argument-init : goal.loop-argument-init
loop-argument-init c = c.new-command.ensures.app

pub loop-argument-preserved : goal.loop-argument-preserved
loop-argument-preserved c =
    one_more (app_of c.loop-argument.command) (app_of c.in_ok-command.command) (rule_of c.arg_of.result) c.args.name.now c.args.arguments.now
    c.loop-argument.argument-index _ c.loop-argument-test.true
    (c.in_ok-command.ensures.shape c.arg_of.ensures.own) c.loop-argument.invariant c.arg_of.ensures.rule

pub returns : goal.returns
returns c =
    let past : length c.args.arguments.now ≤ c.loop-argument.argument-index = omega arith in
    c.loop-argument.invariant ∙ ap (app_taking c.args.name.now) (take_all c.loop-argument.argument-index c.args.arguments.now past)

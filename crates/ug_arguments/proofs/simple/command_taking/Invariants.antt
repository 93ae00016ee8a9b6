use Rattle.std.proofs.Common.{◌≡◌, take}
use Rattle.clap.specs.Words.{app_of}
use Rattle.ug_arguments.specs.Arguments.{app_taking}
use Rattle.ug_arguments.proofs.simple.command_taking.Given as goal

abbrev pub invariant-loop-argument : goal.invariant-loop-argument
invariant-loop-argument l = app_of l.command ≡ app_taking l.fn.name (take l.argument-index l.arguments)

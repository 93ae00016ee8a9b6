use Rattle.std.proofs.Common.{length, arith}
use Rattle.std.proofs.lemmas.Bool.{leb-true}
use Rattle.ug_types.specs.Limits.{text_limit}
use Rattle.ug_print.specs.RuleTexts.{rules_text_of}
use Rattle.ug_core.specs.Event.{daemon_of}
use Rattle.ug_script.proofs.Starts.{first_daemon, first_rules}
use Rattle.ug_script.proofs.start.start_daemon.Goals as goal

pub returns-in-Ok-clause-daemon : goal.returns-in-Ok-clause-daemon
returns-in-Ok-clause-daemon c = first_daemon c.args.setup.now c.in_ok-disk.disk (daemon_of c.in-Ok.daemon)
    (first_rules c.args.setup.now c.in_ok-disk.disk c.in_ok-disk.ensures.disk c.in_ok-disk.ensures.reads c.in_ok-disk.ensures.fits c.are_few-few.ensures.few)
    c.in-Ok.ensures.started

pub returns-in-Ok-clause-saves : goal.returns-in-Ok-clause-saves
returns-in-Ok-clause-saves c = record {
  reads = c.in_ok-disk.ensures.reads;
  fits = leb-true (length (rules_text_of c.args.setup.now.rules)) text_limit c.in_ok-disk.ensures.fits;
  few = omega (arith, c.are_few-few.ensures.few);
}

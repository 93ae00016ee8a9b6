use Rattle.std.proofs.Common.{◌≡◌, Bool, List, Some, Result, IfOk, IfErr, sym, ap, subst, ◌∙◌}
use Rattle.clap.specs.Words.{Row, found_of, rows_of}
use Rattle.ug_arguments.specs.Commands.{NotRead, append_rule_in, get_parameter_in, meaning, remove_rule_in}
use Rattle.ug_arguments.specs.declared.command.Command.{Command}
use Rattle.ug_arguments.specs.declared.command.Command.TheVariants.{LintRules}
use Rattle.ug_arguments.specs.declared.command.WordsFault.{WordsFault}
use Rattle.ug_arguments.specs.declared.command_word.CommandWord.{CommandWord}
use Rattle.ug_arguments.proofs.meaning.meaning.Goals as goal

module _ (word is : CommandWord) (e : word ≡ is) (rows : List Row) (result : Result Command WordsFault) where
  ok : IfOk result (λ c. meaning is rows ≡ Some c) → IfOk result (λ c. meaning word rows ≡ Some c)
  ok h = subst (λ (w : CommandWord). IfOk result (λ c. meaning w rows ≡ Some c)) (sym e) h

  err : IfErr result (NotRead (meaning is rows)) → IfErr result (NotRead (meaning word rows))
  err h = subst (λ (w : CommandWord). IfErr result (NotRead (meaning w rows))) (sym e) h

told : (word is : CommandWord) (rows : List Row) → word ≡ is → meaning word rows ≡ meaning is rows
told word is rows e = ap (λ (w : CommandWord). meaning w rows) e

pub returns-in-Replay-clause-ok : goal.returns-in-Replay-clause-ok
unfolding meaning
returns-in-Replay-clause-ok c = told c.args.word _ (rows_of (found_of c.args.matches.now)) c.in-Replay.is ∙ ap (λ (k : Command). Some k) (sym c.replay.ensures)

pub returns-in-ReadDescriptor-clause-ok : goal.returns-in-ReadDescriptor-clause-ok
unfolding meaning
returns-in-ReadDescriptor-clause-ok c = told c.args.word _ (rows_of (found_of c.args.matches.now)) c.in-ReadDescriptor.is

pub returns-in-CheckRules-clause-ok : goal.returns-in-CheckRules-clause-ok
unfolding meaning
returns-in-CheckRules-clause-ok c = told c.args.word _ (rows_of (found_of c.args.matches.now)) c.in-CheckRules.is

pub returns-in-LintRules-clause-ok : goal.returns-in-LintRules-clause-ok
unfolding meaning
returns-in-LintRules-clause-ok c = told c.args.word _ (rows_of (found_of c.args.matches.now)) c.in-LintRules.is ∙ ap (λ (prune : Bool). Some (LintRules prune)) (sym c.is_set.ensures)

pub returns-in-GeneratePolicy-clause-ok : goal.returns-in-GeneratePolicy-clause-ok
unfolding meaning
returns-in-GeneratePolicy-clause-ok c = told c.args.word _ (rows_of (found_of c.args.matches.now)) c.in-GeneratePolicy.is

pub returns-in-MakeScript-clause-ok : goal.returns-in-MakeScript-clause-ok
unfolding meaning
returns-in-MakeScript-clause-ok c = ok c.args.word _ c.in-MakeScript.is (rows_of (found_of c.args.matches.now)) _ c.make_script.ensures.ok

pub returns-in-MakeScript-clause-err : goal.returns-in-MakeScript-clause-err
unfolding meaning
returns-in-MakeScript-clause-err c = err c.args.word _ c.in-MakeScript.is (rows_of (found_of c.args.matches.now)) _ c.make_script.ensures.err

pub returns-in-AddUser-clause-ok : goal.returns-in-AddUser-clause-ok
unfolding meaning
returns-in-AddUser-clause-ok c = ok c.args.word _ c.in-AddUser.is (rows_of (found_of c.args.matches.now)) _ c.add_user.ensures.ok

pub returns-in-AddUser-clause-err : goal.returns-in-AddUser-clause-err
unfolding meaning
returns-in-AddUser-clause-err c = err c.args.word _ c.in-AddUser.is (rows_of (found_of c.args.matches.now)) _ c.add_user.ensures.err

pub returns-in-GetParameter-clause-ok : goal.returns-in-GetParameter-clause-ok
unfolding meaning
returns-in-GetParameter-clause-ok c = ok c.args.word _ c.in-GetParameter.is (rows_of (found_of c.args.matches.now)) _ (c.ask_for.ensures.ok (get_parameter_in (rows_of (found_of c.args.matches.now))) c.get_parameter.ensures.ok)

pub returns-in-GetParameter-clause-err : goal.returns-in-GetParameter-clause-err
unfolding meaning
returns-in-GetParameter-clause-err c = err c.args.word _ c.in-GetParameter.is (rows_of (found_of c.args.matches.now)) _ (c.ask_for.ensures.err (get_parameter_in (rows_of (found_of c.args.matches.now))) c.get_parameter.ensures.ok c.get_parameter.ensures.err)

pub returns-in-SetParameter-clause-ok : goal.returns-in-SetParameter-clause-ok
unfolding meaning
returns-in-SetParameter-clause-ok c = ok c.args.word _ c.in-SetParameter.is (rows_of (found_of c.args.matches.now)) _ c.set_command.ensures.ok

pub returns-in-SetParameter-clause-err : goal.returns-in-SetParameter-clause-err
unfolding meaning
returns-in-SetParameter-clause-err c = err c.args.word _ c.in-SetParameter.is (rows_of (found_of c.args.matches.now)) _ c.set_command.ensures.err

pub returns-in-ListDevices-clause-ok : goal.returns-in-ListDevices-clause-ok
unfolding meaning
returns-in-ListDevices-clause-ok c = ok c.args.word _ c.in-ListDevices.is (rows_of (found_of c.args.matches.now)) _ c.list_devices.ensures.ok

pub returns-in-ListDevices-clause-err : goal.returns-in-ListDevices-clause-err
unfolding meaning
returns-in-ListDevices-clause-err c = err c.args.word _ c.in-ListDevices.is (rows_of (found_of c.args.matches.now)) _ c.list_devices.ensures.err

pub returns-in-Device-clause-ok : goal.returns-in-Device-clause-ok
unfolding meaning
returns-in-Device-clause-ok c = ok c.args.word _ c.in-Device.is (rows_of (found_of c.args.matches.now)) _ c.device_command.ensures.ok

pub returns-in-Device-clause-err : goal.returns-in-Device-clause-err
unfolding meaning
returns-in-Device-clause-err c = err c.args.word _ c.in-Device.is (rows_of (found_of c.args.matches.now)) _ c.device_command.ensures.err

pub returns-in-ListRules-clause-ok : goal.returns-in-ListRules-clause-ok
unfolding meaning
returns-in-ListRules-clause-ok c = ok c.args.word _ c.in-ListRules.is (rows_of (found_of c.args.matches.now)) _ c.list_rules.ensures.ok

pub returns-in-ListRules-clause-err : goal.returns-in-ListRules-clause-err
unfolding meaning
returns-in-ListRules-clause-err c = err c.args.word _ c.in-ListRules.is (rows_of (found_of c.args.matches.now)) _ c.list_rules.ensures.err

pub returns-in-AppendRule-clause-ok : goal.returns-in-AppendRule-clause-ok
unfolding meaning
returns-in-AppendRule-clause-ok c = ok c.args.word _ c.in-AppendRule.is (rows_of (found_of c.args.matches.now)) _ (c.ask_for-in-AppendRule.ensures.ok (append_rule_in (rows_of (found_of c.args.matches.now))) c.append_rule.ensures.ok)

pub returns-in-AppendRule-clause-err : goal.returns-in-AppendRule-clause-err
unfolding meaning
returns-in-AppendRule-clause-err c = err c.args.word _ c.in-AppendRule.is (rows_of (found_of c.args.matches.now)) _ (c.ask_for-in-AppendRule.ensures.err (append_rule_in (rows_of (found_of c.args.matches.now))) c.append_rule.ensures.ok c.append_rule.ensures.err)

pub returns-in-RemoveRule-clause-ok : goal.returns-in-RemoveRule-clause-ok
unfolding meaning
returns-in-RemoveRule-clause-ok c = ok c.args.word _ c.in-RemoveRule.is (rows_of (found_of c.args.matches.now)) _ (c.ask_for-in-RemoveRule.ensures.ok (remove_rule_in (rows_of (found_of c.args.matches.now))) c.remove_rule.ensures.ok)

pub returns-in-RemoveRule-clause-err : goal.returns-in-RemoveRule-clause-err
unfolding meaning
returns-in-RemoveRule-clause-err c = err c.args.word _ c.in-RemoveRule.is (rows_of (found_of c.args.matches.now)) _ (c.ask_for-in-RemoveRule.ensures.err (remove_rule_in (rows_of (found_of c.args.matches.now))) c.remove_rule.ensures.ok c.remove_rule.ensures.err)

pub returns-in-Watch-clause-ok : goal.returns-in-Watch-clause-ok
unfolding meaning
returns-in-Watch-clause-ok c = ok c.args.word _ c.in-Watch.is (rows_of (found_of c.args.matches.now)) _ c.watch.ensures.ok

pub returns-in-Watch-clause-err : goal.returns-in-Watch-clause-err
unfolding meaning
returns-in-Watch-clause-err c = err c.args.word _ c.in-Watch.is (rows_of (found_of c.args.matches.now)) _ c.watch.ensures.err

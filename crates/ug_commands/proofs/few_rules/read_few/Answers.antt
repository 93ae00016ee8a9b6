use Rattle.std.proofs.lemmas.Result.{IfOk-weaker}
use Rattle.ug_lint.proofs.ReadRules.{file_well}
use Rattle.ug_commands.proofs.few_rules.read_few.Goals as goal

pub returns-clause-well_formed : goal.returns-clause-well_formed
returns-clause-well_formed c = IfOk-weaker c.rules_of.result _ _ (λ rules read. file_well c.args.bytes.now rules.items read) c.rules_of.ensures.read

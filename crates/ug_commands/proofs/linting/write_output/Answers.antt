use Rattle.std.proofs.Common.{ℕ, List, subst, sym}
use Rattle.ug_types.specs.Limits.{text_limit}
use Rattle.ug_command_io.proofs.WholeInputs.{tells-line}
use Rattle.ug_command_io.specs.declared.results.Ended.TheVariants.{Done}
use Rattle.ug_commands.specs.Linting.{IsOutput, TellsLintFault, lint_end, lint_fault_line}
use Rattle.ug_commands.proofs.Linted.{refused}
use Rattle.ug_commands.proofs.linting.write_output.Goals as goal

pub returns-in-Ok-clause-told : goal.returns-in-Ok-clause-told
returns-in-Ok-clause-told g c = λ left e. tells-line text_limit (IsOutput c.args.pruned) TellsLintFault c.args.bytes.now left (g.K.Sink.held c.args.out.now) (g.K.Sink.held c.write_result.new.out) c.bytes.result.now Done c.write_result.result
    (e, (c.requires, subst (λ (text : List ℕ). IsOutput c.args.pruned c.args.bytes.now text) (sym c.bytes.ensures) c.in-Ok.ensures.output)) c.write_result.ensures.told

pub returns-in-Err-clause-told : goal.returns-in-Err-clause-told
returns-in-Err-clause-told g c = λ left e. tells-line text_limit (IsOutput c.args.pruned) TellsLintFault c.args.bytes.now left (g.K.Sink.held c.args.out.now) (g.K.Sink.held c.refuse_rules.new.out) (lint_fault_line c.in-Err.fault) (lint_end c.in-Err.fault) c.refuse_rules.result
    (refused c.args.pruned c.args.bytes.now left c.in-Err.fault c.requires e c.in-Err.ensures.fault) c.refuse_rules.ensures.told

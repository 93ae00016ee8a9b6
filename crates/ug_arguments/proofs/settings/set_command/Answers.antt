use Rattle.std.proofs.Common.{◌≡◌, ◌∙◌, Bool, false, List, Some, Result, IfOk, sym, subst}
use Rattle.std.specs.Prelude.{codes, if◌then◌else◌}
use Rattle.clap.specs.Words.{Row, found_of, rows_of}
use Rattle.ug_arguments.specs.Commands.{ask_in, change_parameter_in, set_command_in, set_parameter_in}
use Rattle.ug_arguments.specs.Values.{is_set}
use Rattle.ug_arguments.specs.declared.command.Command.{Command}
use Rattle.ug_arguments.specs.declared.command.WordsFault.{WordsFault}
use Rattle.ug_arguments.proofs.settings.set_command.Goals as goal

silent : (rows : List Row) (result : Result Command WordsFault) → is_set (codes "verbose") rows ≡ false
    → IfOk result (λ c. ask_in (set_parameter_in rows) rows ≡ Some c) → IfOk result (λ c. set_command_in rows ≡ Some c)
silent rows result e h = subst (λ (v : Bool). IfOk result (λ c. (if v then change_parameter_in rows else ask_in (set_parameter_in rows) rows) ≡ Some c)) (sym e) h

pub returns-else-is_set-clause-ok : goal.returns-else-is_set-clause-ok
returns-else-is_set-clause-ok c =
    let rows = rows_of (found_of c.args.matches.now) in
    silent rows c.ask_for.result (sym c.is_set.ensures ∙ c.if-is_set.false) (c.ask_for.ensures.ok (set_parameter_in rows) c.set_parameter.ensures.ok)

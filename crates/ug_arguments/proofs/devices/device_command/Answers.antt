use Rattle.std.proofs.Common.{◌≡◌, ◌∙◌, Bool, true, List, ℕ, Option, Some, Result, IfOk, sym, subst}
use Rattle.std.specs.Prelude.{codes, if◌then◌else◌, is_some}
use Rattle.clap.specs.Words.{Row, first_of, found_of, rows_of}
use Rattle.ug_lines.specs.Numbers.{number_in}
use Rattle.ug_types.specs.declared.verdict.Target.{Target}
use Rattle.ug_arguments.specs.Commands.{ask_in, device_in, order_by, order_in}
use Rattle.ug_arguments.specs.declared.command.Command.{Command}
use Rattle.ug_arguments.specs.declared.command.WordsFault.{WordsFault}
use Rattle.ug_arguments.proofs.devices.device_command.Goals as goal

by_number : (target : Target) (rows : List Row) (found : Option (List ℕ)) (text : List ℕ) (result : Result Command WordsFault) → found ≡ Some text → is_some (number_in text) ≡ true
    → IfOk result (λ c. ask_in (device_in target rows) rows ≡ Some c) → IfOk result (λ c. order_by target found rows ≡ Some c)
by_number target rows found text result e n h =
    subst (λ (f : Option (List ℕ)). IfOk result (λ c. order_by target f rows ≡ Some c)) (sym e)
    (subst (λ (v : Bool). IfOk result (λ c. (if v then ask_in (device_in target rows) rows else order_in target text rows) ≡ Some c)) (sym n) h)

pub returns-then-is_number-clause-ok : goal.returns-then-is_number-clause-ok
returns-then-is_number-clause-ok c =
    let rows = rows_of (found_of c.args.matches.now) in
    by_number c.args.target rows (first_of (codes "number") rows) c.in-Some.text.now c.ask_for.result (sym c.in-Some.ensures) (sym c.is_number.ensures ∙ c.if-is_number.true) (c.ask_for.ensures.ok (device_in c.args.target rows) c.device.ensures.ok)

use Rattle.std.proofs.Common.{ap, sym, ◌∙◌, ◌-◌, ℕ}
use Rattle.ug_lines.specs.Numbers.{number_in}
use Rattle.ug_types.proofs.Known.{to_end}
use Rattle.ug_client.proofs.Missing.{behind_missing}
use Rattle.ug_client.proofs.so_far.missing_behind.Goals as goal

pub returns-in-Some : goal.returns-in-Some
returns-in-Some c =
    behind_missing c.args.line.now c.args.behind.now c.in-Some.count c.saturating_sub.result (sym c.starts_with.ensures.value ∙ c.if-not-starts_with.false)
    (sym (ap number_in (to_end 3 c.args.line.now)) ∙ sym c.in-Some.ensures)
    (c.saturating_sub.ensures ∙ ap (λ (n : ℕ). c.in-Some.count - n) c.count_newlines.ensures)

use Rattle.std.proofs.Common.{◌∙◌, Bool, ap, sym}
use Rattle.ug_core.specs.Hinting.{names_due}
use Rattle.ug_core.proofs.hinting.names_due.Goals as goal

pub returns-then-listed-clause-due : goal.returns-then-listed-clause-due
returns-then-listed-clause-due c =
    let sorted = c.in_order.new.names.items in
    (sorted, c.in_order.ensures.order, c.in_order.ensures.same, c.from_vec.ensures ∙ ap (λ (listed : Bool). names_due listed sorted) (sym c.if-listed.true))

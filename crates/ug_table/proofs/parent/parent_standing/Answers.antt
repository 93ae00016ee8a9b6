use Rattle.std.proofs.Common.{List, ℕ, Some, ap, sym, ◌∙◌}
use Rattle.ug_table.proofs.MapChanges.{named_has}
use Rattle.ug_table.proofs.parent.parent_standing.Goals as goal

pub returns-in-Some-clause-parent : goal.returns-in-Some-clause-parent
returns-in-Some-clause-parent c = λ s e.
    let k = named_has c.in-Some.parent c.args.standings.now.items s (sym c.named.ensures ∙ e) in
    sym c.in-Some.ensures ∙ ap (λ (v : List ℕ). Some v) (sym k.1)

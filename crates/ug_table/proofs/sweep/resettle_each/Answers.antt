use Rattle.std.proofs.Common.{length, ap, ◌∙◌, arith}
use Rattle.std.proofs.lemmas.List.{length-map}
use Rattle.ug_table.specs.declared.standing.Standing.{Standing}
use Rattle.ug_table.proofs.sweep.resettle_each.Goals as goal

pub returns-clause-journal : goal.returns-clause-journal
returns-clause-journal g c =
    let names = ap length c.deref.ensures.value ∙ ap length c.names_into.ensures.names in
    let each = length-map c.args.standings.now.items (λ (s : Standing). s.name) in
    let journal = c.resettle_all.ensures.journal in
    (journal.0, journal.1, omega (arith, names, each, journal.2))

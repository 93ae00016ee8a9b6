use Rattle.std.proofs.Common.{◌∙◌, sym, ap, Some}
use Rattle.ug_table.specs.declared.standing.Known.{Known}
use Rattle.ug_table.proofs.Agreement.{known_named, known_some}
use Rattle.ug_table.proofs.kept.Standings.find.Goals as goal

pub returns-in-Some : goal.returns-in-Some
returns-in-Some c = ap (λ (k : Known). Some k) c.known_of.ensures ∙ ap known_some c.in-Some.ensures ∙ sym (known_named c.args.name.now c.args.self.now.items)

pub returns-in-None : goal.returns-in-None
returns-in-None c = ap known_some c.in-None.ensures ∙ sym (known_named c.args.name.now c.args.self.now.items)

use Rattle.std.proofs.Common.{◌≡◌, ◌∙◌, ap, sym, subst, Some}
use Rattle.std.specs.BTreeMap.{get}
use Rattle.std.specs.Ordering.{nat_cmp}
use Rattle.ug_types.specs.Elements.{Has}
use Rattle.ug_table.specs.declared.standing.Standing.{Standing}
use Rattle.ug_table.specs.Standings.{numbered}
use Rattle.ug_table.specs.Slots.{Store}
use Rattle.ug_table.proofs.MapChanges.{numbered_unknown}
use Rattle.ug_table.proofs.Agreement.{numbered_by}
use Rattle.ug_table.proofs.kept.Standings.numbered.Goals as goal

pub returns-in-None : goal.returns-in-None
returns-in-None c = sym (numbered_unknown c.args.number c.args.self.now.items (get nat_cmp c.self.inside.by_number) (subst (λ (k : Store). (s : Standing) → Has k.items s → get nat_cmp c.self.inside.by_number s.number ≡ Some s.name) c.self.view_is c.self.invariant.0.numbers) (sym c.in-None.ensures.value))

pub returns : goal.returns
returns c =
    c.find.ensures
    ∙ sym (numbered_by c.self.inside.by_name c.self.inside.by_number c.self.inside.place _ _ c.args.number c.in-Some.name.now c.self.invariant.0 (sym c.in-Some.ensures.value))
    ∙ ap (λ (k : Store). numbered c.args.number k.items) c.self.view_is

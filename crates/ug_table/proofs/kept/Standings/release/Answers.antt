use Rattle.std.proofs.Common.{◌∙◌, ap, sym, subst, not, List}
use Rattle.ug_table.specs.declared.standing.Standing.{Standing}
use Rattle.ug_table.specs.Standings.{same_name}
use Rattle.ug_table.specs.Watched.{AnswersFor}
use Rattle.ug_table.specs.Slots.{Store, filled}
use Rattle.ug_table.proofs.Agreement.{agree_release, held_unnamed, without_absent}
use Rattle.ug_table.proofs.Watched.{answers_kept}
use Rattle.ug_table.proofs.kept.Standings.release.Goals as goal

pub invariant_of-self : goal.invariant_of-self
invariant_of-self c = (
  agree_release c.self.inside.by_name c.forget.new.slots c.self.inside.by_number c.remove-number.new.self c.self.inside.place c.self.inside.retry.items _ c.in-Some.place c.self.invariant.0 c.in-Some.is c.forget.ensures.items c.forget.ensures.ordered c.forget.ensures.bear c.forget.ensures.empty c.forget.ensures.len c.remove-number.ensures.updates.0,
  subst (λ (v : List Standing). AnswersFor c.self.inside.watch v) (sym c.forget.ensures.items) (answers_kept c.self.inside.watch (filled c.self.inside.by_name.entries) (λ (s : Standing). not (same_name s.name c.in-Some.place.name)) c.self.invariant.1),
)

pub returns-clause-items : goal.returns-clause-items
returns-clause-items c =
    let f = c.self.inside in
    let free = held_unnamed f.by_name f.by_number f.place _ _ c.in-Some.place c.self.invariant.0 c.in-Some.is in
    c.forget.ensures.items ∙ without_absent c.in-Some.place.name (filled f.by_name.entries) free ∙ ap (λ (k : Store). k.items) c.self.view_is

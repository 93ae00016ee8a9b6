use Rattle.std.proofs.Common.{◌∙◌, ap, sym, subst, List, Option}
use Rattle.ug_table.specs.declared.standing.Standing.{Standing}
use Rattle.ug_table.specs.declared.watch.Watch.{Watch}
use Rattle.ug_table.specs.Standings.{place_for}
use Rattle.ug_table.specs.Watched.{AnswersFor, looked_at}
use Rattle.ug_table.specs.Slots.{Store, filled, named_by}
use Rattle.ug_table.proofs.Agreement.{agree_put, put_fits, held_slot}
use Rattle.ug_table.proofs.Watched.{answers_put}
use Rattle.ug_table.proofs.kept.Standings.put.Goals as goal

pub note_mark-requires : goal.note_mark-requires
note_mark-requires c t f =
    let place = ap (λ (k : Store). k.place) c.self.view_is ∙ c.requires.place in
    put_fits c.self.inside.by_name c.self.inside.by_number c.self.inside.place c.self.inside.retry.items _ (record { name = c.args.standing.name; number = c.args.standing.number }) c.self.invariant.0 place

pub fill-requires-clause-place : goal.fill-requires-clause-place
fill-requires-clause-place c =
    let place = ap (λ (k : Store). k.place) c.self.view_is ∙ c.requires.place in
    held_slot c.self.inside.by_name c.self.inside.by_number c.self.inside.place _ _ (record { name = c.args.standing.name; number = c.args.standing.number }) c.self.invariant.0 place

pub fill-requires-clause-only : goal.fill-requires-clause-only
fill-requires-clause-only c = c.self.invariant.0.empty ∙ ap named_by (ap (λ (k : Store). k.place) c.self.view_is ∙ c.requires.place)

pub invariant_of-self : goal.invariant_of-self
invariant_of-self c =
    let place = ap (λ (k : Store). k.place) c.self.view_is ∙ c.requires.place in (
      agree_put c.self.inside.by_name c.fill.new.slots c.self.inside.by_number c.self.inside.place c.self.inside.retry.items c.note_mark.new.retry.items _ _ c.args.standing c.self.invariant.0 place c.fill.ensures.items c.fill.ensures.ordered c.fill.ensures.bear c.fill.ensures.empty c.fill.ensures.len c.note_mark.ensures.items c.note_mark.ensures.capacity,
      let f = c.self.inside in
          let ss = filled f.by_name.entries in
          subst (λ (v : Option Watch). AnswersFor v (filled c.fill.new.slots.entries)) (sym c.look_at.ensures) (subst (λ (v : List Standing). AnswersFor (looked_at c.args.standing f.watch) v) (sym c.fill.ensures.items) (answers_put f.watch ss (place_for c.args.standing.name ss) c.args.standing c.self.invariant.1)),
    )

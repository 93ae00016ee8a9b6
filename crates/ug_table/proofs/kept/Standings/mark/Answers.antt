use Rattle.std.proofs.Common.{◌∙◌, ap, sym, subst, refl, List, Option}
use Rattle.ug_types.specs.Elements.{AllDistinct}
use Rattle.ug_table.specs.declared.standing.Standing.{Standing}
use Rattle.ug_table.specs.declared.watch.Watch.{Watch}
use Rattle.ug_table.specs.Sweep.{names_of}
use Rattle.ug_table.specs.Watched.{AnswersFor, if_looked}
use Rattle.ug_table.specs.Standings.{named, marked}
use Rattle.ug_table.specs.Slots.{Store, filled}
use Rattle.ug_table.proofs.MapChanges.{distinct_names, other_settled}
use Rattle.ug_table.proofs.Agreement.{agree_mark, mark_fits}
use Rattle.ug_table.proofs.Watched.{answers_again}
use Rattle.ug_table.proofs.Entries.{map_absent, marked_other}
use Rattle.ug_table.proofs.kept.Standings.mark.Goals as goal

pub returns-in-None : goal.returns-in-None
returns-in-None c = record { len = refl; items = sym (map_absent (marked c.args.name.now c.args.settled) c.args.name.now c.args.self.now.items (marked_other c.args.name.now c.args.settled) (ap (λ (k : Store). named c.args.name.now k.items) (sym c.self.view_is) ∙ sym c.in-None.ensures)) }

pub note_mark-requires : goal.note_mark-requires
note_mark-requires c t f = mark_fits c.self.inside.by_name c.self.inside.by_number c.self.inside.place c.self.inside.retry.items _ c.args.name.now c.in-Some.s.now c.self.invariant.0 (sym c.in-Some.ensures) t

pub invariant_of-self : goal.invariant_of-self
invariant_of-self c = (
  agree_mark c.self.inside.by_name c.mark.new.slots c.self.inside.by_number c.self.inside.place c.self.inside.retry.items c.note_mark.new.retry.items _ _ c.args.name.now c.args.settled c.in-Some.s.now c.self.invariant.0 (sym c.in-Some.ensures) c.mark.ensures.items c.mark.ensures.ordered c.mark.ensures.bear c.mark.ensures.empty c.mark.ensures.len c.note_mark.ensures.items c.note_mark.ensures.capacity,
  let f = c.self.inside in
      let ss = filled f.by_name.entries in
      let mark = marked c.args.name.now c.args.settled in
      let distinct = subst (λ (v : List Standing). AllDistinct (names_of v)) c.mark.ensures.items (distinct_names c.mark.new.slots.entries c.mark.ensures.ordered c.mark.ensures.bear) in
      let again = answers_again mark c.args.name.now f.watch ss (λ s. refl) (λ s a ne. other_settled c.args.name.now c.args.settled s ne) distinct c.self.invariant.1 in
      subst (λ (v : Option Watch). AnswersFor v (filled c.mark.new.slots.entries)) (sym c.look_again.ensures) (subst (λ (v : List Standing). AnswersFor (if_looked (named c.args.name.now v) f.watch) v) (sym c.mark.ensures.items) again),
)

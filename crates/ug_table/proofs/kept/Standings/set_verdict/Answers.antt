use Rattle.std.proofs.Common.{◌≡◌, ◌∙◌, ap, sym, subst, refl, List, Option}
use Rattle.ug_table.specs.declared.watch.Watch.{Watch}
use Rattle.ug_table.specs.Orders.{ordered_standing}
use Rattle.ug_table.specs.Sweep.{names_of}
use Rattle.ug_table.specs.Watched.{AnswersFor, if_looked}
use Rattle.ug_table.specs.Slots.{Store, filled}
use Rattle.std.specs.BTreeMap.{get}
use Rattle.std.specs.Ordering.{nat_cmp}
use Rattle.ug_table.specs.declared.standing.Standing.{Standing}
use Rattle.ug_table.proofs.MapChanges.{one_numbered, distinct_names}
use Rattle.ug_table.proofs.Agreement.{agree_distinct, numbered_has, order_none, agree_order, unordered}
use Rattle.ug_table.proofs.Watched.{answers_again}
use Rattle.ug_table.proofs.Entries.{name_same, same_refl}
use Rattle.std.proofs.lemmas.Bool.{both_ways}
use Rattle.ug_types.specs.Elements.{Has, AllDistinct}
use Rattle.ug_types.proofs.Elements.{distinct_one}
use Rattle.ug_table.specs.Standings.{named, same_name}
use Rattle.ug_table.proofs.kept.Standings.set_verdict.Goals as goal

pub returns-in-None-clause-items : goal.returns-in-None-clause-items
returns-in-None-clause-items c = sym (order_none c.args.number c.args.verdict c.args.who c.args.self.now.items (sym c.in-None.ensures))

pub order-requires-clause-own : goal.order-requires-clause-own
order-requires-clause-own c s a f e =
    let x = c.in-Some.s.now in
    let k = numbered_has c.args.number c.args.self.now.items x (sym c.in-Some.ensures) in
    let h = subst (λ (v : Store). Has v.items x) (sym c.self.view_is) k.0 in
    let is : s ≡ x = one_numbered (filled c.self.inside.by_name.entries) (get nat_cmp c.self.inside.by_number) s x (agree_distinct c.self.inside.by_name c.self.inside.by_number c.self.inside.place _ _ c.self.invariant.0) c.self.invariant.0.numbers a h (e ∙ sym k.1) in
    both_ways (same_name s.name x.name) f (ap (λ (v : Standing). same_name v.name x.name) is ∙ same_refl x.name)

pub order-requires-clause-numbered : goal.order-requires-clause-numbered
order-requires-clause-numbered c s a t =
    let x = c.in-Some.s.now in
    let k = numbered_has c.args.number c.args.self.now.items x (sym c.in-Some.ensures) in
    let h = subst (λ (v : Store). Has v.items x) (sym c.self.view_is) k.0 in
    let is : s ≡ x = distinct_one (λ (v : Standing). v.name) (filled c.self.inside.by_name.entries) s x (agree_distinct c.self.inside.by_name c.self.inside.by_number c.self.inside.place _ _ c.self.invariant.0) a h (name_same s.name x.name t) in
    ap (λ (v : Standing). v.number) is ∙ k.1

pub invariant_of-self : goal.invariant_of-self
invariant_of-self c = (
  agree_order c.self.inside.by_name c.order.new.slots c.self.inside.by_number c.self.inside.place c.self.inside.retry.items _ c.args.number c.args.verdict c.args.who c.self.invariant.0 c.order.ensures.items c.order.ensures.ordered c.order.ensures.bear c.order.ensures.empty c.order.ensures.len,
  let f = c.self.inside in
      let ss = filled f.by_name.entries in
      let x = c.in-Some.s.now in
      let k = numbered_has c.args.number c.args.self.now.items x (sym c.in-Some.ensures) in
      let h = subst (λ (v : Store). Has v.items x) (sym c.self.view_is) k.0 in
      let distinct = subst (λ (v : List Standing). AllDistinct (names_of v)) c.order.ensures.items (distinct_names c.order.new.slots.entries c.order.ensures.ordered c.order.ensures.bear) in
      let others : (s : Standing) → Has ss s → (s.name ≡ x.name → ⊥) → ordered_standing c.args.number c.args.verdict c.args.who s ≡ s = λ s a ne. unordered c.args.number c.args.verdict c.args.who s (λ e. ne (ap (λ (v : Standing). v.name) (one_numbered ss (get nat_cmp f.by_number) s x (agree_distinct f.by_name f.by_number f.place _ _ c.self.invariant.0) c.self.invariant.0.numbers a h (e ∙ sym k.1)))) in
      let again = answers_again (ordered_standing c.args.number c.args.verdict c.args.who) x.name f.watch ss (λ s. refl) others distinct c.self.invariant.1 in
      subst (λ (v : Option Watch). AnswersFor v (filled c.order.new.slots.entries)) (sym c.look_again.ensures) (subst (λ (v : List Standing). AnswersFor (if_looked (named x.name v) f.watch) v) (sym c.order.ensures.items) again),
)

use Rattle.std.proofs.Common.{◌∙◌, ap, sym, subst, arith, List, ℕ}
use Rattle.std.specs.Prelude.{vec_capacity}
use Rattle.std.proofs.lemmas.Bool.{OnTrue_at, OnFalse_at}
use Rattle.ug_table.specs.declared.standing.Standing.{Standing}
use Rattle.ug_table.specs.Standings.{numbered}
use Rattle.ug_table.specs.Watched.{AnswersFor}
use Rattle.ug_table.specs.Slots.{Store, Agree, place_of}
use Rattle.ug_table.proofs.Agreement.{agree_place, agree_refused, ok_from}
use Rattle.ug_table.proofs.kept.Standings.reserve.Goals as goal

pub invariant_of-self-then-make_place : goal.invariant_of-self-then-make_place
invariant_of-self-then-make_place c =
    let f = c.self.inside in
    let none = ap (λ (k : Store). k.place) c.self.view_is ∙ c.release.ensures.place in
    let free = ap (λ (k : Store). numbered c.args.number k.items) c.self.view_is ∙ ap (numbered c.args.number) c.release.ensures.items ∙ c.requires.unnumbered in
    let cap = ok_from c.reserve.result _ (sym c.is_err.ensures.value ∙ c.if-is_err.false) c.reserve.ensures.ok in
    let updates = ok_from c.insert.result _ (sym c.is_err-2.ensures.value ∙ c.if-is_err-2.false) c.insert.ensures.updates in
    let len = c.make_place.ensures.len in
    let count = c.len.ensures.len in (
      subst (λ (r : List ℕ). Agree c.make_place.new.slots c.insert.new.self (place_of c.args.name.now c.args.number) r (vec_capacity c.reserve.new.self)) (sym c.reserve.ensures.items)
          (agree_place f.place f.by_name c.make_place.new.slots f.by_number c.insert.new.self f.retry.items (vec_capacity f.retry) (vec_capacity c.reserve.new.self) c.args.name.now c.args.number none c.self.invariant.0 free c.make_place.ensures.items c.make_place.ensures.ordered c.make_place.ensures.bear (OnTrue_at c.if-make_place.true c.make_place.ensures.place) (omega (arith, cap, len, count)) updates.0),
      subst (λ (v : List Standing). AnswersFor f.watch v) (sym c.make_place.ensures.items) c.self.invariant.1,
    )

pub invariant_of-self-2 : goal.invariant_of-self-2
invariant_of-self-2 c =
    let f = c.self.inside in
    let none = ap (λ (k : Store). k.place) c.self.view_is ∙ c.release.ensures.place in
    let free = ap (λ (k : Store). numbered c.args.number k.items) c.self.view_is ∙ ap (numbered c.args.number) c.release.ensures.items ∙ c.requires.unnumbered in
    let cap = ok_from c.reserve.result _ (sym c.is_err.ensures.value ∙ c.if-is_err.false) c.reserve.ensures.ok in
    let updates = ok_from c.insert.result _ (sym c.is_err-2.ensures.value ∙ c.if-is_err-2.false) c.insert.ensures.updates in
    let len = c.make_place.ensures.len in
    let count = c.len.ensures.len in (
      subst (λ (r : List ℕ). Agree c.make_place.new.slots c.remove-again.new.self f.place r (vec_capacity c.reserve.new.self)) (sym c.reserve.ensures.items)
          (agree_refused f.place f.by_name c.make_place.new.slots f.by_number c.insert.new.self c.remove-again.new.self f.retry.items (vec_capacity f.retry) (vec_capacity c.reserve.new.self) c.args.name.now c.args.number none c.self.invariant.0 free (OnFalse_at c.if-make_place.false c.make_place.ensures.same) c.make_place.ensures.ordered (omega (arith, cap, len, count)) updates.0 c.remove-again.ensures.updates.0),
      subst (λ (v : List Standing). AnswersFor f.watch v) (sym c.make_place.ensures.items) c.self.invariant.1,
    )

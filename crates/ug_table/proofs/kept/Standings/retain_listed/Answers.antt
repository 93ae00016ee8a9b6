use Rattle.std.proofs.Common.{◌∙◌, ap, sym, subst, arith, length, List}
use Rattle.ug_table.specs.Watched.{AnswersFor}
use Rattle.ug_table.specs.declared.standing.Standing.{Standing}
use Rattle.ug_table.specs.Standings.{lists}
use Rattle.ug_table.specs.Slots.{Store, filled}
use Rattle.ug_table.proofs.Agreement.{agree_listed, filter_few}
use Rattle.ug_table.proofs.Watched.{answers_kept}
use Rattle.ug_table.proofs.kept.Standings.retain_listed.Goals as goal

pub invariant_of-self : goal.invariant_of-self
invariant_of-self c =
    let f = c.self.inside in
    let none = ap (λ (k : Store). k.place) c.self.view_is ∙ c.release.ensures.place in (
      agree_listed f.place f.by_name c.retain_listed.new.slots f.by_number c.keep_numbers.new.by_number f.retry.items c.keep_known.new.retry.items _ _ (lists c.args.names.now) none c.self.invariant.0 c.retain_listed.ensures.items c.retain_listed.ensures.ordered c.retain_listed.ensures.bear c.retain_listed.ensures.empty c.retain_listed.ensures.len c.keep_numbers.ensures c.keep_known.ensures.items c.keep_known.ensures.capacity,
      subst (λ (v : List Standing). AnswersFor f.watch v) (sym c.retain_listed.ensures.items) (answers_kept f.watch (filled f.by_name.entries) (λ (s : Standing). lists c.args.names.now s.name) c.self.invariant.1),
    )

pub returns-clause-len : goal.returns-clause-len
returns-clause-len c =
    let now = ap length c.retain_listed.ensures.items in
    let few = filter_few (λ (s : Standing). lists c.args.names.now s.name) (filled c.self.inside.by_name.entries) in
    let same = ap (λ (k : Store). length k.items) c.self.view_is in
    let was = ap length c.release.ensures.items in
    omega (arith, now, few, same, was)

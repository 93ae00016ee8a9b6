use Rattle.std.proofs.Common.{refl, sym, subst, List}
use Rattle.ug_table.specs.declared.standing.Standing.{Standing}
use Rattle.ug_table.specs.Slots.{filled}
use Rattle.ug_table.specs.Standings.{with_default}
use Rattle.ug_table.specs.Watched.{AnswersFor}
use Rattle.ug_table.proofs.Agreement.{agree_default}
use Rattle.ug_table.proofs.Watched.{answers_same}
use Rattle.ug_table.proofs.kept.Standings.mark_default.Goals as goal

pub invariant_of-self : goal.invariant_of-self
invariant_of-self c = (
  agree_default c.self.inside.by_name c.mark_default.new.slots c.self.inside.by_number c.self.inside.place c.self.inside.retry.items _ c.args.name.now c.self.invariant.0 c.mark_default.ensures.items c.mark_default.ensures.ordered c.mark_default.ensures.bear c.mark_default.ensures.empty c.mark_default.ensures.len,
  subst (λ (v : List Standing). AnswersFor c.self.inside.watch v) (sym c.mark_default.ensures.items) (answers_same (with_default c.args.name.now) (λ q s. refl) c.self.inside.watch (filled c.self.inside.by_name.entries) c.self.invariant.1),
)

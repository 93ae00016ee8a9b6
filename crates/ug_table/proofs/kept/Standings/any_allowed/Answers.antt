use Rattle.std.proofs.Common.{◌∙◌, ap, sym, subst, refl, Option}
use Rattle.std.specs.List.{list_any}
use Rattle.ug_table.specs.Allowed.{matches_allowed}
use Rattle.ug_table.specs.Slots.{Store, filled}
use Rattle.ug_table.specs.Watched.{AnswersFor}
use Rattle.ug_table.specs.declared.watch.Watch.{Watch}
use Rattle.ug_table.proofs.Watched.{none_any}
use Rattle.ug_table.proofs.kept.Standings.any_allowed.Goals as goal

pub returns-then-rules_out : goal.returns-then-rules_out
returns-then-rules_out c =
    let ss = filled c.self.inside.by_name.entries in
    let is = c.rules_out.ensures c.if-rules_out.true in
    let nobody = subst (λ (w : Option Watch). AnswersFor w ss) is c.self.invariant.1 in
    sym (none_any (matches_allowed c.args.query.now) ss (nobody refl))
    ∙ ap (λ (k : Store). list_any (matches_allowed c.args.query.now) k.items) c.self.view_is

use Rattle.ug_table.specs.Standings.{lists}
use Rattle.ug_table.specs.declared.standing.Standing.{Standing}
use Rattle.ug_table.proofs.Marks.{keeps_filter, kept_as, kept_fields}
use Rattle.ug_table.proofs.table.Table.part.Goals as goal

pub invariant_of-self : goal.invariant_of-self
invariant_of-self g c = kept_fields _ _ _ _ (kept_as _ _ _ c.retain_listed.ensures.items (keeps_filter (λ (s : Standing). lists c.args.names.now s.name) c.self.inside.standings.items)) c.retain_listed.ensures.len c.self.invariant

use Rattle.std.proofs.Common.{arith, length, ap}
use Rattle.ug_table.specs.Slots.{Store}
use Rattle.ug_table.proofs.MapChanges.{filled_few}
use Rattle.ug_table.proofs.kept.Standings.count.Goals as goal

pub returns-clause-most : goal.returns-clause-most
returns-clause-most c =
    let few = filled_few c.self.inside.by_name.entries in
    let same = ap (λ (k : Store). length k.items) c.self.view_is in
    omega (arith, few, same, c.len.ensures.len)

-- At most 64 members aren't dropped.
use Rattle.std.proofs.Common.{List, ℕ, length, ap, arith}
use Rattle.ug_audit.proofs.Noting.{live_few}
use Rattle.ug_audit.proofs.panel.Panel.note.Goals as goal

pub give_line-requires : goal.give_line-requires
give_line-requires g c =
    let panel = c.args.self.now in
    let few = live_few panel.auditors.items panel.dropped in
    let none = ap (λ (xs : List ℕ). length xs) c.new.ensures in
    omega (arith, few, panel.few, none)

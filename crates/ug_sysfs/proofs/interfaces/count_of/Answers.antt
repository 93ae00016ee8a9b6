use Rattle.std.proofs.Common.{◌≡◌, ℕ, ◌+◌, ◌<◌, Bool, cond, List, length, get_or, drop, sym, ap, ◌∙◌, arith}
use Rattle.std.proofs.lemmas.List.{at_drop_more}
use Rattle.ug_iface.specs.declared.interface.Interface.{Interface}
use Rattle.ug_iface.specs.Bus.{ungone_of}
use Rattle.ug_sysfs.specs.Interfaces.{is_of}
use Rattle.ug_sysfs.proofs.Ungone.{ungone_le}
use Rattle.ug_sysfs.proofs.interfaces.count_of.Goals as goal
use Rattle.ug_sysfs.proofs.interfaces.count_of.Goals.{then-is_of, else-is_of}

from_here : (device : ℕ) (xs : List Interface) (i : ℕ) (d : Interface) (b : Bool) → i < length xs → b ≡ is_of device (get_or xs i d) → ungone_of device (drop i xs) ≡ cond b 1 0 + ungone_of device (drop (i + 1) xs)
from_here device xs i d b lt is = at_drop_more (ungone_of device) xs i d lt ∙ ap (λ (a : Bool). cond a 1 0 + ungone_of device (drop (i + 1) xs)) (sym is)

pub loop-interface-preserved : goal.loop-interface-preserved
loop-interface-preserved c =
    let here = from_here c.args.device c.args.interfaces.now c.loop-interface.interface-index _ c.is_of.result c.loop-interface-test.true c.is_of.ensures in
    elim c.if-is_of.branch [
      | then-is_of w ↦
          let one : cond c.is_of.result 1 0 ≡ 1 = ap {B = ℕ} (λ (b : Bool). cond b 1 0) w.if-is_of.true in
          omega (arith, here, one, w.count-is, c.loop-interface.invariant)
      | else-is_of w ↦
          let none : cond c.is_of.result 1 0 ≡ 0 = ap {B = ℕ} (λ (b : Bool). cond b 1 0) w.if-is_of.false in
          omega (arith, here, none, w.count-is, c.loop-interface.invariant)
    ]

pub overflow_add-count : goal.overflow_add-count
overflow_add-count c =
    let here = from_here c.args.device c.args.interfaces.now c.loop-interface.interface-index _ c.is_of.result c.loop-interface-test.true c.is_of.ensures in
    let one : cond c.is_of.result 1 0 ≡ 1 = ap {B = ℕ} (λ (b : Bool). cond b 1 0) c.if-is_of.true in
    omega (arith, here, one, c.loop-interface.invariant, ungone_le c.args.device c.args.interfaces.now)

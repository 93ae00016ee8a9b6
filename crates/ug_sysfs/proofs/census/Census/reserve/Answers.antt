use Rattle.std.proofs.Common.{length, ap, arith}
use Rattle.ug_sysfs.specs.Listed.{Listed}
use Rattle.ug_sysfs.proofs.Lists.{lists_still}
use Rattle.ug_sysfs.proofs.census.Census.reserve.Goals as goal

pub invariant_of-self-in_err-reserve-3 : goal.invariant_of-self-in_err-reserve-3
invariant_of-self-in_err-reserve-3 c =
    let v = c.self.invariant in
    let still = c.in_err-reserve-3.ensures.err in
    lists_still c.self.inside _ v (ap (λ (x : Listed). x.devices) still) c.reserve.ensures.items c.reserve-2.ensures.items
    (omega (arith, v.room, ap length c.reserve.ensures.items, ap (λ (x : Listed). x.room) still, c.reserve.ensures.capacity))
    (omega (arith, v.kin_room, ap length c.reserve-2.ensures.items, ap (λ (x : Listed). x.room) still, c.reserve-2.ensures.capacity))

pub invariant_of-self-2 : goal.invariant_of-self-2
invariant_of-self-2 c =
    let v = c.self.invariant in
    let more = c.in_ok-reserve-3.ensures.ok in
    lists_still c.self.inside _ v (ap (λ (x : Listed). x.devices) more) c.reserve.ensures.items c.reserve-2.ensures.items
    (omega (arith, ap (λ (x : Listed). x.room) more, ap length c.reserve.ensures.items, c.in_ok-reserve.ensures.ok, c.self.inside.places.ok.0))
    (omega (arith, ap (λ (x : Listed). x.room) more, ap length c.reserve-2.ensures.items, c.in_ok-reserve-2.ensures.ok, c.self.inside.kin.ok.0))

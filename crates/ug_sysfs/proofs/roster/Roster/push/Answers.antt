use Rattle.std.proofs.Common.{◌≡◌, ℕ, ◌<◌, cond, Some, nat_eq, length, None, Result, Ok, Err, sym, ◌∙◌, ap, subst, arith}
use Rattle.std.proofs.lemmas.Bool.{false≢true}
use Rattle.std.specs.Result.{IsOk, OnOk}
use Rattle.std.specs.Cmp.Lexicographic.{pointwise}
use Rattle.std.specs.HashMap.{get}
use Rattle.ug_sysfs.specs.Listed.{Listed}
use Rattle.ug_sysfs.specs.Devices.{find}
use Rattle.ug_sysfs.proofs.Kept.{indexed_born, live_le}
use Rattle.ug_sysfs.proofs.roster.Roster.push.Goals as goal

on_ok : {T E : Type 0} (r : Result T E) (P : Type 0) → IsOk r → OnOk r P → P
on_ok (Ok x) P a b = b
on_ok (Err e) P a b = absurd (false≢true a)

pub invariant_of-self : goal.invariant_of-self
invariant_of-self c =
    let fresh : find c.args.device.name 0 c.self.inside.all.items ≡ None = subst (λ (x : Listed). find c.args.device.name 0 x.devices ≡ None) (sym c.self.view_is) c.requires.fresh in
    let room : 0 < c.self.inside.room = subst (λ (x : Listed). 0 < x.room) (sym c.self.view_is) c.requires.room in
    let u = on_ok c.insert.result _ (c.insert.ensures.succeeds (omega (arith, c.self.invariant.entries))) c.insert.ensures.updates in
    let place : c.len-place.result ≡ length c.self.inside.all.items = omega (arith, c.len-place.ensures, c.self.inside.all.ok.0) in
    indexed_born c.self.inside _ c.args.device c.self.invariant room c.requires.live fresh
    (λ q. u.0 q ∙ ap (λ (k : ℕ). cond (pointwise nat_eq c.args.device.name q) (Some k) (get (pointwise nat_eq) c.self.inside.index q)) place)
    c.push_reserved.ensures.items (omega arith) c.push_reserved.ensures.capacity c.insert.ensures.spare (omega arith)

pub overflow_add-self : goal.overflow_add-self
overflow_add-self c = omega (arith, c.self.invariant.live, live_le c.self.inside.all.items)

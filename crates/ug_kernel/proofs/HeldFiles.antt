-- Devices that lived through, and those of held files.
use Rattle.std.proofs.Common.{◌≡◌, ℕ, Bool, true, false, Some, slice_get, refl, subst}
use Rattle.ug_kernel.specs.declared.device.Device.{Device}
use Rattle.ug_kernel.specs.Kernel.{Kernel, Live, Stays}
use Rattle.ug_kernel.specs.Called.{Lived}
use Rattle.ug_kernel.specs.Quiet.{Grows}
use Rattle.ug_kernel.proofs.Grow.{some_same}

was_live : (was now : Bool) → (was ≡ true → now ≡ true) → now ≡ false → was ≡ false
was_live true now f h = let x = f refl in cc
was_live false now f h = refl

-- what is live was so before
pub live_before : (k l : Kernel) (i : ℕ) (d e : Device) → Grows k l → slice_get k.devices i ≡ Some d → Live l.devices i e → Live k.devices i d × Stays d e
live_before k l i d e g at live =
    let x = g.devices i d at in
    let same : x.0 ≡ e = some_same (slice_get l.devices i) x.0 e x.1 live.at in
    let stays : Stays d e = subst (λ v. Stays d v) same x.2 in
    (record { at = at; here = was_live d.gone e.gone stays.gone live.here }, stays)

-- one that lived through both lived through each, and has its facts at the place between
pub lived_cut : (k m l : Kernel) (i : ℕ) (d : Device) → Grows k m → Grows m l → Lived k.devices l.devices i d → Lived k.devices m.devices i d × ((e : Device) × Lived m.devices l.devices i e × Stays d e)
lived_cut k m l i d g j lives =
    let x = g.devices i d lives.entry.at in
    let b = live_before m l i x.0 lives.exit.0 j x.1 lives.exit.1 in
    (record { entry = lives.entry; exit = (x.0, b.0) }, (x.0, record { entry = b.0; exit = lives.exit }, x.2))

use Rattle.std.proofs.Common.{ℕ, List, ◌++◌, ◌∙◌, length, Option, Some, refl, sym, ap, add-one, arith}
use Rattle.std.proofs.lemmas.Option.{slice_get_read}
use Rattle.ug_kernel.specs.declared.device.Device.{Device}
use Rattle.ug_generate.specs.Policies.{live_at, live_below}
use Rattle.ug_generate.proofs.places.live_places.Goals as goal

pub loop-place-preserved : goal.loop-place-preserved
loop-place-preserved c =
    let devices : List Device = c.args.devices.now in
    let place : ℕ = c.loop-place.place in
    let device : Device = c.index-devices-place.result in
    rw add-one (
    c.in_ok-push_live.ensures
    ∙ ap (λ (live : List (List ℕ × ℕ)). live ++ live_at place (Some device)) c.loop-place.invariant
    ∙ ap (λ (found : Option Device). live_below devices place ++ live_at place found)
    (sym (slice_get_read devices (length devices) place device refl (omega arith) c.index-devices-place.is))
    )

use Rattle.std.proofs.Common.{◌∙◌, ap, sym}
use Rattle.std.proofs.Common.{◌++◌, ℕ, List, drop, ◌+◌}
use Rattle.ug_sysfs.specs.Living.{names_at_places}
use Rattle.ug_sysfs.proofs.Lives.{one_name, no_name}
use Rattle.ug_sysfs.proofs.devices.names_at.Goals as goal
use Rattle.ug_sysfs.proofs.devices.names_at.Goals.{in-Some+in_ok-push, in_default}

pub loop-place-preserved : goal.loop-place-preserved
loop-place-preserved c =
    let ds = c.args.devices.now in
    let is = c.args.places.now in
    let k = c.loop-place.place-index in
    elim c.match-name_at.branch [
      | in-Some+in_ok-push w ↦ ap (λ (ns : List (List ℕ)). ns ++ names_at_places (drop (k + 1) is) ds) (w.names-is ∙ w.in_ok-push.ensures.ok) ∙ one_name c.loop-place.names is ds k _ c.loop-place-test.true (sym w.in-Some.is ∙ c.name_at.ensures) ∙ c.loop-place.invariant
      | in_default w ↦ ap (λ (ns : List (List ℕ)). ns ++ names_at_places (drop (k + 1) is) ds) w.names-is ∙ no_name c.loop-place.names is ds k c.loop-place-test.true (sym w.in_default.is ∙ c.name_at.ensures) ∙ c.loop-place.invariant
    ]

use Rattle.std.proofs.Common.{◌≡◌, ℕ, List, length, Some, slice_get, refl, sym, ap, ◌∙◌}
use Rattle.std.specs.Option.{option_map}
use Rattle.std.proofs.lemmas.Bool.{ltb-true}
use Rattle.std.proofs.lemmas.Option.{slice_get_past, slice_get_read}
use Rattle.ug_types.specs.declared.record.Attrs.{Attrs}
use Rattle.ug_kernel.specs.declared.device.Device.{Device}
use Rattle.ug_kernel.specs.Bound.{parent_attrs_of}
use Rattle.ug_generate.specs.Policies.{parent_files}
use Rattle.ug_generate.proofs.files.parent_files.Goals as goal

pub returns-in_ok-files_for_child-in-Some-get : goal.returns-in_ok-files_for_child-in-Some-get
returns-in_ok-files_for_child-in-Some-get c =
    let ds : List Device = c.args.devices.now in
    let place : ℕ = c.in-Some.place in
    let device : Device = c.in-Some-get.device.now in
    let there : slice_get ds place ≡ Some device = slice_get_read ds (length ds) place device refl (ltb-true place (length ds) (sym c.in-Some-get.ensures.lookup.0)) c.in-Some-get.ensures.lookup.1 in
    ap (λ (attrs : Attrs). Some attrs) c.in_ok-files_for_child-in-Some-get.ensures
    ∙ sym (ap (parent_files ds) c.in-Some.is ∙ ap (option_map parent_attrs_of) there)

pub returns-in-None : goal.returns-in-None
returns-in-None c =
    let ds : List Device = c.args.devices.now in
    sym (ap (parent_files ds) c.in-Some.is ∙ ap (option_map parent_attrs_of) (slice_get_past ds c.in-Some.place c.in-None.ensures.lookup.3))

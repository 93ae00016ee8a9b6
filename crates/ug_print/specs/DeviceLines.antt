-- Lines of a list of devices: usbguard(1), list-devices.
use Rattle.std.specs.Prelude.{ℕ, List, [], ◌∷◌, codes, decimal}
use Rattle.ug_types.specs.declared.verdict.Target.{Target}
use Rattle.ug_print.specs.Items.{string_text}
use Rattle.ug_print.specs.Words.{joined}
use Rattle.ug_types.specs.Targets.{target_word}

-- the verdict on a device whose descriptors have a fault, its kind and its place, and the device's
-- name
unfoldable pub malformed_text : Target → ℕ → ℕ → List ℕ → List ℕ
malformed_text verdict kind place name =
    joined (target_word verdict ∷ codes "malformed" ∷ decimal kind ∷ decimal place
    ∷ codes "via-port" ∷ string_text name ∷ [])

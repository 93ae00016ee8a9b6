-- The list of devices: usbguard(1), list-devices.
use Rattle.std.specs.Prelude.{ℕ, ◌<◌, ◌≤◌, nat_lt, true, if◌then◌else◌, List, [], ◌∷◌, map, Option, Some, None}
use Rattle.ug_types.specs.Elements.{Has}
use Rattle.ug_types.specs.declared.record.Judged.{Judged}
use Rattle.ug_types.specs.declared.record.Judged.TheVariants.{Good, Malformed}
use Rattle.ug_types.specs.declared.verdict.Target.{Target}
use Rattle.ug_table.specs.declared.standing.Standing.{Standing}
use Rattle.ug_print.specs.DeviceLines.{malformed_text}
use Rattle.ug_print.specs.Generated.{generated_of}
use Rattle.ug_print.specs.Words.{rule_text}
use Rattle.ug_ruleset.specs.Rows.{numbered_row}

-- the canonical text of the device's rule with its port, or the first fault of its descriptors and
-- its name
abbrev pub device_text : List ℕ → Target → Judged → List ℕ
device_text name verdict (Good device) = rule_text (generated_of device verdict true)
device_text name verdict (Malformed kind place) = malformed_text verdict kind place name

-- its number and its device's text, with the verdict on it
unfoldable pub device_row : Standing → List ℕ
device_row s = numbered_row s.number (device_text s.name s.verdict s.judged)

-- behind each standing with a lower number
abbrev pub number_placed : Standing → List Standing → List Standing
number_placed s [] = s ∷ []
number_placed s (x ∷ xs) = if nat_lt x.number s.number then x ∷ number_placed s xs else s ∷ x ∷ xs

-- the standings by number
abbrev pub by_number : List Standing → List Standing
by_number [] = []
by_number (s ∷ ss) = number_placed s (by_number ss)

-- a row for each standing, by number
abbrev pub device_rows : List Standing → List (List ℕ)
device_rows ss = map device_row (by_number ss)

-- each number is below those of the standings behind it
abbrev pub AreRising : List Standing → Type 0
AreRising [] = Unit {0}
AreRising (s ∷ ss) = ((later : Standing) → Has ss later → s.number < later.number) × AreRising ss

-- the standing with the least number from this one on; none exactly where each number is below it
abbrev pub IsFirstFrom : List Standing → ℕ → Option Standing → Type 0
IsFirstFrom ss number None = (s : Standing) → Has ss s → s.number < number
IsFirstFrom ss number (Some first) =
    Has ss first × (number ≤ first.number)
    × ((s : Standing) → Has ss s → number ≤ s.number → first.number ≤ s.number)

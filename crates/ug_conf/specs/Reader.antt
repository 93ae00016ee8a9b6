-- Settings that come a line at a time.
use Rattle.std.specs.Prelude.{◌≡◌, ℕ, ◌+◌, ◌-◌, ◌^◌, min, List, Result, Ok, Err}
use Rattle.ug_types.specs.declared.text_fault.LineFault.TheVariants.{Bad, Memory}
use Rattle.ug_conf.specs.Faults.{SettingLineFault}
use Rattle.ug_conf.specs.Draft.{Draft, setting_line_read}

pub record Progress : Type 0 where
  pub draft : Draft
  -- how many lines were taken
  pub lines : ℕ

-- lines count from 1, and the count stands still at its type's end
abbrev pub next_number : ℕ → ℕ
next_number lines = min (lines + 1) (2 ^ 64 - 1)

-- a line that is taken is counted, and a refusal changes nothing
abbrev pub TakesSettingLine : Result (Unit {0}) SettingLineFault → Progress → Progress → List ℕ
    → Type 0
TakesSettingLine (Ok done) before after line =
    (setting_line_read (next_number before.lines) before.draft line ≡ Ok after.draft)
    × (after.lines ≡ next_number before.lines)
TakesSettingLine (Err (Bad fault)) before after line =
    (setting_line_read (next_number before.lines) before.draft line ≡ Err fault) × (after ≡ before)
TakesSettingLine (Err Memory) before after line = after ≡ before

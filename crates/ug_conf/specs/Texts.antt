-- The settings that a text gives, line by line.
use Rattle.std.specs.Prelude.{ℕ, List, [], Result, Ok, Err}
use Rattle.ug_types.specs.declared.text_fault.TextFault.{TextFault}
use Rattle.ug_lines.specs.LineReading.{on_line, text_read}
use Rattle.ug_conf.specs.declared.settings.Settings.{Settings}
use Rattle.ug_conf.specs.Draft.{Draft, draft_of, setting_line_read}
use Rattle.ug_conf.specs.Faults.{setting_fault_number}
use Rattle.ug_conf.specs.Settings.{defaults}

-- what was set before with what the line of that number sets
abbrev pub setting_line : ℕ → Draft → List ℕ → Result Draft TextFault
setting_line number draft line =
    on_line setting_fault_number number (setting_line_read number draft line)

abbrev pub settled : Result Draft TextFault → Result Settings TextFault
settled (Ok draft) = Ok draft.settings
settled (Err fault) = Err fault

-- the settings of a text, or its first bad line
abbrev pub conf_read : List ℕ → Result Settings TextFault
conf_read text = settled (text_read setting_line (draft_of defaults []) text)

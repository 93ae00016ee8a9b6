-- What lines of settings set, one after the other: usbguard-daemon.conf(5).
use Rattle.std.specs.Prelude.{◌≡◌, ℕ, Bool, true, false, if◌then◌else◌, List, [], ◌∷◌, ◌++◌, Option, Some, None, Result, Ok, Err}
use Rattle.std.specs.List.{list_any}
use Rattle.ug_conf.specs.declared.fault.FaultKind.TheVariants.{NoEquals, UnknownKey, BadValue, Repeated}
use Rattle.ug_types.specs.declared.text_fault.LineFault.TheVariants.{Bad, Memory}
use Rattle.ug_conf.specs.declared.keys.Key.{Key}
use Rattle.ug_conf.specs.declared.settings.AuthDefault.{AuthDefault}
use Rattle.ug_conf.specs.declared.settings.AuthDefault.TheVariants as default
use Rattle.ug_conf.specs.declared.settings.Settings.{Settings}
use Rattle.ug_conf.specs.declared.values.Setting.{Setting}
use Rattle.ug_conf.specs.declared.values.Setting.TheVariants as setting
use Rattle.ug_lines.specs.Cuts.{EquationCut, Skip, NoSign, Sides, cut_of}
use Rattle.ug_types.specs.TextFaults.{fault_of_kind}
use Rattle.ug_lines.specs.LineReading.{then_on}
use Rattle.ug_conf.specs.Faults.{SettingFault, SettingLineFault}
use Rattle.ug_conf.specs.Keys.{key_of, same_key}
use Rattle.ug_conf.specs.Values.{setting_of}

-- the settings so far, and the keys that were set
pub record Draft : Type 0 where
  pub settings : Settings
  pub seen : List Key

abbrev pub draft_of : Settings → List Key → Draft
draft_of settings seen = record { settings = settings; seen = seen }

-- a line with that default sets nothing yet
abbrev pub is_unused : AuthDefault → Bool
is_unused default.Keep = false
is_unused default.None = false
is_unused default.All = false
is_unused default.Internal = true

-- the settings with what the line of that number says
abbrev pub with_setting : ℕ → Setting → Settings → Settings
with_setting number (setting.RuleFile path) s = record s { rule_file = path }
with_setting number (setting.RuleFolder path) s = record s { rule_folder = path }
with_setting number (setting.Implicit target) s = record s { implicit = target }
with_setting number (setting.PresentDevice policy) s = record s { present_device = policy }
with_setting number (setting.PresentController policy) s = record s { present_controller = policy }
with_setting number (setting.Inserted policy) s = record s { inserted = policy }
with_setting number (setting.Default default) s =
    record s {
      default = default;
      unused = if is_unused default then s.unused ++ number ∷ [] else s.unused;
    }
with_setting number (setting.Users users) s = record s { users = users ++ s.users }
with_setting number (setting.Groups groups) s = record s { users = s.users ++ groups }
with_setting number (setting.AccessFolder path) s = record s { access_folder = path }
with_setting number (setting.WithPort with_port) s = record s { with_port = with_port }
with_setting number setting.Unused s = record s { unused = s.unused ++ number ∷ [] }

abbrev pub has_key : List Key → Key → Bool
has_key seen key = list_any (λ k. same_key k key) seen

abbrev pub unless_seen : List Key → Option Key → Result Key SettingFault
unless_seen seen None = Err (fault_of_kind UnknownKey 0)
unless_seen seen (Some key) = if has_key seen key then Err (fault_of_kind Repeated 0) else Ok key

-- the key that a word is, unless it was set before
abbrev pub key_read : List Key → List ℕ → Result Key SettingFault
key_read seen word = unless_seen seen (key_of word)

abbrev pub or_bad : ℕ → Option Setting → Result Setting SettingFault
or_bad place None = Err (fault_of_kind BadValue place)
or_bad place (Some setting) = Ok setting

abbrev pub value_read : ℕ → Key → List ℕ → Result Setting SettingFault
value_read place key text = or_bad place (setting_of key text)

-- a word, and a value at a place
abbrev pub assigned : ℕ → Draft → List ℕ → List ℕ → ℕ → Result Draft SettingFault
assigned number draft word text place =
    then_on (key_read draft.seen word) (λ key. then_on (value_read place key text) (λ setting.
    Ok (draft_of (with_setting number setting draft.settings) (draft.seen ++ key ∷ []))))

-- what a line's cut sets
abbrev pub cut_read : ℕ → Draft → EquationCut → Result Draft SettingFault
cut_read number draft Skip = Ok draft
cut_read number draft NoSign = Err (fault_of_kind NoEquals 0)
cut_read number draft (Sides word value place) = assigned number draft word value place

-- what was set before with what the line of that number sets, or what is wrong with the line
abbrev pub setting_line_read : ℕ → Draft → List ℕ → Result Draft SettingFault
setting_line_read number draft line = cut_read number draft (cut_of line)

-- a call's answer, and what it leaves; a refusal changes nothing
abbrev pub LeavesDraft : Result (Unit {0}) SettingLineFault → Draft → Draft
    → Result Draft SettingFault → Type 0
LeavesDraft (Ok done) before after read = read ≡ Ok after
LeavesDraft (Err (Bad fault)) before after read = (read ≡ Err fault) × (after ≡ before)
LeavesDraft (Err Memory) before after read = after ≡ before

-- Texts of settings as relations: what they set, and their first bad line.
use Rattle.std.specs.Prelude.{◌≡◌, ℕ, ◌⊎◌, Bool, true, false, List, [], ◌++◌, map, filter}
use Rattle.ug_lines.specs.Lines.{lines_of}
use Rattle.ug_lines.specs.Entries.{AreEntries, IsFirstBad}
use Rattle.ug_types.specs.Elements.{Has, AllDistinct}
use Rattle.ug_types.specs.declared.text_fault.TextFault.{TextFault}
use Rattle.ug_conf.specs.declared.keys.Key.{Key}
use Rattle.ug_conf.specs.declared.settings.Settings.{Settings}
use Rattle.ug_conf.specs.declared.values.Setting.{Setting}
use Rattle.ug_conf.specs.declared.values.Setting.TheVariants as setting
use Rattle.ug_conf.specs.Draft.{is_unused}
use Rattle.ug_conf.specs.Faults.{setting_fault_number}
use Rattle.ug_conf.specs.Grammar.{IsSetting, IsBadSetting}
use Rattle.ug_types.specs.Principals.{Named}
use Rattle.ug_conf.specs.Settings.{defaults}

-- what a line sets, and the line's number
pub record Entry : Type 0 where
  pub number : ℕ
  pub key : Key
  pub set : Setting

-- what the line of that number sets
abbrev pub GivesEntry : ℕ → List ℕ → Entry → Type 0
GivesEntry number line entry = (entry.number ≡ number) × IsSetting line entry.key entry.set

-- lines that set nothing yet, and are noted
abbrev pub is_noted : Setting → Bool
is_noted (setting.Default default) = is_unused default
is_noted setting.Unused = true
is_noted _ = false

abbrev pub keys_of : List Entry → List Key
keys_of entries = map (λ entry. entry.key) entries

abbrev pub Sets : List Entry → Setting → Type 0
Sets entries set = Has (map (λ entry. entry.set) entries) set

-- the value that a line sets, or else the default
abbrev pub IsGiven : {X : Type 0} → List Entry → (X → Setting) → X → X → Type 0
IsGiven {X} entries what value default =
    Sets entries (what value) ⊎ (((other : X) → ¬ Sets entries (what other)) × (value ≡ default))

-- the settings that lines give, each of which sets another key
pub record AreSettingsOf (entries : List Entry) (settings : Settings) : Type 0 where
  pub once : AllDistinct (keys_of entries)
  pub users : List Named
  pub groups : List Named
  pub rule_file : IsGiven entries setting.RuleFile settings.rule_file defaults.rule_file
  pub rule_folder : IsGiven entries setting.RuleFolder settings.rule_folder defaults.rule_folder
  pub access_folder : IsGiven entries setting.AccessFolder settings.access_folder
      defaults.access_folder
  pub implicit : IsGiven entries setting.Implicit settings.implicit defaults.implicit
  pub present_device : IsGiven entries setting.PresentDevice settings.present_device
      defaults.present_device
  pub present_controller : IsGiven entries setting.PresentController settings.present_controller
      defaults.present_controller
  pub inserted : IsGiven entries setting.Inserted settings.inserted defaults.inserted
  pub default : IsGiven entries setting.Default settings.default defaults.default
  pub with_port : IsGiven entries setting.WithPort settings.with_port defaults.with_port
  pub users_given : IsGiven entries setting.Users users []
  pub groups_given : IsGiven entries setting.Groups groups []
  pub all_users : settings.users ≡ users ++ groups
  pub unused : settings.unused
      ≡ map (λ entry. entry.number) (filter (λ entry. is_noted entry.set) entries)

-- a text gives these settings
abbrev pub GivesSettings : List ℕ → Settings → Type 0
GivesSettings text settings =
    (entries : List Entry) × AreEntries GivesEntry 1 (lines_of text) entries
    × AreSettingsOf entries settings

-- the lines before are good and set each another key, and this one is bad
abbrev pub IsFirstBadSetting : List ℕ → TextFault → Type 0
IsFirstBadSetting text fault =
    IsFirstBad GivesEntry (λ entry. entry.key) IsBadSetting setting_fault_number text fault

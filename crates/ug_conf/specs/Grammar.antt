-- Lines of settings as relations: usbguard-daemon.conf(5).
use Rattle.std.specs.Prelude.{◌≡◌, ◌≢◌, ℕ, ◌+◌, Bool, true, false, IsTrue, List, [], ◌∷◌, ◌++◌, length, map, codes}
use Rattle.ug_lines.specs.Equations.{IsBlank, AreBlanks, IsTextOf, IsSkipped, IsEquation}
use Rattle.ug_types.specs.Elements.{Has}
use Rattle.ug_lines.specs.Entries.{IsSkippedLine}
use Rattle.ug_types.specs.declared.verdict.Target.{Target}
use Rattle.ug_types.specs.Parameters.{inserted_word}
use Rattle.ug_types.specs.Targets.{target_word}
use Rattle.ug_conf.specs.declared.fault.FaultKind.{FaultKind}
use Rattle.ug_conf.specs.declared.fault.FaultKind.TheVariants.{NoEquals, UnknownKey, BadValue, Repeated}
use Rattle.ug_conf.specs.declared.keys.Key.{Key}
use Rattle.ug_conf.specs.declared.keys.Key.TheVariants as key
use Rattle.ug_conf.specs.declared.settings.AuthDefault.{AuthDefault}
use Rattle.ug_conf.specs.declared.settings.AuthDefault.TheVariants as auth_default
use Rattle.ug_types.specs.declared.parameter.Inserted.{Inserted}
use Rattle.ug_conf.specs.declared.settings.Present.{Present}
use Rattle.ug_conf.specs.declared.settings.Present.TheVariants as present
use Rattle.ug_conf.specs.declared.values.Setting.{Setting}
use Rattle.ug_conf.specs.declared.values.Setting.TheVariants as setting
use Rattle.ug_types.specs.Principals.{Named, is_name}

-- how keys are written
abbrev pub word_of_key : Key → List ℕ
word_of_key key.RuleFile = codes "RuleFile"
word_of_key key.RuleFolder = codes "RuleFolder"
word_of_key key.ImplicitPolicyTarget = codes "ImplicitPolicyTarget"
word_of_key key.PresentDevicePolicy = codes "PresentDevicePolicy"
word_of_key key.PresentControllerPolicy = codes "PresentControllerPolicy"
word_of_key key.InsertedDevicePolicy = codes "InsertedDevicePolicy"
word_of_key key.AuthorizedDefault = codes "AuthorizedDefault"
word_of_key key.IpcAllowedUsers = codes "IPCAllowedUsers"
word_of_key key.IpcAllowedGroups = codes "IPCAllowedGroups"
word_of_key key.IpcAccessControlFiles = codes "IPCAccessControlFiles"
word_of_key key.DeviceRulesWithPort = codes "DeviceRulesWithPort"
word_of_key key.RestoreControllerDeviceState = codes "RestoreControllerDeviceState"
word_of_key key.DeviceManagerBackend = codes "DeviceManagerBackend"
word_of_key key.AuditBackend = codes "AuditBackend"
word_of_key key.AuditFilePath = codes "AuditFilePath"
word_of_key key.HidePii = codes "HidePII"

-- how values are written
abbrev pub present_word : Present → List ℕ
present_word present.Allow = codes "allow"
present_word present.Block = codes "block"
present_word present.Reject = codes "reject"
present_word present.Keep = codes "keep"
present_word present.Apply = codes "apply-policy"

abbrev pub default_word : AuthDefault → List ℕ
default_word auth_default.Keep = codes "keep"
default_word auth_default.None = codes "none"
default_word auth_default.All = codes "all"
default_word auth_default.Internal = codes "internal"

abbrev pub flag_word : Bool → List ℕ
flag_word true = codes "true"
flag_word false = codes "false"

-- at least one byte, and no blank among them
abbrev pub NoBlanks : List ℕ → Type 0
NoBlanks [] = Unit {0}
NoBlanks (b ∷ bytes) = (¬ IsBlank b) × NoBlanks bytes

abbrev pub IsWord : List ℕ → Type 0
IsWord word = (word ≢ []) × NoBlanks word

abbrev pub BeginsBlank : List ℕ → Type 0
BeginsBlank [] = Unit {0}
BeginsBlank (b ∷ bytes) = IsBlank b

-- words with blanks between, and about them
abbrev pub AreSpaced : List (List ℕ) → List ℕ → Type 0
AreSpaced [] text = AreBlanks text
AreSpaced (word ∷ words) text =
    (before : List ℕ) × (rest : List ℕ) × (text ≡ before ++ (word ++ rest)) × AreBlanks before
    × IsWord word × BeginsBlank rest × AreSpaced words rest

-- users or groups, by names of 1 to 32 letters, digits, `_`, `-` and `.`
abbrev pub AreAll : Bool → List Named → Type 0
AreAll group [] = Unit {0}
AreAll group (named ∷ names) =
    (named.group ≡ group) × IsTrue (is_name named.name) × AreAll group names

abbrev pub AreNames : Bool → List Named → List ℕ → Type 0
AreNames group names text = AreSpaced (map (λ named. named.name) names) text × AreAll group names

-- the table of keys, with the values that each can have
abbrev pub IsSettingValue : Key → List ℕ → Setting → Type 0
IsSettingValue key.RuleFile value set = (value ≢ []) × (set ≡ setting.RuleFile value)
IsSettingValue key.RuleFolder value set = set ≡ setting.RuleFolder value
IsSettingValue key.ImplicitPolicyTarget value set =
    (t : Target) × (value ≡ target_word t) × (set ≡ setting.Implicit t)
IsSettingValue key.PresentDevicePolicy value set =
    (p : Present) × (value ≡ present_word p) × (set ≡ setting.PresentDevice p)
IsSettingValue key.PresentControllerPolicy value set =
    (p : Present) × (value ≡ present_word p) × (set ≡ setting.PresentController p)
IsSettingValue key.InsertedDevicePolicy value set =
    (i : Inserted) × (value ≡ inserted_word i) × (set ≡ setting.Inserted i)
IsSettingValue key.AuthorizedDefault value set =
    (d : AuthDefault) × (value ≡ default_word d) × (set ≡ setting.Default d)
IsSettingValue key.IpcAllowedUsers value set =
    (names : List Named) × AreNames false names value × (set ≡ setting.Users names)
IsSettingValue key.IpcAllowedGroups value set =
    (names : List Named) × AreNames true names value × (set ≡ setting.Groups names)
IsSettingValue key.IpcAccessControlFiles value set =
    (value ≢ []) × (set ≡ setting.AccessFolder value)
IsSettingValue key.DeviceRulesWithPort value set =
    (b : Bool) × (value ≡ flag_word b) × (set ≡ setting.WithPort b)
IsSettingValue key.RestoreControllerDeviceState value set = set ≡ setting.Unused
IsSettingValue key.DeviceManagerBackend value set = set ≡ setting.Unused
IsSettingValue key.AuditBackend value set = set ≡ setting.Unused
IsSettingValue key.AuditFilePath value set = set ≡ setting.Unused
IsSettingValue key.HidePii value set = set ≡ setting.Unused

-- a line that sets a key
pub record IsSetting (line : List ℕ) (key : Key) (set : Setting) : Type 0 where
  pub text : List ℕ
  pub value : List ℕ
  pub text_of : IsTextOf line text
  pub shown : ¬ IsSkipped text
  pub equation : IsEquation text (word_of_key key) value
  pub has_value : IsSettingValue key value set

-- what is wrong with a text behind lines that set some keys, and where
abbrev pub IsBad : List Key → List ℕ → FaultKind → ℕ → Type 0
IsBad seen text NoEquals place = (place ≡ 0) × (¬ Has text 61)
IsBad seen text UnknownKey place =
    (place ≡ 0) × (word : List ℕ) × (value : List ℕ) × IsEquation text word value
    × ((key : Key) → ¬ (word ≡ word_of_key key))
IsBad seen text Repeated place =
    (place ≡ 0) × (key : Key) × (value : List ℕ) × IsEquation text (word_of_key key) value
    × Has seen key
IsBad seen text BadValue place =
    (key : Key) × (value : List ℕ) × IsEquation text (word_of_key key) value × (¬ Has seen key)
    × ((set : Setting) → ¬ IsSettingValue key value set) × (length text ≡ place + length value)

abbrev pub IsBadSetting : List Key → List ℕ → FaultKind → ℕ → Type 0
IsBadSetting seen line kind place =
    (text : List ℕ) × IsTextOf line text × (¬ IsSkipped text) × IsBad seen text kind place

-- what a line is behind lines that set some keys: skipped, a key that is
-- set for the first time, or bad
pub data IsSettingsLine (seen : List Key) (line : List ℕ) : Type 0 where
  Skipped : IsSkippedLine line → IsSettingsLine seen line
  SetsKey : (key : Key) (set : Setting) → IsSetting line key set → ¬ Has seen key
      → IsSettingsLine seen line
  Bad : (kind : FaultKind) (place : ℕ) → IsBadSetting seen line kind place
      → IsSettingsLine seen line

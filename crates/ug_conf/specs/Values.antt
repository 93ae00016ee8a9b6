-- The values that each key can have: usbguard-daemon.conf(5).
use Rattle.std.specs.Prelude.{ℕ, Bool, true, false, nat_eq, if◌then◌else◌, List, [], ◌∷◌, codes, Option, Some, None}
use Rattle.std.specs.Cmp.Lexicographic.{pointwise}
use Rattle.std.specs.Option.{option_map}
use Rattle.ug_types.specs.Parameters.{inserted_of}
use Rattle.ug_types.specs.Targets.{target_of}
use Rattle.ug_conf.specs.declared.keys.Key.{Key}
use Rattle.ug_conf.specs.declared.keys.Key.TheVariants as key
use Rattle.ug_conf.specs.declared.settings.AuthDefault.{AuthDefault}
use Rattle.ug_conf.specs.declared.settings.AuthDefault.TheVariants as auth_default
use Rattle.ug_conf.specs.declared.settings.Present.{Present}
use Rattle.ug_conf.specs.declared.settings.Present.TheVariants as present
use Rattle.ug_conf.specs.declared.values.Setting.{Setting}
use Rattle.ug_conf.specs.declared.values.Setting.TheVariants as setting
use Rattle.ug_conf.specs.Names.{words_between, all_named}

abbrev pub all_presents : List Present
all_presents =
    present.Allow ∷ present.Block ∷ present.Reject ∷ present.Keep ∷ present.Apply ∷ []

unfoldable pub present_of : List ℕ → Option Present
present_of word =
    if pointwise nat_eq word (codes "allow") then Some present.Allow else
    if pointwise nat_eq word (codes "block") then Some present.Block else
    if pointwise nat_eq word (codes "reject") then Some present.Reject else
    if pointwise nat_eq word (codes "keep") then Some present.Keep else
    if pointwise nat_eq word (codes "apply-policy") then Some present.Apply else None

abbrev pub all_defaults : List AuthDefault
all_defaults =
    auth_default.Keep ∷ auth_default.None ∷ auth_default.All ∷ auth_default.Internal ∷ []

unfoldable pub default_of : List ℕ → Option AuthDefault
default_of word =
    if pointwise nat_eq word (codes "keep") then Some auth_default.Keep else
    if pointwise nat_eq word (codes "none") then Some auth_default.None else
    if pointwise nat_eq word (codes "all") then Some auth_default.All else
    if pointwise nat_eq word (codes "internal") then Some auth_default.Internal else None

unfoldable pub flag_of : List ℕ → Option Bool
flag_of word =
    if pointwise nat_eq word (codes "true") then Some true else
    if pointwise nat_eq word (codes "false") then Some false else None

-- at least one byte
abbrev pub path_of : List ℕ → Option (List ℕ)
path_of [] = None
path_of (b ∷ bytes) = Some (b ∷ bytes)

-- the key with the value, unless it can't have it
abbrev pub setting_of : Key → List ℕ → Option Setting
setting_of key.RuleFile value = option_map setting.RuleFile (path_of value)
setting_of key.RuleFolder value = Some (setting.RuleFolder value)
setting_of key.ImplicitPolicyTarget value = option_map setting.Implicit (target_of value)
setting_of key.PresentDevicePolicy value = option_map setting.PresentDevice (present_of value)
setting_of key.PresentControllerPolicy value =
    option_map setting.PresentController (present_of value)
setting_of key.InsertedDevicePolicy value = option_map setting.Inserted (inserted_of value)
setting_of key.AuthorizedDefault value = option_map setting.Default (default_of value)
setting_of key.IpcAllowedUsers value =
    option_map setting.Users (all_named false (words_between value))
setting_of key.IpcAllowedGroups value =
    option_map setting.Groups (all_named true (words_between value))
setting_of key.IpcAccessControlFiles value = option_map setting.AccessFolder (path_of value)
setting_of key.DeviceRulesWithPort value = option_map setting.WithPort (flag_of value)
setting_of key.RestoreControllerDeviceState value = Some setting.Unused
setting_of key.DeviceManagerBackend value = Some setting.Unused
setting_of key.AuditBackend value = Some setting.Unused
setting_of key.AuditFilePath value = Some setting.Unused
setting_of key.HidePii value = Some setting.Unused

-- The values of keys are those of the table.
use Rattle.std.proofs.Common.{◌≡◌, ◌≢◌, ℕ, true, false, List, [], ◌∷◌, Option, Some, None, refl, sym, ap, ◌∙◌}
use Rattle.std.specs.Option.{option_map}
use Rattle.std.proofs.lemmas.Option.{none-some, same_Some}
use Rattle.ug_conf.specs.declared.keys.Key.{Key}
use Rattle.ug_conf.specs.declared.keys.Key.TheVariants as key
use Rattle.ug_conf.specs.declared.values.Setting.{Setting}
use Rattle.ug_conf.specs.declared.values.Setting.TheVariants as setting
use Rattle.ug_conf.specs.Grammar.{IsSettingValue}
use Rattle.ug_conf.specs.Names.{words_between, all_named}
use Rattle.ug_conf.specs.Values.{setting_of, path_of, present_of, default_of, flag_of}
use Rattle.ug_conf.proofs.Spacing.{names_read, names_found}
use Rattle.ug_types.specs.Parameters.{inserted_of}
use Rattle.ug_types.specs.Targets.{target_of}
use Rattle.ug_types.proofs.ParameterWords.{inserted_written, inserted_read}
use Rattle.ug_types.proofs.AccessWords.{target_written, target_read}
use Rattle.ug_conf.proofs.Tables.{present_written, present_read, default_written, default_read, flag_written, flag_read}

mapped : {X : Type 0} (what : X → Setting) (o : Option X) (set : Setting) → option_map what o ≡ Some set → (x : X) × (o ≡ Some x) × (set ≡ what x)
mapped what None set h = absurd (none-some set h)
mapped what (Some x) set h = (x, refl, sym (same_Some (what x) set h))

map_read : {X : Type 0} (what : X → Setting) (o : Option X) (x : X) (set : Setting) → o ≡ Some x → set ≡ what x → option_map what o ≡ Some set
map_read what o x set e s = ap (option_map what) e ∙ ap Some (sym s)

path_read : (value : List ℕ) → value ≢ [] → path_of value ≡ Some value
path_read [] h = absurd (h refl)
path_read (b ∷ bytes) h = refl

path_found : (value path : List ℕ) → path_of value ≡ Some path → (value ≢ []) × (path ≡ value)
path_found [] path h = absurd (none-some path h)
path_found (b ∷ bytes) path h = (λ e. (let none : ⊥ = cc in none), sym (same_Some (b ∷ bytes) path h))

pub value_read : (k : Key) (value : List ℕ) (set : Setting) → IsSettingValue k value set → setting_of k value ≡ Some set
value_read key.RuleFile value set h = map_read setting.RuleFile (path_of value) value set (path_read value h.0) h.1
value_read key.RuleFolder value set h = ap Some (sym h)
value_read key.ImplicitPolicyTarget value set h = map_read setting.Implicit (target_of value) h.0 set (ap target_of h.1 ∙ target_read h.0) h.2
value_read key.PresentDevicePolicy value set h = map_read setting.PresentDevice (present_of value) h.0 set (ap present_of h.1 ∙ present_read h.0) h.2
value_read key.PresentControllerPolicy value set h = map_read setting.PresentController (present_of value) h.0 set (ap present_of h.1 ∙ present_read h.0) h.2
value_read key.InsertedDevicePolicy value set h = map_read setting.Inserted (inserted_of value) h.0 set (ap inserted_of h.1 ∙ inserted_read h.0) h.2
value_read key.AuthorizedDefault value set h = map_read setting.Default (default_of value) h.0 set (ap default_of h.1 ∙ default_read h.0) h.2
value_read key.IpcAllowedUsers value set h = map_read setting.Users (all_named false (words_between value)) h.0 set (names_read false h.0 value h.1) h.2
value_read key.IpcAllowedGroups value set h = map_read setting.Groups (all_named true (words_between value)) h.0 set (names_read true h.0 value h.1) h.2
value_read key.IpcAccessControlFiles value set h = map_read setting.AccessFolder (path_of value) value set (path_read value h.0) h.1
value_read key.DeviceRulesWithPort value set h = map_read setting.WithPort (flag_of value) h.0 set (ap flag_of h.1 ∙ flag_read h.0) h.2
value_read key.RestoreControllerDeviceState value set h = ap Some (sym h)
value_read key.DeviceManagerBackend value set h = ap Some (sym h)
value_read key.AuditBackend value set h = ap Some (sym h)
value_read key.AuditFilePath value set h = ap Some (sym h)
value_read key.HidePii value set h = ap Some (sym h)

path_value : (what : List ℕ → Setting) (value : List ℕ) (set : Setting) → option_map what (path_of value) ≡ Some set → (value ≢ []) × (set ≡ what value)
path_value what value set h =
    let m = mapped what (path_of value) set h in
    let p = path_found value m.0 m.1 in
    (p.0, m.2 ∙ ap what p.1)

pub value_found : (k : Key) (value : List ℕ) (set : Setting) → setting_of k value ≡ Some set → IsSettingValue k value set
value_found key.RuleFile value set h = path_value setting.RuleFile value set h
value_found key.RuleFolder value set h = sym (same_Some (setting.RuleFolder value) set h)
value_found key.ImplicitPolicyTarget value set h = let m = mapped setting.Implicit (target_of value) set h in (m.0, target_written value m.0 m.1, m.2)
value_found key.PresentDevicePolicy value set h = let m = mapped setting.PresentDevice (present_of value) set h in (m.0, present_written value m.0 m.1, m.2)
value_found key.PresentControllerPolicy value set h = let m = mapped setting.PresentController (present_of value) set h in (m.0, present_written value m.0 m.1, m.2)
value_found key.InsertedDevicePolicy value set h = let m = mapped setting.Inserted (inserted_of value) set h in (m.0, inserted_written value m.0 m.1, m.2)
value_found key.AuthorizedDefault value set h = let m = mapped setting.Default (default_of value) set h in (m.0, default_written value m.0 m.1, m.2)
value_found key.IpcAllowedUsers value set h = let m = mapped setting.Users (all_named false (words_between value)) set h in (m.0, names_found false m.0 value m.1, m.2)
value_found key.IpcAllowedGroups value set h = let m = mapped setting.Groups (all_named true (words_between value)) set h in (m.0, names_found true m.0 value m.1, m.2)
value_found key.IpcAccessControlFiles value set h = path_value setting.AccessFolder value set h
value_found key.DeviceRulesWithPort value set h = let m = mapped setting.WithPort (flag_of value) set h in (m.0, flag_written value m.0 m.1, m.2)
value_found key.RestoreControllerDeviceState value set h = sym (same_Some setting.Unused set h)
value_found key.DeviceManagerBackend value set h = sym (same_Some setting.Unused set h)
value_found key.AuditBackend value set h = sym (same_Some setting.Unused set h)
value_found key.AuditFilePath value set h = sym (same_Some setting.Unused set h)
value_found key.HidePii value set h = sym (same_Some setting.Unused set h)

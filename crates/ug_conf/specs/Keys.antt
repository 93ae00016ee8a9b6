-- The keys of settings: usbguard-daemon.conf(5).
use Rattle.std.specs.Prelude.{ℕ, Bool, nat_eq, if◌then◌else◌, List, [], ◌∷◌, codes, Option, Some, None}
use Rattle.std.specs.Cmp.Lexicographic.{pointwise}
use Rattle.ug_conf.specs.declared.keys.Key.{Key}
use Rattle.ug_conf.specs.declared.keys.Key.TheVariants.{RuleFile, RuleFolder, ImplicitPolicyTarget, PresentDevicePolicy, PresentControllerPolicy, InsertedDevicePolicy, AuthorizedDefault, IpcAllowedUsers, IpcAllowedGroups, IpcAccessControlFiles, DeviceRulesWithPort, RestoreControllerDeviceState, DeviceManagerBackend, AuditBackend, AuditFilePath, HidePii}

abbrev pub all_keys : List Key
all_keys =
    RuleFile ∷ RuleFolder ∷ ImplicitPolicyTarget ∷ PresentDevicePolicy ∷ PresentControllerPolicy
    ∷ InsertedDevicePolicy ∷ AuthorizedDefault ∷ IpcAllowedUsers ∷ IpcAllowedGroups
    ∷ IpcAccessControlFiles ∷ DeviceRulesWithPort ∷ RestoreControllerDeviceState
    ∷ DeviceManagerBackend ∷ AuditBackend ∷ AuditFilePath ∷ HidePii ∷ []

-- keys that set nothing
unfoldable pub unused_key_of : List ℕ → Option Key
unused_key_of word =
    if pointwise nat_eq word (codes "RestoreControllerDeviceState")
    then Some RestoreControllerDeviceState else
    if pointwise nat_eq word (codes "DeviceManagerBackend") then Some DeviceManagerBackend else
    if pointwise nat_eq word (codes "AuditBackend") then Some AuditBackend else
    if pointwise nat_eq word (codes "AuditFilePath") then Some AuditFilePath else
    if pointwise nat_eq word (codes "HidePII") then Some HidePii else None

-- the key that a word is
unfoldable pub key_of : List ℕ → Option Key
key_of word =
    if pointwise nat_eq word (codes "RuleFile") then Some RuleFile else
    if pointwise nat_eq word (codes "RuleFolder") then Some RuleFolder else
    if pointwise nat_eq word (codes "ImplicitPolicyTarget") then Some ImplicitPolicyTarget else
    if pointwise nat_eq word (codes "PresentDevicePolicy") then Some PresentDevicePolicy else
    if pointwise nat_eq word (codes "PresentControllerPolicy")
    then Some PresentControllerPolicy else
    if pointwise nat_eq word (codes "InsertedDevicePolicy") then Some InsertedDevicePolicy else
    if pointwise nat_eq word (codes "AuthorizedDefault") then Some AuthorizedDefault else
    if pointwise nat_eq word (codes "IPCAllowedUsers") then Some IpcAllowedUsers else
    if pointwise nat_eq word (codes "IPCAllowedGroups") then Some IpcAllowedGroups else
    if pointwise nat_eq word (codes "IPCAccessControlFiles") then Some IpcAccessControlFiles else
    if pointwise nat_eq word (codes "DeviceRulesWithPort") then Some DeviceRulesWithPort else
    unused_key_of word

-- the place of a key in the table of usbguard-daemon.conf(5)
abbrev pub key_number : Key → ℕ
key_number RuleFile = 0
key_number RuleFolder = 1
key_number ImplicitPolicyTarget = 2
key_number PresentDevicePolicy = 3
key_number PresentControllerPolicy = 4
key_number InsertedDevicePolicy = 5
key_number AuthorizedDefault = 6
key_number IpcAllowedUsers = 7
key_number IpcAllowedGroups = 8
key_number IpcAccessControlFiles = 9
key_number DeviceRulesWithPort = 10
key_number RestoreControllerDeviceState = 11
key_number DeviceManagerBackend = 12
key_number AuditBackend = 13
key_number AuditFilePath = 14
key_number HidePii = 15

abbrev pub same_key : Key → Key → Bool
same_key a b = nat_eq (key_number a) (key_number b)

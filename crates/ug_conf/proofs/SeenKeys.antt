-- The test whether keys are one.
use Rattle.std.proofs.Common.{◌≡◌, inl, inr, Bool, true, false, List, [], ◌∷◌, refl, sym, ap, ◌∙◌}
use Rattle.std.specs.Prelude.{◌||◌}
use Rattle.std.proofs.lemmas.Bool.{false≢true}
use Rattle.std.specs.List.{list_any}
use Rattle.ug_types.specs.Elements.{Has}
use Rattle.ug_conf.specs.declared.keys.Key.{Key}
use Rattle.ug_conf.specs.declared.keys.Key.TheVariants.{RuleFile, RuleFolder, ImplicitPolicyTarget, PresentDevicePolicy, PresentControllerPolicy, InsertedDevicePolicy, AuthorizedDefault, IpcAllowedUsers, IpcAllowedGroups, IpcAccessControlFiles, DeviceRulesWithPort, RestoreControllerDeviceState, DeviceManagerBackend, AuditBackend, AuditFilePath, HidePii}
use Rattle.ug_conf.specs.contracts.keys.KeyPartialEq.TheImpl.{ghosts}
use Rattle.ug_conf.specs.Draft.{has_key}
use Rattle.ug_conf.specs.Keys.{same_key}

tested : (a b : Key) → ghosts.eq a b ≡ same_key a b
tested RuleFile RuleFile = refl
tested RuleFolder RuleFolder = refl
tested ImplicitPolicyTarget ImplicitPolicyTarget = refl
tested PresentDevicePolicy PresentDevicePolicy = refl
tested PresentControllerPolicy PresentControllerPolicy = refl
tested InsertedDevicePolicy InsertedDevicePolicy = refl
tested AuthorizedDefault AuthorizedDefault = refl
tested IpcAllowedUsers IpcAllowedUsers = refl
tested IpcAllowedGroups IpcAllowedGroups = refl
tested IpcAccessControlFiles IpcAccessControlFiles = refl
tested DeviceRulesWithPort DeviceRulesWithPort = refl
tested RestoreControllerDeviceState RestoreControllerDeviceState = refl
tested DeviceManagerBackend DeviceManagerBackend = refl
tested AuditBackend AuditBackend = refl
tested AuditFilePath AuditFilePath = refl
tested HidePii HidePii = refl
tested a b = refl

pub seen_before : (seen : List Key) (key : Key) → list_any (λ k. ghosts.eq k key) seen ≡ has_key seen key
seen_before [] key = refl
seen_before (k ∷ seen) key = ap (λ (v : Bool). v || list_any (λ k. ghosts.eq k key) seen) (tested k key) ∙ ap (λ (v : Bool). same_key k key || v) (seen_before seen key)

same : (a b : Key) → same_key a b ≡ true → a ≡ b
same RuleFile RuleFile e = refl
same RuleFolder RuleFolder e = refl
same ImplicitPolicyTarget ImplicitPolicyTarget e = refl
same PresentDevicePolicy PresentDevicePolicy e = refl
same PresentControllerPolicy PresentControllerPolicy e = refl
same InsertedDevicePolicy InsertedDevicePolicy e = refl
same AuthorizedDefault AuthorizedDefault e = refl
same IpcAllowedUsers IpcAllowedUsers e = refl
same IpcAllowedGroups IpcAllowedGroups e = refl
same IpcAccessControlFiles IpcAccessControlFiles e = refl
same DeviceRulesWithPort DeviceRulesWithPort e = refl
same RestoreControllerDeviceState RestoreControllerDeviceState e = refl
same DeviceManagerBackend DeviceManagerBackend e = refl
same AuditBackend AuditBackend e = refl
same AuditFilePath AuditFilePath e = refl
same HidePii HidePii e = refl
same a b e = absurd (false≢true e)

itself : (a : Key) → same_key a a ≡ true
itself RuleFile = refl
itself RuleFolder = refl
itself ImplicitPolicyTarget = refl
itself PresentDevicePolicy = refl
itself PresentControllerPolicy = refl
itself InsertedDevicePolicy = refl
itself AuthorizedDefault = refl
itself IpcAllowedUsers = refl
itself IpcAllowedGroups = refl
itself IpcAccessControlFiles = refl
itself DeviceRulesWithPort = refl
itself RestoreControllerDeviceState = refl
itself DeviceManagerBackend = refl
itself AuditBackend = refl
itself AuditFilePath = refl
itself HidePii = refl

-- the test whether a key was set before
pub key_seen : (seen : List Key) (key : Key) → has_key seen key ≡ true → Has seen key
key_seen [] key e = absurd (false≢true e)
key_seen (k ∷ seen) key e = by (same_key k key) refl (λ h. key_seen seen key h) e
  where
    by : (v : Bool) → same_key k key ≡ v → (has_key seen key ≡ true → Has seen key) → v || has_key seen key ≡ true → Has (k ∷ seen) key
    by true f r h = inl (same k key f)
    by false f r h = inr (r h)

pub seen_key : (seen : List Key) (key : Key) → Has seen key → has_key seen key ≡ true
seen_key [] key h = absurd h
seen_key (k ∷ seen) key (inl e) = ap (λ (v : Bool). v || has_key seen key) (ap (same_key k) (sym e) ∙ itself k)
seen_key (k ∷ seen) key (inr h) = by (same_key k key) (seen_key seen key h)
  where
    by : (v : Bool) → has_key seen key ≡ true → v || has_key seen key ≡ true
    by true e = refl
    by false e = e

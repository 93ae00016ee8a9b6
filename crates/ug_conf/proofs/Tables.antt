-- Words are keys and values exactly as these are written.
use Rattle.std.proofs.Common.{◌≡◌, ℕ, Bool, true, false, cond, nat_eq, List, Option, Some, refl, sym, ap, ◌∙◌}
use Rattle.std.specs.Prelude.{codes}
use Rattle.std.specs.Cmp.Lexicographic.{pointwise, same_text}
use Rattle.std.specs.List.{find}
use Rattle.std.proofs.lemmas.Option.{none-some, same_Some}
use Rattle.ug_conf.specs.declared.keys.Key.{Key}
use Rattle.ug_conf.specs.declared.keys.Key.TheVariants as key
use Rattle.ug_conf.specs.declared.settings.AuthDefault.{AuthDefault}
use Rattle.ug_conf.specs.declared.settings.AuthDefault.TheVariants as auth_default
use Rattle.ug_conf.specs.declared.settings.Present.{Present}
use Rattle.ug_conf.specs.declared.settings.Present.TheVariants as present
use Rattle.ug_conf.specs.Keys.{all_keys, key_of, unused_key_of}
use Rattle.ug_conf.specs.Values.{all_defaults, all_presents, present_of, default_of, flag_of}
use Rattle.ug_conf.specs.Grammar.{word_of_key, present_word, default_word, flag_word}

pub key_found : (word : List ℕ) → find (λ it. pointwise nat_eq word (word_of_key it)) all_keys ≡ key_of word
unfolding key_of unused_key_of
key_found word = refl

pub present_found : (word : List ℕ) → find (λ it. pointwise nat_eq word (present_word it)) all_presents ≡ present_of word
unfolding present_of
present_found word = refl

pub default_found : (word : List ℕ) → find (λ it. pointwise nat_eq word (default_word it)) all_defaults ≡ default_of word
unfolding default_of
default_found word = refl

-- one row of a table
named : {X : Type 0} (spell : X → List ℕ) (word text : List ℕ) (here it : X) (rest : Option X) → text ≡ spell here → (rest ≡ Some it → word ≡ spell it) → cond (pointwise nat_eq word text) (Some here) rest ≡ Some it → word ≡ spell it
named {X} spell word text here it rest t f h = by (pointwise nat_eq word text) refl h
  where
    by : (v : Bool) → pointwise nat_eq word text ≡ v → cond v (Some here) rest ≡ Some it → word ≡ spell it
    by true e k = same_text word text (sym e) ∙ t ∙ ap spell (same_Some here it k)
    by false e k = f k

unused_key_written : (word : List ℕ) (it : Key) → unused_key_of word ≡ Some it → word ≡ word_of_key it
unfolding unused_key_of
unused_key_written word it h = named word_of_key word (codes "RestoreControllerDeviceState") key.RestoreControllerDeviceState it _ refl (λ h. named word_of_key word (codes "DeviceManagerBackend") key.DeviceManagerBackend it _ refl (λ h. named word_of_key word (codes "AuditBackend") key.AuditBackend it _ refl (λ h. named word_of_key word (codes "AuditFilePath") key.AuditFilePath it _ refl (λ h. named word_of_key word (codes "HidePII") key.HidePii it _ refl (λ h. absurd (none-some it h)) h) h) h) h) h

pub key_written : (word : List ℕ) (it : Key) → key_of word ≡ Some it → word ≡ word_of_key it
unfolding key_of
key_written word it h = named word_of_key word (codes "RuleFile") key.RuleFile it _ refl (λ h. named word_of_key word (codes "RuleFolder") key.RuleFolder it _ refl (λ h. named word_of_key word (codes "ImplicitPolicyTarget") key.ImplicitPolicyTarget it _ refl (λ h. named word_of_key word (codes "PresentDevicePolicy") key.PresentDevicePolicy it _ refl (λ h. named word_of_key word (codes "PresentControllerPolicy") key.PresentControllerPolicy it _ refl (λ h. named word_of_key word (codes "InsertedDevicePolicy") key.InsertedDevicePolicy it _ refl (λ h. named word_of_key word (codes "AuthorizedDefault") key.AuthorizedDefault it _ refl (λ h. named word_of_key word (codes "IPCAllowedUsers") key.IpcAllowedUsers it _ refl (λ h. named word_of_key word (codes "IPCAllowedGroups") key.IpcAllowedGroups it _ refl (λ h. named word_of_key word (codes "IPCAccessControlFiles") key.IpcAccessControlFiles it _ refl (λ h. named word_of_key word (codes "DeviceRulesWithPort") key.DeviceRulesWithPort it _ refl (λ h. unused_key_written word it h) h) h) h) h) h) h) h) h) h) h) h

pub key_read : (it : Key) → key_of (word_of_key it) ≡ Some it
unfolding key_of unused_key_of
key_read key.RuleFile = refl
key_read key.RuleFolder = refl
key_read key.ImplicitPolicyTarget = refl
key_read key.PresentDevicePolicy = refl
key_read key.PresentControllerPolicy = refl
key_read key.InsertedDevicePolicy = refl
key_read key.AuthorizedDefault = refl
key_read key.IpcAllowedUsers = refl
key_read key.IpcAllowedGroups = refl
key_read key.IpcAccessControlFiles = refl
key_read key.DeviceRulesWithPort = refl
key_read key.RestoreControllerDeviceState = refl
key_read key.DeviceManagerBackend = refl
key_read key.AuditBackend = refl
key_read key.AuditFilePath = refl
key_read key.HidePii = refl

pub present_written : (word : List ℕ) (it : Present) → present_of word ≡ Some it → word ≡ present_word it
unfolding present_of
present_written word it h = named present_word word (codes "allow") present.Allow it _ refl (λ h. named present_word word (codes "block") present.Block it _ refl (λ h. named present_word word (codes "reject") present.Reject it _ refl (λ h. named present_word word (codes "keep") present.Keep it _ refl (λ h. named present_word word (codes "apply-policy") present.Apply it _ refl (λ h. absurd (none-some it h)) h) h) h) h) h

pub present_read : (it : Present) → present_of (present_word it) ≡ Some it
unfolding present_of
present_read present.Allow = refl
present_read present.Block = refl
present_read present.Reject = refl
present_read present.Keep = refl
present_read present.Apply = refl

pub default_written : (word : List ℕ) (it : AuthDefault) → default_of word ≡ Some it → word ≡ default_word it
unfolding default_of
default_written word it h = named default_word word (codes "keep") auth_default.Keep it _ refl (λ h. named default_word word (codes "none") auth_default.None it _ refl (λ h. named default_word word (codes "all") auth_default.All it _ refl (λ h. named default_word word (codes "internal") auth_default.Internal it _ refl (λ h. absurd (none-some it h)) h) h) h) h

pub default_read : (it : AuthDefault) → default_of (default_word it) ≡ Some it
unfolding default_of
default_read auth_default.Keep = refl
default_read auth_default.None = refl
default_read auth_default.All = refl
default_read auth_default.Internal = refl

pub flag_written : (word : List ℕ) (it : Bool) → flag_of word ≡ Some it → word ≡ flag_word it
unfolding flag_of
flag_written word it h = named flag_word word (codes "true") true it _ refl (λ h. named flag_word word (codes "false") false it _ refl (λ h. absurd (none-some it h)) h) h

pub flag_read : (it : Bool) → flag_of (flag_word it) ≡ Some it
unfolding flag_of
flag_read true = refl
flag_read false = refl

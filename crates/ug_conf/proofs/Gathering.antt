-- What entries set, one after the other, is what they give.
use Rattle.std.proofs.Common.{◌≡◌, ℕ, ◌⊎◌, inl, inr, Bool, true, false, cond, List, [], ◌∷◌, ◌++◌, map, Option, Some, None, refl, sym, ap, subst, ◌∙◌, append_assoc, if◌then◌else◌}
use Rattle.std.specs.Prelude.{filter}
use Rattle.std.proofs.lemmas.List.{append-nil}
use Rattle.std.proofs.lemmas.Option.{none-some, same_Some}
use Rattle.ug_types.specs.Elements.{Has, AllDistinct}
use Rattle.ug_conf.specs.declared.keys.Key.{Key}
use Rattle.ug_conf.specs.declared.keys.Key.TheVariants as key
use Rattle.ug_conf.specs.declared.settings.Settings.{Settings}
use Rattle.ug_conf.specs.declared.values.Setting.{Setting}
use Rattle.ug_conf.specs.declared.values.Setting.TheVariants as setting
use Rattle.ug_conf.specs.Draft.{is_unused, with_setting}
use Rattle.ug_conf.specs.Grammar.{IsSettingValue}
use Rattle.ug_conf.specs.Meaning.{Entry, keys_of, is_noted, Sets, IsGiven, AreSettingsOf}
use Rattle.ug_types.specs.Principals.{Named}
use Rattle.ug_conf.specs.Settings.{defaults}

-- the settings after entries
abbrev pub applied : List Entry → Settings → Settings
applied [] s = s
applied (e ∷ entries) s = applied entries (with_setting e.number e.set s)

-- each key can have its value
abbrev pub AreFit : List Entry → Type 0
AreFit [] = Unit {0}
AreFit (e ∷ entries) = ((value : List ℕ) × IsSettingValue e.key value e.set) × AreFit entries

-- the key of what is set
abbrev set_key : Setting → Option Key
set_key (setting.RuleFile path) = Some key.RuleFile
set_key (setting.RuleFolder path) = Some key.RuleFolder
set_key (setting.Implicit target) = Some key.ImplicitPolicyTarget
set_key (setting.PresentDevice policy) = Some key.PresentDevicePolicy
set_key (setting.PresentController policy) = Some key.PresentControllerPolicy
set_key (setting.Inserted policy) = Some key.InsertedDevicePolicy
set_key (setting.Default default) = Some key.AuthorizedDefault
set_key (setting.Users users) = Some key.IpcAllowedUsers
set_key (setting.Groups groups) = Some key.IpcAllowedGroups
set_key (setting.AccessFolder path) = Some key.IpcAccessControlFiles
set_key (setting.WithPort with_port) = Some key.DeviceRulesWithPort
set_key setting.Unused = None

its_key : (k it : Key) (set what : Setting) → set ≡ what → set_key what ≡ Some k → set_key set ≡ Some it → k ≡ it
its_key k it set what e w h = same_Some k it (sym w ∙ ap set_key (sym e) ∙ h)

no_key : (k it : Key) (set : Setting) → set ≡ setting.Unused → set_key set ≡ Some it → k ≡ it
no_key k it set e h = absurd (none-some it (sym (ap set_key e) ∙ h))

fit_key : (k : Key) (value : List ℕ) (set : Setting) (it : Key) → IsSettingValue k value set → set_key set ≡ Some it → k ≡ it
fit_key key.RuleFile value set it h e = its_key key.RuleFile it set (setting.RuleFile value) h.1 refl e
fit_key key.RuleFolder value set it h e = its_key key.RuleFolder it set (setting.RuleFolder value) h refl e
fit_key key.ImplicitPolicyTarget value set it h e = its_key key.ImplicitPolicyTarget it set (setting.Implicit h.0) h.2 refl e
fit_key key.PresentDevicePolicy value set it h e = its_key key.PresentDevicePolicy it set (setting.PresentDevice h.0) h.2 refl e
fit_key key.PresentControllerPolicy value set it h e = its_key key.PresentControllerPolicy it set (setting.PresentController h.0) h.2 refl e
fit_key key.InsertedDevicePolicy value set it h e = its_key key.InsertedDevicePolicy it set (setting.Inserted h.0) h.2 refl e
fit_key key.AuthorizedDefault value set it h e = its_key key.AuthorizedDefault it set (setting.Default h.0) h.2 refl e
fit_key key.IpcAllowedUsers value set it h e = its_key key.IpcAllowedUsers it set (setting.Users h.0) h.2 refl e
fit_key key.IpcAllowedGroups value set it h e = its_key key.IpcAllowedGroups it set (setting.Groups h.0) h.2 refl e
fit_key key.IpcAccessControlFiles value set it h e = its_key key.IpcAccessControlFiles it set (setting.AccessFolder value) h.1 refl e
fit_key key.DeviceRulesWithPort value set it h e = its_key key.DeviceRulesWithPort it set (setting.WithPort h.0) h.2 refl e
fit_key key.RestoreControllerDeviceState value set it h e = no_key key.RestoreControllerDeviceState it set h e
fit_key key.DeviceManagerBackend value set it h e = no_key key.DeviceManagerBackend it set h e
fit_key key.AuditBackend value set it h e = no_key key.AuditBackend it set h e
fit_key key.AuditFilePath value set it h e = no_key key.AuditFilePath it set h e
fit_key key.HidePii value set it h e = no_key key.HidePii it set h e

entry_key : (e : Entry) (what : Setting) (it : Key) → ((value : List ℕ) × IsSettingValue e.key value e.set) → e.set ≡ what → set_key what ≡ Some it → e.key ≡ it
entry_key e what it f s k = fit_key e.key f.0 e.set it f.1 (ap set_key s ∙ k)

-- where something is set, so is its key
keyed : (entries : List Entry) (what : Setting) (it : Key) → AreFit entries → set_key what ≡ Some it → Sets entries what → Has (keys_of entries) it
keyed [] what it f k h = absurd h
keyed (e ∷ entries) what it f k (inl s) = inl (entry_key e what it f.0 s k)
keyed (e ∷ entries) what it f k (inr h) = inr (keyed entries what it f.1 k h)

-- a key that stands first is set by no later entry
not_later : (e : Entry) (entries : List Entry) (what later : Setting) (it : Key) → AllDistinct (keys_of (e ∷ entries)) → AreFit (e ∷ entries) → e.set ≡ what → set_key what ≡ Some it → set_key later ≡ Some it → ¬ Sets entries later
not_later e entries what later it d f s k l h = d.0 (subst (λ (x : Key). Has (keys_of entries) x) (sym (entry_key e what it f.0 s k)) (keyed entries later it f.1 l h))

-- what one entry makes of a field
abbrev Change : {X : Type 0} → (X → Setting) → Setting → X → X → Type 0
Change {X} what set new old = (set ≡ what new) ⊎ (((other : X) → ¬ (set ≡ what other)) × (new ≡ old))

given_more : {X : Type 0} (what : X → Setting) (e : Entry) (entries : List Entry) (value new old : X) → Change what e.set new old → IsGiven entries what value new → IsGiven (e ∷ entries) what value old
given_more what e entries value new old c (inl h) = inl (inr h)
given_more what e entries value new old (inl c) (inr h) = inl (inl (c ∙ ap what (sym h.1)))
given_more what e entries value new old (inr c) (inr h) = inr (λ other k. elim k [ inl a ↦ c.0 other a | inr b ↦ h.0 other b ], h.1 ∙ c.1)

given : {X : Type 0} (what : X → Setting) (field : Settings → X) → ((number : ℕ) (set : Setting) (s : Settings) → Change what set (field (with_setting number set s)) (field s))
    → (entries : List Entry) (s : Settings) → IsGiven entries what (field (applied entries s)) (field s)
given what field change [] s = inr (λ other h. h, refl)
given what field change (e ∷ entries) s =
    let t : Settings = with_setting e.number e.set s in
    given_more what e entries (field (applied entries t)) (field t) (field s) (change e.number e.set s) (given what field change entries t)

rule_file_change : (number : ℕ) (set : Setting) (s : Settings) → Change setting.RuleFile set (with_setting number set s).rule_file s.rule_file
rule_file_change number (setting.RuleFile x) s = inl refl
rule_file_change number _ s = inr (λ other e. (let none : ⊥ = cc in none), refl)

rule_folder_change : (number : ℕ) (set : Setting) (s : Settings) → Change setting.RuleFolder set (with_setting number set s).rule_folder s.rule_folder
rule_folder_change number (setting.RuleFolder x) s = inl refl
rule_folder_change number _ s = inr (λ other e. (let none : ⊥ = cc in none), refl)

access_folder_change : (number : ℕ) (set : Setting) (s : Settings) → Change setting.AccessFolder set (with_setting number set s).access_folder s.access_folder
access_folder_change number (setting.AccessFolder x) s = inl refl
access_folder_change number _ s = inr (λ other e. (let none : ⊥ = cc in none), refl)

implicit_change : (number : ℕ) (set : Setting) (s : Settings) → Change setting.Implicit set (with_setting number set s).implicit s.implicit
implicit_change number (setting.Implicit x) s = inl refl
implicit_change number _ s = inr (λ other e. (let none : ⊥ = cc in none), refl)

present_device_change : (number : ℕ) (set : Setting) (s : Settings) → Change setting.PresentDevice set (with_setting number set s).present_device s.present_device
present_device_change number (setting.PresentDevice x) s = inl refl
present_device_change number _ s = inr (λ other e. (let none : ⊥ = cc in none), refl)

present_controller_change : (number : ℕ) (set : Setting) (s : Settings) → Change setting.PresentController set (with_setting number set s).present_controller s.present_controller
present_controller_change number (setting.PresentController x) s = inl refl
present_controller_change number _ s = inr (λ other e. (let none : ⊥ = cc in none), refl)

inserted_change : (number : ℕ) (set : Setting) (s : Settings) → Change setting.Inserted set (with_setting number set s).inserted s.inserted
inserted_change number (setting.Inserted x) s = inl refl
inserted_change number _ s = inr (λ other e. (let none : ⊥ = cc in none), refl)

default_change : (number : ℕ) (set : Setting) (s : Settings) → Change setting.Default set (with_setting number set s).default s.default
default_change number (setting.Default x) s = inl refl
default_change number _ s = inr (λ other e. (let none : ⊥ = cc in none), refl)

with_port_change : (number : ℕ) (set : Setting) (s : Settings) → Change setting.WithPort set (with_setting number set s).with_port s.with_port
with_port_change number (setting.WithPort x) s = inl refl
with_port_change number _ s = inr (λ other e. (let none : ⊥ = cc in none), refl)

-- users and groups
abbrev AllUsers : List Entry → List Named → List Named → Type 0
AllUsers entries before after = (users : List Named) × (groups : List Named) × IsGiven entries setting.Users users [] × IsGiven entries setting.Groups groups [] × (after ≡ users ++ (before ++ groups))

none_given : {X : Type 0} (what : List X → Setting) (entries : List Entry) (xs : List X) → ((other : List X) → ¬ Sets entries (what other)) → IsGiven entries what xs [] → xs ≡ []
none_given what entries xs n (inl h) = absurd (n xs h)
none_given what entries xs n (inr h) = h.1

users_more : (e : Entry) (entries : List Entry) (set : Setting) (s : Settings) (after : List Named) → AllDistinct (keys_of (e ∷ entries)) → AreFit (e ∷ entries) → e.set ≡ set
    → AllUsers entries (with_setting e.number set s).users after → AllUsers (e ∷ entries) s.users after
users_more e entries (setting.Users us) s after d f q h =
    let none : h.0 ≡ [] = none_given setting.Users entries h.0 (λ other. not_later e entries (setting.Users us) (setting.Users other) key.IpcAllowedUsers d f q refl refl) h.2 in (
      us,
      h.1,
      inl (inl q),
      given_more setting.Groups e entries h.1 [] [] (inr (λ other k. (let none : ⊥ = cc in none), refl)) h.3,
      h.4 ∙ ap (λ (l : List Named). l ++ ((us ++ s.users) ++ h.1)) none ∙ append_assoc us s.users h.1,
    )
users_more e entries (setting.Groups gs) s after d f q h =
    let none : h.1 ≡ [] = none_given setting.Groups entries h.1 (λ other. not_later e entries (setting.Groups gs) (setting.Groups other) key.IpcAllowedGroups d f q refl refl) h.3 in (
      h.0,
      gs,
      given_more setting.Users e entries h.0 [] [] (inr (λ other k. (let none : ⊥ = cc in none), refl)) h.2,
      inl (inl q),
      h.4 ∙ ap (λ (l : List Named). h.0 ++ ((s.users ++ gs) ++ l)) none ∙ ap (λ (l : List Named). h.0 ++ l) (append-nil (s.users ++ gs)),
    )
users_more e entries _ s after d f q h = (
  h.0,
  h.1,
  given_more setting.Users e entries h.0 [] [] (inr (λ other k. (let none : ⊥ = cc in none), refl)) h.2,
  given_more setting.Groups e entries h.1 [] [] (inr (λ other k. (let none : ⊥ = cc in none), refl)) h.3,
  h.4,
)

all_users : (entries : List Entry) (s : Settings) → AllDistinct (keys_of entries) → AreFit entries → AllUsers entries s.users (applied entries s).users
all_users [] s d f = ([], [], inr (λ other h. h, refl), inr (λ other h. h, refl), sym (append-nil s.users))
all_users (e ∷ entries) s d f = users_more e entries e.set s (applied entries (with_setting e.number e.set s)).users d f refl (all_users entries (with_setting e.number e.set s) d.1 f.1)

-- numbers of lines that are noted
abbrev one_noted : Bool → ℕ → List ℕ
one_noted noted number = if noted then number ∷ [] else []

abbrev Notes : Setting → Type 0
Notes set = (number : ℕ) (s : Settings) → (with_setting number set s).unused ≡ s.unused ++ one_noted (is_noted set) number

notes : (set : Setting) → Notes set
notes (setting.RuleFile path) number s = sym (append-nil s.unused)
notes (setting.RuleFolder path) number s = sym (append-nil s.unused)
notes (setting.Implicit target) number s = sym (append-nil s.unused)
notes (setting.PresentDevice policy) number s = sym (append-nil s.unused)
notes (setting.PresentController policy) number s = sym (append-nil s.unused)
notes (setting.Inserted policy) number s = sym (append-nil s.unused)
notes (setting.Default default) number s = by_use (is_unused default)
  where
    by_use : (b : Bool) → (if b then s.unused ++ number ∷ [] else s.unused) ≡ s.unused ++ one_noted b number
    by_use true = refl
    by_use false = sym (append-nil s.unused)
notes (setting.Users users) number s = sym (append-nil s.unused)
notes (setting.Groups groups) number s = sym (append-nil s.unused)
notes (setting.AccessFolder path) number s = sym (append-nil s.unused)
notes (setting.WithPort with_port) number s = sym (append-nil s.unused)
notes setting.Unused number s = refl

abbrev noted_of : List Entry → List ℕ
noted_of entries = map (λ e. e.number) (filter (λ e. is_noted e.set) entries)

noted_more : (b : Bool) (e : Entry) (entries : List Entry) → one_noted b e.number ++ map (λ e. e.number) entries ≡ map (λ e. e.number) (cond b (e ∷ entries) entries)
noted_more true e entries = refl
noted_more false e entries = refl

noted : (entries : List Entry) (s : Settings) → AreFit entries → (applied entries s).unused ≡ s.unused ++ noted_of entries
noted [] s f = sym (append-nil s.unused)
noted (e ∷ entries) s f =
    noted entries (with_setting e.number e.set s) f.1
    ∙ ap (λ (l : List ℕ). l ++ noted_of entries) (notes e.set e.number s)
    ∙ append_assoc s.unused (one_noted (is_noted e.set) e.number) (noted_of entries)
    ∙ ap (λ (l : List ℕ). s.unused ++ l) (noted_more (is_noted e.set) e (filter (λ e. is_noted e.set) entries))

no_users : defaults.users ≡ []
unfolding defaults
no_users = refl

no_unused : defaults.unused ≡ []
unfolding defaults
no_unused = refl

pub gathered : (entries : List Entry) → AllDistinct (keys_of entries) → AreFit entries → AreSettingsOf entries (applied entries defaults)
gathered entries d f =
    let u = all_users entries defaults d f in
    record {
      once = d;
      users = u.0;
      groups = u.1;
      rule_file = given setting.RuleFile (λ s. s.rule_file) rule_file_change entries defaults;
      rule_folder = given setting.RuleFolder (λ s. s.rule_folder) rule_folder_change entries defaults;
      access_folder = given setting.AccessFolder (λ s. s.access_folder) access_folder_change entries defaults;
      implicit = given setting.Implicit (λ s. s.implicit) implicit_change entries defaults;
      present_device = given setting.PresentDevice (λ s. s.present_device) present_device_change entries defaults;
      present_controller = given setting.PresentController (λ s. s.present_controller) present_controller_change entries defaults;
      inserted = given setting.Inserted (λ s. s.inserted) inserted_change entries defaults;
      default = given setting.Default (λ s. s.default) default_change entries defaults;
      with_port = given setting.WithPort (λ s. s.with_port) with_port_change entries defaults;
      users_given = u.2;
      groups_given = u.3;
      all_users = u.4 ∙ ap (λ (l : List Named). u.0 ++ (l ++ u.1)) no_users;
      unused = noted entries defaults f ∙ ap (λ (l : List ℕ). l ++ noted_of entries) no_unused;
    }

-- a value that is given is the only one
sets_one : {X : Type 0} (what : X → Setting) (it : Key) → ((x : X) → set_key (what x) ≡ Some it) → ((x y : X) → what x ≡ what y → x ≡ y)
    → (entries : List Entry) (x y : X) → AllDistinct (keys_of entries) → AreFit entries → Sets entries (what x) → Sets entries (what y) → x ≡ y
sets_one what it k same [] x y d f h g = absurd h
sets_one what it k same (e ∷ entries) x y d f (inl h) (inl g) = same x y (sym h ∙ g)
sets_one what it k same (e ∷ entries) x y d f (inl h) (inr g) = absurd (not_later e entries (what x) (what y) it d f h (k x) (k y) g)
sets_one what it k same (e ∷ entries) x y d f (inr h) (inl g) = absurd (not_later e entries (what y) (what x) it d f g (k y) (k x) h)
sets_one what it k same (e ∷ entries) x y d f (inr h) (inr g) = sets_one what it k same entries x y d.1 f.1 h g

given_one : {X : Type 0} (what : X → Setting) (it : Key) → ((x : X) → set_key (what x) ≡ Some it) → ((x y : X) → what x ≡ what y → x ≡ y)
    → (entries : List Entry) (x y default : X) → AllDistinct (keys_of entries) → AreFit entries → IsGiven entries what x default → IsGiven entries what y default → x ≡ y
given_one what it k same entries x y default d f (inl h) (inl g) = sets_one what it k same entries x y d f h g
given_one what it k same entries x y default d f (inl h) (inr g) = absurd (g.0 x h)
given_one what it k same entries x y default d f (inr h) (inl g) = absurd (h.0 y g)
given_one what it k same entries x y default d f (inr h) (inr g) = h.1 ∙ sym g.1

pub one_gathering : (entries : List Entry) (s t : Settings) → AreFit entries → AreSettingsOf entries s → AreSettingsOf entries t → s ≡ t
one_gathering entries s t f g h =
    let rule_file : s.rule_file ≡ t.rule_file = given_one setting.RuleFile key.RuleFile (λ x. refl) (λ x y e. (let same : x ≡ y = cc in same)) entries s.rule_file t.rule_file defaults.rule_file g.once f g.rule_file h.rule_file in
    let rule_folder : s.rule_folder ≡ t.rule_folder = given_one setting.RuleFolder key.RuleFolder (λ x. refl) (λ x y e. (let same : x ≡ y = cc in same)) entries s.rule_folder t.rule_folder defaults.rule_folder g.once f g.rule_folder h.rule_folder in
    let access_folder : s.access_folder ≡ t.access_folder = given_one setting.AccessFolder key.IpcAccessControlFiles (λ x. refl) (λ x y e. (let same : x ≡ y = cc in same)) entries s.access_folder t.access_folder defaults.access_folder g.once f g.access_folder h.access_folder in
    let implicit : s.implicit ≡ t.implicit = given_one setting.Implicit key.ImplicitPolicyTarget (λ x. refl) (λ x y e. (let same : x ≡ y = cc in same)) entries s.implicit t.implicit defaults.implicit g.once f g.implicit h.implicit in
    let present_device : s.present_device ≡ t.present_device = given_one setting.PresentDevice key.PresentDevicePolicy (λ x. refl) (λ x y e. (let same : x ≡ y = cc in same)) entries s.present_device t.present_device defaults.present_device g.once f g.present_device h.present_device in
    let present_controller : s.present_controller ≡ t.present_controller = given_one setting.PresentController key.PresentControllerPolicy (λ x. refl) (λ x y e. (let same : x ≡ y = cc in same)) entries s.present_controller t.present_controller defaults.present_controller g.once f g.present_controller h.present_controller in
    let inserted : s.inserted ≡ t.inserted = given_one setting.Inserted key.InsertedDevicePolicy (λ x. refl) (λ x y e. (let same : x ≡ y = cc in same)) entries s.inserted t.inserted defaults.inserted g.once f g.inserted h.inserted in
    let default : s.default ≡ t.default = given_one setting.Default key.AuthorizedDefault (λ x. refl) (λ x y e. (let same : x ≡ y = cc in same)) entries s.default t.default defaults.default g.once f g.default h.default in
    let with_port : s.with_port ≡ t.with_port = given_one setting.WithPort key.DeviceRulesWithPort (λ x. refl) (λ x y e. (let same : x ≡ y = cc in same)) entries s.with_port t.with_port defaults.with_port g.once f g.with_port h.with_port in
    let users : g.users ≡ h.users = given_one setting.Users key.IpcAllowedUsers (λ x. refl) (λ x y e. (let same : x ≡ y = cc in same)) entries g.users h.users [] g.once f g.users_given h.users_given in
    let groups : g.groups ≡ h.groups = given_one setting.Groups key.IpcAllowedGroups (λ x. refl) (λ x y e. (let same : x ≡ y = cc in same)) entries g.groups h.groups [] g.once f g.groups_given h.groups_given in
    let all_users : s.users ≡ t.users = g.all_users ∙ ap (λ (l : List Named). l ++ g.groups) users ∙ ap (λ (l : List Named). h.users ++ l) groups ∙ sym h.all_users in
    let unused : s.unused ≡ t.unused = g.unused ∙ sym h.unused in
    λ i. record {
      rule_file = rule_file i;
      rule_folder = rule_folder i;
      access_folder = access_folder i;
      implicit = implicit i;
      present_device = present_device i;
      present_controller = present_controller i;
      inserted = inserted i;
      default = default i;
      users = all_users i;
      with_port = with_port i;
      unused = unused i;
    }

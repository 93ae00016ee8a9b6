-- What the files and the disk tell of a start that was refused.
use Rattle.std.proofs.Common.{◌≡◌, ◌⊎◌, ℕ, ◌+◌, ◌≤◌, ◌<◌, nat_le, Bool, true, false, List, [], ◌∷◌, ◌++◌, length, length-append, Option, Some, None, Result, Ok, Err, inl, inr, if◌then◌else◌, refl, sym, ◌∙◌, ap, subst, arith}
use Rattle.rand_core.specs.Stream.{Stream}
use Rattle.std.specs.List.{AllByRecursion}
use Rattle.std.specs.List.Sorted.{IsPermutation}
use Rattle.std.proofs.lemmas.List.Elements.{All-from_recursion, recursion_from_All}
use Rattle.std.proofs.lemmas.List.Sorted.{All-permutation, IsPermutation-sym, sum_by-IsPermutation}
use Rattle.std.proofs.lemmas.List.Sums.{sum_by-cons}
use Rattle.ug_types.specs.Limits.{text_limit}
use Rattle.ug_types.specs.Principals.{Named, principal_of}
use Rattle.ug_acl.specs.Acls.{Addition}
use Rattle.ug_acl.specs.Pairs.{Pair}
use Rattle.ug_acl.specs.Texts.{access_read}
use Rattle.ug_types.specs.declared.rule.Rule.{Rule}
use Rattle.ug_types.specs.declared.text_fault.TextFault.{TextFault}
use Rattle.ug_links.specs.declared.waiter.Waiter
use Rattle.ug_links.specs.declared.clock.Clock
use Rattle.ug_rule.specs.Files.{file_read}
use Rattle.ug_print.specs.RuleTexts.{rules_text_of}
use Rattle.ug_conf.specs.Files.{FileStep, Read_at, Listed_at, Tree, text_at, names_at, SaysFiles, SaysText, SaysNames}
use Rattle.ug_conf.specs.FolderFiles.{folder_length}
use Rattle.ug_conf.specs.Texts.{conf_read}
use Rattle.ug_conf.specs.declared.folder_file.FolderFile.{FolderFile}
use Rattle.ug_conf.specs.declared.files.FileRead.{FileRead}
use Rattle.ug_conf.specs.declared.files.FileRead.TheVariants as file
use Rattle.ug_conf.specs.declared.files.FolderRead.{FolderRead}
use Rattle.ug_conf.specs.declared.files.FolderRead.TheVariants as found
use Rattle.ug_conf.specs.declared.settings.Settings.{Settings}
use Rattle.ug_store.specs.Disk.{Disk}
use Rattle.ug_store.specs.Store.{RecoversFrom}
use Rattle.ug_store.specs.declared.store.RecoverFault.{RecoverFault}
use Rattle.ug_store.specs.declared.store.RecoverFault.TheVariants as recover
use Rattle.ug_store.specs.declared.disk.RuleDisk
use Rattle.ug_policy.specs.Rules.{Rules, most_rules}
use Rattle.ug_kernel.specs.declared.sysfs.Sysfs
use Rattle.ug_audit.specs.declared.start_entry.ConfigPart.TheVariants as part
use Rattle.ug_audit.specs.declared.start_entry.StartEntry.{StartEntry}
use Rattle.ug_core.specs.Event.{DaemonState}
use Rattle.ug_core.specs.Starting.{BadFile, Outset, StartsAfter, StartsFrom, StartsOnFolder, StartsWith, file_before, folder_read, folder_rules, rules_of_folder}
use Rattle.ug_core.specs.declared.start_fault.StartFault.{StartFault}
use Rattle.ug_core.specs.declared.start_fault.StartFault.TheVariants as fault
use Rattle.ug_serve.specs.Access.{GrantsIn, GrantsOf, ReadsGrants, No_path, Reads, AddsGrants, ReadsNamed, ReadsBehind, ReadsNames, ReadsListed, AddsUsers, OpensTo, path_in, refused_name}
use Rattle.ug_serve.specs.Causes.{part_of_file, refused_whole, refusal_of_start, start_status}
use Rattle.ug_serve.specs.Opening.{outset_of, SettingsIn, SettingsOf, Started, StartsDaemon, Started_from, Without_names, file_names, with_cause, with_principals, Opens, Unread, Access_unread, Folder_unread, Unaimed, From_rules}
use Rattle.ug_serve.specs.Refusals.{settings_read, settings_of_text, refusal_of_grants, refusal_of_file, refusal_of_named, refusal_of_name, refusal_of_files, refusal_of_each, refusal_of_folder, refusal_in_file, refusal_of_read, refusal_of_rule_files, refusal_of_rules, refusal_of_rules_text, rule_files, rules_of_files, rules_of_read, first_refusal, refusal_behind, refusal_of_texts, IsStatusFor, IsStatusByTexts}
use Rattle.ug_serve.specs.declared.access.Access.{Access}
use Rattle.ug_links.specs.declared.links.Links
use Rattle.ug_serve.specs.Serving.{Objects, objects, first_world, AtSockets, ServesStarted, Listens_not, Listens, Serves, Bad_words, No_room, Not_started, Served}
use Rattle.ug_serve.specs.Turns.{TurnEvent, Turned, turns_events, Core, TurnWorld, Turns, ServesTurns}
use Rattle.ug_serve.proofs.Running.{AreHandled, turns_handled, cuts_turns}
use Rattle.ug_serve.specs.declared.not_started.NotStarted.{NotStarted}
use Rattle.ug_serve.specs.declared.not_started.NotStarted.TheVariants as why
use Rattle.ug_serve.specs.declared.turn.TurnEnd.{TurnEnd}
use Rattle.ug_serve.specs.declared.turn.TurnEnd.TheVariants as end
use Rattle.ug_serve.specs.Folders.{ReadsRules}
use Rattle.ug_serve.proofs.FolderTold.{RulesTold}
use Rattle.ug_serve.proofs.FolderTold.{rules_told as folder_rules_told}
use Rattle.ug_serve.proofs.Served.{not_three, started_status}

-- some text isn't taken
abbrev IsSome : Option NotStarted → Type 0
IsSome None = ⊥
IsSome (Some cause) = Unit {0}

-- the texts refuse a part, where one wasn't taken
abbrev pub Refuses : Option NotStarted → NotStarted → Type 0
Refuses texts (why.Refused what bad) = IsSome texts
Refuses texts why.FilesFailed = Unit {0}
Refuses texts why.DiskFailed = Unit {0}
Refuses texts why.Memory = Unit {0}

some : (texts : Option NotStarted) (cause : NotStarted) → texts ≡ Some cause → IsSome texts
some texts cause e = subst IsSome (sym e) tt

-- where all is taken, they refuse none
abbrev pub Told : {A : Type 0} → Option NotStarted → Result A NotStarted → Type 0
Told texts (Ok value) = texts ≡ None
Told texts (Err cause) = Refuses texts cause

-- ---- the settings

abbrev Read : Result Settings NotStarted → Result Settings NotStarted → Type 0
Read texts (Ok settings) = texts ≡ Ok settings
Read texts (Err (why.Refused what bad)) = texts ≡ Err (why.Refused what bad)
Read texts (Err why.FilesFailed) = Unit {0}
Read texts (Err why.DiskFailed) = Unit {0}
Read texts (Err why.Memory) = Unit {0}

read_of : (text : List ℕ) (r : Result Settings NotStarted) → SettingsOf text r → Read (settings_read (conf_read text)) r
read_of text (Ok settings) h = ap settings_read h
read_of text (Err (why.Refused what bad)) h = ap settings_read h.1 ∙ ap (λ p. Err (why.Refused p bad)) (sym h.0)
read_of text (Err why.FilesFailed) h = tt
read_of text (Err why.DiskFailed) h = tt
read_of text (Err why.Memory) h = tt

within : (n limit : ℕ) → n ≤ limit → nat_le n limit ≡ true
within n limit le = grind (arith, le)

beyond : (n limit : ℕ) → limit < n → nat_le n limit ≡ false
beyond n limit lt = grind (arith, lt)

fits_text : (text : List ℕ) → length text ≤ text_limit → settings_of_text (Some text) ≡ settings_read (conf_read text)
fits_text text le = ap (λ (b : Bool). if b then settings_read (conf_read text) else Err (refused_whole part.Settings)) (within (length text) text_limit le)

too_long_text : (text : List ℕ) → text_limit < length text → settings_of_text (Some text) ≡ Err (refused_whole part.Settings)
too_long_text text lt = ap (λ (b : Bool). if b then settings_read (conf_read text) else Err (refused_whole part.Settings)) (beyond (length text) text_limit lt)

read_told : (text : Option (List ℕ)) (answer : FileRead) (r : Result Settings NotStarted) → SaysText text answer → SettingsIn answer r → Read (settings_of_text text) r
read_told text (file.Bytes bytes) r says h =
    subst (λ (x : Result Settings NotStarted). Read x r) (sym (ap settings_of_text says.0 ∙ fits_text bytes says.1)) (read_of bytes r h)
read_told text file.Absent r says h =
    subst (λ (x : Result Settings NotStarted). Read (settings_of_text text) x) (sym h) (ap settings_of_text says)
read_told text file.TooLong r says h =
    subst (λ (x : Result Settings NotStarted). Read (settings_of_text text) x) (sym h) (ap settings_of_text says.1 ∙ too_long_text says.0 says.2)
read_told text file.Failed r says h = subst (λ (x : Result Settings NotStarted). Read (settings_of_text text) x) (sym h) tt
read_told text file.Memory r says h = subst (λ (x : Result Settings NotStarted). Read (settings_of_text text) x) (sym h) tt

refused_settings : (tree : Tree) (rules : List ℕ) (texts : Result Settings NotStarted) (cause : NotStarted) → Read texts (Err cause) → Refuses (refusal_behind tree rules texts) cause
refused_settings tree rules texts (why.Refused what bad) h = some (refusal_behind tree rules texts) (why.Refused what bad) (ap (refusal_behind tree rules) h)
refused_settings tree rules texts why.FilesFailed h = tt
refused_settings tree rules texts why.DiskFailed h = tt
refused_settings tree rules texts why.Memory h = tt

-- ---- the access files

grants_of_text : (text : List ℕ) (r : Result (List Pair) NotStarted) → GrantsOf text r → Told (refusal_of_grants (access_read text)) r
grants_of_text text (Ok pairs) h = ap refusal_of_grants h
grants_of_text text (Err (why.Refused what bad)) h = some (refusal_of_grants (access_read text)) (why.Refused part.Access bad) (ap refusal_of_grants h.1)
grants_of_text text (Err why.FilesFailed) h = tt
grants_of_text text (Err why.DiskFailed) h = tt
grants_of_text text (Err why.Memory) h = tt

fits_file : (text : List ℕ) → length text ≤ text_limit → refusal_of_file (Some text) ≡ refusal_of_grants (access_read text)
fits_file text le = ap (λ (b : Bool). if b then refusal_of_grants (access_read text) else Some (refused_whole part.Access)) (within (length text) text_limit le)

too_long_file : (text : List ℕ) → text_limit < length text → refusal_of_file (Some text) ≡ Some (refused_whole part.Access)
too_long_file text lt = ap (λ (b : Bool). if b then refusal_of_grants (access_read text) else Some (refused_whole part.Access)) (beyond (length text) text_limit lt)

file_told : (text : Option (List ℕ)) (answer : FileRead) (r : Result (List Pair) NotStarted) → SaysText text answer → GrantsIn answer r → Told (refusal_of_file text) r
file_told text (file.Bytes bytes) r says h =
    subst (λ (x : Option NotStarted). Told x r) (sym (ap refusal_of_file says.0 ∙ fits_file bytes says.1)) (grants_of_text bytes r h)
file_told text file.Absent r says h = subst (λ (x : Option NotStarted). Told x r) (sym (ap refusal_of_file says)) (grants_of_text [] r h)
file_told text file.TooLong r says h =
    subst (λ (x : Result (List Pair) NotStarted). Told (refusal_of_file text) x) (sym h) (some (refusal_of_file text) (refused_whole part.Access) (ap refusal_of_file says.1 ∙ too_long_file says.0 says.2))
file_told text file.Failed r says h = subst (λ (x : Result (List Pair) NotStarted). Told (refusal_of_file text) x) (sym h) tt
file_told text file.Memory r says h = subst (λ (x : Result (List Pair) NotStarted). Told (refusal_of_file text) x) (sym h) tt

-- a refusal stands whatever follows it
refused_first : (first later : Option NotStarted) (cause : NotStarted) → Refuses first cause → Refuses (first_refusal first later) cause
refused_first (Some c) later (why.Refused what bad) h = tt
refused_first None later (why.Refused what bad) h = absurd h
refused_first first later why.FilesFailed h = tt
refused_first first later why.DiskFailed h = tt
refused_first first later why.Memory h = tt

told_later : {A : Type 0} (first later : Option NotStarted) (r : Result A NotStarted) → first ≡ None → Told later r → Told (first_refusal first later) r
told_later first later r none h = subst (λ (x : Option NotStarted). Told (first_refusal x later) r) (sym none) h

users_told : (texts : Option NotStarted) (users : List Named) (granted : Result (List Addition) NotStarted) (r : Result Access NotStarted) → Told texts granted → AddsUsers users granted r → Told texts r
users_told texts users (Ok acl) (Ok access) told h = told
users_told texts users (Ok acl) (Err cause) told h = subst (λ (x : NotStarted). Refuses texts x) (sym h) tt
users_told texts users (Err cause) r told h = subst (λ (x : Result Access NotStarted). Told texts x) (sym h) told

module _ (tree : Tree) (folder : List ℕ) where
  abbrev IsTaken : List ℕ → Type 0
  IsTaken name = refusal_of_name tree folder name ≡ None

  first_none : (first later : Option NotStarted) → first_refusal first later ≡ None → (first ≡ None) × (later ≡ None)
  first_none None later h = (refl, h)
  first_none (Some cause) later h = let no : ⊥ = cc in absurd no

  all_taken : (names : List (List ℕ)) → refusal_of_files tree folder names ≡ None → AllByRecursion IsTaken names
  all_taken [] h = tt
  all_taken (name ∷ names) h =
      let k = first_none (refusal_of_name tree folder name) (refusal_of_files tree folder names) h in
      (k.0, all_taken names k.1)

  taken_all : (names : List (List ℕ)) → AllByRecursion IsTaken names → refusal_of_files tree folder names ≡ None
  taken_all [] h = refl
  taken_all (name ∷ names) h = ap (λ (x : Option NotStarted). first_refusal x (refusal_of_files tree folder names)) h.0 ∙ taken_all names h.1

  none_in_order : (xs ys : List (List ℕ)) → IsPermutation xs ys → refusal_of_files tree folder xs ≡ None → refusal_of_files tree folder ys ≡ None
  none_in_order xs ys same h = taken_all ys (recursion_from_All IsTaken ys (All-permutation IsTaken xs ys same (All-from_recursion IsTaken xs (all_taken xs h))))

  some_unless : (texts : Option NotStarted) → (texts ≡ None → ⊥) → IsSome texts
  some_unless None h = h refl
  some_unless (Some cause) h = tt

  none_not_some : (texts : Option NotStarted) → texts ≡ None → IsSome texts → ⊥
  none_not_some texts none h = subst IsSome none h

  refused_in_order : (names sorted : List (List ℕ)) (cause : NotStarted) → IsPermutation names sorted → Refuses (refusal_of_files tree folder sorted) cause → Refuses (refusal_of_files tree folder names) cause
  refused_in_order names sorted (why.Refused what bad) same h =
      some_unless (refusal_of_files tree folder names) (λ none. none_not_some (refusal_of_files tree folder sorted) (none_in_order names sorted same none) h)
  refused_in_order names sorted why.FilesFailed same h = tt
  refused_in_order names sorted why.DiskFailed same h = tt
  refused_in_order names sorted why.Memory same h = tt

  told_in_order : {A : Type 0} (names sorted : List (List ℕ)) (r : Result A NotStarted) → IsPermutation names sorted → Told (refusal_of_files tree folder sorted) r → Told (refusal_of_files tree folder names) r
  told_in_order names sorted (Ok value) same h = none_in_order sorted names (IsPermutation-sym names sorted same) h
  told_in_order names sorted (Err cause) same h = refused_in_order names sorted cause same h

-- ---- the rules of the folder

-- each file is good, and the rules are those of all
folder_good : (place : ℕ) (files : List FolderFile) (rules : List Rule) → folder_read place files ≡ Ok rules → (refusal_of_each files ≡ None) × (rules_of_files files ≡ length rules)
folder_good place [] rules e = let none : [] ≡ rules = cc in (refl, ap length none)
folder_good place (f ∷ files) rules e = by (file_read f.text) (folder_read (place + 1) files) (λ more later. folder_good (place + 1) files more later) refl refl e
  where
    by : (one : Result (List Rule) TextFault) (behind : Result (List Rule) BadFile) → ((more : List Rule) → folder_read (place + 1) files ≡ Ok more → (refusal_of_each files ≡ None) × (rules_of_files files ≡ length more)) → file_read f.text ≡ one → folder_read (place + 1) files ≡ behind → file_before place one behind ≡ Ok rules
        → (refusal_of_each (f ∷ files) ≡ None) × (rules_of_files (f ∷ files) ≡ length rules)
    by (Ok now) (Ok more) next is later k =
        let rest = next more later in
        let all : now ++ more ≡ rules = cc in
        let here : length (rules_of_read (file_read f.text)) ≡ length now = ap (λ (r : Result (List Rule) TextFault). length (rules_of_read r)) is in
        let sum : rules_of_files (f ∷ files) ≡ length (rules_of_read (file_read f.text)) + rules_of_files files = sum_by-cons (λ x. length (rules_of_read (file_read x.text))) f files in
        let long : length (now ++ more) ≡ length now + length more = length-append now more in
        let whole : length (now ++ more) ≡ length rules = ap length all in (
          ap (λ (r : Result (List Rule) TextFault). first_refusal (refusal_in_file f.name r) (refusal_of_each files)) is ∙ rest.0,
          omega (arith, here, sum, long, whole, rest.1),
        )
    by (Ok now) (Err bad) next is later k = let none : ⊥ = cc in absurd none
    by (Err bad) behind next is later k = let none : ⊥ = cc in absurd none

-- one file is bad
folder_bad : (place : ℕ) (files : List FolderFile) (bad : BadFile) → folder_read place files ≡ Err bad → refusal_of_each files ≡ None → ⊥
folder_bad place [] bad e none = let no : ⊥ = cc in no
folder_bad place (f ∷ files) bad e none = by (file_read f.text) (folder_read (place + 1) files) (λ later all. folder_bad (place + 1) files bad later all) refl refl e none
  where
    by : (one : Result (List Rule) TextFault) (behind : Result (List Rule) BadFile) → (folder_read (place + 1) files ≡ Err bad → refusal_of_each files ≡ None → ⊥) → file_read f.text ≡ one → folder_read (place + 1) files ≡ behind → file_before place one behind ≡ Err bad → refusal_of_each (f ∷ files) ≡ None → ⊥
    by (Ok now) (Ok more) next is later k all = let no : ⊥ = cc in no
    by (Ok now) (Err other) next is later k all =
        let same : other ≡ bad = cc in
        next (later ∙ ap (λ (x : BadFile). Err x) same)
        (sym (ap (λ (r : Result (List Rule) TextFault). first_refusal (refusal_in_file f.name r) (refusal_of_each files)) is) ∙ all)
    by (Err one) behind next is later k all =
        let found : Some (why.Refused (part_of_file f.name) one) ≡ None = sym (ap (λ (r : Result (List Rule) TextFault). first_refusal (refusal_in_file f.name r) (refusal_of_each files)) is) ∙ all in
        let no : ⊥ = cc in no

abbrev IsGoodFile : FolderFile → Type 0
IsGoodFile f = refusal_in_file f.name (file_read f.text) ≡ None

both_none : (first later : Option NotStarted) → first_refusal first later ≡ None → (first ≡ None) × (later ≡ None)
both_none None later h = (refl, h)
both_none (Some cause) later h = let no : ⊥ = cc in absurd no

all_good : (files : List FolderFile) → refusal_of_each files ≡ None → AllByRecursion IsGoodFile files
all_good [] h = tt
all_good (f ∷ files) h =
    let k = both_none (refusal_in_file f.name (file_read f.text)) (refusal_of_each files) h in
    (k.0, all_good files k.1)

good_all : (files : List FolderFile) → AllByRecursion IsGoodFile files → refusal_of_each files ≡ None
good_all [] h = refl
good_all (f ∷ files) h = ap (λ (x : Option NotStarted). first_refusal x (refusal_of_each files)) h.0 ∙ good_all files h.1

-- the order is no matter
good_in_order : (xs ys : List FolderFile) → IsPermutation xs ys → refusal_of_each xs ≡ None → refusal_of_each ys ≡ None
good_in_order xs ys same h = good_all ys (recursion_from_All IsGoodFile ys (All-permutation IsGoodFile xs ys same (All-from_recursion IsGoodFile xs (all_good xs h))))

some_unless_none : (texts : Option NotStarted) → (texts ≡ None → ⊥) → IsSome texts
some_unless_none None h = h refl
some_unless_none (Some cause) h = tt

short_folder : (files : List FolderFile) → folder_length files ≤ text_limit → refusal_of_rule_files files ≡ refusal_of_each files
short_folder files le = ap (λ (b : Bool). if b then refusal_of_each files else Some (refused_whole part.Folder)) (within (folder_length files) text_limit le)

long_folder : (files : List FolderFile) → text_limit < folder_length files → refusal_of_rule_files files ≡ Some (refused_whole part.Folder)
long_folder files lt = ap (λ (b : Bool). if b then refusal_of_each files else Some (refused_whole part.Folder)) (beyond (folder_length files) text_limit lt)

folder_fits : (files : List FolderFile) (r : Result (List Rule) StartFault) → folder_length files ≤ text_limit → folder_rules files ≡ r → rules_of_folder (folder_read 0 files) ≡ r
folder_fits files r le e = sym (ap (λ (b : Bool). if b then rules_of_folder (folder_read 0 files) else Err fault.FolderTooLong) (within (folder_length files) text_limit le)) ∙ e

-- ---- the rules behind so many

read_rules : (before : ℕ) (text : List ℕ) → length text ≤ text_limit → refusal_of_rules_text before text ≡ refusal_of_read before (file_read text)
read_rules before text le = ap (λ (b : Bool). if b then refusal_of_read before (file_read text) else Some (refused_whole part.Rules)) (within (length text) text_limit le)

few_rules : (before : ℕ) (rules : List Rule) → before + length rules ≤ most_rules
    → refusal_of_read before (Ok rules) ≡ (if nat_le (length (rules_text_of rules)) text_limit then None else Some (refused_whole part.Rules))
few_rules before rules few =
    ap (λ (b : Bool). if b then (if nat_le (length (rules_text_of rules)) text_limit then None else Some (refused_whole part.Rules)) else Some (refused_whole part.Rules)) (within (before + length rules) most_rules few)

few_fit : (before : ℕ) (rules : List Rule) → before + length rules ≤ most_rules → length (rules_text_of rules) ≤ text_limit → refusal_of_read before (Ok rules) ≡ None
few_fit before rules few fits = few_rules before rules few ∙ ap (λ (b : Bool). if b then None else Some (refused_whole part.Rules)) (within (length (rules_text_of rules)) text_limit fits)

few_long : (before : ℕ) (rules : List Rule) → before + length rules ≤ most_rules → text_limit < length (rules_text_of rules) → refusal_of_read before (Ok rules) ≡ Some (refused_whole part.Rules)
few_long before rules few long = few_rules before rules few ∙ ap (λ (b : Bool). if b then None else Some (refused_whole part.Rules)) (beyond (length (rules_text_of rules)) text_limit long)

many : (before : ℕ) (rules : List Rule) → most_rules < before + length rules → refusal_of_read before (Ok rules) ≡ Some (refused_whole part.Rules)
many before rules more =
    ap (λ (b : Bool). if b then (if nat_le (length (rules_text_of rules)) text_limit then None else Some (refused_whole part.Rules)) else Some (refused_whole part.Rules)) (beyond (before + length rules) most_rules more)

-- names are no matter to whether there is a refusal
abbrev Loaded : {A : Type 0} → Option NotStarted → Result A StartFault → Type 0
Loaded texts (Ok value) = texts ≡ None
Loaded texts (Err e) = (names : List (List ℕ)) → Refuses texts (refusal_of_start names e)

module _ (folder : List Rule) where
  abbrev before : ℕ
  before = length folder

  -- the rules of a text that was read
  rules_told : (text : List ℕ) (r : Result Rules StartFault) → length text ≤ text_limit → StartsWith folder text r → Loaded (refusal_of_rules_text before text) r
  rules_told text (Ok list) le h = read_rules before text le ∙ (ap (refusal_of_read before) h.reads ∙ few_fit before h.rules h.few h.fits)
  rules_told text (Err (fault.BadRules bad)) le h = λ names. some (refusal_of_rules_text before text) (why.Refused part.Rules bad) (read_rules before text le ∙ ap (refusal_of_read before) h)
  rules_told text (Err fault.TooMany) le h = λ names. some (refusal_of_rules_text before text) (refused_whole part.Rules) (read_rules before text le ∙ (ap (refusal_of_read before) h.reads ∙ many before h.rules h.many))
  rules_told text (Err fault.TooLong) le h = λ names. some (refusal_of_rules_text before text) (refused_whole part.Rules) (read_rules before text le ∙ (ap (refusal_of_read before) h.reads ∙ few_long before h.rules h.few h.long))
  rules_told text (Err fault.Memory) le h = λ names. tt
  rules_told text (Err (fault.Disk count)) le h = λ names. tt
  rules_told text (Err (fault.BadFolder file bad)) le h = absurd h
  rules_told text (Err fault.FolderTooLong) le h = absurd h

  text_fits : (text whole : List ℕ) → text ≡ whole → length whole ≤ text_limit → length text ≤ text_limit
  text_fits text whole e le = subst (λ (x : List ℕ). length x ≤ text_limit) (sym e) le

  long_file : (text : List ℕ) → text_limit < length text → refusal_of_rules_text before text ≡ Some (refused_whole part.Rules)
  long_file text lt = ap (λ (b : Bool). if b then refusal_of_read before (file_read text) else Some (refused_whole part.Rules)) (beyond (length text) text_limit lt)

  after_told : (whole : List ℕ) (read : Result (List ℕ) RecoverFault) (loaded : Result (Bool × Rules) StartFault) → RecoversFrom read whole → StartsAfter folder read loaded → Loaded (refusal_of_rules_text before whole) loaded
  after_told whole (Ok text) (Ok started) r h =
      subst (λ (x : List ℕ). refusal_of_rules_text before x ≡ None) r.0 (rules_told text (Ok started.1) (text_fits text whole r.0 r.1) h.1)
  after_told whole (Ok text) (Err e) r h =
      subst (λ (x : List ℕ). Loaded {A = Rules} (refusal_of_rules_text before x) (Err e)) r.0 (rules_told text (Err e) (text_fits text whole r.0 r.1) h)
  after_told whole (Err recover.TooLong) loaded r h =
      subst (λ (x : Result (Bool × Rules) StartFault). Loaded (refusal_of_rules_text before whole) x) (sym h) (λ names. some (refusal_of_rules_text before whole) (refused_whole part.Rules) (long_file whole r))
  after_told whole (Err (recover.Failed count)) loaded r h = subst (λ (x : Result (Bool × Rules) StartFault). Loaded (refusal_of_rules_text before whole) x) (sym h) (λ names. tt)
  after_told whole (Err recover.Memory) loaded r h = subst (λ (x : Result (Bool × Rules) StartFault). Loaded (refusal_of_rules_text before whole) x) (sym h) (λ names. tt)

from_told : (texts : Option NotStarted) (outset : Outset) (loaded : Result (Bool × Rules) StartFault) (result : Result DaemonState StartFault) → Loaded texts loaded → StartsFrom outset loaded result → Loaded texts result
from_told texts outset (Ok l) (Ok d) k h = k
from_told texts outset (Ok l) (Err e) k h = subst (λ (x : StartFault). Loaded {A = DaemonState} texts (Err x)) (sym h) (λ names. tt)
from_told texts outset (Err e) result k h = subst (λ (r : Result DaemonState StartFault). Loaded texts r) (sym h) k

-- what is refused first stays so
loaded_first : (first later : Option NotStarted) (e : StartFault) → Loaded {A = DaemonState} first (Err e) → Loaded {A = DaemonState} (first_refusal first later) (Err e)
loaded_first first later e h = λ names. refused_first first later (refusal_of_start names e) (h names)

cause_told : (texts : Option NotStarted) (files : List FolderFile) (result : Result DaemonState StartFault) → Loaded texts result → Told texts (with_cause files result)
cause_told texts files (Ok d) h = h
cause_told texts files (Err e) h = h (file_names files)

principals_told : (texts : Option NotStarted) (ps : List Named) (result : Result DaemonState NotStarted) → Told texts result → Told texts (with_principals ps result)
principals_told texts ps (Ok d) h = h
principals_told texts ps (Err cause) h = h

-- the folder that isn't taken
folder_told : (whole files : List FolderFile) (e : StartFault) → IsPermutation whole files → folder_length whole ≤ text_limit → (Err e ≡ folder_rules files) ⊎ (◌≡◌ {A = Result (List Rule) StartFault} (Err e) (Err fault.Memory)) → Loaded {A = DaemonState} (refusal_of_rule_files whole) (Err e)
folder_told whole files e same fits (inr is) =
    let memory : e ≡ fault.Memory = cc in
    subst (λ (x : StartFault). Loaded {A = DaemonState} (refusal_of_rule_files whole) (Err x)) (sym memory) (λ names. tt)
folder_told whole files e same fits (inl is) = by (folder_read 0 files) refl (folder_fits files (Err e) short (sym is))
  where
    long : folder_length files ≡ folder_length whole
    long = sum_by-IsPermutation (λ f. length f.text) whole files same

    short : folder_length files ≤ text_limit
    short = subst (λ (n : ℕ). n ≤ text_limit) (sym long) fits

    by : (read : Result (List Rule) BadFile) → folder_read 0 files ≡ read → rules_of_folder read ≡ Err e → Loaded {A = DaemonState} (refusal_of_rule_files whole) (Err e)
    by (Ok rules) given k = let no : ⊥ = cc in absurd no
    by (Err bad) given k =
        let is_bad : fault.BadFolder bad.file bad.fault ≡ e = cc in
        let found : IsSome (refusal_of_rule_files whole) = some_unless_none (refusal_of_rule_files whole) (λ none. folder_bad 0 files bad given (good_in_order whole files same (sym (short_folder whole fits) ∙ none))) in
        subst (λ (x : StartFault). Loaded {A = DaemonState} (refusal_of_rule_files whole) (Err x)) is_bad (λ names. found)

-- the rules of one that is
folder_taken : (whole files : List FolderFile) (rules : List Rule) → IsPermutation whole files → folder_length whole ≤ text_limit → Ok rules ≡ folder_rules files → (refusal_of_rule_files whole ≡ None) × (rules_of_files whole ≡ length rules)
folder_taken whole files rules same fits is = by (folder_read 0 files) refl (folder_fits files (Ok rules) short (sym is))
  where
    long : folder_length files ≡ folder_length whole
    long = sum_by-IsPermutation (λ f. length f.text) whole files same

    short : folder_length files ≤ text_limit
    short = subst (λ (n : ℕ). n ≤ text_limit) (sym long) fits

    count : rules_of_files files ≡ rules_of_files whole
    count = sum_by-IsPermutation (λ f. length (rules_of_read (file_read f.text))) whole files same

    by : (read : Result (List Rule) BadFile) → folder_read 0 files ≡ read → rules_of_folder read ≡ Ok rules → (refusal_of_rule_files whole ≡ None) × (rules_of_files whole ≡ length rules)
    by (Ok all) given k =
        let is_all : all ≡ rules = cc in
        let each = folder_good 0 files all given in (
          short_folder whole fits ∙ good_in_order files whole (IsPermutation-sym whole files same) each.0,
          sym count ∙ each.1 ∙ ap length is_all,
        )
    by (Err bad) given k = let no : ⊥ = cc in absurd no

-- ---- the status

status_for : (texts : Option NotStarted) (cause : NotStarted) → Refuses texts cause → IsStatusFor texts (start_status cause)
status_for None (why.Refused what bad) h = absurd h
status_for (Some c) (why.Refused what bad) h = inl refl
status_for None why.FilesFailed h = λ e. omega (arith, e)
status_for (Some c) why.FilesFailed h = inr (inl refl)
status_for None why.Memory h = λ e. omega (arith, e)
status_for (Some c) why.Memory h = inr (inr (inl refl))
status_for None why.DiskFailed h = λ e. omega (arith, e)
status_for (Some c) why.DiskFailed h = inr (inr (inr (inl refl)))

module _ {F Y D N W C : Type 0} (reads : F → FileStep → F → Type 0) (sysfs : Sysfs.Ghosts Y)
    (disk : RuleDisk.Ghosts D) (net : Links.Ghosts N) (wait : Waiter.Ghosts W) (ticks : Clock.Ghosts C)
    (files_told : F → Option Tree) (files_tell : (s : F) (step : FileStep) (t : F) (tree : Tree) → reads s step t → files_told t ≡ Some tree → (files_told s ≡ Some tree) × SaysFiles tree step) where
  open disk use {told as disk_told}

  -- what is added tells no more than what was read
  added_told : (folder : List ℕ) (texts : Option NotStarted) (who : Named) (grants : Result (List Pair) NotStarted) (acl : List Addition) (r : Result (List Addition) NotStarted) → Told texts grants → AddsGrants reads folder who grants acl r → Told texts r
  added_told folder texts who (Ok pairs) acl (Ok more) told h = told
  added_told folder texts who (Ok pairs) acl (Err cause) told h = subst (λ (x : NotStarted). Refuses texts x) (sym h) tt
  added_told folder texts who (Err cause) acl r told h = subst (λ (x : Result (List Addition) NotStarted). Told texts x) (sym h) told

  read_file_told : (folder name : List ℕ) (s : F) (r : Result (List Pair) NotStarted) (t : F) (tree : Tree) → ReadsGrants reads folder name s r t → files_told t ≡ Some tree
      → (files_told s ≡ Some tree) × Told (refusal_of_file (text_at tree (path_in folder name))) r
  read_file_told folder name s _ _ tree No_path is = (is, tt)
  read_file_told folder name s _ _ tree (Reads answer r t given grants) is =
      let back = files_tell s (Read_at (path_in folder name) answer) t tree given is in
      (back.0, file_told (text_at tree (path_in folder name)) answer r back.1 grants)

  named_told : (folder : List ℕ) (who : Option Named) (name : List ℕ) (acl : List Addition) (s : F) (r : Result (List Addition) NotStarted) (t : F) (tree : Tree) → ReadsNamed reads folder who name acl s r t → files_told t ≡ Some tree
      → (files_told s ≡ Some tree) × Told (refusal_of_named who (text_at tree (path_in folder name))) r
  named_told folder None name acl s r t tree h is =
      (ap files_told (sym h.1) ∙ is, subst (λ (x : Result (List Addition) NotStarted). Told (Some refused_name) x) (sym h.0) tt)
  named_told folder (Some who) name acl s r t tree h is =
      let read = read_file_told folder name s h.0 t tree h.1 is in
      (read.0, added_told folder (refusal_of_file (text_at tree (path_in folder name))) who h.0 acl r read.1 h.2)

  names_told : (folder : List ℕ) (names : List (List ℕ)) (acl : List Addition) (s : F) (r : Result (List Addition) NotStarted) (t : F) (tree : Tree) → ReadsNames reads folder names acl s r t → files_told t ≡ Some tree
      → (files_told s ≡ Some tree) × Told (refusal_of_files tree folder names) r
  names_told folder [] acl s r t tree h is =
      (ap files_told (sym h.1) ∙ is, subst (λ (x : Result (List Addition) NotStarted). Told None x) (sym h.0) refl)
  names_told folder (name ∷ names) acl s r t tree h is = behind h.0 h.1 (λ more u rest. names_told folder names more u r t tree rest is) h.2 h.3
    where
      first : Option NotStarted
      first = refusal_of_name tree folder name

      later : Option NotStarted
      later = refusal_of_files tree folder names

      behind : (one : Result (List Addition) NotStarted) (u : F) → ((more : List Addition) (v : F) → ReadsNames reads folder names more v r t → (files_told v ≡ Some tree) × Told later r) → ReadsNamed reads folder (principal_of name) name acl s one u → ReadsBehind (λ more v. ReadsNames reads folder names more v r t) one r u t → (files_told s ≡ Some tree) × Told (first_refusal first later) r
      behind (Ok more) u next one rest =
          let k = next more u rest in
          let n = named_told folder (principal_of name) name acl s (Ok more) u tree one k.0 in
          (n.0, told_later first later r n.1 k.1)
      behind (Err cause) u next one rest =
          let n = named_told folder (principal_of name) name acl s (Err cause) u tree one (ap files_told (sym rest.1) ∙ is) in
          (n.0, subst (λ (x : Result (List Addition) NotStarted). Told (first_refusal first later) x) (sym rest.0) (refused_first first later cause n.1))

  listed_told : (folder : List ℕ) (names : Option (List (List ℕ))) (answer : FolderRead) (s : F) (r : Result (List Addition) NotStarted) (t : F) (tree : Tree) → ReadsListed reads folder answer s r t → files_told t ≡ Some tree
      → (files_told s ≡ Some tree) × (SaysNames names answer → Told (refusal_of_folder tree folder names) r)
  listed_told folder names (found.Names all) s r t tree h is =
      let k = names_told folder h.sorted [] s r t tree h.reads is in
      (k.0, λ says. subst (λ (x : Option (List (List ℕ))). Told (refusal_of_folder tree folder x) r) (sym says) (told_in_order tree folder all h.sorted r h.order.all k.1))
  listed_told folder names found.Absent s r t tree h is =
      (ap files_told (sym h.1) ∙ is, λ says. subst (λ (x : Result (List Addition) NotStarted). Told (refusal_of_folder tree folder names) x) (sym h.0) (ap (refusal_of_folder tree folder) says))
  listed_told folder names found.Failed s r t tree h is =
      (ap files_told (sym h.1) ∙ is, λ says. subst (λ (x : Result (List Addition) NotStarted). Told (refusal_of_folder tree folder names) x) (sym h.0) tt)
  listed_told folder names found.Memory s r t tree h is =
      (ap files_told (sym h.1) ∙ is, λ says. subst (λ (x : Result (List Addition) NotStarted). Told (refusal_of_folder tree folder names) x) (sym h.0) tt)

  open_told : (users : List Named) (at : List ℕ) (g : F) (r : Result Access NotStarted) (h : F) (tree : Tree) → OpensTo reads users at g r h → files_told h ≡ Some tree
      → (files_told g ≡ Some tree) × Told (refusal_of_folder tree at (names_at tree at)) r
  open_told users at g r h tree o is =
      let read = listed_told at (names_at tree at) o.reads.answer o.reads.listed o.granted h tree o.reads.reads is in
      let back = files_tell g (Listed_at at o.reads.answer) o.reads.listed tree o.reads.lists read.0 in
      (back.0, users_told (refusal_of_folder tree at (names_at tree at)) users o.granted r (read.1 back.1) o.adds)

  rules_told_of : (settings : Settings) (h : F) (r : Result (List FolderFile) NotStarted) (i : F) (tree : Tree) → ReadsRules reads settings.rule_folder h r i → files_told i ≡ Some tree → (files_told h ≡ Some tree) × RulesTold (rule_files tree settings.rule_folder) r
  rules_told_of settings h r i tree k is = folder_rules_told reads files_told files_tell settings.rule_folder h r i tree k is

  folder_refuses : (whole : List FolderFile) (cause : NotStarted) → RulesTold whole (Err cause) → Refuses (refusal_of_rule_files whole) cause
  folder_refuses whole (why.Refused what bad) h = some (refusal_of_rule_files whole) (refused_whole part.Folder) (long_folder whole h)
  folder_refuses whole why.FilesFailed h = tt
  folder_refuses whole why.DiskFailed h = tt
  folder_refuses whole why.Memory h = tt

  -- a daemon that starts from these files and the disk
  on_folder : (outset : Outset) (whole files : List FolderFile) (a : D) (folder : Result (List Rule) StartFault) (result : Result DaemonState StartFault) (b : D) (n : Disk) → IsPermutation whole files → folder_length whole ≤ text_limit
      → (folder ≡ folder_rules files) ⊎ (folder ≡ Err fault.Memory) → StartsOnFolder disk.keeps disk.told disk.faults outset folder a result b → disk_told b ≡ Some n
      → (m : Disk) × (disk_told a ≡ Some m) × Told (refusal_of_rules whole m.text) (with_cause files result)
  on_folder outset whole files a (Err e) result b n same fits taken h on =
      let told_folder = loaded_first (refusal_of_rule_files whole) (refusal_of_rules_text (rules_of_files whole) n.text) e (folder_told whole files e same fits taken) in (
        n,
        ap disk_told (sym h.1) ∙ on,
        subst (λ (x : Result DaemonState StartFault). Told (refusal_of_rules whole n.text) (with_cause files x)) (sym h.0) (cause_told (refusal_of_rules whole n.text) files (Err e) told_folder),
      )
  on_folder outset whole files a (Ok rules) result b n same fits (inr is) h on = let no : ⊥ = cc in absurd no
  on_folder outset whole files a (Ok rules) result b n same fits (inl is) h on =
      let taken = folder_taken whole files rules same fits is in
      let back = h.loads.law n on in
      let loaded = from_told (refusal_of_rules_text (length rules) back.0.text) outset h.loaded result (after_told rules back.0.text h.loads.read h.loaded back.2.file h.loads.starts) h.starts in
      let counted = subst (λ (k : ℕ). Loaded (refusal_of_rules_text k back.0.text) result) (sym taken.1) loaded in (
        back.0,
        back.1,
        subst (λ (x : Option NotStarted). Told (first_refusal x (refusal_of_rules_text (rules_of_files whole) back.0.text)) (with_cause files result)) (sym taken.0) (cause_told (refusal_of_rules_text (rules_of_files whole) back.0.text) files result counted),
      )

  started_told : (outset : Outset) (whole files : List FolderFile) (a : D) (result : Result DaemonState NotStarted) (b : D) (n : Disk) → IsPermutation whole files → folder_length whole ≤ text_limit → StartsDaemon disk outset files a result b → disk_told b ≡ Some n
      → (m : Disk) × (disk_told a ≡ Some m) × Told (refusal_of_rules whole m.text) result
  started_told outset whole files a _ _ n same fits Without_names on = (n, on, tt)
  started_told outset whole files a _ _ n same fits (Started_from result b starts) on = on_folder outset whole files a starts.folder result b n same fits starts.taken starts.starts on

  opens_told : (path : List ℕ) (clock : ℕ → ℕ) (words : Stream) (f : F) (d : D) (entries : List StartEntry) (result : Result Started NotStarted) (g : F) (e : D) (tree : Tree) (n : Disk)
      → Opens reads disk path clock words f d entries result g e → files_told g ≡ Some tree → disk_told e ≡ Some n
      → (m : Disk) × (disk_told d ≡ Some m) × Told (refusal_of_texts tree m.text path) result
  opens_told path clock words f d _ _ _ _ tree n (Unread cause g r) is on =
      let says = files_tell f (Read_at path r.answer) g tree r.read is in
      (n, on, refused_settings tree n.text (settings_of_text (text_at tree path)) cause (read_told (text_at tree path) r.answer (Err cause) says.1 r.settings))
  opens_told path clock words f d _ _ _ _ tree n (Access_unread settings cause g h r o) is on =
      let access = open_told settings.users settings.access_folder g (Err cause) h tree o is in
      let says = files_tell f (Read_at path r.answer) g tree r.read access.0 in
      let read = read_told (text_at tree path) r.answer (Ok settings) says.1 r.settings in (
        n,
        on,
        subst (λ (x : Result Settings NotStarted). Refuses (refusal_behind tree n.text x) cause) (sym read)
            (refused_first (refusal_of_folder tree settings.access_folder (names_at tree settings.access_folder)) (refusal_of_rules (rule_files tree settings.rule_folder) n.text) cause access.1),
      )
  opens_told path clock words f d _ _ _ _ tree n (Folder_unread settings opened cause g h i r o folder) is on =
      let before = rules_told_of settings h (Err cause) i tree folder is in
      let access = open_told settings.users settings.access_folder g (Ok opened) h tree o before.0 in
      let says = files_tell f (Read_at path r.answer) g tree r.read access.0 in
      let read = read_told (text_at tree path) r.answer (Ok settings) says.1 r.settings in (
        n,
        on,
        subst (λ (x : Result Settings NotStarted). Refuses (refusal_behind tree n.text x) cause) (sym read)
            (subst (λ (x : Option NotStarted). Refuses (first_refusal x (refusal_of_rules (rule_files tree settings.rule_folder) n.text)) cause) (sym access.1)
            (refused_first (refusal_of_rule_files (rule_files tree settings.rule_folder)) (refusal_of_rules_text (rules_of_files (rule_files tree settings.rule_folder)) n.text) cause (folder_refuses (rule_files tree settings.rule_folder) cause before.1))),
      )
  opens_told path clock words f d _ _ _ _ tree n (Unaimed settings access files g h i a r o folder same) is on = (n, sym same.same ∙ on, tt)
  opens_told path clock words f d _ _ _ _ tree n (From_rules settings opened files g h i a b result r o folder aim starts) is on =
      let before = rules_told_of settings h (Ok files) i tree folder is in
      let access = open_told settings.users settings.access_folder g (Ok opened) h tree o before.0 in
      let says = files_tell f (Read_at path r.answer) g tree r.read access.0 in
      let read = read_told (text_at tree path) r.answer (Ok settings) says.1 r.settings in
      let rules = started_told (outset_of settings opened.acl clock words) (rule_files tree settings.rule_folder) files a result b n before.1.0 before.1.1 starts on in (
        rules.0,
        sym aim.same_disk.same ∙ rules.1,
        subst (λ (x : Result Settings NotStarted). Told (refusal_behind tree rules.0.text x) (with_principals opened.principals result)) (sym read)
            (subst (λ (x : Option NotStarted). Told (first_refusal x (refusal_of_rules (rule_files tree settings.rule_folder) rules.0.text)) (with_principals opened.principals result)) (sym access.1)
            (principals_told (refusal_of_rules (rule_files tree settings.rule_folder) rules.0.text) opened.principals result rules.2)),
      )

  handled_disk : (c : Core Y D) (xs : List TurnEvent) (d : Core Y D) (n : Disk) → AreHandled sysfs disk c xs d → disk_told d.disk ≡ Some n → (m : Disk) × (disk_told c.disk ≡ Some m)
  handled_disk c [] d n h is = (n, ap (λ (x : Core Y D). disk_told x.disk) (sym h) ∙ is)
  handled_disk c (x ∷ xs) d n h is =
      let later = handled_disk h.0 xs d n h.2 is in
      let now = h.1.handled.file later.0 later.1 in
      (now.0, now.1)

  turns_disk : (s : TurnWorld Y D N W C) (turns : List Turned) (t : TurnWorld Y D N W C) (n : Disk) → Turns sysfs disk net wait ticks s turns t → disk_told t.core.disk ≡ Some n → (m : Disk) × (disk_told s.core.disk ≡ Some m)
  turns_disk s turns t n h is = handled_disk s.core (turns_events turns) t.core n (turns_handled sysfs disk net wait ticks s turns t h) is

  serves_disk : (k : ℕ) (s : TurnWorld Y D N W C) (made : List Turned) (ended : TurnEnd) (t : TurnWorld Y D N W C) (n : Disk) → ServesTurns sysfs disk net wait ticks k s made ended t → disk_told t.core.disk ≡ Some n → (m : Disk) × (disk_told s.core.disk ≡ Some m)
  serves_disk k s made end.Done t n h is = turns_disk s made t n h.2 is
  serves_disk k s made end.Numbers t n h is = turns_disk s made t n (cuts_turns sysfs disk net wait ticks k s made t h) is
  serves_disk k s made end.WaitFailed t n h is = turns_disk s made h.0 n h.1.2 (ap (λ (x : TurnWorld Y D N W C). disk_told x.core.disk) (sym h.2.same) ∙ is)

  started_disk : (k : ℕ) (c : Started) (s : Objects Y D N W C) (sockets : AtSockets) (made : List Turned) (status : ℕ) (t : Objects Y D N W C) (n : Disk) → ServesStarted sysfs disk net wait ticks k c s sockets made status t → disk_told t.disk ≡ Some n → (m : Disk) × (disk_told s.disk ≡ Some m)
  started_disk k c s _ _ _ _ n (Listens_not steps fault l path makes) is = (n, is)
  started_disk k c s _ _ _ _ n (Listens steps l made ended w path makes serves) is = serves_disk k (first_world c l s) made ended w n serves is

  same_path : (p path : List ℕ) → Some p ≡ Some path → p ≡ path
  same_path p path e = cc

  pub status_told : (turns : ℕ) (clock : ℕ → ℕ) (words : Stream) (f : F) (s : Objects Y D N W C) (path : Option (List ℕ)) (noted : List StartEntry) (sockets : AtSockets) (made : List Turned) (status : ℕ) (g : F) (t : Objects Y D N W C)
      → Serves reads sysfs disk net wait ticks turns clock words f s path noted sockets made status g t
      → IsStatusByTexts files_told disk_told path s.disk status g t.disk
  status_told turns clock words f s _ _ _ _ _ _ _ Bad_words = λ at tree n e is on. let no : ⊥ = cc in absurd no
  status_told turns clock words f s _ _ _ _ _ _ _ (No_room path) = λ at tree n e is on. (n, on, status_for (refusal_of_texts tree n.text at) why.Memory tt)
  status_told turns clock words f s _ _ _ _ _ _ _ (Not_started path entries cause g d ms opens notes) =
      λ at tree n e is on.
      let told_so = opens_told path clock words f s.disk entries (Err cause) g d tree n opens is on in
      (told_so.0, told_so.1, subst (λ (x : List ℕ). IsStatusFor (refusal_of_texts tree told_so.0.text x) (start_status cause)) (same_path path at e) (status_for (refusal_of_texts tree told_so.0.text path) cause told_so.2))
  status_told turns clock words f s _ _ _ _ _ _ _ (Served path entries c g d ms sockets made status t opens notes serves) =
      λ at tree n p is on.
      let after = objects s.sysfs d s.links s.waiter s.clock ms in
      let back = started_disk turns c after sockets made status t n serves on in
      let told_so = opens_told path clock words f s.disk entries (Ok c) g d tree back.0 opens is back.1 in
      let none = ap (refusal_of_texts tree told_so.0.text) (sym (same_path path at p)) ∙ told_so.2 in
      (told_so.0, told_so.1, subst (λ (x : Option NotStarted). IsStatusFor x status) (sym none) (not_three status (started_status sysfs disk net wait ticks turns c after sockets made status t serves)))

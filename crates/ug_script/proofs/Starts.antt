-- The start of a script's daemon.
use Rattle.std.proofs.Common.{◌≡◌, ◌⊎◌, ℕ, ◌+◌, ◌<◌, ◌≤◌, Bool, true, false, ◌&&◌, cond, if◌then◌else◌, nat_le, List, [], ◌∷◌, length, Option, None, Result, Ok, Err, inl, inr, refl, sym, ◌∙◌, ap, subst, arith}
use Rattle.std.specs.Prelude.{All}
use Rattle.std.proofs.lemmas.List.Elements.{All-head, All-tail}
use Rattle.std.proofs.lemmas.Bool.{leb-false, leb-true, le-leb, lt-leb}
use Rattle.ug_types.specs.Limits.{text_limit}
use Rattle.rand_core.specs.Stream.{Stream}
use Rattle.ug_kernel.specs.declared.control.Write.{Write}
use Rattle.ug_types.specs.declared.rule.Rule.{Rule}
use Rattle.ug_types.specs.declared.text_fault.TextFault.{TextFault}
use Rattle.ug_acl.specs.Acls.{Addition}
use Rattle.ug_audit.specs.declared.entry.Entry.{Entry}
use Rattle.ug_conf.specs.FolderFiles.{folder_length}
use Rattle.ug_conf.specs.declared.folder_file.FolderFile.{FolderFile}
use Rattle.ug_table.specs.declared.standing.Standing.{Standing}
use Rattle.ug_policy.specs.Rules.{Rules}
use Rattle.ug_policy.specs.declared.entry.RuleEntry.{RuleEntry}
use Rattle.ug_proto.specs.declared.reply.Reply.{Reply}
use Rattle.ug_command_io.specs.Fold.{LineRefusal, BadLine, InputTooLong}
use Rattle.ug_rule.specs.Files.{file_read}
use Rattle.ug_ruleset.specs.RuleFile.{IsRuleFile}
use Rattle.ug_print.specs.RuleTexts.{rules_text_of}
use Rattle.ug_store.specs.DiskCalls.{Load, DiskTold}
use Rattle.ug_store.specs.Scripted.{DiskWorld, disk_answer, disk_told, loaded_of, text_or_absent, world_at_first, MemKeeps}
use Rattle.ug_store.specs.Store.{RunsDisk, after_load, recovering}
use Rattle.ug_store.specs.declared.disk.Loaded.{Loaded}
use Rattle.ug_store.specs.declared.disk.Loaded.TheVariants as loaded
use Rattle.ug_store.specs.declared.store.RecoverFault.{RecoverFault}
use Rattle.ug_store.specs.declared.store.RecoverFault.TheVariants as recover
use Rattle.ug_uevent.specs.Streams as uevents
use Rattle.ug_core.specs.Event.{DaemonState, IsStarted}
use Rattle.ug_core.specs.Policy.{Judging}
use Rattle.ug_core.specs.declared.classes.Classes.{Classes}
use Rattle.ug_core.specs.Starting.{BadFile, Starts, StartsOnFolder, Loads, StartsWith, StartsAfter, StartsFrom, fault_of_recovery, file_before, folder_read, folder_rules, rules_of_folder, start_rules, StartsWithRules, HoldsJust, HasRulesOf, Outset, policy_at}
use Rattle.ug_core.specs.declared.start_fault.StartFault.{StartFault}
use Rattle.ug_core.specs.declared.start_fault.StartFault.TheVariants as fault
use Rattle.ug_script.specs.declared.start.NoStart.{NoStart}
use Rattle.ug_script.specs.declared.start.NoStart.TheVariants as no_start
use Rattle.ug_script.specs.FolderLines.{HasLines, HoldsRules, rules_in_folder}
use Rattle.ug_script.specs.RuleLines.{rules_kept}
use Rattle.ug_script.specs.Setup.{Beside, SetupState, StartsOn, access_of, beside_of, after_reading, folder_of, policy_of, rules_from, rules_if_read, rules_taken, first_started, started_at, with_rules}
use Rattle.ug_script.specs.Script.{fits_folder, fits_rules, no_start_of}
use Rattle.ug_script.proofs.Folders.{holds_read}
use Rattle.ug_script.proofs.Setups.{own_rules, setup_folder}

abbrev made : List Standing → ℕ → Bool → Judging → Option Write → List Entry → List Addition → Bool → uevents.Stream → Option (List (List ℕ)) → ℕ → Option Reply → Bool → DaemonState
made ss next listed judge hub es access pending stream due number reply watch = record { sweep = record { standings = ss; next = next; listed = listed; judge = judge; hub = hub; entries = es }; access = access; pending = pending; stream = stream; due = due; event = number; reply = reply; watch = watch }

started_is : (p : Judging) (beside : Beside) (number : ℕ) (d : DaemonState) → IsStarted p beside.hub number d → d.access ≡ beside.access → d ≡ started_at number beside p
started_is p beside number d h given =
    ap (λ (x : List Standing). made x d.sweep.next d.sweep.listed d.sweep.judge d.sweep.hub d.sweep.entries d.access d.pending d.stream d.due d.event d.reply d.watch) h.standings
    ∙ ap (λ (x : ℕ). made [] x d.sweep.listed d.sweep.judge d.sweep.hub d.sweep.entries d.access d.pending d.stream d.due d.event d.reply d.watch) h.next
    ∙ ap (λ (x : Bool). made [] 1 x d.sweep.judge d.sweep.hub d.sweep.entries d.access d.pending d.stream d.due d.event d.reply d.watch) h.listed
    ∙ ap (λ (x : Judging). made [] 1 false x d.sweep.hub d.sweep.entries d.access d.pending d.stream d.due d.event d.reply d.watch) h.judge
    ∙ ap (λ (x : Option Write). made [] 1 false p x d.sweep.entries d.access d.pending d.stream d.due d.event d.reply d.watch) h.hub
    ∙ ap (λ (x : List Entry). made [] 1 false p beside.hub x d.access d.pending d.stream d.due d.event d.reply d.watch) h.entries
    ∙ ap (λ (x : List Addition). made [] 1 false p beside.hub [] x d.pending d.stream d.due d.event d.reply d.watch) given
    ∙ ap (λ (x : Bool). made [] 1 false p beside.hub [] beside.access x d.stream d.due d.event d.reply d.watch) h.pending
    ∙ ap (λ (x : uevents.Stream). made [] 1 false p beside.hub [] beside.access false x d.due d.event d.reply d.watch) h.stream
    ∙ ap (λ (x : Option (List (List ℕ))). made [] 1 false p beside.hub [] beside.access false (record { messages = []; begun = uevents.nothing_begun }) x d.event d.reply d.watch) h.due
    ∙ ap (λ (x : ℕ). made [] 1 false p beside.hub [] beside.access false (record { messages = []; begun = uevents.nothing_begun }) None x d.reply d.watch) h.event
    ∙ ap (λ (x : Option Reply). made [] 1 false p beside.hub [] beside.access false (record { messages = []; begun = uevents.nothing_begun }) None number x d.watch) h.reply
    ∙ ap (λ (x : Bool). made [] 1 false p beside.hub [] beside.access false (record { messages = []; begun = uevents.nothing_begun }) None number None x) h.watch

-- ---- the rules of a text

abbrev taken_if : List Rule → Bool → Bool → Result (List Rule) LineRefusal
taken_if rules few fits = if few && fits then Ok rules else Err InputTooLong

abbrev from_if : ℕ → Bool → Result (List Rule) TextFault → Result (List Rule) LineRefusal
from_if before fits read = if fits then rules_if_read before read else Err InputTooLong

-- behind so many rules of the folder
module _ (before : ℕ) where
  -- a text for which a file has room gives what its rules give
  pub from_text : (text : List ℕ) (read : Result (List Rule) TextFault) → length text ≤ text_limit → file_read text ≡ read → rules_from before text ≡ rules_if_read before read
  from_text text read fits is = ap (λ (b : Bool). from_if before b (file_read text)) (le-leb (length text) text_limit fits) ∙ ap (λ (r : Result (List Rule) TextFault). rules_if_read before r) is

  from_long : (text : List ℕ) → text_limit < length text → rules_from before text ≡ Err InputTooLong
  from_long text long = ap (λ (b : Bool). from_if before b (file_read text)) (lt-leb (length text) text_limit long)

  pub are_taken : (rules : List Rule) → before + length rules ≤ 65536 → length (rules_text_of rules) ≤ text_limit → rules_taken before rules ≡ Ok rules
  are_taken rules few fits =
      ap (λ (b : Bool). taken_if rules b (nat_le (length (rules_text_of rules)) text_limit)) (le-leb (before + length rules) 65536 few)
      ∙ ap (λ (b : Bool). taken_if rules true b) (le-leb (length (rules_text_of rules)) text_limit fits)

  are_many : (rules : List Rule) → 65536 < before + length rules → rules_taken before rules ≡ Err InputTooLong
  are_many rules many = ap (λ (b : Bool). taken_if rules b (nat_le (length (rules_text_of rules)) text_limit)) (lt-leb (before + length rules) 65536 many)

  are_long : (rules : List Rule) → before + length rules ≤ 65536 → text_limit < length (rules_text_of rules) → rules_taken before rules ≡ Err InputTooLong
  are_long rules few long =
      ap (λ (b : Bool). taken_if rules b (nat_le (length (rules_text_of rules)) text_limit)) (le-leb (before + length rules) 65536 few)
      ∙ ap (λ (b : Bool). taken_if rules true b) (lt-leb (length (rules_text_of rules)) text_limit long)

-- the rules are no more than a daemon takes behind so many, and a rule file has room for them
abbrev AreTaken : ℕ → List Rule → Type 0
AreTaken before rules = (before + length rules ≤ 65536) × (length (rules_text_of rules) ≤ text_limit)

-- a text that a daemon starts with is a rule file
pub from_file : (before : ℕ) (text : List ℕ) (rules : List Rule) → rules_from before text ≡ Ok rules → IsRuleFile rules text × (before + length rules ≤ 65536)
from_file before text rules h = by_length (nat_le (length text) text_limit) refl h
  where
    taken_from : (others : List Rule) (few fits : Bool) → nat_le (before + length others) 65536 ≡ few → nat_le (length (rules_text_of others)) text_limit ≡ fits → cond (few && fits) (Ok others) (Err InputTooLong) ≡ Ok rules → (others ≡ rules) × AreTaken before rules
    taken_from others true true e f k =
        let same : others ≡ rules = cc in
        let few : before + length others ≤ 65536 = leb-true (before + length others) 65536 e in
        let short : length (rules_text_of others) ≤ text_limit = leb-true (length (rules_text_of others)) text_limit f in
        (same, (subst (λ (rs : List Rule). before + length rs ≤ 65536) same few, subst (λ (rs : List Rule). length (rules_text_of rs) ≤ text_limit) same short))
    taken_from others true false e f k = let none : ⊥ = cc in absurd none
    taken_from others false fits e f k = let none : ⊥ = cc in absurd none

    by_read : (r : Result (List Rule) TextFault) → file_read text ≡ r → rules_if_read before r ≡ Ok rules → (file_read text ≡ Ok rules) × AreTaken before rules
    by_read (Ok others) is k =
        let x = taken_from others (nat_le (before + length others) 65536) (nat_le (length (rules_text_of others)) text_limit) refl refl k in
        (is ∙ ap (λ (rs : List Rule). Ok rs) x.0, x.1)
    by_read (Err bad) is k = let none : ⊥ = cc in absurd none

    by_length : (b : Bool) → nat_le (length text) text_limit ≡ b → cond b (rules_if_read before (file_read text)) (Err InputTooLong) ≡ Ok rules → IsRuleFile rules text × (before + length rules ≤ 65536)
    by_length true e k =
        let x = by_read (file_read text) refl k in
        let few : before + length rules ≤ 65536 = x.1.0 in
        (record { reads = x.0; within = leb-true (length text) text_limit e; fits = x.1.1; few = omega (arith, few) }, few)
    by_length false e k = let none : ⊥ = cc in absurd none

pub from_few : (before : ℕ) (text : List ℕ) (rules : List Rule) → rules_from before text ≡ Ok rules → before + length rules ≤ 65536
from_few before text rules h = (from_file before text rules h).1

-- ---- the reading of a disk in memory

-- the disk is as the reading left it, and the text was read, or is longer than a file; or there was want of memory, or a failure
abbrev GivesText : List ℕ → DiskWorld → Result (List ℕ) RecoverFault → DiskWorld → Type 0
GivesText text u (Ok got) t = (got ≡ text) × (length text ≤ text_limit) × (t ≡ u)
GivesText text u (Err recover.TooLong) t = (text_limit < length text) × (t ≡ u)
GivesText text u (Err (recover.Failed count)) t = Unit {0}
GivesText text u (Err recover.Memory) t = Unit {0}

read_text : (text : List ℕ) (r : Result (List ℕ) RecoverFault) (count : ℕ) (u t : DiskWorld) → length text ≤ text_limit → RunsDisk MemKeeps u (after_load (text_or_absent text) count) r t → GivesText text u r t
read_text [] r count u t fits h = subst (λ (x : Result (List ℕ) RecoverFault). GivesText [] u x t) (sym h.0) (refl, fits, h.1)
read_text (b ∷ bs) r count u t fits h = subst (λ (x : Result (List ℕ) RecoverFault). GivesText (b ∷ bs) u x t) (sym h.0) (refl, fits, h.1)

read_within : (text : List ℕ) (r : Result (List ℕ) RecoverFault) (fits : Bool) (count : ℕ) (u t : DiskWorld) → nat_le (length text) text_limit ≡ fits → RunsDisk MemKeeps u (after_load (if fits then text_or_absent text else loaded.TooLong) count) r t → GivesText text u r t
read_within text r true count u t is h = read_text text r count u t (leb-true (length text) text_limit is) h
read_within text r false count u t is h = subst (λ (x : Result (List ℕ) RecoverFault). GivesText text u x t) (sym h.0) (leb-false (length text) text_limit is, h.1)

read_short : (text : List ℕ) (r : Result (List ℕ) RecoverFault) (answer : Loaded) (count : ℕ) (u v t : DiskWorld) → answer ≡ loaded.Memory → RunsDisk MemKeeps u (after_load answer count) r t → GivesText text v r t
read_short text r answer count u v t e h =
    let k : RunsDisk MemKeeps u (after_load loaded.Memory count) r t = subst (λ (x : Loaded). RunsDisk MemKeeps u (after_load x count) r t) e h in
    subst (λ (x : Result (List ℕ) RecoverFault). GivesText text v x t) (sym k.0) tt

read_failed : (text : List ℕ) (r : Result (List ℕ) RecoverFault) (answer : Loaded) (count : ℕ) (u v t : DiskWorld) → answer ≡ loaded.Failed → RunsDisk MemKeeps u (after_load answer count) r t → GivesText text v r t
read_failed text r answer count u v t e h =
    let k : RunsDisk MemKeeps u (after_load loaded.Failed count) r t = subst (λ (x : Loaded). RunsDisk MemKeeps u (after_load x count) r t) e h in
    subst (λ (x : Result (List ℕ) RecoverFault). GivesText text v x t) (sym k.0) tt

answer_of : (o : DiskWorld) → o.ran_out ≡ false → ((disk_answer o Load).0.answer ≡ loaded_of o.disk.text) × ((disk_answer o Load).1 ≡ after_reading o)
answer_of o e = rw e (refl, refl)

no_answer : (o : DiskWorld) → o.ran_out ≡ true → (disk_answer o Load).0.answer ≡ loaded.Failed
no_answer o e = rw e refl

-- a disk that has run out gives no text
read_told : (o : DiskWorld) (r : Result (List ℕ) RecoverFault) (a : DiskTold Load) (u t : DiskWorld) → MemKeeps o Load a u → RunsDisk MemKeeps u (after_load a.answer a.count) r t → GivesText o.disk.text (after_reading o) r t
read_told o r a u t keeps h = elim keeps [
  | inl x ↦ by_script o.ran_out refl x
  | inr y ↦ elim y [
    | inl z ↦ read_short o.disk.text r a.answer a.count u (after_reading o) t z.memory h
    | inr z ↦ read_failed o.disk.text r a.answer a.count u (after_reading o) t (ap (λ (b : DiskTold Load). b.answer) z.answer) h
  ]
]
  where
    by_script : (out : Bool) → o.ran_out ≡ out → (a ≡ (disk_answer o Load).0) × (u ≡ (disk_answer o Load).1) → GivesText o.disk.text (after_reading o) r t
    by_script true e x = read_failed o.disk.text r a.answer a.count u (after_reading o) t (ap (λ (b : DiskTold Load). b.answer) x.0 ∙ no_answer o e) h
    by_script false e x =
        let is = answer_of o e in
        let k : RunsDisk MemKeeps u (after_load (loaded_of o.disk.text) a.count) r t = subst (λ (y : Loaded). RunsDisk MemKeeps u (after_load y a.count) r t) (ap (λ (b : DiskTold Load). b.answer) x.0 ∙ is.0) h in
        let l : RunsDisk MemKeeps (after_reading o) (after_load (loaded_of o.disk.text) a.count) r t = subst (λ (y : DiskWorld). RunsDisk MemKeeps y (after_load (loaded_of o.disk.text) a.count) r t) (x.1 ∙ is.1) k in
        read_within o.disk.text r (nat_le (length o.disk.text) text_limit) a.count (after_reading o) t refl l

read_whole : (o : DiskWorld) (r : Result (List ℕ) RecoverFault) (t : DiskWorld) → RunsDisk MemKeeps o recovering r t → GivesText o.disk.text (after_reading o) r t
unfolding recovering
read_whole o r t h = read_told o r h.0 h.1 t h.2 h.3

-- ---- the rules of the folder

rules_read : (file : ℕ) (files : List FolderFile) → All HoldsRules files → folder_read file files ≡ Ok (rules_in_folder files)
rules_read file [] h = refl
rules_read file (f ∷ files) h =
    ap (λ (read : Result (List Rule) TextFault). file_before file read (folder_read (file + 1) files)) (holds_read f (All-head HoldsRules f files h))
    ∙ ap (λ (behind : Result (List Rule) BadFile). file_before file (Ok (rules_kept f.text)) behind) (rules_read (file + 1) files (All-tail HoldsRules f files h))

abbrev folder_if : List FolderFile → Bool → Result (List Rule) StartFault
folder_if files fits = if fits then rules_of_folder (folder_read 0 files) else Err fault.FolderTooLong

folder_fits : (files : List FolderFile) → All HoldsRules files → nat_le (folder_length files) text_limit ≡ true → folder_rules files ≡ Ok (rules_in_folder files)
folder_fits files h fits = ap (folder_if files) fits ∙ ap rules_of_folder (rules_read 0 files h)

folder_long : (files : List FolderFile) → nat_le (folder_length files) text_limit ≡ false → folder_rules files ≡ Err fault.FolderTooLong
folder_long files long = ap (folder_if files) long

-- where they were taken, they fit
taken_fits : (files : List FolderFile) (rules : List Rule) → All HoldsRules files → folder_rules files ≡ Ok rules → (nat_le (folder_length files) text_limit ≡ true) × (rules ≡ rules_in_folder files)
taken_fits files rules h is = by (nat_le (folder_length files) text_limit) refl
  where
    by : (b : Bool) → nat_le (folder_length files) text_limit ≡ b → (nat_le (folder_length files) text_limit ≡ true) × (rules ≡ rules_in_folder files)
    by true e =
        let same : Ok rules ≡ Ok (rules_in_folder files) = sym is ∙ folder_fits files h e in
        let only : rules ≡ rules_in_folder files = cc in
        (e, only)
    by false e =
        let other : Ok rules ≡ Err fault.FolderTooLong = sym is ∙ folder_long files e in
        let none : ⊥ = cc in
        absurd none

-- ---- a start

-- what a script's daemon is started with
abbrev IsOutset : SetupState → Outset → Type 0
IsOutset setup outset = (rules : List Rule) (list : Rules) → HoldsJust (start_rules (folder_of (policy_of setup)) rules) list → policy_at outset list ≡ with_rules rules (policy_of setup)

-- what a start sees of the settings, the clock and the words is what the setup lines gave
outset_is : (setup : SetupState) (outset : Outset) → outset.classes ≡ (policy_of setup).classes → outset.clock ≡ (policy_of setup).clock → outset.words ≡ (policy_of setup).stream → IsOutset setup outset
outset_is setup outset classes clock words rules list h =
    ap (λ (c : Classes). record (policy_at outset list) { classes = c }) classes
    ∙ ap (λ (c : ℕ → ℕ). record (policy_at outset list) { classes = (policy_of setup).classes; clock = c }) clock
    ∙ ap (λ (c : Stream). record (policy_at outset list) { classes = (policy_of setup).classes; clock = (policy_of setup).clock; stream = c }) words
    ∙ ap (λ (es : List RuleEntry). record (policy_of setup) { rules = es; next = list.next }) h.entries
    ∙ ap (λ (n : ℕ). record (with_rules rules (policy_of setup)) { next = n }) h.next

abbrev IsSession : SetupState → ℕ → DiskWorld → DaemonState → DiskWorld → Type 0
IsSession setup number o d t = StartsOn setup number o d × (t ≡ after_reading o)

-- a start behind the rules of the setup's folder
module _ (setup : SetupState) (held : HasLines setup.folder.files setup.folder.count) where
  -- with the number of the folder's rules
  counted : (n : ℕ) → length (rules_in_folder setup.folder.files) + n ≡ setup.folder.count + n
  counted n = ap (λ (m : ℕ). m + n) held.number

  few_so : (rules : List Rule) → length (rules_in_folder setup.folder.files) + length rules ≤ 65536 → setup.folder.count + length rules ≤ 65536
  few_so rules few = omega (arith, few, counted (length rules))

  loaded_session : (outset : Outset) (o : DiskWorld) (read : Result (List ℕ) RecoverFault) (now : Bool × Rules) (d : DaemonState) (t : DiskWorld) → IsOutset setup outset → (outset.access ≡ access_of setup) × (outset.hub ≡ (beside_of setup).hub) → GivesText o.disk.text (after_reading o) read t → StartsAfter (rules_in_folder setup.folder.files) read (Ok now) → StartsWithRules outset now d → IsSession setup outset.first o d t
  loaded_session outset o (Ok got) now d t is given gives after with =
      let has : HasRulesOf (rules_in_folder setup.folder.files) o.disk.text now.1 = subst (λ (x : List ℕ). HasRulesOf (rules_in_folder setup.folder.files) x now.1) gives.0 after.1 in
      let holds : HoldsJust (start_rules (folder_of (policy_of setup)) has.rules) now.1 = subst (λ (f : List Rule). HoldsJust (start_rules f has.rules) now.1) (sym (setup_folder setup)) has.holds in
      let new : IsStarted (with_rules has.rules (policy_of setup)) (beside_of setup).hub outset.first d = subst (λ (o : Option Write). IsStarted (with_rules has.rules (policy_of setup)) o outset.first d) given.1 (subst (λ (p : Judging). IsStarted p outset.hub outset.first d) (is has.rules now.1 holds) with.started) in (
        record {
          rules = has.rules;
          loaded = from_text setup.folder.count o.disk.text (Ok has.rules) gives.1 has.reads ∙ are_taken setup.folder.count has.rules (few_so has.rules has.few) has.fits;
          is = started_is (with_rules has.rules (policy_of setup)) (beside_of setup) outset.first d new (with.access ∙ given.0);
        },
        gives.2,
      )
  loaded_session outset o (Err e) now d t is given gives after with = let none : ⊥ = cc in absurd none

  from_loads : (outset : Outset) (faults : DiskWorld → ℕ) (o : DiskWorld) (loaded : Result (Bool × Rules) StartFault) (d : DaemonState) (t : DiskWorld) → IsOutset setup outset → (outset.access ≡ access_of setup) × (outset.hub ≡ (beside_of setup).hub) → Loads MemKeeps disk_told faults (rules_in_folder setup.folder.files) o loaded t → StartsFrom outset loaded (Ok d) → IsSession setup outset.first o d t
  from_loads outset faults o (Ok now) d t is given loads starts = loaded_session outset o loads.read now d t is given (read_whole o loads.read t loads.runs) loads.starts starts
  from_loads outset faults o (Err e) d t is given loads starts = let none : ⊥ = cc in absurd none

  -- the folder's texts aren't too long, and the daemon has its rules
  abbrev Session : ℕ → DiskWorld → DaemonState → DiskWorld → Type 0
  Session number o d t = (fits_folder setup ≡ true) × IsSession setup number o d t

  on_folder : (outset : Outset) (faults : DiskWorld → ℕ) (o : DiskWorld) (taken : Result (List Rule) StartFault) (d : DaemonState) (t : DiskWorld) → IsOutset setup outset → (outset.access ≡ access_of setup) × (outset.hub ≡ (beside_of setup).hub) → (taken ≡ folder_rules setup.folder.files) ⊎ (taken ≡ Err fault.Memory) → StartsOnFolder MemKeeps disk_told faults outset taken o (Ok d) t → Session outset.first o d t
  on_folder outset faults o (Ok rules) d t is given (inl so) starts =
      let k = taken_fits setup.folder.files rules held.each (sym so) in
      (k.0, from_loads outset faults o starts.loaded d t is given (subst (λ (f : List Rule). Loads MemKeeps disk_told faults f o starts.loaded t) k.1 starts.loads) starts.starts)
  on_folder outset faults o (Ok rules) d t is given (inr short) starts = let none : ⊥ = cc in absurd none
  on_folder outset faults o (Err e) d t is given so starts =
      let other : Ok d ≡ Err e = starts.0 in
      let none : ⊥ = cc in
      absurd none

  pub starts_on : (outset : Outset) (faults : DiskWorld → ℕ) (o : DiskWorld) (d : DaemonState) (t : DiskWorld) → outset.classes ≡ (policy_of setup).classes → outset.clock ≡ (policy_of setup).clock → outset.words ≡ (policy_of setup).stream → (outset.access ≡ access_of setup) × (outset.hub ≡ (beside_of setup).hub) → (files : List FolderFile) → files ≡ setup.folder.files → Starts MemKeeps disk_told faults outset files o (Ok d) t → Session outset.first o d t
  starts_on outset faults o d t classes clock words given files is h =
      let k : Starts MemKeeps disk_told faults outset setup.folder.files o (Ok d) t = subst (λ (fs : List FolderFile). Starts MemKeeps disk_told faults outset fs o (Ok d) t) is h in
      on_folder outset faults o k.folder d t (outset_is setup outset classes clock words) given k.taken k.starts

-- ---- a start that is refused

-- why a start over that disk is refused, behind the rules of the setup's folder
pub record Refuses (setup : SetupState) (o : DiskWorld) (why : NoStart) : Type 0 where
  pub bad : why ≡ no_start.BadRules → rules_from setup.folder.count o.disk.text ≡ Err BadLine
  pub too_long : why ≡ no_start.TooLong → fits_folder setup ≡ true → rules_from setup.folder.count o.disk.text ≡ Err InputTooLong

refuses_bad : (setup : SetupState) (o : DiskWorld) → rules_from setup.folder.count o.disk.text ≡ Err BadLine → Refuses setup o no_start.BadRules
refuses_bad setup o is = record { bad = λ e. is; too_long = λ e fits. let none : ⊥ = cc in absurd none }

refuses_long : (setup : SetupState) (o : DiskWorld) → (fits_folder setup ≡ true → rules_from setup.folder.count o.disk.text ≡ Err InputTooLong) → Refuses setup o no_start.TooLong
refuses_long setup o is = record { bad = λ e. let none : ⊥ = cc in absurd none; too_long = λ e fits. is fits }

refuses_memory : (setup : SetupState) (o : DiskWorld) → Refuses setup o no_start.Memory
refuses_memory setup o = record { bad = λ e. let none : ⊥ = cc in absurd none; too_long = λ e fits. let none : ⊥ = cc in absurd none }

module _ (setup : SetupState) (held : HasLines setup.folder.files setup.folder.count) where
  many_so : (rules : List Rule) → 65536 < length (rules_in_folder setup.folder.files) + length rules → 65536 < setup.folder.count + length rules
  many_so rules many = omega (arith, many, counted setup held (length rules))

  refused_text : (o : DiskWorld) (e : StartFault) → length o.disk.text ≤ text_limit → StartsWith (rules_in_folder setup.folder.files) o.disk.text (Err e) → Refuses setup o (no_start_of e)
  refused_text o (fault.BadFolder file bad) fits h = absurd h
  refused_text o fault.FolderTooLong fits h = absurd h
  refused_text o (fault.Disk count) fits h = absurd h
  refused_text o (fault.BadRules bad) fits h = refuses_bad setup o (from_text setup.folder.count o.disk.text (Err bad) fits h)
  refused_text o fault.TooLong fits h = refuses_long setup o (λ all. from_text setup.folder.count o.disk.text (Ok h.rules) fits h.reads ∙ are_long setup.folder.count h.rules (few_so setup held h.rules h.few) h.long)
  refused_text o fault.TooMany fits h = refuses_long setup o (λ all. from_text setup.folder.count o.disk.text (Ok h.rules) fits h.reads ∙ are_many setup.folder.count h.rules (many_so h.rules h.many))
  refused_text o fault.Memory fits h = refuses_memory setup o

  refused_reading : (o t : DiskWorld) (g : RecoverFault) → GivesText o.disk.text (after_reading o) (Err g) t → Refuses setup o (no_start_of (fault_of_recovery g))
  refused_reading o t (recover.Failed count) h = refuses_memory setup o
  refused_reading o t recover.TooLong h = refuses_long setup o (λ all. from_long setup.folder.count o.disk.text h.0)
  refused_reading o t recover.Memory h = refuses_memory setup o

  refused_after : (o t : DiskWorld) (read : Result (List ℕ) RecoverFault) (e : StartFault) → GivesText o.disk.text (after_reading o) read t → StartsAfter (rules_in_folder setup.folder.files) read (Err e) → Refuses setup o (no_start_of e)
  refused_after o t (Ok got) e gives h = refused_text o e gives.1 (subst (λ (x : List ℕ). StartsWith (rules_in_folder setup.folder.files) x (Err e)) gives.0 h)
  refused_after o t (Err g) e gives h =
      let same : e ≡ fault_of_recovery g = cc in
      subst (λ (x : StartFault). Refuses setup o (no_start_of x)) (sym same) (refused_reading o t g gives)

  refused_loading : (outset : Outset) (faults : DiskWorld → ℕ) (o : DiskWorld) (loaded : Result (Bool × Rules) StartFault) (e : StartFault) (t : DiskWorld) → Loads MemKeeps disk_told faults (rules_in_folder setup.folder.files) o loaded t → StartsFrom outset loaded (Err e) → Refuses setup o (no_start_of e)
  refused_loading outset faults o (Ok now) e t loads h = subst (λ (x : StartFault). Refuses setup o (no_start_of x)) (sym h) (refuses_memory setup o)
  refused_loading outset faults o (Err f) e t loads h =
      let same : e ≡ f = cc in
      subst (λ (x : StartFault). Refuses setup o (no_start_of x)) (sym same) (refused_after o t loads.read f (read_whole o loads.read t loads.runs) loads.starts)

  -- the folder's rules are read, or its texts are too long
  refused_folder : (o : DiskWorld) (e : StartFault) → folder_rules setup.folder.files ≡ Err e → Refuses setup o (no_start_of e)
  refused_folder o e is = by (nat_le (folder_length setup.folder.files) text_limit) refl
    where
      by : (b : Bool) → nat_le (folder_length setup.folder.files) text_limit ≡ b → Refuses setup o (no_start_of e)
      by true fits =
          let other : Ok (rules_in_folder setup.folder.files) ≡ Err e = sym (folder_fits setup.folder.files held.each fits) ∙ is in
          let none : ⊥ = cc in
          absurd none
      by false long =
          let told : Err fault.FolderTooLong ≡ Err e = sym (folder_long setup.folder.files long) ∙ is in
          let same : fault.FolderTooLong ≡ e = cc in
          subst (λ (x : StartFault). Refuses setup o (no_start_of x)) same (refuses_long setup o (λ fits. let none : ⊥ = cc in absurd none))

  refused_on : (outset : Outset) (faults : DiskWorld → ℕ) (o : DiskWorld) (taken : Result (List Rule) StartFault) (e : StartFault) (t : DiskWorld) → (taken ≡ folder_rules setup.folder.files) ⊎ (taken ≡ Err fault.Memory) → StartsOnFolder MemKeeps disk_told faults outset taken o (Err e) t → Refuses setup o (no_start_of e)
  refused_on outset faults o (Ok rules) e t (inl so) h =
      let k = taken_fits setup.folder.files rules held.each (sym so) in
      refused_loading outset faults o h.loaded e t (subst (λ (f : List Rule). Loads MemKeeps disk_told faults f o h.loaded t) k.1 h.loads) h.starts
  refused_on outset faults o (Ok rules) e t (inr short) h = let none : ⊥ = cc in absurd none
  refused_on outset faults o (Err f) e t (inl so) h =
      let told : Err e ≡ Err f = h.0 in
      let same : e ≡ f = cc in
      refused_folder o e (sym so ∙ ap (λ (x : StartFault). Err x) (sym same))
  refused_on outset faults o (Err f) e t (inr short) h =
      let told : Err e ≡ Err f = h.0 in
      let same : e ≡ fault.Memory = cc in
      subst (λ (x : StartFault). Refuses setup o (no_start_of x)) (sym same) (refuses_memory setup o)

  pub start_refused : (outset : Outset) (faults : DiskWorld → ℕ) (o : DiskWorld) (e : StartFault) (t : DiskWorld) (files : List FolderFile) → files ≡ setup.folder.files → Starts MemKeeps disk_told faults outset files o (Err e) t → Refuses setup o (no_start_of e)
  start_refused outset faults o e t files is h =
      let k : Starts MemKeeps disk_told faults outset setup.folder.files o (Err e) t = subst (λ (fs : List FolderFile). Starts MemKeeps disk_told faults outset fs o (Err e) t) is h in
      refused_on outset faults o k.folder e t k.taken k.starts

-- ---- the first daemon

same_rules : (rules others : List Rule) (read : Result (List Rule) LineRefusal) → read ≡ Ok rules → read ≡ Ok others → others ≡ rules
same_rules rules others read h g =
    let e : Ok rules ≡ Ok others = sym h ∙ g in
    cc

-- the disk of a setup has its rules
pub first_rules : (setup : SetupState) (o : DiskWorld) → o ≡ world_at_first (rules_text_of setup.rules) → file_read (rules_text_of setup.rules) ≡ Ok setup.rules → fits_rules setup ≡ true → setup.folder.count + length setup.rules ≤ 65536 → rules_from setup.folder.count o.disk.text ≡ Ok setup.rules
first_rules setup o is reads fits few =
    let room : length (rules_text_of setup.rules) ≤ text_limit = leb-true (length (rules_text_of setup.rules)) text_limit fits in
    ap (λ (x : DiskWorld). rules_from setup.folder.count x.disk.text) is ∙ from_text setup.folder.count (rules_text_of setup.rules) (Ok setup.rules) room reads ∙ are_taken setup.folder.count setup.rules few room

pub first_daemon : (setup : SetupState) (o : DiskWorld) (d : DaemonState) → rules_from setup.folder.count o.disk.text ≡ Ok setup.rules → StartsOn setup 1 o d → d ≡ first_started setup
first_daemon setup o d has h =
    h.is
    ∙ ap (λ (rs : List Rule). started_at 1 (beside_of setup) (with_rules rs (policy_of setup))) (same_rules setup.rules h.rules (rules_from setup.folder.count o.disk.text) has h.loaded)
    ∙ ap (λ (p : Judging). started_at 1 (beside_of setup) p) (own_rules setup)

-- Events, readings and starts keep a script's rule file one that a daemon starts with.
use Rattle.std.proofs.Common.{◌≡◌, ℕ, ◌+◌, ◌≤◌, arith, Bool, true, false, cond, List, [], ◌∷◌, ◌++◌, filter, length, map, Option, Some, None, Result, Ok, Err, OnOk, OnErr, inl, inr, ◌⊎◌, refl, sym, ◌∙◌, ap, subst}
use Rattle.std.proofs.lemmas.Option.{same_Some}
use Rattle.ug_types.specs.Elements.{Has}
use Rattle.ug_types.proofs.Elements.{has_cases}
use Rattle.ug_types.specs.declared.rule.Rule as types
use Rattle.ug_types.specs.declared.saved.Saved.{Saved}
use Rattle.ug_types.specs.declared.saved.Saved.TheVariants as saved
use Rattle.ug_lines.specs.LineReading.{lines_read}
use Rattle.ug_lines.specs.Lines.{whole_from, rest_from}
use Rattle.ug_words.specs.Lexing.{tokens_of, tokens_from, front_of}
use Rattle.ug_store.specs.Disk.{Disk, Images, Texts, Anything, IsImage}
use Rattle.ug_store.specs.Scripted.{DiskWorld, MemKeeps, coming_up, disk_told}
use Rattle.ug_conf.specs.declared.folder_file.FolderFile.{FolderFile}
use Rattle.ug_policy.specs.Marks.{is_folder}
use Rattle.ug_policy.specs.Rules.{Rules}
use Rattle.ug_policy.specs.declared.entry.Mark.{Mark}
use Rattle.ug_policy.specs.declared.entry.Mark.TheVariants as mark
use Rattle.ug_policy.specs.declared.entry.RuleEntry.{RuleEntry}
use Rattle.ug_ruleset.specs.RuleFile.{IsRuleFile, IsSaveable, permanent_rules, permanent_text, saved_rule}
use Rattle.ug_ruleset.proofs.Readable.{saved_file}
use Rattle.ug_core.specs.Durable.{IsKept, KeepsFile, WritesEvent, if_written, texts_of, unsure_behind, unsure_with}
use Rattle.ug_core.specs.Event.{DaemonState}
use Rattle.ug_core.specs.Policy.{Judging}
use Rattle.ug_core.specs.Starting.{Loads, Outset, Starts, StartsOnFolder, entries_from, start_rules}
use Rattle.ug_core.specs.declared.start_fault.StartFault.{StartFault}
use Rattle.ug_types.specs.declared.event.Event.{Event}
use Rattle.ug_core.specs.declared.storing.Stored.{Stored}
use Rattle.ug_core.specs.declared.storing.Stored.TheVariants as stored
use Rattle.ug_core.proofs.Numbering.{entries_length, start_length}
use Rattle.ug_core.proofs.Stopped.{written_file}
use Rattle.ug_script.specs.FolderLines.{HasLines}
use Rattle.ug_script.specs.RuleFiles.{HasFolder, IsStillOn, StaysReadable, is_given, is_startable}
use Rattle.ug_script.specs.Setup.{SetupState, StartsOn, folder_of, policy_of, rules_from}
use Rattle.ug_script.proofs.Setups.{all_in, setup_folder}
use Rattle.ug_script.proofs.Starts.{are_taken, from_few, from_text}

-- a rule file gives a daemon

file_rules : (before : ℕ) (text : List ℕ) (rules : List types.Rule) → IsRuleFile rules text → before + length rules ≤ 65536 → rules_from before text ≡ Ok rules
file_rules before text rules h few = from_text before text (Ok rules) h.within h.reads ∙ are_taken before rules few h.fits

file_starts : (before : ℕ) (text : List ℕ) (rules : List types.Rule) → IsRuleFile rules text → before + length rules ≤ 65536 → is_startable before text ≡ true
file_starts before text rules h few = ap is_given (file_rules before text rules h few)

-- the folder's rules and the permanent ones are among all

pub among : (rules : List RuleEntry) → length (map (λ (e : RuleEntry). e.rule) (filter (λ (e : RuleEntry). is_folder e.mark) rules)) + length (permanent_rules rules) ≤ length rules
among [] = omega arith
among (e ∷ rules) = by e.mark (among rules)
  where
    by : (m : Mark) → length (map (λ (e : RuleEntry). e.rule) (filter (λ (e : RuleEntry). is_folder e.mark) rules)) + length (permanent_rules rules) ≤ length rules → length (map (λ (e : RuleEntry). e.rule) (cond (is_folder m) (e ∷ filter (λ (e : RuleEntry). is_folder e.mark) rules) (filter (λ (e : RuleEntry). is_folder e.mark) rules))) + length (saved_rule m e.rule ++ permanent_rules rules) ≤ length (e ∷ rules)
    by mark.Folder h = omega (arith, h)
    by mark.File h = omega (arith, h)
    by mark.Temporary h = omega (arith, h)

pub permanent_few : (before : ℕ) (d : DaemonState) → HasFolder before d → before + length (permanent_rules d.sweep.judge.rules) ≤ 65536
permanent_few before d h =
    let number : length (folder_of d.sweep.judge) ≡ before = h.number in
    let few : length d.sweep.judge.rules ≤ 65536 = h.few in
    let all : length (folder_of d.sweep.judge) + length (permanent_rules d.sweep.judge.rules) ≤ length d.sweep.judge.rules = among d.sweep.judge.rules in
    omega (arith, number, few, all)

rules_start : (before : ℕ) (d : DaemonState) → HasFolder before d → IsSaveable d.sweep.judge.rules → is_startable before (permanent_text d.sweep.judge.rules) ≡ true
rules_start before d h saves = file_starts before (permanent_text d.sweep.judge.rules) (permanent_rules d.sweep.judge.rules) (saved_file (permanent_rules d.sweep.judge.rules) saves) (permanent_few before d h)

-- a disk that is told hasn't run out
told_so : (b : Bool) (n m : Disk) → cond b None (Some n) ≡ Some m → (b ≡ false) × (n ≡ m)
told_so true n m e = let none : ⊥ = cc in absurd none
told_so false n m e = (refl, same_Some n m e)

-- the texts that a stop leaves, where each of them gives a daemon: no daemon starts with a byte that stands for nothing
all_texts : (before : ℕ) (left : Images) → ((text : List ℕ) → IsImage left text → is_startable before text ≡ true) → (texts : List (List ℕ)) × (left ≡ Texts texts)
unfolding lines_read whole_from rest_from tokens_of tokens_from front_of
all_texts before (Texts texts) each = (texts, refl)
all_texts before Anything each = let bad : false ≡ true = each (0 ∷ []) tt in let none : ⊥ = cc in absurd none

with_case : (tried : Option Saved) (unsure : List (List ℕ)) (c : List ℕ) → Has (unsure_with tried unsure) c → Has unsure c
with_case None unsure c h = h
with_case (Some saved.Done) unsure c h = absurd h
with_case (Some (saved.Failed count)) unsure c h = h
with_case (Some saved.Memory) unsure c h = h

-- what wasn't sure before, or what was written
behind_cases : (became : Stored) (tried : Option Saved) (asked unsure : List (List ℕ)) (c : List ℕ) → Has (unsure_behind became asked (unsure_with tried unsure)) c → Has unsure c ⊎ Has (if_written became asked) c
behind_cases stored.NotNeeded tried asked unsure c h = inl (with_case tried unsure c h)
behind_cases stored.Done tried asked unsure c h = absurd h
behind_cases (stored.Failed count) tried asked unsure c h = elim (has_cases asked (unsure_with tried unsure) c h) [ inl a ↦ inr a | inr b ↦ inl (with_case tried unsure c b) ]
behind_cases stored.TooLong tried asked unsure c h = inl (with_case tried unsure c h)
behind_cases stored.Memory tried asked unsure c h = inl (with_case tried unsure c h)

-- ---- an event

-- the folder's rules are those that it had, and what was written has no more rules than a list has behind them
pub record KeepsFolder (before : ℕ) (event : Event) (d : DaemonState) (became : Stored) (e : DaemonState) : Type 0 where
  pub after : HasFolder before e
  pub wrote : (c : List ℕ) (rules : List types.Rule) → Has (if_written became (texts_of event d)) c → IsRuleFile rules c → before + length rules ≤ 65536

pub event_files : (before : ℕ) (event : Event) (tried : Option Saved) (became : Stored) (d : DaemonState) (o : DiskWorld) (e : DaemonState) (p : DiskWorld) → KeepsFile disk_told event tried became o d p e → WritesEvent event d became → IsSaveable e.sweep.judge.rules → KeepsFolder before event d became e → StaysReadable before o → StaysReadable before p
event_files before event tried became d o e p file writes saves folder was ran =
    let told : disk_told p ≡ Some p.disk = ap (λ (b : Bool). cond b None (Some p.disk)) ran in
    let x = file p.disk told in
    let began = told_so o.ran_out o.disk x.0 x.1 in
    let each = (was began.0).0 in
    let possible = (was began.0).1 in
    let texts = all_texts before o.disk.left each in
    let is : x.0.left ≡ Texts texts.0 = ap (λ (m : Disk). m.left) (sym began.1) ∙ texts.1 in
    let kept : IsKept d.sweep.judge.rules texts.0 x.0.left = λ c h. inr (subst (λ (i : Images). IsImage i c) is h) in
    let k = x.2 texts.0 kept in (
      λ c h. elim (k.left c h) [
        | inl same ↦ subst (λ (t : List ℕ). is_startable before t ≡ true) (sym same) (rules_start before e folder.after saves)
        | inr has ↦ elim (behind_cases became tried (texts_of event d) texts.0 c has) [
          | inl old ↦ each c (subst (λ (i : Images). IsImage i c) (sym texts.1) old)
          | inr new ↦ let f = written_file event became d writes c new in file_starts before c f.0 f.1 (folder.wrote c f.0 new f.1)
        ]
      ],
      λ never. possible (λ h. never (k.possible (subst (λ (m : Disk). IsImage m.left m.text) began.1 h))),
    )

-- ---- a start

-- a daemon starts with the text that a stop left
pub left_starts : (before : ℕ) (o : DiskWorld) → StaysReadable before o → o.ran_out ≡ false → is_startable before o.disk.text ≡ true
left_starts before o was alive = by_start (is_startable before o.disk.text) refl
  where
    by_start : (b : Bool) → is_startable before o.disk.text ≡ b → b ≡ true
    by_start true e = refl
    by_start false e = absurd ((was alive).1 (λ h. let bad : false ≡ true = sym e ∙ (was alive).0 o.disk.text h in let none : ⊥ = cc in none))

-- the machine comes up again
pub up_files : (before : ℕ) (o : DiskWorld) → StaysReadable before o → StaysReadable before (coming_up o)
up_files before o was ran = (
  λ c h. elim h [ inl e ↦ subst (λ (t : List ℕ). is_startable before t ≡ true) e (left_starts before o was ran) | inr none ↦ absurd none ],
  λ never. never (inl refl),
)

pub up_or_not : {A E : Type 0} (before : ℕ) (o p : DiskWorld) (r : Result A E) → OnOk r (p ≡ coming_up o) → OnErr r (p ≡ o) → StaysReadable before o → StaysReadable before p
up_or_not before o p (Ok value) up same was = subst (λ (x : DiskWorld). StaysReadable before x) (sym up) (up_files before o was)
up_or_not before o p (Err e) up same was = subst (λ (x : DiskWorld). StaysReadable before x) (sym same) was

-- a start leaves the disk as it was

still_loading : (faults : DiskWorld → ℕ) (folder : List types.Rule) (o : DiskWorld) (loaded : Result (Bool × Rules) StartFault) (t : DiskWorld) → Loads MemKeeps disk_told faults folder o loaded t → t.ran_out ≡ false → IsStillOn o t
still_loading faults folder o loaded t h ran =
    let told : disk_told t ≡ Some t.disk = ap (λ (b : Bool). cond b None (Some t.disk)) ran in
    let k = h.law t.disk told in
    let began = told_so o.ran_out o.disk k.0 k.1 in
    record {
      text = k.2.still.text ∙ ap (λ (m : Disk). m.text) (sym began.1);
      left = k.2.still.left ∙ ap (λ (m : Disk). m.left) (sym began.1);
      ran_out = ran ∙ sym began.0;
    }

same_still : (o t : DiskWorld) → t ≡ o → IsStillOn o t
same_still o t is = record {
  text = ap (λ (x : DiskWorld). x.disk.text) is;
  left = ap (λ (x : DiskWorld). x.disk.left) is;
  ran_out = ap (λ (x : DiskWorld). x.ran_out) is;
}

still_on : (faults : DiskWorld → ℕ) (outset : Outset) (folder : Result (List types.Rule) StartFault) (o : DiskWorld) (result : Result DaemonState StartFault) (t : DiskWorld) → StartsOnFolder MemKeeps disk_told faults outset folder o result t → t.ran_out ≡ false → IsStillOn o t
still_on faults outset (Ok rules) o result t h ran = still_loading faults rules o h.loaded t h.loads ran
still_on faults outset (Err e) o result t h ran = same_still o t h.1

pub start_still : (faults : DiskWorld → ℕ) (outset : Outset) (files : List FolderFile) (o : DiskWorld) (result : Result DaemonState StartFault) (t : DiskWorld) → Starts MemKeeps disk_told faults outset files o result t → t.ran_out ≡ false → IsStillOn o t
start_still faults outset files o result t h ran = still_on faults outset h.folder o result t h.starts ran

-- a new daemon has the rules of the setup's folder
pub starts_with_folder : (setup : SetupState) (held : HasLines setup.folder.files setup.folder.count) (number : ℕ) (o : DiskWorld) (d : DaemonState) → StartsOn setup number o d → HasFolder setup.folder.count d
starts_with_folder setup held number o d h =
    let policy : Judging = policy_of setup in
    let rules : List types.Rule = h.rules in
    let folder : List types.Rule = folder_of policy in
    let same : length folder ≡ setup.folder.count = ap (λ (l : List types.Rule). length l) (setup_folder setup) ∙ held.number in
    let few : setup.folder.count + length rules ≤ 65536 = from_few setup.folder.count o.disk.text rules h.loaded in
    let all : length (entries_from 1 (start_rules folder rules)) ≡ length (start_rules folder rules) = entries_length 1 (start_rules folder rules) in
    let long : length (start_rules folder rules) ≡ length folder + length rules = start_length folder rules in
    subst (HasFolder setup.folder.count) (sym h.is) (record {
      number = ap (λ (l : List types.Rule). length l) (all_in 1 folder rules) ∙ same;
      few = omega (arith, same, few, all, long);
    })

-- What a stop leaves is a rule file, at each moment of a run.
use Rattle.std.proofs.Common.{◌≡◌, ℕ, ◌+◌, ◌<◌, ◌≤◌, Bool, true, false, cond, List, [], ◌∷◌, ◌++◌, length, Option, Some, None, Result, Ok, Err, inl, inr, ◌⊎◌, refl, sym, ◌∙◌, ap, subst, arith}
use Rattle.ug_types.specs.Elements.{Has}
use Rattle.ug_types.proofs.Elements.{has_cases}
use Rattle.ug_types.specs.declared.rule.Rule.{Rule}
use Rattle.ug_types.specs.declared.saved.Saved.{Saved}
use Rattle.ug_types.specs.declared.saved.Saved.TheVariants as saved
use Rattle.ug_kernel.specs.Kernel.{Kernel}
use Rattle.ug_policy.specs.Rules.{Rules, most_rules}
use Rattle.ug_policy.specs.declared.entry.RuleEntry.{RuleEntry}
use Rattle.ug_rule.specs.Files.{file_read}
use Rattle.ug_rule.proofs.Cases.{one_outcome}
use Rattle.ug_print.specs.RuleTexts.{rules_text_of}
use Rattle.ug_ruleset.specs.RuleFile.{CanSave, IsRuleFile, IsSaveable, permanent_rules, permanent_text}
use Rattle.ug_ruleset.proofs.Readable.{saved_file}
use Rattle.ug_store.specs.Disk.{Disk, Images, IsAsItWas, IsImage}
use Rattle.ug_store.specs.Store.{RecoversFrom}
use Rattle.ug_store.specs.declared.store.RecoverFault.{RecoverFault}
use Rattle.ug_store.specs.declared.store.RecoverFault.TheVariants as recover
use Rattle.ug_core.specs.Chain.{Happened, Chain, EachKept, KeptIn, unsure_of, unsure_past}
use Rattle.ug_core.specs.Changes.{ChangeSaves, changed_by, is_saved, text_if_saved}
use Rattle.ug_core.specs.Durable.{IsKept, WritesEvent, as_list, change_in, if_written, rules_of, rules_of_change, text_of_change, texts_of, unsure_behind, unsure_with}
use Rattle.ug_core.specs.Event.{DaemonState}
use Rattle.ug_core.specs.Policy.{Judging}
use Rattle.ug_core.specs.Starting.{HoldsJust, StartsAfter, fault_of_recovery, start_rules}
use Rattle.ug_core.specs.Stops.{AllReadable, AreFiles, EachStops, IsReadable, LeavesRules, LoadsJust, NoneSaved, StartsJust, StartsSure, StopsIn, StopsLeaveRules, WasUnsaved, rules_past, unsure_rules}
use Rattle.ug_core.specs.Storing.{WritesRules}
use Rattle.ug_core.specs.declared.changes.Change.{Change}
use Rattle.ug_core.specs.declared.changes.Change.TheVariants.{Rules as Edits, Set}
use Rattle.ug_types.specs.declared.event.Event.{Event}
use Rattle.ug_types.specs.declared.event.Event.TheVariants.{Sweep, Order, Hint}
use Rattle.ug_core.specs.declared.start_fault.StartFault.{StartFault}
use Rattle.ug_core.specs.declared.start_fault.StartFault.TheVariants as fault
use Rattle.ug_core.specs.declared.storing.Stored.{Stored}
use Rattle.ug_core.specs.declared.storing.Stored.TheVariants as stored
use Rattle.std.proofs.lemmas.Option.{same_Some}
use Rattle.ug_types.specs.Limits.{text_limit}
use Rattle.ug_core.proofs.Kept.{kept_along}
use Rattle.ug_core.proofs.Readable.{start_permanent}

-- ---- texts that are rule files

file_in : (rules : List (List Rule)) (texts : List (List ℕ)) → AreFiles rules texts → (text : List ℕ) → Has texts text → (stood : List Rule) × IsRuleFile stood text × Has rules stood
file_in [] [] files text has = absurd has
file_in [] (t ∷ texts) files text has = absurd files
file_in (r ∷ rules) [] files text has = absurd has
file_in (r ∷ rules) (t ∷ texts) files text (inl is) = (r, subst (λ (x : List ℕ). IsRuleFile r x) is files.0, inl refl)
file_in (r ∷ rules) (t ∷ texts) files text (inr has) = let k = file_in rules texts files.1 text has in (k.0, k.1, inr k.2)

files_append : (rules more : List (List Rule)) (texts behind : List (List ℕ)) → AreFiles rules texts → AreFiles more behind → AreFiles (rules ++ more) (texts ++ behind)
files_append [] more [] behind a b = b
files_append [] more (t ∷ texts) behind a b = absurd a
files_append (r ∷ rules) more [] behind a b = absurd a
files_append (r ∷ rules) more (t ∷ texts) behind a b = (a.0, files_append rules more texts behind a.1 b)

-- what texts tell, in the words of rules
leaves : (rules : List RuleEntry) (unsure : List (List Rule)) (texts : List (List ℕ)) (images : Images) → IsSaveable rules → AreFiles unsure texts → IsKept rules texts images → LeavesRules rules unsure images
leaves rules unsure texts images saves files kept text is = elim (kept text is) [
  | inl same ↦ record { stood = permanent_rules rules; file = subst (λ (t : List ℕ). IsRuleFile (permanent_rules rules) t) (sym same) (saved_file (permanent_rules rules) saves); which = inl refl }
  | inr has ↦ let k = file_in unsure texts files text has in record { stood = k.0; file = k.1; which = inr k.2 }
]

-- what an order wrote is a rule file
change_files : (change : Change) (p : Judging) → ChangeSaves change p → AreFiles (rules_of_change (Some change) p) (text_of_change (Some change) p)
change_files (Edits edit) p saves = by_saved (is_saved (Edits edit) p.rules)
  where
    by_saved : (b : Bool) → AreFiles (cond b (permanent_rules (changed_by (Edits edit) p).rules ∷ []) []) (as_list (text_if_saved b (Edits edit) p))
    by_saved true = (saved_file (permanent_rules (changed_by (Edits edit) p).rules) saves, tt)
    by_saved false = tt
change_files (Set set) p saves = tt

written_files : (became : Stored) (o : Option Change) (p : Judging) → WritesRules became o p → AreFiles (if_written became (rules_of_change o p)) (if_written became (text_of_change o p))
written_files stored.NotNeeded o p h = tt
written_files stored.Done None p h = tt
written_files stored.Done (Some change) p h = change_files change p (h refl)
written_files (stored.Failed count) None p h = tt
written_files (stored.Failed count) (Some change) p h = change_files change p (h refl)
written_files stored.TooLong o p h = tt
written_files stored.Memory o p h = tt

with_files : (tried : Option Saved) (unsure : List (List Rule)) (texts : List (List ℕ)) → AreFiles unsure texts → AreFiles (unsure_with tried unsure) (unsure_with tried texts)
with_files None unsure texts files = files
with_files (Some saved.Done) unsure texts files = tt
with_files (Some (saved.Failed count)) unsure texts files = files
with_files (Some saved.Memory) unsure texts files = files

behind_files : (became : Stored) (asked unsure : List (List Rule)) (texts more : List (List ℕ)) → AreFiles (if_written became asked) (if_written became texts) → AreFiles unsure more → AreFiles (unsure_behind became asked unsure) (unsure_behind became texts more)
behind_files stored.NotNeeded asked unsure texts more a b = b
behind_files stored.Done asked unsure texts more a b = tt
behind_files (stored.Failed count) asked unsure texts more a b = files_append asked unsure texts more a b
behind_files stored.TooLong asked unsure texts more a b = b
behind_files stored.Memory asked unsure texts more a b = b

event_texts : (event : Event) (d : DaemonState) → texts_of event d ≡ text_of_change (change_in event d) d.sweep.judge
event_texts (Sweep moment) d = refl
event_texts (Hint moment piece) d = refl
event_texts (Order moment who line) d = refl

event_files : (h : Happened) → WritesEvent h.event h.before h.became → AreFiles (if_written h.became (rules_of h.event h.before)) (if_written h.became (texts_of h.event h.before))
event_files h writes = subst (λ (ts : List (List ℕ)). AreFiles (if_written h.became (rules_of h.event h.before)) (if_written h.became ts)) (sym (event_texts h.event h.before)) (written_files h.became (change_in h.event h.before) h.before.sweep.judge writes)

past_files : (h : Happened) (unsure : List (List Rule)) (texts : List (List ℕ)) → WritesEvent h.event h.before h.became → AreFiles unsure texts → AreFiles (rules_past unsure h) (unsure_past texts h)
past_files h unsure texts writes files = behind_files h.became (rules_of h.event h.before) (unsure_with h.tried unsure) (texts_of h.event h.before) (unsure_with h.tried texts) (event_files h writes) (with_files h.tried unsure texts files)

pub written_file : (event : Event) (became : Stored) (d : DaemonState) → WritesEvent event d became → (c : List ℕ) → Has (if_written became (texts_of event d)) c → (rules : List Rule) × IsRuleFile rules c
written_file event became d writes c has =
    let files : AreFiles (if_written became (rules_of event d)) (if_written became (texts_of event d)) = subst (λ (ts : List (List ℕ)). AreFiles (if_written became (rules_of event d)) (if_written became ts)) (sym (event_texts event d)) (written_files became (change_in event d) d.sweep.judge writes) in
    let k = file_in (if_written became (rules_of event d)) (if_written became (texts_of event d)) files c has in
    (k.0, k.1)

-- rules that can be saved are told apart by their texts
same_saved : (rules others : List Rule) → CanSave rules → CanSave others → rules_text_of rules ≡ rules_text_of others → rules ≡ others
same_saved rules others a b e = one_outcome (file_read (rules_text_of others)) rules others (ap (λ (t : List ℕ). file_read t) (sym e) ∙ a.reads) b.reads

same_permanent : (es fs : List RuleEntry) → IsSaveable es → IsSaveable fs → permanent_text es ≡ permanent_text fs → permanent_rules es ≡ permanent_rules fs
same_permanent es fs a b e = same_saved (permanent_rules es) (permanent_rules fs) a b e

-- those of a change that was saved
done_rules : (o : Option Change) (p : Judging) (es : List RuleEntry) → IsSaveable es → WritesRules stored.Done o p → Has (text_of_change o p) (permanent_text es) → Has (rules_of_change o p) (permanent_rules es)
done_rules None p es saves writes has = absurd has
done_rules (Some (Edits edit)) p es saves writes has = by_saved (is_saved (Edits edit) p.rules) has
  where
    by_saved : (b : Bool) → Has (as_list (text_if_saved b (Edits edit) p)) (permanent_text es) → Has (cond b (permanent_rules (changed_by (Edits edit) p).rules ∷ []) []) (permanent_rules es)
    by_saved true (inl same) = inl (same_saved (permanent_rules (changed_by (Edits edit) p).rules) (permanent_rules es) (writes refl) saves same)
    by_saved true (inr none) = absurd none
    by_saved false none = absurd none
done_rules (Some (Set set)) p es saves writes has = absurd has

event_done : (h : Happened) → IsReadable h → (h.became ≡ stored.Done) → Has (texts_of h.event h.before) (permanent_text h.after.sweep.judge.rules) → Has (rules_of h.event h.before) (permanent_rules h.after.sweep.judge.rules)
event_done h reads is has =
    done_rules (change_in h.event h.before) h.before.sweep.judge h.after.sweep.judge.rules reads.after
    (subst (λ (b : Stored). WritesRules b (change_in h.event h.before) h.before.sweep.judge) is reads.written)
    (subst (λ (ts : List (List ℕ)). Has ts (permanent_text h.after.sweep.judge.rules)) (event_texts h.event h.before) has)

-- ---- along a run

stops_in : (unsure : List (List Rule)) (texts : List (List ℕ)) (h : Happened) → IsReadable h → AreFiles unsure texts → (kept : KeptIn texts h) → IsKept h.before.sweep.judge.rules texts kept.disk.left → StopsIn unsure h
stops_in unsure texts h reads files kept before = record {
  disk = kept.disk;
  told = kept.told;
  disk_after = kept.disk_after;
  told_after = kept.told_after;
  saving = kept.kept.saving;
  ordering = kept.kept.ordering;
  past = kept.kept.past;
  before = leaves h.before.sweep.judge.rules unsure texts kept.disk.left reads.before files before;
  first = λ images has. leaves h.before.sweep.judge.rules unsure texts images reads.before files (kept.kept.first images has);
  second = λ images has. leaves h.before.sweep.judge.rules (if_written h.became (rules_of h.event h.before) ++ unsure_with h.tried unsure) (if_written h.became (texts_of h.event h.before) ++ unsure_with h.tried texts) images reads.before
      (files_append (if_written h.became (rules_of h.event h.before)) (unsure_with h.tried unsure) (if_written h.became (texts_of h.event h.before)) (unsure_with h.tried texts) (event_files h reads.written) (with_files h.tried unsure texts files))
      (kept.kept.second images has);
  left = leaves h.after.sweep.judge.rules (rules_past unsure h) (unsure_past texts h) kept.disk_after.left reads.after (past_files h unsure texts reads.written files) kept.kept.left;
  same = λ unsaved. same_permanent h.after.sweep.judge.rules h.before.sweep.judge.rules reads.after reads.before (kept.kept.same unsaved);
  done = λ is. event_done h reads is (kept.kept.done is).0;
}

each_stops : (unsure : List (List Rule)) (texts : List (List ℕ)) (hs : List Happened) → AllReadable hs → AreFiles unsure texts → EachKept texts hs → EachStops unsure hs
each_stops unsure texts [] reads files kept = tt
each_stops unsure texts (h ∷ hs) reads files kept = (stops_in unsure texts h reads.0 files kept.0 kept.0.before, each_stops (rules_past unsure h) (unsure_past texts h) hs reads.1 (past_files h unsure texts reads.0.written files) kept.1)

all_files : (unsure : List (List Rule)) (texts : List (List ℕ)) (hs : List Happened) → AllReadable hs → AreFiles unsure texts → AreFiles (unsure_rules unsure hs) (unsure_of texts hs)
all_files unsure texts [] reads files = files
all_files unsure texts (h ∷ hs) reads files = all_files (rules_past unsure h) (unsure_past texts h) hs reads.1 (past_files h unsure texts reads.0.written files)

last_saves : (k : Kernel) (o : Option Disk) (d : DaemonState) (hs : List Happened) (l : Kernel) (p : Option Disk) (e : DaemonState) → Chain k o d hs l p e → IsSaveable d.sweep.judge.rules → AllReadable hs → IsSaveable e.sweep.judge.rules
last_saves k o d [] l p e c saves reads = subst (λ (x : DaemonState). IsSaveable x.sweep.judge.rules) (sym c.2) saves
last_saves k o d (h ∷ hs) l p e c saves reads = last_saves h.kernel_after h.disk_after h.after hs l p e c.4 reads.0.after reads.1

-- ---- where rules that aren't sure come from

with_whence : {X : Type 0} (tried : Option Saved) (unsure : List X) (x : X) → Has (unsure_with tried unsure) x → Has unsure x × ((tried ≡ Some saved.Done) → ⊥)
with_whence None unsure x h = (h, λ e. let none : ⊥ = cc in none)
with_whence (Some saved.Done) unsure x h = absurd h
with_whence (Some (saved.Failed count)) unsure x h = (h, λ e. let none : ⊥ = cc in none)
with_whence (Some saved.Memory) unsure x h = (h, λ e. let none : ⊥ = cc in none)

-- it wasn't sure before, or an order failed to save it
abbrev Whence : {X : Type 0} → Stored → Option Saved → List X → List X → X → Type 0
Whence became tried asked unsure x = (Has unsure x × ((tried ≡ Some saved.Done) → ⊥) × ((became ≡ stored.Done) → ⊥)) ⊎ ((count : ℕ) × (became ≡ stored.Failed count) × Has asked x)

past_whence : {X : Type 0} (became : Stored) (tried : Option Saved) (asked unsure : List X) (x : X) → Has (unsure_behind became asked (unsure_with tried unsure)) x → Whence became tried asked unsure x
past_whence stored.NotNeeded tried asked unsure x h = let k = with_whence tried unsure x h in inl (k.0, k.1, λ e. let none : ⊥ = cc in none)
past_whence stored.Done tried asked unsure x h = absurd h
past_whence (stored.Failed count) tried asked unsure x h = elim (has_cases asked (unsure_with tried unsure) x h) [
  | inl a ↦ inr (count, refl, a)
  | inr b ↦ let k = with_whence tried unsure x b in inl (k.0, k.1, λ e. let none : ⊥ = cc in none)
]
past_whence stored.TooLong tried asked unsure x h = let k = with_whence tried unsure x h in inl (k.0, k.1, λ e. let none : ⊥ = cc in none)
past_whence stored.Memory tried asked unsure x h = let k = with_whence tried unsure x h in inl (k.0, k.1, λ e. let none : ⊥ = cc in none)

asked_change : (o : Option Change) (p : Judging) (rules : List Rule) → Has (rules_of_change o p) rules → (change : Change) × (o ≡ Some change) × (rules ≡ permanent_rules (changed_by change p).rules)
asked_change None p rules h = absurd h
asked_change (Some change) p rules h = (change, refl, by_saved (is_saved change p.rules) h)
  where
    by_saved : (b : Bool) → Has (cond b (permanent_rules (changed_by change p).rules ∷ []) []) rules → rules ≡ permanent_rules (changed_by change p).rules
    by_saved true (inl is) = sym is
    by_saved true (inr none) = absurd none
    by_saved false none = absurd none

-- the permanent rules stay where no save is done
same_along : (k : Kernel) (o : Option Disk) (d : DaemonState) (hs : List Happened) (l : Kernel) (p : Option Disk) (e : DaemonState) (texts : List (List ℕ)) → Chain k o d hs l p e → EachKept texts hs → NoneSaved hs → permanent_text e.sweep.judge.rules ≡ permanent_text d.sweep.judge.rules
same_along k o d [] l p e texts c kept none = ap (λ (x : DaemonState). permanent_text x.sweep.judge.rules) c.2
same_along k o d (h ∷ hs) l p e texts c kept none =
    same_along h.kernel_after h.disk_after h.after hs l p e (unsure_past texts h) c.4 kept.1 none.2
    ∙ kept.0.kept.same none.1
    ∙ ap (λ (x : DaemonState). permanent_text x.sweep.judge.rules) c.2

whence : (k : Kernel) (o : Option Disk) (d : DaemonState) (hs : List Happened) (l : Kernel) (p : Option Disk) (e : DaemonState) (unsure : List (List Rule)) (texts : List (List ℕ)) → Chain k o d hs l p e → EachKept texts hs → AllReadable hs → IsSaveable e.sweep.judge.rules → (rules : List Rule) → Has (unsure_rules unsure hs) rules → (Has unsure rules × NoneSaved hs) ⊎ WasUnsaved hs e.sweep.judge.rules rules
whence k o d [] l p e unsure texts c kept reads saves rules has = inl (has, tt)
whence k o d (h ∷ hs) l p e unsure texts c kept reads saves rules has =
    elim (whence h.kernel_after h.disk_after h.after hs l p e (rules_past unsure h) (unsure_past texts h) c.4 kept.1 reads.1 saves rules has) [
      | inl was ↦ here was.1 (past_whence h.became h.tried (rules_of h.event h.before) unsure rules was.0)
      | inr w ↦ inr (record {
        earlier = h ∷ w.earlier;
        event = w.event;
        later = w.later;
        in_run = ap (λ (x : List Happened). h ∷ x) w.in_run;
        change = w.change;
        asks = w.asks;
        count = w.count;
        failed = w.failed;
        told = w.told;
        none = w.none;
        base = w.base;
        is = w.is;
      })
    ]
  where
    here : NoneSaved hs → Whence h.became h.tried (rules_of h.event h.before) unsure rules → (Has unsure rules × NoneSaved (h ∷ hs)) ⊎ WasUnsaved (h ∷ hs) e.sweep.judge.rules rules
    here none (inl was) = inl (was.0, (was.1, was.2, none))
    here none (inr asked) =
        let a = asked_change (change_in h.event h.before) h.before.sweep.judge rules asked.2 in
        let unsaved : (h.became ≡ stored.Done) → ⊥ = λ e. let bad : stored.Failed asked.0 ≡ stored.Done = sym asked.1 ∙ e in let none : ⊥ = cc in none in
        inr (record {
          earlier = [];
          event = h;
          later = hs;
          in_run = refl;
          change = a.0;
          asks = a.1;
          count = asked.0;
          failed = asked.1;
          told = kept.0.kept.failed asked.0 asked.1;
          none = none;
          base = same_permanent h.before.sweep.judge.rules e.sweep.judge.rules reads.0.before saves (sym (same_along h.kernel_after h.disk_after h.after hs l p e (unsure_past texts h) c.4 kept.1 none ∙ kept.0.kept.same unsaved));
          is = a.2;
        })

-- the rule file stays one that a stop may leave
moved : (m n : Disk) → IsAsItWas m n → IsImage m.left m.text → IsImage n.left n.text
moved m n still is = subst (λ (i : Images). IsImage i n.text) (sym still.left) (subst (λ (t : List ℕ). IsImage m.left t) (sym still.text) is)

possible_along : (k : Kernel) (o : Option Disk) (d : DaemonState) (hs : List Happened) (l : Kernel) (p : Option Disk) (e : DaemonState) (texts : List (List ℕ)) → Chain k o d hs l p e → EachKept texts hs → (n : Disk) → p ≡ Some n → (m : Disk) → o ≡ Some m → IsImage m.left m.text → IsImage n.left n.text
possible_along k o d [] l p e texts c kept n told m was is =
    let a = c.1 n told in
    let same : m ≡ a.0 = same_Some m a.0 (sym was ∙ a.1) in
    moved a.0 n a.2 (subst (λ (x : Disk). IsImage x.left x.text) same is)
possible_along k o d (h ∷ hs) l p e texts c kept n told m was is =
    let a = c.1 kept.0.disk kept.0.told in
    let same : m ≡ a.0 = same_Some m a.0 (sym was ∙ a.1) in
    let here : IsImage kept.0.disk.left kept.0.disk.text = moved a.0 kept.0.disk a.2 (subst (λ (x : Disk). IsImage x.left x.text) same is) in
    possible_along h.kernel_after h.disk_after h.after hs l p e (unsure_past texts h) c.4 kept.1 n told kept.0.disk_after kept.0.told_after (kept.0.kept.possible here)

pub stops_leave_rules : StopsLeaveRules
stops_leave_rules k o d hs l p e c saves reads n told =
    let along = kept_along k o d hs l p e c n told in (
      along.0,
      along.1,
      λ unsure texts files kept.
          let each = along.2 texts kept in
          let left = leaves e.sweep.judge.rules (unsure_rules unsure hs) (unsure_of texts hs) n.left (last_saves k o d hs l p e c saves reads) (all_files unsure texts hs reads files) each.1 in
          record {
            each = each_stops unsure texts hs reads files each.0;
            left = left;
            file = λ is. left n.text (possible_along k o d hs l p e texts c each.0 n told along.0 along.1 is);
            whence = whence k o d hs l p e unsure texts c each.0 reads (last_saves k o d hs l p e c saves reads);
          },
    )

-- ---- a start

same_read : (text : List ℕ) (a b : List Rule) → file_read text ≡ Ok a → file_read text ≡ Ok b → a ≡ b
same_read text a b e f = one_outcome (file_read text) a b e f

-- by what was read
from_text : (folder : List Rule) (text : List ℕ) (rules : List Rule) (result : Result (Bool × Rules) StartFault) → file_read text ≡ Ok rules → length (rules_text_of rules) ≤ text_limit → StartsAfter folder (Ok text) result → LoadsJust folder rules result
from_text folder text rules (Ok started) reads fits h = (h.0, subst (λ (rs : List Rule). HoldsJust (start_rules folder rs) started.1) (same_read text h.1.rules rules h.1.reads reads) h.1.holds)
from_text folder text rules (Err (fault.BadRules bad)) reads fits h = let other = sym h ∙ reads in let none : ⊥ = cc in absurd none
from_text folder text rules (Err fault.TooMany) reads fits h = subst (λ (rs : List Rule). most_rules < length folder + length rs) (same_read text h.rules rules h.reads reads) h.many
from_text folder text rules (Err fault.TooLong) reads fits h =
    let long : text_limit < length (rules_text_of rules) = subst (λ (rs : List Rule). text_limit < length (rules_text_of rs)) (same_read text h.rules rules h.reads reads) h.long in
    let none : ⊥ = omega (arith, long, fits) in
    absurd none
from_text folder text rules (Err fault.Memory) reads fits h = tt
from_text folder text rules (Err (fault.Disk count)) reads fits h = absurd h
from_text folder text rules (Err (fault.BadFolder place bad)) reads fits h = absurd h
from_text folder text rules (Err fault.FolderTooLong) reads fits h = absurd h

from_fault : (folder : List Rule) (e : RecoverFault) (file : List ℕ) (rules : List Rule) (result : Result (Bool × Rules) StartFault) → length file ≤ text_limit → RecoversFrom (Err e) file → result ≡ Err (fault_of_recovery e) → LoadsJust folder rules result
from_fault folder (recover.Failed count) file rules result within h is = subst (λ (r : Result (Bool × Rules) StartFault). LoadsJust folder rules r) (sym is) tt
from_fault folder recover.TooLong file rules result within h is = let none : ⊥ = omega (arith, within, h) in absurd none
from_fault folder recover.Memory file rules result within h is = subst (λ (r : Result (Bool × Rules) StartFault). LoadsJust folder rules r) (sym is) tt

from_read : (folder : List Rule) (read : Result (List ℕ) RecoverFault) (file : List ℕ) (rules : List Rule) (result : Result (Bool × Rules) StartFault) → IsRuleFile rules file → RecoversFrom read file → StartsAfter folder read result → LoadsJust folder rules result
from_read folder (Ok text) file rules result is h starts = from_text folder text rules result (ap (λ (t : List ℕ). file_read t) h.0 ∙ is.reads) is.fits starts
from_read folder (Err e) file rules result is h starts = from_fault folder e file rules result is.within h starts

pub starts_just : StartsJust
starts_just m n folder read result rules was starts file = from_read folder read m.text rules result file was.file starts

-- the text that was read
sure_read : (folder : List Rule) (read : Result (List ℕ) RecoverFault) (file : List ℕ) (started : Bool × Rules) → RecoversFrom read file → StartsAfter folder read (Ok started) → IsRuleFile (permanent_rules started.1.entries) file
sure_read folder (Ok text) file started h starts =
    let r = starts.1 in
    let rules : permanent_rules started.1.entries ≡ r.rules = ap (λ (es : List RuleEntry). permanent_rules es) r.holds.entries ∙ start_permanent 1 folder r.rules in
    subst (λ (rs : List Rule). IsRuleFile rs file) (sym rules) (record {
      reads = ap (λ (t : List ℕ). file_read t) (sym h.0) ∙ r.reads;
      within = h.1;
      fits = r.fits;
      few = let few : length folder + length r.rules ≤ most_rules = r.few in omega (arith, few);
    })
sure_read folder (Err e) file started h starts = let none : ⊥ = cc in absurd none

pub starts_sure : StartsSure
starts_sure m n folder read started was starts = sure_read folder read m.text started was.file starts

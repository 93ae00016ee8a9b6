-- What a daemon starts with.
use Rattle.std.proofs.Common.{◌≡◌, ℕ, ◌+◌, ◌<◌, ◌≤◌, Bool, false, List, [], ◌∷◌, length, Option, Result, Ok, Err, inl, inr, refl, sym, ap, subst, ◌∙◌, arith}
use Rattle.ug_types.specs.Elements.{Has, AllDistinct}
use Rattle.ug_types.specs.declared.rule.Rule.{Rule}
use Rattle.ug_policy.specs.declared.entry.Mark.TheVariants as mark
use Rattle.ug_policy.specs.declared.entry.RuleEntry.{RuleEntry}
use Rattle.ug_policy.specs.Edits.{new_entry}
use Rattle.ug_policy.specs.Kept.{StandsFor}
use Rattle.ug_policy.specs.Marks.{FolderFirst, has_folder}
use Rattle.ug_policy.specs.Rules.{Rules, IsNumbered, ids, marks, most_rules}
use Rattle.ug_conf.specs.declared.folder_file.FolderFile.{FolderFile}
use Rattle.ug_store.specs.Disk.{Disk}
use Rattle.ug_store.specs.DiskCalls.{DiskCall, DiskTold}
use Rattle.ug_store.specs.declared.store.RecoverFault.{RecoverFault}
use Rattle.ug_ruleset.specs.RuleFile.{as_given}
use Rattle.ug_core.specs.Policy.{Judging}
use Rattle.std.specs.Prelude.{IfErr, IfOk}
use Rattle.ug_store.specs.Store.{seen_by}
use Rattle.ug_core.specs.Event.{DaemonState}
use Rattle.ug_core.specs.Starting.{HasRulesOf, HoldsJust, Loads, Marked, Outset, Starts, StartsAfter, StartsFrom, StartsWithRules, TakesFolder, entries_from, marked_rules, start_rules}
use Rattle.ug_core.specs.Verdicts.{IsLater}
use Rattle.ug_core.specs.declared.start_fault.StartFault.{StartFault}
use Rattle.ug_core.specs.declared.start_fault.StartFault.TheVariants as fault
use Rattle.ug_core.proofs.Numbering.{entries_length, start_length}

given_from : (id : ℕ) (rules : List Marked) → as_given (entries_from id rules) ≡ entries_from id rules
given_from id [] = refl
given_from id (m ∷ rules) = ap (λ (es : List RuleEntry). new_entry id m.rule m.mark ∷ es) (given_from (id + 1) rules)

-- their ids are those from the first one on

id_from : (id : ℕ) (rules : List Marked) (n : ℕ) → Has (ids (entries_from id rules)) n → (id ≤ n) × (n < id + length rules)
id_from id [] n h = absurd h
id_from id (m ∷ rules) n (inl same) = (omega (arith, same), omega (arith, same))
id_from id (m ∷ rules) n (inr h) = let k = id_from (id + 1) rules n h in (omega (arith, k.0), omega (arith, k.1))

ids_distinct : (id : ℕ) (rules : List Marked) → AllDistinct (ids (entries_from id rules))
ids_distinct id [] = tt
ids_distinct id (m ∷ rules) = (λ h. let k = id_from (id + 1) rules id h in omega (arith, k.0), ids_distinct (id + 1) rules)

-- the folder's come first

no_folder : (id : ℕ) (rules : List Rule) → has_folder (marks (entries_from id (marked_rules mark.File rules))) ≡ false
no_folder id [] = refl
no_folder id (rule ∷ rules) = no_folder (id + 1) rules

file_order : (id : ℕ) (rules : List Rule) → FolderFirst (marks (entries_from id (marked_rules mark.File rules)))
file_order id [] = tt
file_order id (rule ∷ rules) = (λ p. no_folder (id + 1) rules, file_order (id + 1) rules)

start_order : (id : ℕ) (folder rules : List Rule) → FolderFirst (marks (entries_from id (start_rules folder rules)))
start_order id [] rules = file_order id rules
start_order id (rule ∷ folder) rules = (λ p. let none : ⊥ = cc in absurd none, start_order (id + 1) folder rules)

numbered_from : (folder rules : List Rule) (list : Rules) → HoldsJust (start_rules folder rules) list → length folder + length rules ≤ most_rules → IsNumbered list.entries list.next
numbered_from folder rules list h few =
    let all = start_rules folder rules in
    let count : length (entries_from 1 all) ≡ length all = entries_length 1 all in
    let long : length all ≡ length folder + length rules = start_length folder rules in
    subst (λ (es : List RuleEntry). IsNumbered es list.next) (sym h.entries) (record {
      distinct = ids_distinct 1 all;
      below = λ n a. let k = id_from 1 all n a in omega (arith, k.1, h.next);
      few = omega (arith, count, long, few);
      order = start_order 1 folder rules;
    })

new_rules : (folder : List Rule) (text : List ℕ) (list : Rules) (j : Judging) → HasRulesOf folder text list → j.rules ≡ list.entries → j.next ≡ list.next → IsLater j 0 [] j
new_rules folder text list j h rules next = record {
  classes = refl;
  rules = ap (λ (es : List RuleEntry). as_given es) (rules ∙ h.holds.entries) ∙ given_from 1 (start_rules folder h.rules) ∙ sym (rules ∙ h.holds.entries);
  next = refl;
  clock = refl;
  stream = refl;
  numbered = subst (λ (n : ℕ). IsNumbered j.rules n) (sym next) (subst (λ (es : List RuleEntry). IsNumbered es list.next) (sym rules) (numbered_from folder h.rules list h.holds h.few));
  histories = subst (λ (n : ℕ). StandsFor j.rules n []) (sym next) (subst (λ (es : List RuleEntry). StandsFor es list.next []) (sym rules) h.holds.history);
}

loaded : (folder : List Rule) (read : Result (List ℕ) RecoverFault) (started : Bool × Rules) (j : Judging) → StartsAfter folder read (Ok started) → j.rules ≡ started.1.entries → j.next ≡ started.1.next → IsLater j 0 [] j
loaded folder (Ok text) started j h rules next = new_rules folder text started.1 j h.1 rules next
loaded folder (Err e) started j h rules next = let none : ⊥ = cc in absurd none

new_later : {S : Type 0} (keeps : S → (call : DiskCall) → DiskTold call → S → Type 0) (told : S → Option Disk) (faults : S → ℕ) (folder : List Rule) (s : S) (started : Bool × Rules) (t : S) (j : Judging) → Loads keeps told faults folder s (Ok started) t → j.rules ≡ started.1.entries → j.next ≡ started.1.next → IsLater j 0 [] j
new_later keeps told faults folder s started t j h rules next = loaded folder h.read started j h.starts rules next

pub starts_from : {D : Type 0} (f : D → DaemonState) (outset : Outset) (started : Bool × Rules) (r : Result D StartFault) → IfOk r (λ d. StartsWithRules outset started (f d)) → IfErr r (λ e. e ≡ fault.Memory) → StartsFrom outset (Ok started) (seen_by f r)
starts_from f outset started (Ok d) a b = a
starts_from f outset started (Err e) a b = b

pub starts_later : {S D : Type 0} (f : D → DaemonState) (keeps : S → (call : DiskCall) → DiskTold call → S → Type 0) (told : S → Option Disk) (faults : S → ℕ) (folder : List Rule) (s : S) (outset : Outset) (started : Bool × Rules) (t : S) (r : Result D StartFault) → Loads keeps told faults folder s (Ok started) t → IfOk r (λ d. StartsWithRules outset started (f d)) → IfOk r (λ d. IsLater (f d).sweep.judge 0 [] (f d).sweep.judge)
starts_later f keeps told faults folder s outset started t (Ok d) h a = new_later keeps told faults folder s started t (f d).sweep.judge h (ap (λ (j : Judging). j.rules) a.started.judge) (ap (λ (j : Judging). j.next) a.started.judge)
starts_later f keeps told faults folder s outset started t (Err e) h a = tt

-- where the folder is refused
pub refused_folder : {S : Type 0} (keeps : S → (call : DiskCall) → DiskTold call → S → Type 0) (told : S → Option Disk) (faults : S → ℕ) (outset : Outset) (files : List FolderFile) (s : S) (e : StartFault) → TakesFolder files (Err e) → Starts keeps told faults outset files s (Err e) s
refused_folder keeps told faults outset files s e (inl is) = record { folder = Err e; taken = inl (sym is); starts = (refl, refl) }
refused_folder keeps told faults outset files s e (inr short) = record { folder = Err e; taken = inr (ap (λ (f : StartFault). Err f) short); starts = (refl, refl) }

-- What changes leave of the rules: their numbering, and what histories stand for.
use Rattle.std.proofs.Common.{◌≡◌, ℕ, zero, suc, ◌+◌, ◌≤◌, ◌<◌, Bool, true, false, cond, not, List, [], ◌∷◌, ◌++◌, length, inl, inr, refl, sym, ◌∙◌, ap, subst, arith}
use Rattle.std.specs.List.{flat_map, insert}
use Rattle.std.proofs.lemmas.Bool.{eqb-false}
use Rattle.ug_types.specs.Elements.{Has, AllDistinct}
use Rattle.ug_types.specs.declared.rule.After.{After}
use Rattle.ug_types.specs.declared.rule.After.TheVariants as after
use Rattle.rand_core.specs.Stream.{Stream}
use Rattle.ug_cond.specs.Judgements.{Judgement}
use Rattle.ug_cond.specs.Words.{behind}
use Rattle.ug_policy.specs.Edits.{IsThere, aimed, at_front, followed, has_id, inserted, new_entry, removed, retargeted}
use Rattle.ug_policy.specs.Kept.{StandsFor}
use Rattle.ug_policy.specs.Marks.{FolderFirst, folder_end, is_permanent}
use Rattle.ug_policy.specs.Rules.{IsNumbered, ids, marks}
use Rattle.ug_policy.specs.declared.entry.Mark.{Mark}
use Rattle.ug_policy.specs.declared.entry.RuleEntry.{RuleEntry}
use Rattle.ug_policy.proofs.Changes.{followed_first}
use Rattle.ug_policy.proofs.Numbering.{numbered_insert, numbered_removed, numbered_retargeted}
use Rattle.ug_policy.proofs.Order.{end_within, order_inserted}
use Rattle.ug_policy.proofs.FirstPlaces.{FirstAt}
use Rattle.ug_policy.proofs.Stands.{stands_insert, stands_removed, stands_retargeted}
use Rattle.ug_core.specs.Changes.{CanChange, changed_by, with_parameter}
use Rattle.ug_core.specs.Policy.{Judging}
use Rattle.ug_core.specs.Verdicts.{IsLater}
use Rattle.ug_core.specs.declared.changes.Change.{Change}
use Rattle.ug_core.specs.declared.changes.Change.TheVariants.{Rules, Set}
use Rattle.ug_ruleset.specs.RuleEdits.{CanEdit, edited_by, next_after}
use Rattle.ug_ruleset.specs.RuleFile.{as_given}
use Rattle.ug_ruleset.specs.declared.edit.Edit.{Edit}
use Rattle.ug_ruleset.specs.declared.edit.Edit.TheVariants.{Insert, Remove, Retarget}
use Rattle.ug_ruleset.proofs.Given.{given_append}
use Rattle.ug_types.specs.declared.verdict.Target.{Target}
use Rattle.ug_core.specs.declared.classes.Classes.{Classes}

-- ---- the place of a rule that is added

record Placed (place : After) (whose : Mark) (es : List RuleEntry) : Type 0 where
  at : ℕ
  within : at ≤ length es
  puts : (added : RuleEntry) → added.mark ≡ whose → inserted place added es ≡ insert es at added

record First (id : ℕ) (es : List RuleEntry) : Type 0 where
  at : ℕ
  e : RuleEntry
  first : FirstAt (has_id id) es at e
  within : at < length es

first_there : (id : ℕ) (es : List RuleEntry) → Has (ids es) id → First id es
first_there id [] h = absurd h
first_there id (f ∷ es) h = by_first (has_id id f) refl h (first_there id es)
  where
    later : (b : Bool) → has_id id f ≡ b → b ≡ false → Has (f.id ∷ ids es) id → Has (ids es) id
    later b is off (inl same) = absurd (eqb-false f.id id (is ∙ off) same)
    later b is off (inr m) = m

    by_first : (b : Bool) → has_id id f ≡ b → Has (f.id ∷ ids es) id → (Has (ids es) id → First id es) → First id (f ∷ es)
    by_first true is m rest = record { at = zero; e = f; first = (refl, is); within = omega arith }
    by_first false is m rest = let k = rest (later false is refl m) in record { at = suc k.at; e = k.e; first = (is, k.first); within = (let lt = k.within in omega (arith, lt)) }

last_place : (es : List RuleEntry) (added : RuleEntry) → es ++ added ∷ [] ≡ insert es (length es) added
last_place [] added = refl
last_place (e ∷ es) added = ap (λ (v : List RuleEntry). e ∷ v) (last_place es added)

first_place : (es : List RuleEntry) (added : RuleEntry) → added ∷ es ≡ insert es zero added
first_place [] added = refl
first_place (e ∷ es) added = refl

front_place : (es : List RuleEntry) (whose : Mark) (added : RuleEntry) → added.mark ≡ whose → at_front added es ≡ insert es (cond (is_permanent whose) (folder_end (marks es)) zero) added
front_place es whose added same = ap (λ (m : Mark). cond (is_permanent m) (insert es (folder_end (marks es)) added) (added ∷ es)) same ∙ by (is_permanent whose)
  where
    by : (b : Bool) → cond b (insert es (folder_end (marks es)) added) (added ∷ es) ≡ insert es (cond b (folder_end (marks es)) zero) added
    by true = refl
    by false = first_place es added

front_within : (es : List RuleEntry) (b : Bool) → cond b (folder_end (marks es)) zero ≤ length es
front_within es true = end_within es
front_within es false = omega arith

placed : (place : After) (whose : Mark) (es : List RuleEntry) → AllDistinct (ids es) → IsThere place es → Placed place whose es
placed after.End whose es distinct there = record { at = length es; within = omega arith; puts = λ added same. last_place es added }
placed after.Front whose es distinct there = record { at = cond (is_permanent whose) (folder_end (marks es)) zero; within = front_within es (is_permanent whose); puts = front_place es whose }
placed (after.Rule id) whose es distinct there =
    let k = first_there id es there in
    record { at = suc k.at; within = (let lt = k.within in omega (arith, lt)); puts = λ added same. followed_first id added es k.at k.e distinct k.first }

-- ---- rules as they were given

abbrev given : RuleEntry → RuleEntry
given e = new_entry e.id e.rule e.mark

given_followed : (id : ℕ) (added : RuleEntry) (es : List RuleEntry) → as_given (flat_map (followed id added) es) ≡ flat_map (followed id (given added)) (as_given es)
given_followed id added [] = refl
given_followed id added (e ∷ es) = given_append (followed id added e) (flat_map (followed id added) es) ∙ ap (λ (v : List RuleEntry). v ++ as_given (flat_map (followed id added) es)) (by_id (has_id id e)) ∙ ap (λ (v : List RuleEntry). followed id (given added) (given e) ++ v) (given_followed id added es)
  where
    by_id : (b : Bool) → as_given (cond b (e ∷ added ∷ []) (e ∷ [])) ≡ cond b (given e ∷ given added ∷ []) (given e ∷ [])
    by_id true = refl
    by_id false = refl

given_put : (es : List RuleEntry) (i : ℕ) (y : RuleEntry) → as_given (insert es i y) ≡ insert (as_given es) i (given y)
given_put [] zero y = refl
given_put [] (suc i) y = refl
given_put (e ∷ es) zero y = refl
given_put (e ∷ es) (suc i) y = ap (λ (v : List RuleEntry). given e ∷ v) (given_put es i y)

marks_given : (es : List RuleEntry) → marks (as_given es) ≡ marks es
marks_given [] = refl
marks_given (e ∷ es) = ap (λ (ms : List Mark). e.mark ∷ ms) (marks_given es)

given_inserted : (place : After) (added : RuleEntry) (es : List RuleEntry) → as_given (inserted place added es) ≡ inserted place (given added) (as_given es)
given_inserted after.End added es = given_append es (added ∷ [])
given_inserted after.Front added es = by (is_permanent added.mark)
  where
    by : (b : Bool) → as_given (cond b (insert es (folder_end (marks es)) added) (added ∷ es)) ≡ cond b (insert (as_given es) (folder_end (marks (as_given es))) (given added)) (given added ∷ as_given es)
    by true = given_put es (folder_end (marks es)) added ∙ ap (λ (ms : List Mark). insert (as_given es) (folder_end ms) (given added)) (sym (marks_given es))
    by false = refl
given_inserted (after.Rule id) added es = given_followed id added es

given_removed : (id : ℕ) (es : List RuleEntry) → as_given (removed id es) ≡ removed id (as_given es)
given_removed id [] = refl
given_removed id (e ∷ es) = by_id (not (has_id id e)) ∙ ap (λ (v : List RuleEntry). cond (not (has_id id e)) (given e ∷ v) v) (given_removed id es)
  where
    by_id : (b : Bool) → as_given (cond b (e ∷ removed id es) (removed id es)) ≡ cond b (given e ∷ as_given (removed id es)) (as_given (removed id es))
    by_id true = refl
    by_id false = refl

given_retargeted : (id : ℕ) (target : Target) (es : List RuleEntry) → as_given (retargeted id target es) ≡ retargeted id target (as_given es)
given_retargeted id target [] = refl
given_retargeted id target (e ∷ es) = ap (λ (v : List RuleEntry). given (cond (has_id id e) (aimed target e) e) ∷ v) (given_retargeted id target es) ∙ ap (λ (x : RuleEntry). x ∷ retargeted id target (as_given es)) (by_id (has_id id e))
  where
    by_id : (b : Bool) → given (cond b (aimed target e) e) ≡ cond b (aimed target (given e)) (given e)
    by_id true = refl
    by_id false = refl

-- ---- a policy that is later

numbered_edited : (edit : Edit) (next : ℕ) (es : List RuleEntry) → CanEdit edit es → IsNumbered es next → IsNumbered (edited_by edit next es) (next_after edit next)
numbered_edited (Insert place rule mark) next es can n =
    let k = placed place mark es n.distinct can.0 in
    subst (λ (v : List RuleEntry). IsNumbered v (next + 1)) (sym (k.puts (new_entry next rule mark) refl)) (numbered_insert es next k.at (new_entry next rule mark) n refl k.within can.1 (subst (λ (v : List RuleEntry). FolderFirst (marks v)) (k.puts (new_entry next rule mark) refl) (order_inserted place (new_entry next rule mark) es mark refl n.distinct can.0 can.2 n.order)))
numbered_edited (Remove id) next es can n = numbered_removed id next es n
numbered_edited (Retarget id rule) next es can n = numbered_retargeted id rule.target es next n

pub numbered_changed : (change : Change) (p : Judging) → CanChange change p.rules → IsNumbered p.rules p.next → IsNumbered (changed_by change p).rules (changed_by change p).next
numbered_changed (Rules edit) p can n = numbered_edited edit p.next p.rules can n
numbered_changed (Set set) p can n = n

stands_edited : (edit : Edit) (next : ℕ) (es : List RuleEntry) (js : List Judgement) → CanEdit edit es → IsNumbered es next → StandsFor es next js → StandsFor (edited_by edit next es) (next_after edit next) js
stands_edited (Insert place rule mark) next es js can n s =
    let k = placed place mark es n.distinct can.0 in
    subst (λ (v : List RuleEntry). StandsFor v (next + 1) js) (sym (k.puts (new_entry next rule mark) refl)) (stands_insert es next k.at rule mark js s)
stands_edited (Remove id) next es js can n s = stands_removed id es next js s
stands_edited (Retarget id rule) next es js can n s = stands_retargeted id rule.target es next js s

stands_changed : (change : Change) (p : Judging) (js : List Judgement) → CanChange change p.rules → IsNumbered p.rules p.next → StandsFor p.rules p.next js → StandsFor (changed_by change p).rules (changed_by change p).next js
stands_changed (Rules edit) p js can n s = stands_edited edit p.next p.rules js can n s
stands_changed (Set set) p js can n s = s

given_edited : (edit : Edit) (next : ℕ) (es : List RuleEntry) → as_given (edited_by edit next es) ≡ edited_by edit next (as_given es)
given_edited (Insert place rule mark) next es = given_inserted place (new_entry next rule mark) es
given_edited (Remove id) next es = given_removed id es
given_edited (Retarget id rule) next es = given_retargeted id rule.target es

given_changed : (change : Change) (policy p : Judging) → as_given p.rules ≡ policy.rules → p.next ≡ policy.next → as_given (changed_by change p).rules ≡ (changed_by change policy).rules
given_changed (Rules edit) policy p rules next = given_edited edit p.next p.rules ∙ ap (λ (es : List RuleEntry). edited_by edit p.next es) rules ∙ ap (λ (n : ℕ). edited_by edit n policy.rules) next
given_changed (Set set) policy p rules next = rules

next_changed : (change : Change) (policy p : Judging) → p.next ≡ policy.next → (changed_by change p).next ≡ (changed_by change policy).next
next_changed (Rules edit) policy p next = ap (λ (n : ℕ). next_after edit n) next
next_changed (Set set) policy p next = next

classes_changed : (change : Change) (policy p : Judging) → p.classes ≡ policy.classes → (changed_by change p).classes ≡ (changed_by change policy).classes
classes_changed (Rules edit) policy p classes = classes
classes_changed (Set set) policy p classes = ap (λ (c : Classes). with_parameter set c) classes

-- what a change leaves alone
stays_changed : (change : Change) (policy : Judging) → ((changed_by change policy).clock ≡ policy.clock) × ((changed_by change policy).stream ≡ policy.stream)
stays_changed (Rules edit) policy = (refl, refl)
stays_changed (Set set) policy = (refl, refl)

pub later_changed : (change : Change) (policy p : Judging) (words : ℕ) (js : List Judgement) → CanChange change p.rules → IsLater policy words js p → IsLater (changed_by change policy) words js (changed_by change p)
later_changed change policy p words js can h =
    let a = stays_changed change policy in
    let b = stays_changed change p in
    record {
      classes = classes_changed change policy p h.classes;
      rules = given_changed change policy p h.rules h.next;
      next = next_changed change policy p h.next;
      clock = b.0 ∙ h.clock ∙ sym a.0;
      stream = b.1 ∙ h.stream ∙ ap (λ (s : Stream). behind words s) (sym a.1);
      numbered = numbered_changed change p can h.numbered;
      histories = stands_changed change p js can h.numbered h.histories;
    }

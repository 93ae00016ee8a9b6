-- The rules that are saved of a list once it is edited.
use Rattle.std.proofs.Common.{◌≡◌, ℕ, zero, suc, Bool, true, false, not, ◌&&◌, ◌||◌, cond, List, [], ◌∷◌, ◌++◌, Option, Some, None, inl, inr, refl, sym, ◌∙◌, ap, append_assoc, append-nil, subst}
use Rattle.std.specs.Prelude.{flat_map, insert}
use Rattle.std.proofs.lemmas.Bool.{eqb-true}
use Rattle.ug_types.specs.declared.rule.After.{After}
use Rattle.ug_types.specs.declared.rule.After.TheVariants as after
use Rattle.ug_types.specs.declared.rule.Rule.{Rule}
use Rattle.ug_policy.specs.Edits.{aimed, at_front, followed, has_id, inserted, new_entry, removed, retargeted}
use Rattle.ug_policy.specs.Marks.{FolderFirst, folder_end, has_folder, is_folder, is_permanent}
use Rattle.ug_policy.specs.Rules.{marks}
use Rattle.ug_policy.specs.declared.entry.Mark.{Mark}
use Rattle.ug_policy.specs.declared.entry.Mark.TheVariants as mark
use Rattle.ug_policy.specs.declared.entry.RuleEntry.{RuleEntry}
use Rattle.ug_print.specs.RuleTexts.{rules_text_of}
use Rattle.ug_ruleset.specs.RuleEdits.{EditReads, IsButForTarget, changes_file, edited_by, in_place, rules_after}
use Rattle.ug_ruleset.specs.RuleFile.{CanSave, IsSaveable, permanent_rules, permanent_text, saved_of, saved_rule}
use Rattle.ug_ruleset.specs.RulePlaces.{has_permanent}
use Rattle.ug_ruleset.specs.declared.edit.Edit.{Edit}
use Rattle.ug_ruleset.specs.declared.edit.Edit.TheVariants.{Insert, Remove, Retarget}

pub permanent_append : (es fs : List RuleEntry) → permanent_rules (es ++ fs) ≡ permanent_rules es ++ permanent_rules fs
permanent_append [] fs = refl
permanent_append (e ∷ es) fs = ap (λ (v : List Rule). saved_of e ++ v) (permanent_append es fs) ∙ sym (append_assoc (saved_of e) (permanent_rules es) (permanent_rules fs))

-- ---- in place of each rule

-- where none is changed
places_same : (edit : Option Edit) → ((e : RuleEntry) → in_place edit e ≡ saved_of e) → (es : List RuleEntry) → flat_map (in_place edit) es ≡ permanent_rules es
places_same edit same [] = refl
places_same edit same (e ∷ es) = ap (λ (v : List Rule). v ++ flat_map (in_place edit) es) (same e) ∙ ap (λ (v : List Rule). saved_of e ++ v) (places_same edit same es)

places_followed : (id : ℕ) (added : RuleEntry) (es : List RuleEntry) → permanent_rules (flat_map (followed id added) es) ≡ flat_map (in_place (Some (Insert (after.Rule id) added.rule added.mark))) es
places_followed id added [] = refl
places_followed id added (e ∷ es) =
    permanent_append (followed id added e) (flat_map (followed id added) es)
    ∙ ap (λ (v : List Rule). v ++ permanent_rules (flat_map (followed id added) es)) (by_id (has_id id e))
    ∙ ap (λ (v : List Rule). (saved_of e ++ cond (has_id id e) (saved_of added) []) ++ v) (places_followed id added es)
  where
    by_id : (b : Bool) → permanent_rules (cond b (e ∷ added ∷ []) (e ∷ [])) ≡ saved_of e ++ cond b (saved_of added) []
    by_id true = ap (λ (v : List Rule). saved_of e ++ v) (append-nil (saved_of added))
    by_id false = refl

places_removed : (id : ℕ) (es : List RuleEntry) → permanent_rules (removed id es) ≡ flat_map (in_place (Some (Remove id))) es
places_removed id [] = refl
places_removed id (e ∷ es) = by_id (has_id id e) (places_removed id es)
  where
    by_id : (b : Bool) → permanent_rules (removed id es) ≡ flat_map (in_place (Some (Remove id))) es → permanent_rules (cond (not b) (e ∷ removed id es) (removed id es)) ≡ cond b [] (saved_of e) ++ flat_map (in_place (Some (Remove id))) es
    by_id true rest = rest
    by_id false rest = ap (λ (v : List Rule). saved_of e ++ v) rest

places_retargeted : (id : ℕ) (rule : Rule) (es : List RuleEntry) → IsButForTarget id rule es → permanent_rules (retargeted id rule.target es) ≡ flat_map (in_place (Some (Retarget id rule))) es
places_retargeted id rule [] h = refl
places_retargeted id rule (e ∷ es) h =
    ap (λ (v : List Rule). v ++ permanent_rules (retargeted id rule.target es)) (by_id (has_id id e) refl)
    ∙ ap (λ (v : List Rule). saved_rule e.mark (cond (has_id id e) rule e.rule) ++ v) (places_retargeted id rule es (λ f has. h f (inr has)))
  where
    by_id : (b : Bool) → has_id id e ≡ b → saved_of (cond b (aimed rule.target e) e) ≡ saved_rule e.mark (cond b rule e.rule)
    by_id true is = ap (λ (r : Rule). saved_rule e.mark r) (h e (inl refl) (eqb-true e.id id is))
    by_id false is = refl

-- ---- behind the folder's

unsaved : (mark : Mark) (rule : Rule) → is_permanent mark ≡ false → saved_rule mark rule ≡ []
unsaved mark rule h = ap (λ (b : Bool). cond b (rule ∷ []) []) h

no_folder : (m : Mark) → is_permanent m ≡ true → is_folder m ≡ false
no_folder mark.Folder h = let none : ⊥ = cc in absurd none
no_folder mark.File h = refl
no_folder mark.Temporary h = refl

-- what stands in front of one of them isn't saved
unsaved_before : (e : RuleEntry) (es : List RuleEntry) → FolderFirst (marks (e ∷ es)) → has_folder (marks (e ∷ es)) ≡ true → saved_of e ≡ []
unsaved_before e es f h = by (is_permanent e.mark) refl
  where
    by : (b : Bool) → is_permanent e.mark ≡ b → saved_of e ≡ []
    by true is =
        let wrong : true ≡ false = sym h ∙ ap (λ (b : Bool). b || has_folder (marks es)) (no_folder e.mark is) ∙ f.0 is in
        let none : ⊥ = cc in
        absurd none
    by false is = unsaved e.mark e.rule is

rules_behind : (added : RuleEntry) (es : List RuleEntry) → FolderFirst (marks es) → permanent_rules (insert es (folder_end (marks es)) added) ≡ saved_of added ++ permanent_rules es
rules_behind added [] f = refl
rules_behind added (e ∷ es) f = by (has_folder (marks (e ∷ es))) refl (rules_behind added es f.1)
  where
    by : (b : Bool) → has_folder (marks (e ∷ es)) ≡ b → permanent_rules (insert es (folder_end (marks es)) added) ≡ saved_of added ++ permanent_rules es → permanent_rules (insert (e ∷ es) (cond b (suc (folder_end (marks es))) zero) added) ≡ saved_of added ++ (saved_of e ++ permanent_rules es)
    by true is rest =
        let none = unsaved_before e es f is in
        ap (λ (v : List Rule). v ++ permanent_rules (insert es (folder_end (marks es)) added)) none
        ∙ rest
        ∙ ap (λ (v : List Rule). saved_of added ++ (v ++ permanent_rules es)) (sym none)
    by false is rest = refl

rules_in_front : (added : RuleEntry) (es : List RuleEntry) → FolderFirst (marks es) → permanent_rules (at_front added es) ≡ saved_of added ++ permanent_rules es
rules_in_front added es f = by (is_permanent added.mark)
  where
    by : (b : Bool) → permanent_rules (cond b (insert es (folder_end (marks es)) added) (added ∷ es)) ≡ saved_of added ++ permanent_rules es
    by true = rules_behind added es f
    by false = refl

-- ---- the whole list

inserted_rules : (place : After) (rule : Rule) (mark : Mark) (next : ℕ) (es : List RuleEntry) → FolderFirst (marks es) → permanent_rules (inserted place (new_entry next rule mark) es) ≡ rules_after (Some (Insert place rule mark)) es
inserted_rules after.End rule mark next es f =
    permanent_append es (new_entry next rule mark ∷ [])
    ∙ ap (λ (v : List Rule). permanent_rules es ++ v) (append-nil (saved_rule mark rule))
    ∙ ap (λ (v : List Rule). v ++ saved_rule mark rule) (sym (places_same (Some (Insert after.End rule mark)) (λ e. refl) es))
inserted_rules after.Front rule mark next es f =
    rules_in_front (new_entry next rule mark) es f
    ∙ ap (λ (v : List Rule). saved_rule mark rule ++ v) (sym (places_same (Some (Insert after.Front rule mark)) (λ e. refl) es) ∙ sym (append-nil (flat_map (in_place (Some (Insert after.Front rule mark))) es)))
inserted_rules (after.Rule id) rule mark next es f = places_followed id (new_entry next rule mark) es ∙ sym (append-nil (flat_map (in_place (Some (Insert (after.Rule id) rule mark))) es))

removed_rules : (id : ℕ) (es : List RuleEntry) → permanent_rules (removed id es) ≡ rules_after (Some (Remove id)) es
removed_rules id es = places_removed id es ∙ sym (append-nil (flat_map (in_place (Some (Remove id))) es))

pub edited_rules : (edit : Edit) (next : ℕ) (es : List RuleEntry) → FolderFirst (marks es) → EditReads edit es → permanent_rules (edited_by edit next es) ≡ rules_after (Some edit) es
edited_rules (Insert place rule mark) next es f reads = inserted_rules place rule mark next es f
edited_rules (Remove id) next es f reads = removed_rules id es
edited_rules (Retarget id rule) next es f reads = places_retargeted id rule es reads.1 ∙ sym (append-nil (flat_map (in_place (Some (Retarget id rule))) es))

pub unedited_rules : (es : List RuleEntry) → permanent_rules es ≡ rules_after None es
unedited_rules es = sym (places_same None (λ e. refl) es) ∙ sym (append-nil (flat_map (in_place None) es))

-- ---- where no permanent rule is changed

unsaved_followed : (id : ℕ) (rule : Rule) (mark : Mark) (es : List RuleEntry) → is_permanent mark ≡ false → flat_map (in_place (Some (Insert (after.Rule id) rule mark))) es ≡ permanent_rules es
unsaved_followed id rule mark es h = places_same (Some (Insert (after.Rule id) rule mark)) (λ e. ap (λ (v : List Rule). saved_of e ++ v) (by_id (has_id id e)) ∙ append-nil (saved_of e)) es
  where
    by_id : (b : Bool) → cond b (saved_rule mark rule) [] ≡ []
    by_id true = unsaved mark rule h
    by_id false = refl

unsaved_removed : (id : ℕ) (es : List RuleEntry) → has_permanent id es ≡ false → flat_map (in_place (Some (Remove id))) es ≡ permanent_rules es
unsaved_removed id [] h = refl
unsaved_removed id (e ∷ es) h = by_id (has_id id e) (is_permanent e.mark) refl h (unsaved_removed id es)
  where
    by_id : (b p : Bool) → is_permanent e.mark ≡ p → ((b && p) || has_permanent id es) ≡ false → (has_permanent id es ≡ false → flat_map (in_place (Some (Remove id))) es ≡ permanent_rules es) → cond b [] (saved_of e) ++ flat_map (in_place (Some (Remove id))) es ≡ saved_of e ++ permanent_rules es
    by_id true false permanent k rest = rest k ∙ ap (λ (v : List Rule). v ++ permanent_rules es) (sym (unsaved e.mark e.rule permanent))
    by_id true true permanent k rest = let none : ⊥ = cc in absurd none
    by_id false p permanent k rest = ap (λ (v : List Rule). saved_of e ++ v) (rest k)

unsaved_inserted : (place : After) (rule : Rule) (mark : Mark) (next : ℕ) (es : List RuleEntry) → is_permanent mark ≡ false → permanent_rules (inserted place (new_entry next rule mark) es) ≡ permanent_rules es
unsaved_inserted after.End rule mark next es h =
    permanent_append es (new_entry next rule mark ∷ [])
    ∙ ap (λ (v : List Rule). permanent_rules es ++ (v ++ [])) (unsaved mark rule h)
    ∙ append-nil (permanent_rules es)
unsaved_inserted after.Front rule mark next es h =
    let added = new_entry next rule mark in
    ap (λ (b : Bool). permanent_rules (cond b (insert es (folder_end (marks es)) added) (added ∷ es))) h
    ∙ ap (λ (v : List Rule). v ++ permanent_rules es) (unsaved mark rule h)
unsaved_inserted (after.Rule id) rule mark next es h = places_followed id (new_entry next rule mark) es ∙ unsaved_followed id rule mark es h

pub rules_stay : (edit : Edit) (next : ℕ) (es : List RuleEntry) → changes_file edit es ≡ false → permanent_rules (edited_by edit next es) ≡ permanent_rules es
rules_stay (Insert place rule mark) next es h = unsaved_inserted place rule mark next es h
rules_stay (Remove id) next es h = places_removed id es ∙ unsaved_removed id es h
rules_stay (Retarget id rule) next es h = let none : ⊥ = cc in absurd none

pub text_stays : (edit : Edit) (next : ℕ) (es : List RuleEntry) → changes_file edit es ≡ false → permanent_text (edited_by edit next es) ≡ permanent_text es
text_stays edit next es h = ap (λ (rs : List Rule). rules_text_of rs) (rules_stay edit next es h)

pub saves_stay : (edit : Edit) (next : ℕ) (es : List RuleEntry) → changes_file edit es ≡ false → IsSaveable es → IsSaveable (edited_by edit next es)
saves_stay edit next es h saves = subst CanSave (sym (rules_stay edit next es h)) saves

-- Rules that are there, and the place of one more.
use Rattle.std.proofs.Common.{◌≡◌, ℕ, ◌<◌, nat_lt, Bool, true, false, ◌||◌, ◌&&◌, cond, List, [], ◌∷◌, length, Option, Some, None, ◌⊎◌, inl, inr, refl, arith, sym, ap, subst, ◌∙◌}
use Rattle.std.proofs.lemmas.Bool.{eqb-true}
use Rattle.ug_types.specs.Elements.{Has}
use Rattle.ug_types.specs.declared.refusal.Refusal.{Refusal}
use Rattle.ug_types.specs.declared.refusal.Refusal.TheVariants as refusal
use Rattle.ug_types.specs.declared.rule.After.{After}
use Rattle.ug_types.specs.declared.rule.After.TheVariants as after
use Rattle.ug_policy.specs.Edits.{IsBehindFolder, IsThere, KeepsMarkOrder, folder_behind, has_id}
use Rattle.ug_policy.specs.Marks.{is_permanent}
use Rattle.ug_policy.specs.Rules.{ids, most_rules}
use Rattle.ug_policy.specs.declared.entry.RuleEntry.{RuleEntry}
use Rattle.ug_ruleset.specs.RulePlaces.{first_of, has_folder_rule, has_rule, if_barred, if_few, place_refusal, if_removed, if_taken, if_there}
use Rattle.ug_core.specs.Policy.{Judging}
use Rattle.ug_types.specs.declared.record.DeviceRecord.{DeviceRecord}
use Rattle.ug_types.specs.declared.verdict.Target.{Target}
use Rattle.ug_ruleset.specs.RuleEdits.{CanEdit, if_room_for}
use Rattle.ug_ruleset.specs.RulePlaces.{made_rule}
use Rattle.ug_ruleset.specs.declared.edit.Edit.{Edit}
use Rattle.ug_ruleset.proofs.MadeRules.{made_there}
use Rattle.ug_core.specs.Answering.{by_edit, by_rule, changing, refusing, unless}
use Rattle.ug_core.specs.Changes.{change_lines, edit_for, ordered_mark, verdict_edit}
use Rattle.ug_core.specs.declared.changes.Change.TheVariants as change
use Rattle.ug_core.specs.declared.choosing.Choice.{Choice}
use Rattle.ug_core.specs.declared.choosing.Deed.TheVariants as deed
use Rattle.ug_policy.specs.declared.entry.Mark.{Mark}
use Rattle.ug_ruleset.specs.declared.edit.Edit.TheVariants.{Insert}
use Rattle.ug_types.specs.declared.rule.Rule.{Rule}
use Rattle.std.specs.Prelude.{decimal, Ok}

pub rule_there : (id : ℕ) (es : List RuleEntry) → has_rule id es ≡ true → Has (ids es) id
rule_there id [] h = let none : ⊥ = cc in absurd none
rule_there id (e ∷ es) h = by_first (has_id id e) refl h (rule_there id es)
  where
    by_first : (b : Bool) → has_id id e ≡ b → (b || has_rule id es) ≡ true → (has_rule id es ≡ true → Has (ids es) id) → Has (e.id ∷ ids es) id
    by_first true is k rest = inl (eqb-true e.id id is)
    by_first false is k rest = inr (rest k)

pub few_below : (n : ℕ) → nat_lt n 65536 ≡ true → n < 65536
few_below n h = grind (arith, h)

-- and where there is none

none_else : (first second : Option Refusal) → first_of first second ≡ None → (first ≡ None) × (second ≡ None)
none_else (Some q) second h = let none : ⊥ = cc in absurd none
none_else None second h = (refl, h)

there_by : (b : Bool) (id : ℕ) → cond b None (Some (refusal.NoRule id)) ≡ None → b ≡ true
there_by true id h = refl
there_by false id h = let none : ⊥ = cc in absurd none

few_by : (b : Bool) → cond b None (Some refusal.RulesFull) ≡ None → b ≡ true
few_by true h = refl
few_by false h = let none : ⊥ = cc in absurd none

place_there : (place : After) (permanent : Bool) (rules : List RuleEntry) → place_refusal place (ordered_mark permanent) rules ≡ None → IsThere place rules
place_there after.End permanent rules h = tt
place_there after.Front permanent rules h = tt
place_there (after.Rule id) permanent rules h = rule_there id rules (there_by (has_rule id rules) id (none_else (if_there id rules) (if_barred (is_permanent (ordered_mark permanent) && folder_behind id rules) id) h).0)

barred_by : (b : Bool) (id : ℕ) → if_barred b id ≡ None → b ≡ false
barred_by true id h = let none : ⊥ = cc in absurd none
barred_by false id h = refl

-- an ordered rule keeps the order, and so does a temporary one anywhere
pub open_order : (place : After) (permanent : Bool) (rules : List RuleEntry) → IsBehindFolder place rules → KeepsMarkOrder place (ordered_mark permanent) rules
open_order place true rules h = h
open_order place false rules h = tt

place_order : (place : After) (permanent : Bool) (rules : List RuleEntry) → place_refusal place (ordered_mark permanent) rules ≡ None → KeepsMarkOrder place (ordered_mark permanent) rules
place_order place false rules h = tt
place_order after.End true rules h = tt
place_order after.Front true rules h = tt
place_order (after.Rule id) true rules h = barred_by (folder_behind id rules) id (none_else (if_there id rules) (if_barred (folder_behind id rules) id) h).1

pub place_free : (place : After) (permanent : Bool) (rules : List RuleEntry) → if_taken place (ordered_mark permanent) rules ≡ None → IsThere place rules × (length rules < most_rules) × KeepsMarkOrder place (ordered_mark permanent) rules
place_free place permanent rules h =
    let both = none_else (place_refusal place (ordered_mark permanent) rules) (if_few rules) h in
    (place_there place permanent rules both.0, few_below (length rules) (few_by (nat_lt (length rules) most_rules) both.1), place_order place permanent rules both.0)

-- a rule that may be removed
pub removal_free : (id : ℕ) (rules : List RuleEntry) → if_removed id rules ≡ None → Has (ids rules) id × (has_folder_rule id rules ≡ false)
removal_free id rules h =
    let both = none_else (if_there id rules) (if_barred (has_folder_rule id rules) id) h in
    (rule_there id rules (there_by (has_rule id rules) id both.0), barred_by (has_folder_rule id rules) id both.1)

-- a verdict's edit, for which there is room
edit_by : (device : DeviceRecord) (verdict : Target) (p : Judging) (o : Option ℕ) → made_rule device p.classes.with_port p.rules ≡ o → if_room_for (edit_for device p.classes.with_port verdict o) p.rules ≡ None → CanEdit (edit_for device p.classes.with_port verdict o) p.rules
edit_by device verdict p (Some id) made room = made_there device p.classes.with_port p.rules id made
edit_by device verdict p None made room = (tt, few_below (length p.rules) (few_by (nat_lt (length p.rules) most_rules) room), tt)

pub edit_can : (device : DeviceRecord) (verdict : Target) (p : Judging) (edit : Edit) → edit ≡ verdict_edit device verdict p → if_room_for edit p.rules ≡ None → CanEdit edit p.rules
edit_can device verdict p edit is room =
    subst (λ (e : Edit). CanEdit e p.rules) (sym is) (edit_by device verdict p (made_rule device p.classes.with_port p.rules) refl (subst (λ (e : Edit). if_room_for e p.rules ≡ None) is room))

-- what is chosen where nothing refuses it, and where it is refused

taken : (o : Option Refusal) (chosen : Choice) → o ≡ None → chosen ≡ unless o chosen
taken o chosen free = ap (λ (p : Option Refusal). unless p chosen) (sym free)

pub refused_so : (o : Option Refusal) (chosen : Choice) (refused : Refusal) → (o ≡ Some refused) ⊎ (refused ≡ refusal.Memory false) → (refusing refused ≡ unless o chosen) ⊎ (refusing refused ≡ refusing (refusal.Memory false))
refused_so o chosen refused (inl is) = inl (ap (λ (p : Option Refusal). unless p chosen) (sym is))
refused_so o chosen refused (inr short) = inr (ap (λ (q : Refusal). refusing q) short)

pub edit_taken : (p : Judging) (number : ℕ) (verdict : Target) (on : Bool) (edit : Edit) (lines : List (List ℕ)) → if_room_for edit p.rules ≡ None → lines ≡ change_lines (change.Rules edit) p.next → changing (change.Rules edit) (deed.SetVerdict number verdict on lines) ≡ by_edit p number verdict on edit
edit_taken p number verdict on edit lines room is =
    ap (λ (ls : List (List ℕ)). changing (change.Rules edit) (deed.SetVerdict number verdict on ls)) is
    ∙ taken (if_room_for edit p.rules) (changing (change.Rules edit) (deed.SetVerdict number verdict on (change_lines (change.Rules edit) p.next))) room

pub rule_taken : (p : Judging) (place : After) (permanent : Bool) (rule : Rule) (m : Mark) (lines : List (List ℕ)) → m ≡ ordered_mark permanent → if_taken place (ordered_mark permanent) p.rules ≡ None → lines ≡ decimal p.next ∷ [] → changing (change.Rules (Insert place rule m)) (deed.Tell lines) ≡ by_rule p place permanent (Ok rule)
rule_taken p place permanent rule m lines marked room is =
    ap (λ (k : Mark). changing (change.Rules (Insert place rule k)) (deed.Tell lines)) marked
    ∙ ap (λ (ls : List (List ℕ)). changing (change.Rules (Insert place rule (ordered_mark permanent))) (deed.Tell ls)) is
    ∙ taken (if_taken place (ordered_mark permanent) p.rules) (changing (change.Rules (Insert place rule (ordered_mark permanent))) (deed.Tell (decimal p.next ∷ []))) room

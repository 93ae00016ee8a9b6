-- What orders change of a list of rules.
use Rattle.std.specs.Prelude.{◌≡◌, ◌<◌, ℕ, ◌+◌, Bool, true, false, cond, List, [], ◌++◌, length, flat_map, Option, Some, None}
use Rattle.ug_types.specs.Elements.{Has}
use Rattle.ug_types.specs.declared.refusal.Refusal.{Refusal}
use Rattle.ug_types.specs.declared.rule.After.TheVariants as after
use Rattle.ug_types.specs.declared.rule.Rule.{Rule}
use Rattle.ug_policy.specs.Edits.{IsThere, KeepsMarkOrder, has_id, inserted, new_entry, removed, retargeted}
use Rattle.ug_policy.specs.Marks.{is_permanent}
use Rattle.ug_policy.specs.Rules.{ids, most_rules}
use Rattle.ug_policy.specs.declared.entry.RuleEntry.{RuleEntry}
use Rattle.ug_ruleset.specs.RuleFile.{ReadsBack, saved_of, saved_rule}
use Rattle.ug_ruleset.specs.RulePlaces.{has_folder_rule, has_permanent, if_few}
use Rattle.ug_ruleset.specs.declared.edit.Edit.{Edit}
use Rattle.ug_ruleset.specs.declared.edit.Edit.TheVariants.{Insert, Remove, Retarget}

-- ---- whether it can be done

-- each rule of that id differs from this one in its target at most
abbrev pub IsButForTarget : ℕ → Rule → List RuleEntry → Type 0
IsButForTarget id rule rules =
    (e : RuleEntry) → Has rules e → e.id ≡ id → record e.rule { target = rule.target } ≡ rule

-- A rule has a place behind one that is there, among fewer than a list has at most, and the
-- folder's rules stay in front of those of
-- the rule file. A rule that is to go is there, and isn't one of the folder. One that gets another
-- target is there, and is permanent.
abbrev pub CanEdit : Edit → List RuleEntry → Type 0
CanEdit (Insert place rule mark) rules =
    IsThere place rules × (length rules < most_rules) × KeepsMarkOrder place mark rules
CanEdit (Remove id) rules = Has (ids rules) id × (has_folder_rule id rules ≡ false)
CanEdit (Retarget id rule) rules = Has (ids rules) id × (has_permanent id rules ≡ true)

-- a rule that is new or has a new target reads again from its text
abbrev pub EditReads : Edit → List RuleEntry → Type 0
EditReads (Insert place rule mark) rules = ReadsBack rule
EditReads (Remove id) rules = Unit {0}
EditReads (Retarget id rule) rules = ReadsBack rule × IsButForTarget id rule rules

-- there is room for a rule that is put there
abbrev pub HasRoomFor : Edit → ℕ → Type 0
HasRoomFor (Insert place rule mark) spare = 0 < spare
HasRoomFor edit spare = Unit {0}

-- why there is no room in the list
abbrev pub if_room_for : Edit → List RuleEntry → Option Refusal
if_room_for (Insert place rule mark) rules = if_few rules
if_room_for (Remove id) rules = None
if_room_for (Retarget id rule) rules = None

-- ---- what it does

-- where the next id is this
abbrev pub edited_by : Edit → ℕ → List RuleEntry → List RuleEntry
edited_by (Insert place rule mark) next rules = inserted place (new_entry next rule mark) rules
edited_by (Remove id) next rules = removed id rules
edited_by (Retarget id rule) next rules = retargeted id rule.target rules

abbrev pub next_after : Edit → ℕ → ℕ
next_after (Insert place rule mark) next = next + 1
next_after (Remove id) next = next
next_after (Retarget id rule) next = next

-- whether permanent rules are changed
abbrev pub changes_file : Edit → List RuleEntry → Bool
changes_file (Insert place rule mark) rules = is_permanent mark
changes_file (Remove id) rules = has_permanent id rules
changes_file (Retarget id rule) rules = true

-- ---- the rules that are saved then, one behind another

-- in front of the list, in place of each of its rules, and behind it

abbrev pub in_front : Option Edit → List Rule
in_front (Some (Insert after.Front rule mark)) = saved_rule mark rule
in_front edit = []

abbrev pub in_place : Option Edit → RuleEntry → List Rule
in_place (Some (Insert (after.Rule id) rule mark)) e =
    saved_of e ++ cond (has_id id e) (saved_rule mark rule) []
in_place (Some (Remove id)) e = cond (has_id id e) [] (saved_of e)
in_place (Some (Retarget id rule)) e = saved_rule e.mark (cond (has_id id e) rule e.rule)
in_place edit e = saved_of e

abbrev pub at_end : Option Edit → List Rule
at_end (Some (Insert after.End rule mark)) = saved_rule mark rule
at_end edit = []

abbrev pub rules_after : Option Edit → List RuleEntry → List Rule
rules_after edit rules = in_front edit ++ (flat_map (in_place edit) rules ++ at_end edit)

-- Whether rules are there, and whether one more has a place among them.
use Rattle.std.specs.Prelude.{ℕ, nat_lt, Bool, ◌&&◌, if◌then◌else◌, List, length, Option, Some, None}
use Rattle.std.specs.List.{find, list_any}
use Rattle.std.specs.Option.{option_map}
use Rattle.ug_types.specs.declared.record.DeviceRecord.{DeviceRecord}
use Rattle.ug_types.specs.declared.refusal.Refusal.{Refusal}
use Rattle.ug_types.specs.declared.refusal.Refusal.TheVariants as refusal
use Rattle.ug_types.specs.declared.rule.After.{After}
use Rattle.ug_types.specs.declared.rule.After.TheVariants as after
use Rattle.ug_policy.specs.Edits.{IsThere, KeepsMarkOrder, folder_behind, has_id}
use Rattle.ug_policy.specs.Marks.{is_folder, is_permanent}
use Rattle.ug_policy.specs.Rules.{most_rules}
use Rattle.ug_policy.specs.declared.entry.Mark.{Mark}
use Rattle.ug_policy.specs.declared.entry.RuleEntry.{RuleEntry}
use Rattle.ug_print.specs.Made.{is_made_of}

-- some rule has the id
abbrev pub has_rule : ℕ → List RuleEntry → Bool
has_rule id rules = list_any (λ (e : RuleEntry). has_id id e) rules

-- some rule of that id is one of the folder
abbrev pub has_folder_rule : ℕ → List RuleEntry → Bool
has_folder_rule id rules = list_any (λ (e : RuleEntry). has_id id e && is_folder e.mark) rules

-- some rule of that id is permanent
abbrev pub has_permanent : ℕ → List RuleEntry → Bool
has_permanent id rules = list_any (λ (e : RuleEntry). has_id id e && is_permanent e.mark) rules

-- why there is no rule of that id, no place of that kind, and no room in the list
abbrev pub if_there : ℕ → List RuleEntry → Option Refusal
if_there id rules = if has_rule id rules then None else Some (refusal.NoRule id)

abbrev pub first_of : Option Refusal → Option Refusal → Option Refusal
first_of (Some refused) other = Some refused
first_of None other = other

-- why a rule of the folder bars it
abbrev pub if_barred : Bool → ℕ → Option Refusal
if_barred barred id = if barred then Some (refusal.FolderRule id) else None

-- the rule behind which one with that mark is put: before a permanent one stand all of the folder
abbrev pub if_behind : ℕ → Mark → List RuleEntry → Option Refusal
if_behind id mark rules =
    first_of (if_there id rules) (if_barred (is_permanent mark && folder_behind id rules) id)

-- a rule with that mark can be put there: behind one that is there, and in the marks' order
abbrev pub IsOpen : After → Mark → List RuleEntry → Type 0
IsOpen place mark rules = IsThere place rules × KeepsMarkOrder place mark rules

-- the rule that is to go: it isn't one of the folder
abbrev pub if_removed : ℕ → List RuleEntry → Option Refusal
if_removed id rules = first_of (if_there id rules) (if_barred (has_folder_rule id rules) id)

-- the place behind which a rule with that mark is put
abbrev pub place_refusal : After → Mark → List RuleEntry → Option Refusal
place_refusal after.End mark rules = None
place_refusal after.Front mark rules = None
place_refusal (after.Rule id) mark rules = if_behind id mark rules

abbrev pub if_few : List RuleEntry → Option Refusal
if_few rules = if nat_lt (length rules) most_rules then None else Some refusal.RulesFull

-- why no rule with that mark is put behind that place
abbrev pub if_taken : After → Mark → List RuleEntry → Option Refusal
if_taken after mark rules = first_of (place_refusal after mark rules) (if_few rules)

-- ---- the rule that is made of a device

-- a rule that is permanent, and is the device's generated rule but for its target
abbrev pub is_made : DeviceRecord → Bool → RuleEntry → Bool
is_made device with_port e = is_permanent e.mark && is_made_of device with_port e.rule

-- the id of the first of them
abbrev pub made_rule : DeviceRecord → Bool → List RuleEntry → Option ℕ
made_rule device with_port rules = option_map (λ e. e.id) (find (is_made device with_port) rules)

-- Changes of the list of rules.
use Rattle.std.specs.Prelude.{◌≡◌, ℕ, List, [], ◌∷◌, ◌++◌, Bool, false, not, nat_eq, insert, if◌then◌else◌, None, map, filter}
use Rattle.std.specs.List.{flat_map, list_any}
use Rattle.ug_types.specs.Elements.{Has}
use Rattle.ug_types.specs.declared.rule.Rule as types
use Rattle.ug_types.specs.declared.rule.After.{After}
use Rattle.ug_types.specs.declared.rule.After.TheVariants as after
use Rattle.ug_types.specs.declared.verdict.Target.{Target}
use Rattle.ug_policy.specs.Marks.{folder_end, has_folder, is_permanent}
use Rattle.ug_policy.specs.declared.entry.Mark.{Mark}
use Rattle.ug_policy.specs.declared.entry.Mark.TheVariants as mark
use Rattle.ug_policy.specs.declared.entry.RuleEntry.{RuleEntry}
use Rattle.ug_policy.specs.Rules.{ids, marks}

-- a rule that is added has no history
abbrev pub new_entry : ℕ → types.Rule → Mark → RuleEntry
new_entry id rule whose =
    record {
      id = id;
      rule = rule;
      mark = whose;
      history = record { evaluated = None; applied = None };
    }

abbrev pub has_id : ℕ → RuleEntry → Bool
has_id id e = nat_eq e.id id

-- a rule, and behind it the added one where it has the id
abbrev pub followed : ℕ → RuleEntry → RuleEntry → List RuleEntry
followed id added e = if has_id id e then e ∷ added ∷ [] else e ∷ []

-- the place after which a rule is added is there
abbrev pub IsThere : After → List RuleEntry → Type 0
IsThere after.End entries = Unit {0}
IsThere after.Front entries = Unit {0}
IsThere (after.Rule id) entries = Has (ids entries) id

-- the folder has a rule behind the one of that id
abbrev pub folder_behind : ℕ → List RuleEntry → Bool
folder_behind id [] = false
folder_behind id (e ∷ entries) =
    if has_id id e then has_folder (marks entries) else folder_behind id entries

-- no rule of the folder stands behind that place
abbrev pub IsBehindFolder : After → List RuleEntry → Type 0
IsBehindFolder after.End entries = Unit {0}
IsBehindFolder after.Front entries = Unit {0}
IsBehindFolder (after.Rule id) entries = folder_behind id entries ≡ false

-- A rule of the folder is added at the end, before there is any of the rule file. One of the rule
-- file isn't added before one of the
-- folder.
abbrev pub KeepsMarkOrder : After → Mark → List RuleEntry → Type 0
KeepsMarkOrder place mark.Folder entries =
    (place ≡ after.End) × (list_any is_permanent (marks entries) ≡ false)
KeepsMarkOrder place mark.File entries = IsBehindFolder place entries
KeepsMarkOrder place mark.Temporary entries = Unit {0}

-- the front of the permanent rules is directly behind those of the folder
abbrev pub at_front : RuleEntry → List RuleEntry → List RuleEntry
at_front added entries =
    if is_permanent added.mark then insert entries (folder_end (marks entries)) added else
    added ∷ entries

abbrev pub inserted : After → RuleEntry → List RuleEntry → List RuleEntry
inserted after.End added entries = entries ++ added ∷ []
inserted after.Front added entries = at_front added entries
inserted (after.Rule id) added entries = flat_map (followed id added) entries

abbrev pub removed : ℕ → List RuleEntry → List RuleEntry
removed id entries = filter (λ e. not (has_id id e)) entries

-- the rule with another target
abbrev pub aimed : Target → RuleEntry → RuleEntry
aimed target e = record e { rule = record e.rule { target = target } }

abbrev pub retargeted : ℕ → Target → List RuleEntry → List RuleEntry
retargeted id target entries = map (λ e. if has_id id e then aimed target e else e) entries

-- What orders change of rules and settings.
use Rattle.std.specs.Prelude.{ℕ, Bool, true, false, List, [], ◌∷◌, decimal, Option, Some, None, Result, Ok, Err}
use Rattle.std.specs.Option.{option_map}
use Rattle.ug_types.specs.Parameters.{parameter_of, parameter_with}
use Rattle.ug_types.specs.declared.parameter.Parameter.{Parameter}
use Rattle.ug_types.specs.declared.parameter.Parameter.TheVariants as parameter
use Rattle.ug_types.specs.declared.parameter.ParameterName.{ParameterName}
use Rattle.ug_types.specs.declared.parameter.ParameterName.TheVariants as name
use Rattle.ug_types.specs.declared.record.DeviceRecord.{DeviceRecord}
use Rattle.ug_types.specs.declared.record.Judged.{Judged}
use Rattle.ug_types.specs.declared.record.Judged.TheVariants as judged
use Rattle.ug_types.specs.declared.rule.After.{After}
use Rattle.ug_types.specs.declared.rule.After.TheVariants as after
use Rattle.ug_types.specs.declared.rule.Rule.{Rule}
use Rattle.ug_types.specs.declared.verdict.Target.{Target}
use Rattle.ug_audit.specs.declared.entry.Entry.{Entry}
use Rattle.ug_audit.specs.declared.entry.Entry.TheVariants as entry
use Rattle.ug_audit.specs.declared.entry.RuleChange.TheVariants as noted
use Rattle.ug_policy.specs.declared.entry.Mark.{Mark}
use Rattle.ug_policy.specs.declared.entry.Mark.TheVariants as mark
use Rattle.ug_policy.specs.declared.entry.RuleEntry.{RuleEntry}
use Rattle.ug_print.specs.Generated.{generated_of}
use Rattle.ug_proto.specs.declared.request.Request.{Request}
use Rattle.ug_proto.specs.declared.request.Request.TheVariants as request
use Rattle.ug_rule.specs.Rules.{rule_read}
use Rattle.ug_rule.specs.declared.fault.Fault.{Fault}
use Rattle.ug_ruleset.specs.RuleEdits.{CanEdit, EditReads, HasRoomFor, changes_file, edited_by, next_after}
use Rattle.ug_ruleset.specs.RuleFile.{IsSaveable, permanent_text}
use Rattle.ug_ruleset.specs.RulePlaces.{made_rule}
use Rattle.ug_ruleset.specs.declared.edit.Edit.{Edit}
use Rattle.ug_ruleset.specs.declared.edit.Edit.TheVariants.{Insert, Remove, Retarget}
use Rattle.ug_table.specs.Standings.{numbered}
use Rattle.ug_table.specs.declared.standing.Standing.{Standing}
use Rattle.ug_core.specs.Policy.{Judging}
use Rattle.ug_core.specs.declared.changes.Change.{Change}
use Rattle.ug_core.specs.declared.changes.Change.TheVariants.{Rules, Set}
use Rattle.ug_core.specs.declared.classes.Classes.{Classes}

-- ---- settings

abbrev pub parameter_at : ParameterName → Classes → Parameter
parameter_at name.ImplicitPolicyTarget classes = parameter.ImplicitPolicyTarget classes.implicit
parameter_at name.InsertedDevicePolicy classes = parameter.InsertedDevicePolicy classes.inserted

abbrev pub with_parameter : Parameter → Classes → Classes
with_parameter (parameter.ImplicitPolicyTarget target) classes =
    record classes { implicit = target }
with_parameter (parameter.InsertedDevicePolicy policy) classes =
    record classes { inserted = policy }

-- ---- what a request asks to change

-- a rule is ordered to be permanent or temporary
abbrev pub ordered_mark : Bool → Mark
ordered_mark true = mark.File
ordered_mark false = mark.Temporary

abbrev pub rule_asked : After → Bool → Result Rule Fault → Option Change
rule_asked after permanent (Ok rule) = Some (Rules (Insert after rule (ordered_mark permanent)))
rule_asked after permanent (Err bad) = None

abbrev pub setting_asked : Option ParameterName → List ℕ → Option Change
setting_asked (Some name) value = option_map Set (parameter_with name value)
setting_asked None value = None

-- A verdict that is to be permanent: the first permanent rule that is made of the device gets it,
-- whatever it had; where there is none, the device's generated rule with that verdict is put behind
-- the others.
abbrev pub edit_for : DeviceRecord → Bool → Target → Option ℕ → Edit
edit_for device with_port verdict (Some id) = Retarget id (generated_of device verdict with_port)
edit_for device with_port verdict None =
    Insert after.End (generated_of device verdict with_port) mark.File

abbrev pub verdict_edit : DeviceRecord → Target → Judging → Edit
verdict_edit device verdict p =
    edit_for device p.classes.with_port verdict (made_rule device p.classes.with_port p.rules)

-- a malformed device has no rule
abbrev pub record_change : Judged → Target → Judging → Option Change
record_change (judged.Good device) verdict p = Some (Rules (verdict_edit device verdict p))
record_change (judged.Malformed kind place) verdict p = None

abbrev pub standing_change : Option Standing → Target → Judging → Option Change
standing_change (Some s) verdict p = record_change s.judged verdict p
standing_change None verdict p = None

-- where these are the standings and the policy
abbrev pub change_asked : List Standing → Judging → Result Request ℕ → Option Change
change_asked ss p (Ok (request.AppendRule after permanent text)) =
    rule_asked after permanent (rule_read text)
change_asked ss p (Ok (request.RemoveRule id)) = Some (Rules (Remove id))
change_asked ss p (Ok (request.SetParameter name value)) = setting_asked (parameter_of name) value
change_asked ss p (Ok (request.Device number verdict true)) =
    standing_change (numbered number ss) verdict p
change_asked ss p read = None

-- ---- whether it can be done

abbrev pub CanChange : Change → List RuleEntry → Type 0
CanChange (Rules edit) rules = CanEdit edit rules
CanChange (Set set) rules = Unit {0}

-- a rule that is new or has a new target reads again from its text
abbrev pub ChangeReads : Change → List RuleEntry → Type 0
ChangeReads (Rules edit) rules = EditReads edit rules
ChangeReads (Set set) rules = Unit {0}

-- whether it is saved before it is in force: a change of permanent rules
abbrev pub is_saved : Change → List RuleEntry → Bool
is_saved (Rules edit) rules = changes_file edit rules
is_saved (Set set) rules = false

-- there is room for a rule that is put there
abbrev pub HasRoom : Change → ℕ → Type 0
HasRoom (Rules edit) spare = HasRoomFor edit spare
HasRoom (Set set) spare = Unit {0}

-- ---- what it does

abbrev pub changed_by : Change → Judging → Judging
changed_by (Rules edit) p =
    record p { rules = edited_by edit p.next p.rules; next = next_after edit p.next }
changed_by (Set set) p = record p { classes = with_parameter set p.classes }

-- the text of the rule file that it needs, if it needs one
abbrev pub text_if_saved : Bool → Change → Judging → Option (List ℕ)
text_if_saved true change p = Some (permanent_text (changed_by change p).rules)
text_if_saved false change p = None

abbrev pub text_to_save : Change → Judging → Option (List ℕ)
text_to_save change p = text_if_saved (is_saved change p.rules) change p

-- the permanent rules that it leaves can be saved
abbrev pub ChangeSaves : Change → Judging → Type 0
ChangeSaves (Rules edit) p = IsSaveable (edited_by edit p.next p.rules)
ChangeSaves (Set set) p = Unit {0}

-- what is noted of it, where that id is the next
abbrev pub change_entry : Change → ℕ → Entry
change_entry (Rules (Insert after rule mark)) next = entry.Rules noted.Added next
change_entry (Rules (Remove id)) next = entry.Rules noted.Removed id
change_entry (Rules (Retarget id rule)) next = entry.Rules noted.Changed id
change_entry (Set set) next = entry.Parameter set

-- and the lines of its reply: the id of a rule that is new or has a new target
abbrev pub change_lines : Change → ℕ → List (List ℕ)
change_lines (Rules (Insert after rule mark)) next = decimal next ∷ []
change_lines (Rules (Remove id)) next = []
change_lines (Rules (Retarget id rule)) next = decimal id ∷ []
change_lines (Set set) next = []

-- an order may have none
abbrev pub change_lines_of : Option Change → ℕ → List (List ℕ)
change_lines_of (Some change) next = change_lines change next
change_lines_of None next = []

-- How an order is answered: by its line, by what its user or group may do, by rules, settings and
-- standings, and by what a probe of its device finds.
use Rattle.std.specs.Prelude.{◌≡◌, ◌⊎◌, ℕ, Bool, true, false, List, [], ◌∷◌, decimal, Option, Some, None, IsSome, Result, Ok, Err}
use Rattle.ug_types.specs.Principals.{Named}
use Rattle.ug_types.specs.declared.refusal.Refusal.{Refusal}
use Rattle.ug_types.specs.declared.refusal.Refusal.TheVariants as refusal
use Rattle.ug_types.specs.Parameters.{parameter_of, parameter_with, value_word}
use Rattle.ug_types.specs.declared.parameter.Parameter.{Parameter}
use Rattle.ug_types.specs.declared.parameter.ParameterName.{ParameterName}
use Rattle.ug_types.specs.declared.rule.After.{After}
use Rattle.ug_types.specs.declared.rule.Rule.{Rule}
use Rattle.ug_types.specs.declared.verdict.Target.{Target}
use Rattle.ug_kernel.specs.declared.calls.Probe.{Probe}
use Rattle.ug_kernel.specs.declared.calls.Probe.TheVariants as probe
use Rattle.ug_kernel.specs.Calls.{Ask_alive}
use Rattle.ug_kernel.specs.Tree.{Prog, Return, Ask, Room, then}
use Rattle.ug_audit.specs.declared.entry.Entry.TheVariants as entry
use Rattle.ug_lines.specs.Splitting.{AreLines}
use Rattle.ug_policy.specs.declared.entry.RuleEntry.{RuleEntry}
use Rattle.ug_proto.specs.declared.request.Request.{Request}
use Rattle.ug_proto.specs.declared.request.Request.TheVariants as request
use Rattle.ug_proto.specs.declared.reply.Reply.{Reply}
use Rattle.ug_proto.specs.declared.reply.Reply.TheVariants as reply
use Rattle.ug_proto.specs.Privileges.{needs}
use Rattle.ug_proto.specs.Requests.{request_read}
use Rattle.ug_rule.specs.Faults.{kind_number}
use Rattle.ug_rule.specs.Rules.{rule_read}
use Rattle.ug_rule.specs.declared.fault.Fault.{Fault}
use Rattle.ug_table.specs.Orders.{ordering}
use Rattle.ug_table.specs.Standings.{numbered}
use Rattle.ug_table.specs.State.{Kept, kept_of, with_kept}
use Rattle.ug_table.specs.declared.standing.Settled.{Settled}
use Rattle.ug_table.specs.declared.standing.Settled.TheVariants as settled
use Rattle.ug_table.specs.declared.standing.Standing.{Standing}
use Rattle.ug_core.specs.Event.{DaemonState, noting}
use Rattle.ug_core.specs.Changes.{CanChange, ChangeReads, change_lines, ordered_mark, parameter_at, verdict_edit}
use Rattle.ug_core.specs.Privileges.{denied_of}
use Rattle.ug_ruleset.specs.RuleEdits.{if_room_for}
use Rattle.ug_ruleset.specs.RulePlaces.{if_removed, if_taken}
use Rattle.ug_core.specs.DeviceRows.{device_rows}
use Rattle.ug_ruleset.specs.RuleRows.{rule_rows}
use Rattle.ug_core.specs.declared.changes.Change.{Change}
use Rattle.ug_core.specs.declared.changes.Change.TheVariants.{Rules, Set}
use Rattle.ug_ruleset.specs.declared.edit.Edit.{Edit}
use Rattle.ug_ruleset.specs.declared.edit.Edit.TheVariants.{Insert, Remove}
use Rattle.ug_core.specs.declared.classes.Classes.{Classes}
use Rattle.ug_core.specs.declared.choosing.Choice.{Choice}
use Rattle.ug_core.specs.declared.choosing.Deed.{Deed}
use Rattle.ug_core.specs.declared.choosing.Deed.TheVariants as deed
use Rattle.ug_core.specs.Policy.{Judging}
use Rattle.ug_core.specs.Storing.{refused_by}
use Rattle.ug_core.specs.declared.storing.Stored.{Stored}
use Rattle.ug_types.specs.declared.record.Judged.{Judged}
use Rattle.ug_types.specs.declared.record.Judged.TheVariants as judged

-- ---- what the order comes to, before anything is changed

-- nothing is changed, but that is done
abbrev pub only : Deed → Choice
only doing = record { change = None; deed = doing }

abbrev pub refusing : Refusal → Choice
refusing refused = only (deed.Refuse refused)

-- the change, and then that is done
abbrev pub changing : Change → Deed → Choice
changing change doing = record { change = Some change; deed = doing }

abbrev pub unless : Option Refusal → Choice → Choice
unless (Some refused) chosen = refusing refused
unless None chosen = chosen

-- ---- a verdict

abbrev pub by_edit : Judging → ℕ → Target → Bool → Edit → Choice
by_edit p number verdict on edit =
    unless (if_room_for edit p.rules)
    (changing (Rules edit) (deed.SetVerdict number verdict on (change_lines (Rules edit) p.next)))

-- memory is taken for the device's rule
abbrev pub if_rule_made : Judging → ℕ → Target → Bool → Edit → Bool → Prog Choice
if_rule_made p number verdict on edit true = Return (by_edit p number verdict on edit)
if_rule_made p number verdict on edit false = Return (refusing (refusal.Memory false))

abbrev pub by_record : Judging → ℕ → Target → Bool → Judged → Prog Choice
by_record p number verdict on (judged.Good device) =
    Room (if_rule_made p number verdict on (verdict_edit device verdict p))
by_record p number verdict on (judged.Malformed kind place) =
    Return (refusing (refusal.MalformedDevice number))

-- what a verdict that is to be permanent may come to, behind the probe: memory may be short for it
abbrev pub IsChosenForGood : Judging → ℕ → Target → Bool → Judged → Choice → Type 0
IsChosenForGood p number verdict on (judged.Good device) chosen =
    (chosen ≡ by_edit p number verdict on (verdict_edit device verdict p))
    ⊎ (chosen ≡ refusing (refusal.Memory false))
IsChosenForGood p number verdict on (judged.Malformed kind place) chosen =
    chosen ≡ refusing (refusal.MalformedDevice number)

-- the device is there, with that value
abbrev pub by_permanent : Judging → ℕ → Target → Bool → Standing → Bool → Prog Choice
by_permanent p number verdict true s on = by_record p number verdict on s.judged
by_permanent p number verdict false s on = Return (only (deed.SetVerdict number verdict on []))

-- by what the probe of the device finds, and the count of faults behind it
abbrev pub by_probe : Judging → ℕ → Target → Bool → Standing → ℕ → Probe → Prog Choice
by_probe p number verdict permanent s count (probe.Alive on) =
    by_permanent p number verdict permanent s on
by_probe p number verdict permanent s count probe.Gone = Return (refusing (refusal.NoDevice number))
by_probe p number verdict permanent s count probe.Failed =
    Return (refusing (refusal.ProbeFault count))

-- the device of the number's standing is probed
abbrev pub by_standing : Judging → ℕ → Target → Bool → Option Standing → Prog Choice
by_standing p number verdict permanent None = Return (refusing (refusal.NoDevice number))
by_standing p number verdict permanent (Some s) =
    Ask (Ask_alive s.held.0) (λ t. by_probe p number verdict permanent s t.count t.answer)

-- ---- the others

-- nobody learns of anything without the privilege
abbrev pub if_granted : Option Refusal → Prog Choice → Prog Choice
if_granted (Some refused) asked = Return (refusing refused)
if_granted None asked = asked

-- lines take memory
abbrev pub if_reply_room : List (List ℕ) → Bool → Prog Choice
if_reply_room rows true = Return (only (deed.Tell rows))
if_reply_room rows false = Return (refusing (refusal.Memory false))

abbrev pub telling : List (List ℕ) → Prog Choice
telling rows = Room (if_reply_room rows)

-- the value of a setting
abbrev pub by_name : Classes → Option ParameterName → Prog Choice
by_name classes None = Return (refusing refusal.BadParameter)
by_name classes (Some name) = telling (value_word (parameter_at name classes) ∷ [])

-- a setting gets a value
abbrev pub by_value : Option Parameter → Choice
by_value None = refusing refusal.BadValue
by_value (Some set) = changing (Set set) (deed.Tell [])

abbrev pub by_setting : Option ParameterName → List ℕ → Choice
by_setting None value = refusing refusal.BadParameter
by_setting (Some name) value = by_value (parameter_with name value)

-- a rule is put behind that place, and its id is told
abbrev pub by_rule : Judging → After → Bool → Result Rule Fault → Choice
by_rule p after permanent (Err bad) = refusing (refusal.BadRule (kind_number bad.kind) bad.place)
by_rule p after permanent (Ok rule) =
    unless (if_taken after (ordered_mark permanent) p.rules)
    (changing (Rules (Insert after rule (ordered_mark permanent)))
    (deed.Tell (decimal p.next ∷ [])))

-- memory is taken to read it
abbrev pub if_rule_read : Judging → After → Bool → List ℕ → Bool → Prog Choice
if_rule_read p after permanent text true = Return (by_rule p after permanent (rule_read text))
if_rule_read p after permanent text false = Return (refusing (refusal.Memory false))

-- a rule is removed
abbrev pub by_id : List RuleEntry → ℕ → Choice
by_id rules id = unless (if_removed id rules) (changing (Rules (Remove id)) (deed.Tell []))

abbrev pub asking_of : DaemonState → Request → Prog Choice
asking_of d (request.GetParameter name) = by_name d.sweep.judge.classes (parameter_of name)
asking_of d (request.SetParameter name value) = Return (by_setting (parameter_of name) value)
asking_of d request.ListDevices = telling (device_rows d.sweep.standings)
asking_of d (request.Device number verdict permanent) =
    by_standing d.sweep.judge number verdict permanent (numbered number d.sweep.standings)
asking_of d request.ListRules = telling (rule_rows d.sweep.judge.rules)
asking_of d (request.AppendRule after permanent text) =
    Room (if_rule_read d.sweep.judge after permanent text)
asking_of d (request.RemoveRule id) = Return (by_id d.sweep.judge.rules id)
asking_of d request.Watch = Return (only deed.Watch)

abbrev pub by_request : DaemonState → Named → Result Request ℕ → Prog Choice
by_request d who (Err place) = Return (refusing (refusal.BadRequest place))
by_request d who (Ok asked) = if_granted (denied_of d.access who (needs asked)) (asking_of d asked)

-- memory is taken to read the line
abbrev pub if_read : DaemonState → Named → List ℕ → Bool → Prog Choice
if_read d who line true = by_request d who (request_read line)
if_read d who line false = Return (refusing (refusal.Memory false))

unfoldable pub asking : DaemonState → Named → List ℕ → Prog Choice
asking d who line = Room (if_read d who line)

-- what is chosen can be done: the device of a verdict has a standing, and a change is one that the
-- rules take

abbrev pub CanDo : DaemonState → Deed → Type 0
CanDo d (deed.SetVerdict number verdict on lines) = IsSome (numbered number d.sweep.standings)
CanDo d doing = Unit {0}

abbrev pub CanMake : List RuleEntry → Option Change → Type 0
CanMake rules (Some change) = CanChange change rules × ChangeReads change rules
CanMake rules None = Unit {0}

-- ---- the lines of a reply: none holds a newline

-- those of a deed
abbrev pub HasReplyLines : Deed → Type 0
HasReplyLines (deed.Tell rows) = AreLines rows
HasReplyLines (deed.SetVerdict number verdict on lines) = AreLines lines
HasReplyLines doing = Unit {0}

abbrev pub HasWholeLines : Reply → Type 0
HasWholeLines (reply.Lines lines) = AreLines lines
HasWholeLines (reply.Refused refused) = Unit {0}

-- ---- and what is then done

-- what isn't in force is refused
abbrev pub if_refused : Option Refusal → Deed → Deed
if_refused (Some refused) doing = deed.Refuse refused
if_refused None doing = doing

abbrev pub deed_after : Stored → Deed → Deed
deed_after became doing = if_refused (refused_by became) doing

-- the reply behind the writes: an order on a device that has left since is done
abbrev pub reply_to : List (List ℕ) → Settled → Reply
reply_to lines settled.Stands = reply.Lines lines
reply_to lines settled.Nobody = reply.Lines lines
reply_to lines (settled.Fault failed) = reply.Refused (refusal.DeviceFault failed.call failed.count)
reply_to lines settled.Memory = reply.Refused (refusal.Memory true)

abbrev pub keeping : Kept → DaemonState → DaemonState
keeping k d = record d { sweep = with_kept d.sweep k }

-- what the journal tells of a reply
abbrev pub answer_of : Reply → Result (Unit {0}) Refusal
answer_of (reply.Lines lines) = Ok tt
answer_of (reply.Refused refused) = Err refused

-- it is noted, and is the event's reply
abbrev pub replying : Reply → DaemonState → DaemonState
replying said d = record (noting (entry.Reply (answer_of said)) d) { reply = Some said }

abbrev pub answered_with : DaemonState → List (List ℕ) → Settled × Kept → DaemonState
answered_with d lines p = replying (reply_to lines p.0) (keeping p.1 d)

-- who asks for notices gets an answer, and is told to be one who asked
abbrev pub watching : DaemonState → DaemonState
watching d = record (replying (reply.Lines []) d) { watch = true }

abbrev pub acting : Named → DaemonState → Deed → Prog DaemonState
acting who d (deed.Refuse refused) = Return (replying (reply.Refused refused) d)
acting who d (deed.Tell rows) = Return (replying (reply.Lines rows) d)
acting who d deed.Watch = Return (watching d)
acting who d (deed.SetVerdict number verdict on lines) =
    then (ordering number verdict who on (kept_of d.sweep.standings d.sweep.entries))
    (λ p. Return (answered_with d lines p))

-- The ways of an order, and of a sweep.
use Rattle.std.proofs.Common.{◌≡◌, ℕ, ◌+◌, ◌≤◌, nat_lt, length, Bool, true, false, not, ◌&&◌, ◌||◌, cond, List, [], ◌∷◌, ◌++◌, Option, Some, None, Result, Ok, Err, refl, sym, ◌∙◌, ap, subst, append_assoc, append-nil, arith}
use Rattle.std.specs.List.{list_any}
use Rattle.ug_types.specs.Principals.{Named}
use Rattle.ug_types.specs.declared.refusal.Refusal.{Refusal}
use Rattle.ug_types.specs.Parameters.{parameter_of, parameter_with, value_word}
use Rattle.ug_types.specs.declared.parameter.Parameter.{Parameter}
use Rattle.ug_types.specs.declared.parameter.ParameterName.{ParameterName}
use Rattle.ug_types.specs.declared.rule.After.{After}
use Rattle.ug_types.specs.declared.rule.After.TheVariants as after
use Rattle.ug_types.specs.declared.rule.Rule.{Rule}
use Rattle.ug_types.specs.declared.verdict.Target.{Target}
use Rattle.ug_kernel.specs.declared.calls.Probe.{Probe}
use Rattle.ug_kernel.specs.declared.calls.Probe.TheVariants as probe
use Rattle.ug_kernel.specs.Along.{Made, made_with, failures, count_calls}
use Rattle.ug_kernel.specs.Calls.{Ask_alive, ToldAnswer}
use Rattle.ug_kernel.specs.Tree.{Return}
use Rattle.ug_kernel.proofs.Ways.{Ways, ways_last}
use Rattle.ug_audit.specs.declared.entry.Entry.{Entry}
use Rattle.ug_audit.specs.declared.entry.Entry.TheVariants as entry
use Rattle.ug_types.specs.declared.access.Section.{Section}
use Rattle.ug_types.specs.declared.access.Privilege.{Privilege}
use Rattle.ug_policy.specs.declared.entry.RuleEntry.{RuleEntry}
use Rattle.ug_rule.specs.Rules.{rule_read}
use Rattle.ug_rule.specs.declared.fault.Fault.{Fault}
use Rattle.ug_core.specs.DeviceRows.{device_rows}
use Rattle.ug_ruleset.specs.RuleRows.{rule_rows}
use Rattle.ug_proto.specs.declared.request.Request.{Request}
use Rattle.ug_proto.specs.declared.request.Request.TheVariants as request
use Rattle.ug_proto.specs.Privileges.{needs}
use Rattle.ug_proto.specs.Requests.{request_read}
use Rattle.ug_table.specs.One.{why_of, whys}
use Rattle.ug_table.specs.Orders.{ordering, with_verdict, verdict_entry}
use Rattle.ug_table.specs.Parts.{AllBear}
use Rattle.ug_table.specs.Standings.{numbered}
use Rattle.ug_table.specs.State.{State, Kept, kept_of, terms_for}
use Rattle.ug_table.specs.declared.standing.Settled.{Settled}
use Rattle.ug_table.specs.declared.standing.Settled.TheVariants as settled
use Rattle.ug_table.specs.declared.standing.Standing.{Standing}
use Rattle.ug_table.proofs.Ordered.{EndsOrder, ordering_ways}
use Rattle.ug_table.proofs.PartCalls.{has_want, are_short}
use Rattle.ug_script.specs.Play.{entry_tells_memory, is_short_reply, names_somebody, tells_memory, NameNobody}
use Rattle.ug_script.proofs.Plays.{refused}
use Rattle.ug_script.proofs.Sweeps.{Sums, settling_sums, sweeping_sums, nobody_told, nobody_more}
use Rattle.ug_script.proofs.Wants.{memory_more}
use Rattle.ug_core.specs.Answering.{acting, answer_of, answered_with, asking, asking_of, by_edit, by_name, by_permanent, by_probe, by_record, by_request, by_rule, by_setting, by_standing, by_value, changing as choosing, deed_after, if_granted, if_read, if_reply_room, if_rule_made, if_rule_read, reply_to, telling, unless}
use Rattle.ug_core.specs.Storing.{stored_with, with_changes}
use Rattle.ug_core.specs.declared.storing.Stored.{Stored}
use Rattle.ug_core.specs.declared.storing.Stored.TheVariants as stored
use Rattle.ug_types.specs.declared.saved.Saved.TheVariants as saved
use Rattle.ug_core.specs.Changes.{change_entry, change_lines, edit_for, ordered_mark, parameter_at, verdict_edit}
use Rattle.ug_policy.specs.Edits.{folder_behind}
use Rattle.ug_policy.specs.Marks.{is_permanent}
use Rattle.ug_ruleset.specs.RulePlaces.{first_of, has_folder_rule, has_rule, if_barred, if_few, if_removed, if_taken, made_rule}
use Rattle.ug_ruleset.specs.declared.edit.Edit.TheVariants.{Insert, Remove, Retarget}
use Rattle.std.specs.Prelude.{decimal}
use Rattle.std.proofs.lemmas.Option.{same_Some}
use Rattle.ug_types.specs.declared.record.DeviceRecord.{DeviceRecord}
use Rattle.ug_types.specs.declared.record.Judged.{Judged}
use Rattle.ug_types.specs.declared.record.Judged.TheVariants as judged
use Rattle.ug_core.specs.declared.changes.Change.{Change}
use Rattle.ug_core.specs.declared.changes.Change.TheVariants.{Rules, Set}
use Rattle.ug_core.specs.declared.classes.Classes.{Classes}
use Rattle.ug_core.specs.Event as event
use Rattle.ug_core.specs.Event.{DaemonState, handling, noting}
use Rattle.ug_core.specs.Policy.{Judging, policy_answer, policy_later}
use Rattle.ug_core.specs.Privileges.{first_denied, is_granted}
use Rattle.ug_core.specs.declared.choosing.Choice.{Choice}
use Rattle.ug_core.specs.declared.choosing.Deed.{Deed}
use Rattle.ug_core.specs.declared.choosing.Deed.TheVariants as deed

-- a refusal for want of memory
abbrev pub is_short_deed : Deed → Bool
is_short_deed (deed.Refuse r) = is_short_reply (Err r)
is_short_deed done = false

-- ---- what an order comes to

-- The probe is the one call. A refusal tells want of memory just where the line found no room; a verdict is set where there was room.
abbrev pub Does : List Standing → Bool → List Made → Option Change → Deed → Type 0
Does ss ok ms None (deed.Refuse r) = (is_short_reply (Err r) ≡ refused ok ms) × (count_calls ms ≤ 1)
Does ss ok ms (Some change) (deed.Refuse r) = ⊥
Does ss ok ms change (deed.Tell rows) = (ok ≡ true) × (ms ≡ [])
Does ss ok ms change deed.Watch = (ok ≡ true) × (ms ≡ [])
Does ss ok ms change (deed.SetVerdict number verdict on lines) = (ok ≡ true) × (has_want ms ≡ false) × (count_calls ms ≤ 1) × ((x : Standing) × (numbered number ss ≡ Some x))

abbrev pub Asks : List Standing → Bool → List Made → Choice → Type 0
Asks ss ok ms c = Does ss ok ms c.change c.deed

module _ (ss : List Standing) (p : Judging) (number : ℕ) (verdict : Target) (x : Standing) (t : ToldAnswer Probe) (at : numbered number ss ≡ Some x) where
  abbrev Behind : Bool → List Made → Choice → Type 0
  Behind ok ms c = Asks ss ok (made_with (Ask_alive x.held.0) t ∷ ms) c

  edit_asks : (on : Bool) (device : DeviceRecord) (o : Option ℕ) → Behind true [] (by_edit p number verdict on (edit_for device p.classes.with_port verdict o))
  edit_asks on device (Some id) = (refl, refl, omega arith, (x, at))
  edit_asks on device None = by_few (nat_lt (length p.rules) 65536)
    where
      by_few : (b : Bool) → Behind true [] (unless (cond b None (Some Refusal.RulesFull)) (choosing (Rules (edit_for device p.classes.with_port verdict None)) (deed.SetVerdict number verdict on (change_lines (Rules (edit_for device p.classes.with_port verdict None)) p.next))))
      by_few true = (refl, refl, omega arith, (x, at))
      by_few false = (refl, omega arith)

  record_asks : (on : Bool) (j : Judged) → Ways (by_record p number verdict on j) Behind
  record_asks on (judged.Malformed kind place) = (refl, omega arith)
  record_asks on (judged.Good device) = by_room
    where
      by_room : (b : Bool) → Ways (if_rule_made p number verdict on (verdict_edit device verdict p) b) (λ ok ms c. Behind (b && ok) ms c)
      by_room true = edit_asks on device (made_rule device p.classes.with_port p.rules)
      by_room false = (refl, omega arith)

  permanent_asks : (on permanent : Bool) → Ways (by_permanent p number verdict permanent x on) Behind
  permanent_asks on true = record_asks on x.judged
  permanent_asks on false = (refl, refl, omega arith, (x, at))

  found_asks : (permanent : Bool) (a : Probe) → Ways (by_probe p number verdict permanent x t.count a) Behind
  found_asks permanent (probe.Alive on) = permanent_asks on permanent
  found_asks permanent probe.Gone = (refl, omega arith)
  found_asks permanent probe.Failed = (refl, omega arith)

standing_asks : (ss : List Standing) (p : Judging) (number : ℕ) (verdict : Target) (permanent : Bool) (o : Option Standing) → numbered number ss ≡ o → Ways (by_standing p number verdict permanent o) (Asks ss)
standing_asks ss p number verdict permanent None at = (refl, omega arith)
standing_asks ss p number verdict permanent (Some x) at = λ t. found_asks ss p number verdict x t at permanent t.answer

telling_asks : (ss : List Standing) (rows : List (List ℕ)) → Ways (telling rows) (Asks ss)
telling_asks ss rows = by_room
  where
    by_room : (b : Bool) → Ways (if_reply_room rows b) (λ ok ms c. Asks ss (b && ok) ms c)
    by_room true = (refl, refl)
    by_room false = (refl, omega arith)

name_asks : (ss : List Standing) (classes : Classes) (o : Option ParameterName) → Ways (by_name classes o) (Asks ss)
name_asks ss classes None = (refl, omega arith)
name_asks ss classes (Some set) = telling_asks ss (value_word (parameter_at set classes) ∷ [])

value_asks : (ss : List Standing) (o : Option Parameter) → Asks ss true [] (by_value o)
value_asks ss None = (refl, omega arith)
value_asks ss (Some to) = (refl, refl)

setting_asks : (ss : List Standing) (o : Option ParameterName) (value : List ℕ) → Asks ss true [] (by_setting o value)
setting_asks ss None value = (refl, omega arith)
setting_asks ss (Some set) value = value_asks ss (parameter_with set value)

-- a change that isn't refused
unless_asks : (ss : List Standing) (o : Option Refusal) (change : Change) (rows : List (List ℕ)) → ((r : Refusal) → o ≡ Some r → is_short_reply (Err r) ≡ false) → Asks ss true [] (unless o (choosing change (deed.Tell rows)))
unless_asks ss None change rows long = (refl, refl)
unless_asks ss (Some r) change rows long = (long r refl, omega arith)

there_long : (id : ℕ) (b : Bool) (r : Refusal) → cond b None (Some (Refusal.NoRule id)) ≡ Some r → is_short_reply (Err r) ≡ false
there_long id true r h = let none : ⊥ = cc in absurd none
there_long id false r h = subst (λ (x : Refusal). is_short_reply (Err x) ≡ false) (same_Some (Refusal.NoRule id) r h) refl

few_long : (b : Bool) (r : Refusal) → cond b None (Some Refusal.RulesFull) ≡ Some r → is_short_reply (Err r) ≡ false
few_long true r h = let none : ⊥ = cc in absurd none
few_long false r h = subst (λ (x : Refusal). is_short_reply (Err x) ≡ false) (same_Some Refusal.RulesFull r h) refl

barred_long : (id : ℕ) (r : Refusal) → Some (Refusal.FolderRule id) ≡ Some r → is_short_reply (Err r) ≡ false
barred_long id r h = subst (λ (x : Refusal). is_short_reply (Err x) ≡ false) (same_Some (Refusal.FolderRule id) r h) refl

taken_long : (place : After) (permanent : Bool) (rules : List RuleEntry) (r : Refusal) → if_taken place (ordered_mark permanent) rules ≡ Some r → is_short_reply (Err r) ≡ false
taken_long after.End permanent rules r h = few_long (nat_lt (length rules) 65536) r h
taken_long after.Front permanent rules r h = few_long (nat_lt (length rules) 65536) r h
taken_long (after.Rule id) permanent rules r h = by (has_rule id rules) (is_permanent (ordered_mark permanent) && folder_behind id rules) h
  where
    by : (b c : Bool) → first_of (first_of (cond b None (Some (Refusal.NoRule id))) (if_barred c id)) (if_few rules) ≡ Some r → is_short_reply (Err r) ≡ false
    by false c k = there_long id false r k
    by true true k = barred_long id r k
    by true false k = few_long (nat_lt (length rules) 65536) r k

removed_long : (id : ℕ) (b c : Bool) (r : Refusal) → first_of (cond b None (Some (Refusal.NoRule id))) (if_barred c id) ≡ Some r → is_short_reply (Err r) ≡ false
removed_long id false c r h = there_long id false r h
removed_long id true true r h = barred_long id r h
removed_long id true false r h = let none : ⊥ = cc in absurd none

rule_asks : (ss : List Standing) (p : Judging) (place : After) (permanent : Bool) (r : Result Rule Fault) → Asks ss true [] (by_rule p place permanent r)
rule_asks ss p place permanent (Err bad) = (refl, omega arith)
rule_asks ss p place permanent (Ok rule) = unless_asks ss (if_taken place (ordered_mark permanent) p.rules) (Rules (Insert place rule (ordered_mark permanent))) (decimal p.next ∷ []) (taken_long place permanent p.rules)

append_asks : (ss : List Standing) (p : Judging) (place : After) (permanent : Bool) (text : List ℕ) (b : Bool) → Ways (if_rule_read p place permanent text b) (λ ok ms c. Asks ss (b && ok) ms c)
append_asks ss p place permanent text true = rule_asks ss p place permanent (rule_read text)
append_asks ss p place permanent text false = (refl, omega arith)

granted_asks : (d : DaemonState) (asked : Request) → Ways (asking_of d asked) (Asks d.sweep.standings)
granted_asks d (request.GetParameter name) = name_asks d.sweep.standings d.sweep.judge.classes (parameter_of name)
granted_asks d (request.SetParameter name value) = setting_asks d.sweep.standings (parameter_of name) value
granted_asks d request.ListDevices = telling_asks d.sweep.standings (device_rows d.sweep.standings)
granted_asks d (request.Device number verdict permanent) = standing_asks d.sweep.standings d.sweep.judge number verdict permanent (numbered number d.sweep.standings) refl
granted_asks d request.ListRules = telling_asks d.sweep.standings (rule_rows d.sweep.judge.rules)
granted_asks d (request.AppendRule place permanent text) = append_asks d.sweep.standings d.sweep.judge place permanent text
granted_asks d (request.RemoveRule id) = unless_asks d.sweep.standings (if_removed id d.sweep.judge.rules) (Rules (Remove id)) [] (removed_long id (has_rule id d.sweep.judge.rules) (has_folder_rule id d.sweep.judge.rules))
granted_asks d request.Watch = (refl, refl)

request_asks : (d : DaemonState) (who : Named) (read : Result Request ℕ) → Ways (by_request d who read) (Asks d.sweep.standings)
request_asks d who (Err place) = (refl, omega arith)
request_asks d who (Ok asked) = by_denied (is_granted d.access who (needs asked)) (needs asked)
  where
    by_denied : (b : Bool) (needed : List (Section × Privilege)) → Ways (if_granted (cond b None (first_denied needed)) (asking_of d asked)) (Asks d.sweep.standings)
    by_denied true needed = granted_asks d asked
    by_denied false [] = granted_asks d asked
    by_denied false (p ∷ needed) = (refl, omega arith)

pub asking_ways : (d : DaemonState) (who : Named) (line : List ℕ) → Ways (asking d who line) (Asks d.sweep.standings)
unfolding asking
asking_ways d who line = by_room
  where
    by_room : (b : Bool) → Ways (if_read d who line b) (λ ok ms c. Asks d.sweep.standings (b && ok) ms c)
    by_room true = request_asks d who (request_read line)
    by_room false = (refl, omega arith)

-- what is done tells want of memory just where it was refused on the way
pub asks_short : (ss : List Standing) (ok : Bool) (ms : List Made) (c : Choice) → Asks ss ok ms c → is_short_deed c.deed ≡ refused ok ms
asks_short ss ok ms c h = by_deed c.change c.deed h
  where
    by_deed : (change : Option Change) (done : Deed) → Does ss ok ms change done → is_short_deed done ≡ refused ok ms
    by_deed None (deed.Refuse r) k = k.0
    by_deed (Some change) (deed.Refuse r) k = absurd k
    by_deed change (deed.Tell rows) k = sym (ap (λ (b : Bool). not b || has_want ms) k.0 ∙ ap has_want k.1)
    by_deed change deed.Watch k = sym (ap (λ (b : Bool). not b || has_want ms) k.0 ∙ ap has_want k.1)
    by_deed change (deed.SetVerdict number verdict on lines) k = sym (ap (λ (b : Bool). not b || has_want ms) k.0 ∙ k.1)

-- and then nothing is changed
pub short_asks : (ss : List Standing) (ok : Bool) (ms : List Made) (c : Choice) → Asks ss ok ms c → is_short_deed c.deed ≡ true → c.change ≡ None
short_asks ss ok ms c h short = by_deed c.change c.deed h short
  where
    by_deed : (change : Option Change) (done : Deed) → Does ss ok ms change done → is_short_deed done ≡ true → change ≡ None
    by_deed None done k e = refl
    by_deed (Some change) (deed.Refuse r) k e = absurd k
    by_deed (Some change) (deed.Tell rows) k e = let none : ⊥ = cc in absurd none
    by_deed (Some change) deed.Watch k e = let none : ⊥ = cc in absurd none
    by_deed (Some change) (deed.SetVerdict number verdict on lines) k e = let none : ⊥ = cc in absurd none

pub asks_few : (ss : List Standing) (ok : Bool) (ms : List Made) (c : Choice) → Asks ss ok ms c → count_calls ms ≤ 1
asks_few ss ok ms c h = by_deed c.change c.deed h
  where
    none_counted : ms ≡ [] → count_calls ms ≤ 1
    none_counted e = let none = ap count_calls e in omega (arith, none)

    by_deed : (change : Option Change) (done : Deed) → Does ss ok ms change done → count_calls ms ≤ 1
    by_deed None (deed.Refuse r) k = k.1
    by_deed (Some change) (deed.Refuse r) k = absurd k
    by_deed change (deed.Tell rows) k = none_counted k.1
    by_deed change deed.Watch k = none_counted k.1
    by_deed change (deed.SetVerdict number verdict on lines) k = k.2

-- the device of a verdict has a standing
abbrev pub CanAct : List Standing → Deed → Type 0
CanAct ss (deed.SetVerdict number verdict on lines) = (x : Standing) × (numbered number ss ≡ Some x)
CanAct ss done = Unit {0}

pub asks_can : (ss : List Standing) (ok : Bool) (ms : List Made) (c : Choice) → Asks ss ok ms c → CanAct ss c.deed
asks_can ss ok ms c h = by_deed c.change c.deed h
  where
    by_deed : (change : Option Change) (done : Deed) → Does ss ok ms change done → CanAct ss done
    by_deed change (deed.Refuse r) k = tt
    by_deed change (deed.Tell rows) k = tt
    by_deed change deed.Watch k = tt
    by_deed change (deed.SetVerdict number verdict on lines) k = k.3

-- ---- what is noted of a save and of a change

changed : Option Change → DaemonState → List Entry
changed None d = []
changed (Some change) d = change_entry change d.sweep.judge.next ∷ []

-- Entries are added that name nobody and tell no want of memory. The numbers are as they were, but for the id of one rule at most.
pub record StoredSo (d a : DaemonState) : Type 0 where
  pub rest : List Entry
  pub entries : a.sweep.entries ≡ d.sweep.entries ++ rest
  pub wants : tells_memory rest ≡ false
  pub nobody : NameNobody rest
  pub event : a.event ≡ d.event
  pub next : a.sweep.next ≡ d.sweep.next
  pub standings : a.sweep.standings ≡ d.sweep.standings
  pub due : a.due ≡ d.due
  pub stream : a.stream ≡ d.stream
  pub ids : a.sweep.judge.next ≤ d.sweep.judge.next + 1

now_so : (d : DaemonState) (change : Option Change) → StoredSo d (with_changes change d)
unfolding changed
now_so d None = record { rest = []; entries = sym (append-nil d.sweep.entries); wants = refl; nobody = refl; event = refl; next = refl; standings = refl; due = refl; stream = refl; ids = omega arith }
now_so d (Some (Rules (Insert place rule temporary))) = record { rest = changed (Some (Rules (Insert place rule temporary))) d; entries = refl; wants = refl; nobody = refl; event = refl; next = refl; standings = refl; due = refl; stream = refl; ids = omega arith }
now_so d (Some (Rules (Remove id))) = record { rest = changed (Some (Rules (Remove id))) d; entries = refl; wants = refl; nobody = refl; event = refl; next = refl; standings = refl; due = refl; stream = refl; ids = omega arith }
now_so d (Some (Rules (Retarget id rule))) = record { rest = changed (Some (Rules (Retarget id rule))) d; entries = refl; wants = refl; nobody = refl; event = refl; next = refl; standings = refl; due = refl; stream = refl; ids = omega arith }
now_so d (Some (Set to)) = record { rest = changed (Some (Set to)) d; entries = refl; wants = refl; nobody = refl; event = refl; next = refl; standings = refl; due = refl; stream = refl; ids = omega arith }

-- behind an entry that tells of the save
saved_so : (d b a : DaemonState) (e : Entry) → b.sweep ≡ (noting e d).sweep → b.event ≡ d.event → b.due ≡ d.due → b.stream ≡ d.stream → entry_tells_memory e ≡ false → names_somebody e ≡ false → StoredSo b a → StoredSo d a
saved_so d b a e sweep event due stream quiet nameless h =
    let ids = h.ids in
    let same : b.sweep.judge.next ≡ d.sweep.judge.next = ap (λ (v : State Judging). v.judge.next) sweep in
    record {
      rest = e ∷ h.rest;
      entries = h.entries ∙ ap (λ (v : State Judging). v.entries ++ h.rest) sweep ∙ append_assoc d.sweep.entries (e ∷ []) h.rest;
      wants = ap (λ (x : Bool). x || tells_memory h.rest) quiet ∙ h.wants;
      nobody = ap (λ (x : Bool). x || list_any names_somebody h.rest) nameless ∙ h.nobody;
      event = h.event ∙ event;
      next = h.next ∙ ap (λ (v : State Judging). v.next) sweep;
      standings = h.standings ∙ ap (λ (v : State Judging). v.standings) sweep;
      due = h.due ∙ due;
      stream = h.stream ∙ stream;
      ids = omega (arith, ids, same);
    }

pub stored_so : (d : DaemonState) (change : Option Change) (became : Stored) → StoredSo d (stored_with became change d)
stored_so d change stored.NotNeeded = now_so d change
stored_so d change stored.Done =
    let b : DaemonState = noting (entry.Save saved.Done) (record d { pending = false }) in
    saved_so d b (with_changes change b) (entry.Save saved.Done) refl refl refl refl refl refl (now_so b change)
stored_so d change (stored.Failed count) =
    let b : DaemonState = noting (entry.Save (saved.Failed count)) (record d { pending = true }) in
    saved_so d b b (entry.Save (saved.Failed count)) refl refl refl refl refl refl (now_so b None)
stored_so d change stored.TooLong = now_so d None
stored_so d change stored.Memory = now_so d None

-- a deed that is refused for its save needs no device
pub stored_can : (ss : List Standing) (became : Stored) (done : Deed) → CanAct ss done → CanAct ss (deed_after became done)
stored_can ss stored.NotNeeded done can = can
stored_can ss stored.Done done can = can
stored_can ss (stored.Failed count) done can = tt
stored_can ss stored.TooLong done can = tt
stored_can ss stored.Memory done can = tt

-- and tells want of memory just where that was the cause
pub stored_short : (became : Stored) (done : Deed) → (became ≡ stored.Memory → ⊥) → is_short_deed done ≡ false → is_short_deed (deed_after became done) ≡ false
stored_short stored.NotNeeded done not short = short
stored_short stored.Done done not short = short
stored_short (stored.Failed count) done not short = refl
stored_short stored.TooLong done not short = refl
stored_short stored.Memory done not short = absurd (not refl)

-- ---- what is then done

-- an order's own entries

bears_sure : (name : List ℕ) (es : List Entry) → AllBear name es → whys es ≡ [] → (tells_memory es ≡ false) × NameNobody es
bears_sure name [] b w = (refl, refl)
bears_sure name (entry.Judged number other held verdict why ∷ es) b w = bears_sure name es b.1 w
bears_sure name (entry.Intent number other what ∷ es) b w = bears_sure name es b.1 w
bears_sure name (entry.Wrote number other what outcome ∷ es) b w = bears_sure name es b.1 w
bears_sure name (entry.Gone number other ∷ es) b w = bears_sure name es b.1 w
bears_sure name (entry.Unsettled other why ∷ es) b w = let none : ⊥ = cc in absurd none
bears_sure name (e ∷ es) b w = absurd b.0

short_answer : (lines : List (List ℕ)) (how : Settled) → is_short_reply (answer_of (reply_to lines how)) ≡ are_short (why_of how)
short_answer lines settled.Stands = refl
short_answer lines settled.Nobody = refl
short_answer lines (settled.Fault failed) = refl
short_answer lines settled.Memory = refl

or_none : (b : Bool) → (b || false) ≡ b
or_none true = refl
or_none false = refl

-- Entries are added that tell want of memory just where what is done tells it, or where memory was refused, and that name nobody. Whether a
-- save is pending and the numbers are as they were.
pub record ActsSo (a : DaemonState) (short ok : Bool) (ms : List Made) (e : DaemonState) : Type 0 where
  pub rest : List Entry
  pub entries : e.sweep.entries ≡ a.sweep.entries ++ rest
  pub wants : tells_memory rest ≡ (short || refused ok ms)
  pub nobody : NameNobody rest
  pub few : count_calls ms ≤ 4
  pub pending : e.pending ≡ a.pending
  pub event : e.event ≡ a.event
  pub next : e.sweep.next ≡ a.sweep.next
  pub due : e.due ≡ a.due
  pub stream : e.stream ≡ a.stream
  pub ids : e.sweep.judge.next ≡ a.sweep.judge.next

set_so : (a : DaemonState) (x t : Standing) (lines : List (List ℕ)) (ms : List Made) (p : Settled × Kept) → EndsOrder x t (kept_of a.sweep.standings a.sweep.entries) true ms p → ActsSo a false true ms (answered_with a lines p)
set_so a x t lines ms p o =
    let told : Entry = entry.Reply (answer_of (reply_to lines p.0)) in
    let rest : List Entry = verdict_entry t ∷ o.rest in
    let sure = bears_sure x.name o.rest o.bears o.quiet in
    record {
      rest = rest ++ told ∷ [];
      entries = ap (λ (es : List Entry). es ++ told ∷ []) o.entries ∙ append_assoc a.sweep.entries rest (told ∷ []);
      wants =
          memory_more rest (told ∷ [])
          ∙ ap (λ (b : Bool). b || tells_memory (told ∷ [])) sure.0
          ∙ or_none (is_short_reply (answer_of (reply_to lines p.0)))
          ∙ short_answer lines p.0
          ∙ sym o.want;
      nobody = nobody_more rest (told ∷ []) sure.1 refl;
      few = o.few;
      pending = refl;
      event = refl;
      next = refl;
      due = refl;
      stream = refl;
      ids = refl;
    }

pub acting_ways : (who : Named) (a : DaemonState) (done : Deed) → CanAct a.sweep.standings done → Ways (acting who a done) (ActsSo a (is_short_deed done))
acting_ways who a (deed.Refuse r) can = record { rest = entry.Reply (Err r) ∷ []; entries = refl; wants = refl; nobody = refl; few = omega arith; pending = refl; event = refl; next = refl; due = refl; stream = refl; ids = refl }
acting_ways who a (deed.Tell rows) can = record { rest = entry.Reply (Ok tt) ∷ []; entries = refl; wants = refl; nobody = refl; few = omega arith; pending = refl; event = refl; next = refl; due = refl; stream = refl; ids = refl }
acting_ways who a deed.Watch can = record { rest = entry.Reply (Ok tt) ∷ []; entries = refl; wants = refl; nobody = refl; few = omega arith; pending = refl; event = refl; next = refl; due = refl; stream = refl; ids = refl }
acting_ways who a (deed.SetVerdict number verdict on lines) can =
    let k : Kept = kept_of a.sweep.standings a.sweep.entries in
    ways_last (EndsOrder can.0 (with_verdict verdict who can.0) k) (ActsSo a false) (ordering number verdict who on k) (λ (p : Settled × Kept). Return (answered_with a lines p)) (λ (p : Settled × Kept). answered_with a lines p) (λ p. refl) (ordering_ways number verdict who on k can.0 can.1)
    (λ ok ms p o. subst (λ (b : Bool). ActsSo a false b ms (answered_with a lines p)) (sym o.sure) (set_so a can.0 (with_verdict verdict who can.0) lines ms p (subst (λ (b : Bool). EndsOrder can.0 (with_verdict verdict who can.0) k b ms p) o.sure o)))

-- ---- the last stage

-- The entries that are added tell want of memory just where memory was refused; and where neither that is so nor a call of the sweep
-- failed, they name nobody.
pub record SweepsSo (a : DaemonState) (ok : Bool) (ms : List Made) (e : DaemonState) : Type 0 where
  pub rest : List Entry
  pub entries : e.sweep.entries ≡ a.sweep.entries ++ rest
  pub wants : tells_memory rest ≡ refused ok ms
  pub nobody : refused ok ms ≡ false → failures ms ≡ [] → NameNobody rest
  pub pending : e.pending ≡ a.pending

swept_so : (a : DaemonState) (ok : Bool) (ms : List Made) (v : State Judging) → Sums a.sweep.entries ok ms v.entries → SweepsSo a ok ms (record a { sweep = record v { entries = v.entries ++ entry.End a.event ∷ [] }; due = None; event = a.event + 1 })
swept_so a ok ms v sums =
    let last : List Entry = entry.End a.event ∷ [] in
    let wants : tells_memory (sums.rest ++ last) ≡ refused ok ms = memory_more sums.rest last ∙ or_none (tells_memory sums.rest) ∙ sums.wants in
    record {
      rest = sums.rest ++ last;
      entries = ap (λ (es : List Entry). es ++ last) sums.entries ∙ append_assoc a.sweep.entries sums.rest last;
      wants = wants;
      nobody = λ n f. nobody_more sums.rest last (nobody_told sums.rest (sums.wants ∙ n) (sums.faults f)) refl;
      pending = refl;
    }

due_sums : (due : Option (List (List ℕ))) (w : State Judging) → Ways (event.settling_due due w) (λ ok ms v. Sums w.entries ok ms v.entries)
due_sums None w = sweeping_sums policy_answer policy_later w
due_sums (Some names) w = settling_sums policy_answer policy_later names (terms_for w) w

pub handling_ways : (a : DaemonState) → Ways (handling a) (SweepsSo a)
unfolding handling
handling_ways a =
    ways_last (λ ok ms v. Sums a.sweep.entries ok ms v.entries) (SweepsSo a) (event.settling_due a.due a.sweep) (event.ended a)
    (λ (v : State Judging). record a { sweep = record v { entries = v.entries ++ entry.End a.event ∷ [] }; due = None; event = a.event + 1 })
    (λ v. refl)
    (due_sums a.due a.sweep)
    (λ ok ms v sums. swept_so a ok ms v sums)

-- What an order comes to, from the tree of its calls.
use Rattle.std.proofs.Common.{◌≡◌, ℕ, ◌≤◌, nat_lt, length, arith, Bool, true, false, ◌&&◌, cond, List, [], ◌∷◌, Option, Some, None, Result, Ok, Err, ◌⊎◌, inl, inr, refl, sym, ◌∙◌, ap, subst}
use Rattle.std.specs.Prelude.{IsSome}
use Rattle.std.specs.Option.{option_map}
use Rattle.std.proofs.lemmas.Option.{same_Some}
use Rattle.ug_types.specs.Principals.{Named}
use Rattle.ug_types.specs.declared.refusal.Refusal.{Refusal}
use Rattle.ug_types.specs.declared.refusal.Refusal.TheVariants as refusal
use Rattle.ug_types.specs.Parameters.{parameter_of, parameter_with, value_word}
use Rattle.ug_types.specs.declared.access.Privilege.{Privilege}
use Rattle.ug_types.specs.declared.access.Section.{Section}
use Rattle.ug_types.specs.declared.parameter.Parameter.{Parameter}
use Rattle.ug_types.specs.declared.parameter.ParameterName.{ParameterName}
use Rattle.ug_types.specs.declared.record.DeviceRecord.{DeviceRecord}
use Rattle.ug_types.specs.declared.record.Judged.{Judged}
use Rattle.ug_types.specs.declared.record.Judged.TheVariants as judged
use Rattle.ug_types.specs.declared.rule.After.{After}
use Rattle.ug_types.specs.declared.rule.After.TheVariants as after
use Rattle.ug_types.specs.declared.rule.Rule.{Rule}
use Rattle.ug_types.specs.declared.verdict.Target.{Target}
use Rattle.ug_kernel.specs.declared.calls.Probe.{Probe}
use Rattle.ug_kernel.specs.declared.calls.Probe.TheVariants as probe
use Rattle.ug_kernel.specs.Calls.{Call, Answer, Ask_alive, ToldAnswer}
use Rattle.ug_kernel.specs.Tree.{Runs}
use Rattle.ug_acl.specs.Acls.{Addition}
use Rattle.ug_policy.specs.Edits.{folder_behind}
use Rattle.ug_types.specs.Elements.{Has}
use Rattle.ug_policy.specs.Marks.{is_permanent}
use Rattle.ug_policy.specs.Rules.{ids, most_rules}
use Rattle.ug_policy.specs.declared.entry.RuleEntry.{RuleEntry}
use Rattle.ug_rule.specs.Faults.{kind_number}
use Rattle.ug_rule.specs.Rules.{rule_read}
use Rattle.ug_rule.specs.declared.fault.Fault.{Fault}
use Rattle.ug_ruleset.specs.RulePlaces.{IsOpen, first_of, has_folder_rule, has_rule, if_barred, if_few, made_rule}
use Rattle.ug_ruleset.specs.RuleRows.{rule_rows}
use Rattle.ug_ruleset.specs.declared.edit.Edit.TheVariants.{Insert, Remove}
use Rattle.ug_ruleset.proofs.MadeRules.{made_there}
use Rattle.ug_proto.specs.declared.request.Request.{Request}
use Rattle.ug_proto.specs.declared.request.Request.TheVariants as request
use Rattle.ug_proto.specs.Privileges.{needs}
use Rattle.ug_proto.specs.Requests.{request_read}
use Rattle.ug_table.specs.Parts.{told_in_reply}
use Rattle.ug_table.specs.Standings.{numbered}
use Rattle.ug_table.specs.declared.standing.Standing.{Standing}
use Rattle.ug_core.specs.Answering.{asking, asking_of, by_edit, by_name, by_permanent, by_probe, by_record, by_request, by_rule, by_setting, by_standing, by_value, changing, if_granted, if_read, if_reply_room, if_rule_made, if_rule_read, only, refusing, unless}
use Rattle.ug_core.specs.Changes.{CanChange, change_lines, edit_for, change_lines_of, ordered_mark, parameter_at, record_change, rule_asked, setting_asked, standing_change}
use Rattle.ug_core.specs.DeviceRows.{device_rows}
use Rattle.ug_core.specs.Event.{DaemonState}
use Rattle.ug_core.specs.Laws.{Bad_rule, Before_folder, By_facts, Changes, ComesTo, Denied, Devices, Full, List_rules, No_device, No_memory, No_parameter, No_place, No_record, No_room, No_rule, No_setting, No_value, Of_folder, Outcome, Refuses, RefusesBehind, Unread, Value, Watches, WhyRefused, Without_memory, change_of, is_on_device, only_lines, outcome_of_change}
use Rattle.ug_core.specs.Privileges.{denied_of, first_denied, is_granted}
use Rattle.ug_core.specs.declared.changes.Change.{Change}
use Rattle.ug_core.specs.declared.changes.Change.TheVariants.{Rules, Set}
use Rattle.ug_core.specs.declared.choosing.Choice.{Choice}
use Rattle.ug_core.specs.declared.choosing.Deed.TheVariants as deed
use Rattle.ug_core.specs.declared.storing.Stored.TheVariants as stored
use Rattle.ug_core.proofs.Places.{few_below, open_order, rule_there}

-- the device of a verdict's number was probed
pub record Probed {S : Type 0} (gives : S → (call : Call) → Answer call → S → Type 0) (who : Named) (line : List ℕ) (d : DaemonState) (number : ℕ) (verdict : Target) (permanent : Bool) (s u : S) : Type 0 where
  pub reads : request_read line ≡ Ok (request.Device number verdict permanent)
  pub granted : is_granted d.access who (needs (request.Device number verdict permanent)) ≡ true
  pub standing : Standing
  pub stands : numbered number d.sweep.standings ≡ Some standing
  pub found : ToldAnswer Probe
  pub probed : gives s (Ask_alive standing.held.0) found u

-- and isn't there
abbrev pub Missing : ℕ → ToldAnswer Probe → Choice → Type 0
Missing number found c = ((found.answer ≡ probe.Gone) × (c ≡ refusing (refusal.NoDevice number))) ⊎ ((found.answer ≡ probe.Failed) × (c ≡ refusing (refusal.ProbeFault found.count)))

abbrev pub CanMade : List RuleEntry → Option Change → Type 0
CanMade rules (Some change) = CanChange change rules
CanMade rules None = Unit {0}

-- or it is
pub data FoundSo (d : DaemonState) (number : ℕ) (verdict : Target) (permanent on : Bool) (c : Choice) : Type 0 where
  Set_so : (change : Option Change) → change ≡ change_of d (request.Device number verdict permanent) → (permanent ≡ true → IsSome change) → CanMade d.sweep.judge.rules change → c ≡ record { change = change; deed = deed.SetVerdict number verdict on (change_lines_of change d.sweep.judge.next) } → FoundSo d number verdict permanent on c
  Refused_so : (r : Refusal) → RefusesBehind d stored.NotNeeded (request.Device number verdict permanent) r → told_in_reply (Err r) ≡ [] → c ≡ refusing r → FoundSo d number verdict permanent on c

-- what is told or changed without a call
pub data Chosen (d : DaemonState) : Outcome → Choice → Type 0 where
  Told_lines : (rows : List (List ℕ)) → Chosen d (only_lines rows) (only (deed.Tell rows))
  Told_change : (change : Change) → CanChange change d.sweep.judge.rules → Chosen d (outcome_of_change d change) (changing change (deed.Tell (change_lines change d.sweep.judge.next)))
  Told_watch : Chosen d (record { lines = []; change = None; watches = true }) (only deed.Watch)

pub record IsChosen (who : Named) (line : List ℕ) (d : DaemonState) (c : Choice) : Type 0 where
  pub asked : Request
  pub reads : request_read line ≡ Ok asked
  pub granted : is_granted d.access who (needs asked) ≡ true
  pub no_device : is_on_device asked ≡ false
  pub outcome : Outcome
  pub comes : ComesTo d asked outcome
  pub asks : outcome.change ≡ change_of d asked
  pub chosen : Choice
  pub how : Chosen d outcome chosen
  pub is : c ≡ chosen

pub data Asked {S : Type 0} (gives : S → (call : Call) → Answer call → S → Type 0) (who : Named) (line : List ℕ) (d : DaemonState) (c : Choice) (s t : S) : Type 0 where
  Refused_first : (r : Refusal) → WhyRefused who line d r → told_in_reply (Err r) ≡ [] → c ≡ refusing r → t ≡ s → Asked gives who line d c s t
  Chosen_first : IsChosen who line d c → t ≡ s → Asked gives who line d c s t
  Not_found : (number : ℕ) (verdict : Target) (permanent : Bool) (x : Probed gives who line d number verdict permanent s t) → Missing number x.found c → Asked gives who line d c s t
  Found : (number : ℕ) (verdict : Target) (permanent on : Bool) (x : Probed gives who line d number verdict permanent s t) → x.found.answer ≡ probe.Alive on → FoundSo d number verdict permanent on c → Asked gives who line d c s t

full_from : (n : ℕ) → nat_lt n 65536 ≡ false → 65536 ≤ n
full_from n h = grind (arith, h)

undenied : (b : Bool) (needed : List (Section × Privilege)) → (needed ≡ [] → ⊥) → cond b None (first_denied needed) ≡ None → b ≡ true
undenied true needed some h = refl
undenied false [] some h = absurd (some refl)
undenied false (p ∷ needed) some h = let none : ⊥ = cc in absurd none

needs_one : (asked : Request) → needs asked ≡ [] → ⊥
needs_one (request.GetParameter name) e = let none : ⊥ = cc in none
needs_one (request.SetParameter name value) e = let none : ⊥ = cc in none
needs_one request.ListDevices e = let none : ⊥ = cc in none
needs_one (request.Device number verdict permanent) e = let none : ⊥ = cc in none
needs_one request.ListRules e = let none : ⊥ = cc in none
needs_one (request.AppendRule place permanent text) e = let none : ⊥ = cc in none
needs_one (request.RemoveRule id) e = let none : ⊥ = cc in none
needs_one request.Watch e = let none : ⊥ = cc in none

undenied_by : (access : List Addition) (who : Named) (asked : Request) → denied_of access who (needs asked) ≡ None → is_granted access who (needs asked) ≡ true
undenied_by access who asked h = undenied (is_granted access who (needs asked)) (needs asked) (needs_one asked) h

denied_silent : (access : List Addition) (who : Named) (asked : Request) (refused : Refusal) → denied_of access who (needs asked) ≡ Some refused → told_in_reply (Err refused) ≡ []
denied_silent access who asked refused h = by_first (is_granted access who (needs asked)) (needs asked) h
  where
    by_first : (b : Bool) (needed : List (Section × Privilege)) → cond b None (first_denied needed) ≡ Some refused → told_in_reply (Err refused) ≡ []
    by_first true needed k = let none : ⊥ = cc in absurd none
    by_first false [] k = let none : ⊥ = cc in absurd none
    by_first false (p ∷ needed) k = subst (λ (r : Refusal). told_in_reply (Err r) ≡ []) (same_Some (refusal.Denied p.0 p.1) refused k) refl

-- ---- a verdict, behind the probe

module _ (d : DaemonState) (number : ℕ) (verdict : Target) (on : Bool) (x : Standing) (stands : numbered number d.sweep.standings ≡ Some x) (c : Choice) where
  edit_asks : (device : DeviceRecord) → x.judged ≡ judged.Good device → (o : Option ℕ) → made_rule device d.sweep.judge.classes.with_port d.sweep.judge.rules ≡ o → Some (Rules (edit_for device d.sweep.judge.classes.with_port verdict o)) ≡ change_of d (request.Device number verdict true)
  edit_asks device good o made =
      ap (λ (m : Option ℕ). Some (Rules (edit_for device d.sweep.judge.classes.with_port verdict m))) (sym made)
      ∙ sym (ap (λ (o : Option Standing). standing_change o verdict d.sweep.judge) stands ∙ ap (λ (j : Judged). record_change j verdict d.sweep.judge) good)

  sets : (change : Change) → Some change ≡ change_of d (request.Device number verdict true) → CanChange change d.sweep.judge.rules → c ≡ changing change (deed.SetVerdict number verdict on (change_lines change d.sweep.judge.next)) → FoundSo d number verdict true on c
  sets change asks can is = Set_so (Some change) asks (λ sure. refl) can is

  by_made : (device : DeviceRecord) → x.judged ≡ judged.Good device → (o : Option ℕ) → made_rule device d.sweep.judge.classes.with_port d.sweep.judge.rules ≡ o → c ≡ by_edit d.sweep.judge number verdict on (edit_for device d.sweep.judge.classes.with_port verdict o) → FoundSo d number verdict true on c
  by_made device good (Some id) made is = sets (Rules (edit_for device d.sweep.judge.classes.with_port verdict (Some id))) (edit_asks device good (Some id) made) (made_there device d.sweep.judge.classes.with_port d.sweep.judge.rules id made) is
  by_made device good None made is = by_few (nat_lt (length d.sweep.judge.rules) 65536) refl is
    where
      by_few : (b : Bool) → nat_lt (length d.sweep.judge.rules) 65536 ≡ b → c ≡ unless (cond b None (Some refusal.RulesFull)) (changing (Rules (edit_for device d.sweep.judge.classes.with_port verdict None)) (deed.SetVerdict number verdict on (change_lines (Rules (edit_for device d.sweep.judge.classes.with_port verdict None)) d.sweep.judge.next))) → FoundSo d number verdict true on c
      by_few true few k = sets (Rules (edit_for device d.sweep.judge.classes.with_port verdict None)) (edit_asks device good None made) (tt, few_below (length d.sweep.judge.rules) few, tt) k
      by_few false few k = Refused_so refusal.RulesFull (No_room number verdict _ (sym (edit_asks device good None made)) (full_from (length d.sweep.judge.rules) few) refl) refl k

  by_record_asked : {S : Type 0} (gives : S → (call : Call) → Answer call → S → Type 0) (s t : S) (j : Judged) → x.judged ≡ j → Runs gives s (by_record d.sweep.judge number verdict on j) c t → FoundSo d number verdict true on c × (t ≡ s)
  by_record_asked gives s t (judged.Malformed kind place) is h = (Refused_so (refusal.MalformedDevice number) (No_record number verdict x kind place stands is refl) refl h.0, h.1)
  by_record_asked gives s t (judged.Good device) is h = by_room h.0 h.1
    where
      by_room : (b : Bool) → Runs gives s (if_rule_made d.sweep.judge number verdict on (edit_for device d.sweep.judge.classes.with_port verdict (made_rule device d.sweep.judge.classes.with_port d.sweep.judge.rules)) b) c t → FoundSo d number verdict true on c × (t ≡ s)
      by_room true k = (by_made device is (made_rule device d.sweep.judge.classes.with_port d.sweep.judge.rules) refl k.0, k.1)
      by_room false k = (Refused_so (refusal.Memory false) (Without_memory (request.Device number verdict true) refl) refl k.0, k.1)

  by_permanent_asked : {S : Type 0} (gives : S → (call : Call) → Answer call → S → Type 0) (s t : S) (permanent : Bool) → Runs gives s (by_permanent d.sweep.judge number verdict permanent x on) c t → FoundSo d number verdict permanent on c × (t ≡ s)
  by_permanent_asked gives s t true h = by_record_asked gives s t x.judged refl h
  by_permanent_asked gives s t false h = (Set_so None refl (λ sure. let none : ⊥ = cc in absurd none) tt h.0, h.1)

-- ---- the whole

module _ {S : Type 0} (gives : S → (call : Call) → Answer call → S → Type 0) (who : Named) (line : List ℕ) (d : DaemonState) (c : Choice) (s t : S) where
  abbrev It : Type 0
  It = Asked gives who line d c s t

  refuses : (r : Refusal) → WhyRefused who line d r → told_in_reply (Err r) ≡ [] → (c ≡ refusing r) × (t ≡ s) → It
  refuses r why silent h = Refused_first r why silent h.0 h.1

  module _ (asked : Request) (reads : request_read line ≡ Ok asked) (granted : is_granted d.access who (needs asked) ≡ true) where
    facts : (r : Refusal) → Refuses d asked r → told_in_reply (Err r) ≡ [] → (c ≡ refusing r) × (t ≡ s) → It
    facts r why silent h = refuses r (By_facts asked r reads granted why) silent h

    chooses : (outcome : Outcome) (chosen : Choice) → is_on_device asked ≡ false → ComesTo d asked outcome → outcome.change ≡ change_of d asked → Chosen d outcome chosen → (c ≡ chosen) × (t ≡ s) → It
    chooses outcome chosen none comes asks how h = Chosen_first (record { asked = asked; reads = reads; granted = granted; no_device = none; outcome = outcome; comes = comes; asks = asks; chosen = chosen; how = how; is = h.0 }) h.1

    tells_rows : (rows : List (List ℕ)) → is_on_device asked ≡ false → ComesTo d asked (only_lines rows) → None ≡ change_of d asked → (b : Bool) → Runs gives s (if_reply_room rows b) c t → It
    tells_rows rows none comes asks true h = chooses (only_lines rows) (only (deed.Tell rows)) none comes asks (Told_lines rows) h
    tells_rows rows none comes asks false h = refuses (refusal.Memory false) No_memory refl h

  by_found : (number : ℕ) (verdict : Target) (permanent : Bool) (x : Probed gives who line d number verdict permanent s t) (q : Probe) → x.found.answer ≡ q → (u : S) → t ≡ u → Runs gives u (by_probe d.sweep.judge number verdict permanent x.standing x.found.count q) c t → It
  by_found number verdict permanent x (probe.Alive on) is u same h = Found number verdict permanent on x is (by_permanent_asked d number verdict on x.standing x.stands c gives u t permanent h).0
  by_found number verdict permanent x probe.Gone is u same h = Not_found number verdict permanent x (inl (is, h.0))
  by_found number verdict permanent x probe.Failed is u same h = Not_found number verdict permanent x (inr (is, h.0))

  ends_there : (number : ℕ) (verdict : Target) (permanent : Bool) (x : Standing) (count : ℕ) (q : Probe) (u : S) → numbered number d.sweep.standings ≡ Some x → Runs gives u (by_probe d.sweep.judge number verdict permanent x count q) c t → t ≡ u
  ends_there number verdict permanent x count (probe.Alive on) u stands h = (by_permanent_asked d number verdict on x stands c gives u t permanent h).1
  ends_there number verdict permanent x count probe.Gone u stands h = h.1
  ends_there number verdict permanent x count probe.Failed u stands h = h.1

  by_standing_asked : (number : ℕ) (verdict : Target) (permanent : Bool) (o : Option Standing) → numbered number d.sweep.standings ≡ o → request_read line ≡ Ok (request.Device number verdict permanent) → is_granted d.access who (needs (request.Device number verdict permanent)) ≡ true → Runs gives s (by_standing d.sweep.judge number verdict permanent o) c t → It
  by_standing_asked number verdict permanent None at reads granted h = facts (request.Device number verdict permanent) reads granted (refusal.NoDevice number) (No_device number verdict permanent at) refl h
  by_standing_asked number verdict permanent (Some x) at reads granted h =
      let same : t ≡ h.1 = ends_there number verdict permanent x h.0.count h.0.answer h.1 at h.3 in
      by_found number verdict permanent (record {
        reads = reads;
        granted = granted;
        standing = x;
        stands = at;
        found = h.0;
        probed = subst (λ (u : S). gives s (Ask_alive x.held.0) h.0 u) (sym same) h.2;
      }) h.0.answer refl h.1 same h.3

  by_name_asked : (name : List ℕ) (o : Option ParameterName) → parameter_of name ≡ o → request_read line ≡ Ok (request.GetParameter name) → is_granted d.access who (needs (request.GetParameter name)) ≡ true → Runs gives s (by_name d.sweep.judge.classes o) c t → It
  by_name_asked name None at reads granted h = facts (request.GetParameter name) reads granted refusal.BadParameter (No_parameter name at) refl h
  by_name_asked name (Some set) at reads granted h = tells_rows (request.GetParameter name) reads granted (value_word (parameter_at set d.sweep.judge.classes) ∷ []) refl (Value name set at) refl h.0 h.1

  by_value_asked : (name value : List ℕ) (set : ParameterName) (o : Option Parameter) → parameter_of name ≡ Some set → parameter_with set value ≡ o → request_read line ≡ Ok (request.SetParameter name value) → is_granted d.access who (needs (request.SetParameter name value)) ≡ true → (c ≡ by_value o) × (t ≡ s) → It
  by_value_asked name value set None at with reads granted h = facts (request.SetParameter name value) reads granted refusal.BadValue (No_value name value set at with) refl h
  by_value_asked name value set (Some to) at with reads granted h =
      chooses (request.SetParameter name value) reads granted (outcome_of_change d (Set to)) (changing (Set to) (deed.Tell [])) refl
      (Changes (request.SetParameter name value) (Set to) refl (ap (λ (o : Option ParameterName). setting_asked o value) at ∙ ap (λ (o : Option Parameter). option_map Set o) with))
      (sym (ap (λ (o : Option ParameterName). setting_asked o value) at ∙ ap (λ (o : Option Parameter). option_map Set o) with)) (Told_change (Set to) tt) h

  by_setting_asked : (name value : List ℕ) (o : Option ParameterName) → parameter_of name ≡ o → request_read line ≡ Ok (request.SetParameter name value) → is_granted d.access who (needs (request.SetParameter name value)) ≡ true → (c ≡ by_setting o value) × (t ≡ s) → It
  by_setting_asked name value None at reads granted h = facts (request.SetParameter name value) reads granted refusal.BadParameter (No_setting name value at) refl h
  by_setting_asked name value (Some set) at reads granted h = by_value_asked name value set (parameter_with set value) at refl reads granted h

  by_id_asked : (id : ℕ) (there : Bool) → has_rule id d.sweep.judge.rules ≡ there → request_read line ≡ Ok (request.RemoveRule id) → is_granted d.access who (needs (request.RemoveRule id)) ≡ true → (c ≡ unless (first_of (cond there None (Some (refusal.NoRule id))) (if_barred (has_folder_rule id d.sweep.judge.rules) id)) (changing (Rules (Remove id)) (deed.Tell []))) × (t ≡ s) → It
  by_id_asked id false at reads granted h = facts (request.RemoveRule id) reads granted (refusal.NoRule id) (No_rule id at) refl h
  by_id_asked id true at reads granted h = by_folder (has_folder_rule id d.sweep.judge.rules) refl h
    where
      by_folder : (b : Bool) → has_folder_rule id d.sweep.judge.rules ≡ b → (c ≡ unless (if_barred b id) (changing (Rules (Remove id)) (deed.Tell []))) × (t ≡ s) → It
      by_folder true own k = facts (request.RemoveRule id) reads granted (refusal.FolderRule id) (Of_folder id own) refl k
      by_folder false own k = chooses (request.RemoveRule id) reads granted (outcome_of_change d (Rules (Remove id))) (changing (Rules (Remove id)) (deed.Tell [])) refl (Changes (request.RemoveRule id) (Rules (Remove id)) refl refl) refl (Told_change (Rules (Remove id)) (rule_there id d.sweep.judge.rules at, own)) k

  module _ (place : After) (permanent : Bool) (text : List ℕ) (reads : request_read line ≡ Ok (request.AppendRule place permanent text)) (granted : is_granted d.access who (needs (request.AppendRule place permanent text)) ≡ true) where
    abbrev Added : Rule → Change
    Added rule = Rules (Insert place rule (ordered_mark permanent))

    by_few_asked : (rule : Rule) (b : Bool) → nat_lt (length d.sweep.judge.rules) most_rules ≡ b → rule_read text ≡ Ok rule → IsOpen place (ordered_mark permanent) d.sweep.judge.rules → (c ≡ unless (cond b None (Some refusal.RulesFull)) (changing (Added rule) (deed.Tell (change_lines (Added rule) d.sweep.judge.next)))) × (t ≡ s) → It
    by_few_asked rule false few read there h = facts (request.AppendRule place permanent text) reads granted refusal.RulesFull (Full place permanent text rule read there (full_from (length d.sweep.judge.rules) few)) refl h
    by_few_asked rule true few read there h =
        chooses (request.AppendRule place permanent text) reads granted (outcome_of_change d (Added rule)) (changing (Added rule) (deed.Tell (change_lines (Added rule) d.sweep.judge.next))) refl
        (Changes (request.AppendRule place permanent text) (Added rule) refl (ap (λ (r : Result Rule Fault). rule_asked place permanent r) read))
        (sym (ap (λ (r : Result Rule Fault). rule_asked place permanent r) read)) (Told_change (Added rule) (there.0, few_below (length d.sweep.judge.rules) few, there.1)) h

  -- behind a rule that is there: a temporary one, and a permanent one by what stands behind it
  by_kind_asked : (id : ℕ) (permanent : Bool) (text : List ℕ) (rule : Rule) → rule_read text ≡ Ok rule → request_read line ≡ Ok (request.AppendRule (after.Rule id) permanent text) → is_granted d.access who (needs (request.AppendRule (after.Rule id) permanent text)) ≡ true → Has (ids d.sweep.judge.rules) id → (c ≡ unless (first_of (if_barred (is_permanent (ordered_mark permanent) && folder_behind id d.sweep.judge.rules) id) (if_few d.sweep.judge.rules)) (changing (Rules (Insert (after.Rule id) rule (ordered_mark permanent))) (deed.Tell (change_lines (Rules (Insert (after.Rule id) rule (ordered_mark permanent))) d.sweep.judge.next)))) × (t ≡ s) → It
  by_kind_asked id false text rule read reads granted there h = by_few_asked (after.Rule id) false text reads granted rule (nat_lt (length d.sweep.judge.rules) most_rules) refl read (there, tt) h
  by_kind_asked id true text rule read reads granted there h = by_folder (folder_behind id d.sweep.judge.rules) refl h
    where
      by_folder : (b : Bool) → folder_behind id d.sweep.judge.rules ≡ b → (c ≡ unless (first_of (if_barred b id) (if_few d.sweep.judge.rules)) (changing (Rules (Insert (after.Rule id) rule (ordered_mark true))) (deed.Tell (change_lines (Rules (Insert (after.Rule id) rule (ordered_mark true))) d.sweep.judge.next)))) × (t ≡ s) → It
      by_folder true own k = facts (request.AppendRule (after.Rule id) true text) reads granted (refusal.FolderRule id) (Before_folder id text rule read there own) refl k
      by_folder false own k = by_few_asked (after.Rule id) true text reads granted rule (nat_lt (length d.sweep.judge.rules) most_rules) refl read (there, own) k

  by_place_asked : (place : After) (permanent : Bool) (text : List ℕ) (rule : Rule) → rule_read text ≡ Ok rule → request_read line ≡ Ok (request.AppendRule place permanent text) → is_granted d.access who (needs (request.AppendRule place permanent text)) ≡ true → (c ≡ by_rule d.sweep.judge place permanent (Ok rule)) × (t ≡ s) → It
  by_place_asked after.End permanent text rule read reads granted h = by_few_asked after.End permanent text reads granted rule (nat_lt (length d.sweep.judge.rules) most_rules) refl read (tt, open_order after.End permanent d.sweep.judge.rules tt) h
  by_place_asked after.Front permanent text rule read reads granted h = by_few_asked after.Front permanent text reads granted rule (nat_lt (length d.sweep.judge.rules) most_rules) refl read (tt, open_order after.Front permanent d.sweep.judge.rules tt) h
  by_place_asked (after.Rule id) permanent text rule read reads granted h = by_there (has_rule id d.sweep.judge.rules) refl h
    where
      by_there : (b : Bool) → has_rule id d.sweep.judge.rules ≡ b → (c ≡ unless (first_of (first_of (cond b None (Some (refusal.NoRule id))) (if_barred (is_permanent (ordered_mark permanent) && folder_behind id d.sweep.judge.rules) id)) (if_few d.sweep.judge.rules)) (changing (Rules (Insert (after.Rule id) rule (ordered_mark permanent))) (deed.Tell (change_lines (Rules (Insert (after.Rule id) rule (ordered_mark permanent))) d.sweep.judge.next)))) × (t ≡ s) → It
      by_there false at k = facts (request.AppendRule (after.Rule id) permanent text) reads granted (refusal.NoRule id) (No_place id permanent text rule read at) refl k
      by_there true at k = by_kind_asked id permanent text rule read reads granted (rule_there id d.sweep.judge.rules at) k

  by_rule_asked : (place : After) (permanent : Bool) (text : List ℕ) (b : Bool) → request_read line ≡ Ok (request.AppendRule place permanent text) → is_granted d.access who (needs (request.AppendRule place permanent text)) ≡ true → Runs gives s (if_rule_read d.sweep.judge place permanent text b) c t → It
  by_rule_asked place permanent text false reads granted h = refuses (refusal.Memory false) No_memory refl h
  by_rule_asked place permanent text true reads granted h = by_read (rule_read text) refl h
    where
      by_read : (r : Result Rule Fault) → rule_read text ≡ r → (c ≡ by_rule d.sweep.judge place permanent r) × (t ≡ s) → It
      by_read (Err bad) read k = facts (request.AppendRule place permanent text) reads granted (refusal.BadRule (kind_number bad.kind) bad.place) (Bad_rule place permanent text bad read) refl k
      by_read (Ok rule) read k = by_place_asked place permanent text rule read reads granted k

  granted_asked : (asked : Request) → request_read line ≡ Ok asked → is_granted d.access who (needs asked) ≡ true → Runs gives s (asking_of d asked) c t → It
  granted_asked (request.GetParameter name) reads granted h = by_name_asked name (parameter_of name) refl reads granted h
  granted_asked (request.SetParameter name value) reads granted h = by_setting_asked name value (parameter_of name) refl reads granted h
  granted_asked request.ListDevices reads granted h = tells_rows request.ListDevices reads granted (device_rows d.sweep.standings) refl Devices refl h.0 h.1
  granted_asked (request.Device number verdict permanent) reads granted h = by_standing_asked number verdict permanent (numbered number d.sweep.standings) refl reads granted h
  granted_asked request.ListRules reads granted h = tells_rows request.ListRules reads granted (rule_rows d.sweep.judge.rules) refl List_rules refl h.0 h.1
  granted_asked (request.AppendRule place permanent text) reads granted h = by_rule_asked place permanent text h.0 reads granted h.1
  granted_asked (request.RemoveRule id) reads granted h = by_id_asked id (has_rule id d.sweep.judge.rules) refl reads granted h
  granted_asked request.Watch reads granted h = chooses request.Watch reads granted (record { lines = []; change = None; watches = true }) (only deed.Watch) refl Watches refl Told_watch h

  by_request_asked : (read : Result Request ℕ) → request_read line ≡ read → Runs gives s (by_request d who read) c t → It
  by_request_asked (Err place) reads h = refuses (refusal.BadRequest place) (Unread place reads) refl h
  by_request_asked (Ok asked) reads h = by_denied (denied_of d.access who (needs asked)) refl h
    where
      by_denied : (o : Option Refusal) → denied_of d.access who (needs asked) ≡ o → Runs gives s (if_granted o (asking_of d asked)) c t → It
      by_denied (Some refused) is k = refuses refused (Denied asked refused reads is) (denied_silent d.access who asked refused is) k
      by_denied None is k = granted_asked asked reads (undenied_by d.access who asked is) k

  asked_so : Runs gives s (asking d who line) c t → It
  unfolding asking
  asked_so h = by_room h.0 h.1
    where
      by_room : (b : Bool) → Runs gives s (if_read d who line b) c t → It
      by_room true k = by_request_asked (request_read line) refl k
      by_room false k = refuses (refusal.Memory false) No_memory refl k

pub asked_of : {S : Type 0} (gives : S → (call : Call) → Answer call → S → Type 0) (who : Named) (line : List ℕ) (d : DaemonState) (c : Choice) (s t : S) → Runs gives s (asking d who line) c t → Asked gives who line d c s t
asked_of gives who line d c s t h = asked_so gives who line d c s t h

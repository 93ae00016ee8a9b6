-- An event keeps the rules of the folder, and what it writes leaves room for them.
use Rattle.std.proofs.Common.{◌≡◌, ℕ, ◌+◌, ◌≤◌, ◌⊎◌, Bool, true, false, not, ◌&&◌, ◌||◌, cond, if◌then◌else◌, zero, suc, List, [], ◌∷◌, ◌++◌, filter, flat_map, length, map, Option, Some, None, Result, Ok, Err, inl, inr, refl, sym, ap, subst, ◌∙◌, arith}
use Rattle.std.specs.Option.{option_map}
use Rattle.std.specs.List.{insert}
use Rattle.ug_types.specs.Elements.{Has}
use Rattle.ug_types.specs.Principals.{Named}
use Rattle.ug_types.specs.declared.record.Judged.{Judged}
use Rattle.ug_types.specs.declared.record.Judged.TheVariants as judged
use Rattle.ug_types.specs.declared.rule.After.{After}
use Rattle.ug_types.specs.declared.rule.After.TheVariants as after
use Rattle.ug_types.specs.declared.rule.Rule as types
use Rattle.ug_types.specs.declared.verdict.Moment.{Moment}
use Rattle.ug_types.specs.declared.verdict.Target.{Target}
use Rattle.ug_types.specs.Parameters.{parameter_of, parameter_with}
use Rattle.ug_types.specs.declared.parameter.Parameter.{Parameter}
use Rattle.ug_types.specs.declared.parameter.ParameterName.{ParameterName}
use Rattle.ug_kernel.specs.Calls.{Call, Answer, ToldAnswer}
use Rattle.ug_kernel.specs.declared.calls.Probe.{Probe}
use Rattle.ug_kernel.specs.Tree.{Runs}
use Rattle.ug_policy.specs.Edits.{at_front, followed, has_id, inserted, new_entry, removed, retargeted, aimed}
use Rattle.ug_policy.specs.Marks.{folder_end, is_folder, is_permanent}
use Rattle.ug_policy.specs.Rules.{IsNumbered, ids, marks}
use Rattle.ug_policy.specs.declared.entry.Mark.{Mark}
use Rattle.ug_policy.specs.declared.entry.Mark.TheVariants as mark
use Rattle.ug_policy.specs.declared.entry.RuleEntry.{RuleEntry}
use Rattle.ug_rule.specs.Files.{file_read}
use Rattle.ug_rule.specs.Rules.{rule_read}
use Rattle.ug_rule.specs.declared.fault.Fault.{Fault}
use Rattle.ug_ruleset.specs.RuleEdits.{CanEdit, edited_by}
use Rattle.ug_ruleset.specs.RuleFile.{IsRuleFile, as_given, permanent_rules, permanent_text}
use Rattle.ug_ruleset.specs.RulePlaces.{has_folder_rule, made_rule}
use Rattle.ug_ruleset.specs.declared.edit.Edit.{Edit}
use Rattle.ug_ruleset.specs.declared.edit.Edit.TheVariants.{Insert, Remove, Retarget}
use Rattle.ug_proto.specs.Privileges.{needs}
use Rattle.ug_proto.specs.Requests.{request_read}
use Rattle.ug_proto.specs.declared.request.Request.{Request}
use Rattle.ug_proto.specs.declared.request.Request.TheVariants as request
use Rattle.ug_store.specs.DiskCalls.{DiskCall, DiskTold}
use Rattle.ug_table.specs.Standings.{numbered}
use Rattle.ug_table.specs.declared.standing.Standing.{Standing}
use Rattle.ug_types.specs.declared.saved.Saved.{Saved}
use Rattle.ug_core.specs.Changes.{CanChange, ChangeSaves, change_asked, changed_by, edit_for, is_saved, ordered_mark, record_change, rule_asked, setting_asked, standing_change, text_if_saved, text_to_save}
use Rattle.ug_core.specs.Durable.{WritesEvent, as_list, change_ordered, if_written, text_of_change, texts_of}
use Rattle.ug_core.specs.Event.{DaemonState, handling, ready}
use Rattle.ug_core.specs.Laws.{Outcome, RunsAnswer, if_watching}
use Rattle.ug_core.specs.Policy.{Judging}
use Rattle.ug_core.specs.Privileges.{is_granted}
use Rattle.ug_core.specs.Storing.{WritesRules, has_written, noted_store, with_changes}
use Rattle.ug_core.specs.declared.changes.Change.{Change}
use Rattle.ug_core.specs.declared.changes.Change.TheVariants.{Rules, Set}
use Rattle.ug_core.specs.declared.choosing.Choice.{Choice}
use Rattle.ug_types.specs.declared.event.Event.{Event}
use Rattle.ug_types.specs.declared.event.Event.TheVariants.{Sweep, Order, Hint}
use Rattle.ug_core.specs.declared.storing.Stored.{Stored}
use Rattle.ug_core.specs.declared.storing.Stored.TheVariants as stored
use Rattle.ug_core.proofs.Asked.{Asked, CanMade, Chosen, Chosen_first, Found, FoundSo, Missing, Not_found, Refused_first, Refused_so, Set_so, Told_change, Told_lines, Told_watch, asked_of}
use Rattle.ug_core.proofs.Came.{StoresAs, At_first, At_last, At_once, At_probe, Came, Sets, came_so, stores_as}
use Rattle.ug_core.proofs.Changed.{numbered_changed}
use Rattle.ug_core.proofs.Kept.{asked_anytime}
use Rattle.ug_core.proofs.Plain.{event_keeps_rules}
use Rattle.ug_script.proofs.HintsRead.{meets_judge}
use Rattle.ug_script.specs.RuleFiles.{HasFolder}
use Rattle.ug_script.proofs.Filed.{KeepsFolder, among}
use Rattle.ug_script.proofs.Setups.{folder_in}

-- ---- how many marks are the folder's

abbrev weigh : Mark → ℕ
weigh m = if is_folder m then 1 else 0

abbrev folders : List Mark → ℕ
folders [] = 0
folders (m ∷ ms) = weigh m + folders ms

light : (m : Mark) → is_folder m ≡ false → weigh m ≡ 0
light m h = ap (λ (b : Bool). if b then 1 else 0) h

folder_count : (es : List RuleEntry) → length (folder_in es) ≡ folders (marks es)
folder_count [] = refl
folder_count (e ∷ es) = by e.mark (folder_count es)
  where
    by : (m : Mark) → length (folder_in es) ≡ folders (marks es) → length (map (λ (e : RuleEntry). e.rule) (cond (is_folder m) (e ∷ filter (λ (e : RuleEntry). is_folder e.mark) es) (filter (λ (e : RuleEntry). is_folder e.mark) es))) ≡ weigh m + folders (marks es)
    by mark.Folder h = omega (arith, h)
    by mark.File h = omega (arith, h)
    by mark.Temporary h = omega (arith, h)

-- rules that were given alike have the same ids and marks

given_marks : (es : List RuleEntry) → marks (as_given es) ≡ marks es
given_marks [] = refl
given_marks (e ∷ es) = ap (λ (ms : List Mark). e.mark ∷ ms) (given_marks es)

given_ids : (es : List RuleEntry) → ids (as_given es) ≡ ids es
given_ids [] = refl
given_ids (e ∷ es) = ap (λ (ns : List ℕ). e.id ∷ ns) (given_ids es)

same_marks : (es fs : List RuleEntry) → as_given es ≡ as_given fs → marks es ≡ marks fs
same_marks es fs h = sym (given_marks es) ∙ ap (λ (l : List RuleEntry). marks l) h ∙ given_marks fs

-- ---- edits

append_folder : (es : List RuleEntry) (y : RuleEntry) → is_folder y.mark ≡ false → folders (marks (es ++ y ∷ [])) ≡ folders (marks es)
append_folder [] y h = omega (arith, light y.mark h)
append_folder (e ∷ es) y h = omega (arith, append_folder es y h)

insert_folder : (es : List RuleEntry) (i : ℕ) (y : RuleEntry) → is_folder y.mark ≡ false → folders (marks (insert es i y)) ≡ folders (marks es)
insert_folder [] zero y h = omega (arith, light y.mark h)
insert_folder [] (suc i) y h = omega (arith, light y.mark h)
insert_folder (e ∷ es) zero y h = omega (arith, light y.mark h)
insert_folder (e ∷ es) (suc i) y h = ap (λ (n : ℕ). weigh e.mark + n) (insert_folder es i y h)

behind_folder : (id : ℕ) (y : RuleEntry) (es : List RuleEntry) → is_folder y.mark ≡ false → folders (marks (flat_map (followed id y) es)) ≡ folders (marks es)
behind_folder id y [] h = refl
behind_folder id y (e ∷ es) h = by (has_id id e) (behind_folder id y es h)
  where
    by : (b : Bool) → folders (marks (flat_map (followed id y) es)) ≡ folders (marks es) → folders (marks ((if b then e ∷ y ∷ [] else e ∷ []) ++ flat_map (followed id y) es)) ≡ folders (marks (e ∷ es))
    by true k = omega (arith, k, light y.mark h)
    by false k = omega (arith, k)

front_folder : (y : RuleEntry) (es : List RuleEntry) → is_folder y.mark ≡ false → folders (marks (at_front y es)) ≡ folders (marks es)
front_folder y es h = by (is_permanent y.mark)
  where
    by : (b : Bool) → folders (marks (if b then insert es (folder_end (marks es)) y else y ∷ es)) ≡ folders (marks es)
    by true = insert_folder es (folder_end (marks es)) y h
    by false = omega (arith, light y.mark h)

inserted_folder : (place : After) (y : RuleEntry) (es : List RuleEntry) → is_folder y.mark ≡ false → folders (marks (inserted place y es)) ≡ folders (marks es)
inserted_folder after.End y es h = append_folder es y h
inserted_folder after.Front y es h = front_folder y es h
inserted_folder (after.Rule id) y es h = behind_folder id y es h

neither : (a b : Bool) → (a || b) ≡ false → (a ≡ false) × (b ≡ false)
neither false b e = (refl, e)
neither true b e = let none : ⊥ = cc in absurd none

removed_folder : (id : ℕ) (es : List RuleEntry) → has_folder_rule id es ≡ false → folders (marks (removed id es)) ≡ folders (marks es)
removed_folder id [] h = refl
removed_folder id (e ∷ es) h =
    let k = neither (has_id id e && is_folder e.mark) (has_folder_rule id es) h in
    by (has_id id e) k.0 (removed_folder id es k.1)
  where
    by : (b : Bool) → (b && is_folder e.mark) ≡ false → folders (marks (removed id es)) ≡ folders (marks es) → folders (marks (cond (not b) (e ∷ removed id es) (removed id es))) ≡ weigh e.mark + folders (marks es)
    by true k rest = omega (arith, rest, light e.mark k)
    by false k rest = omega (arith, rest)

retargeted_marks : (id : ℕ) (target : Target) (es : List RuleEntry) → marks (retargeted id target es) ≡ marks es
retargeted_marks id target [] = refl
retargeted_marks id target (e ∷ es) = by (has_id id e) ∙ ap (λ (ms : List Mark). e.mark ∷ ms) (retargeted_marks id target es)
  where
    by : (b : Bool) → (if b then aimed target e else e).mark ∷ marks (retargeted id target es) ≡ e.mark ∷ marks (retargeted id target es)
    by true = refl
    by false = refl

-- it puts no rule of the folder
abbrev NotOfFolder : Edit → Type 0
NotOfFolder (Insert place rule whose) = is_folder whose ≡ false
NotOfFolder (Remove id) = Unit {0}
NotOfFolder (Retarget id rule) = Unit {0}

edited_folder : (edit : Edit) (next : ℕ) (es : List RuleEntry) → NotOfFolder edit → CanEdit edit es → folders (marks (edited_by edit next es)) ≡ folders (marks es)
edited_folder (Insert place rule whose) next es quiet can = inserted_folder place (new_entry next rule whose) es quiet
edited_folder (Remove id) next es quiet can = removed_folder id es can.1
edited_folder (Retarget id rule) next es quiet can = ap (λ (ms : List Mark). folders ms) (retargeted_marks id rule.target es)

-- ---- what is asked for

abbrev Keeping : Option Change → Type 0
Keeping None = Unit {0}
Keeping (Some (Rules edit)) = NotOfFolder edit
Keeping (Some (Set set)) = Unit {0}

ordered_file : (permanent : Bool) → is_folder (ordered_mark permanent) ≡ false
ordered_file true = refl
ordered_file false = refl

rule_keeping : (place : After) (permanent : Bool) (read : Result types.Rule Fault) → Keeping (rule_asked place permanent read)
rule_keeping place permanent (Ok rule) = ordered_file permanent
rule_keeping place permanent (Err bad) = tt

set_keeping : (o : Option Parameter) → Keeping (option_map Set o)
set_keeping (Some set) = tt
set_keeping None = tt

setting_keeping : (name : Option ParameterName) (value : List ℕ) → Keeping (setting_asked name value)
setting_keeping (Some name) value = set_keeping (parameter_with name value)
setting_keeping None value = tt

record_keeping : (it : Judged) (verdict : Target) (p : Judging) → Keeping (record_change it verdict p)
record_keeping (judged.Malformed kind place) verdict p = tt
record_keeping (judged.Good device) verdict p = by (made_rule device p.classes.with_port p.rules)
  where
    by : (o : Option ℕ) → NotOfFolder (edit_for device p.classes.with_port verdict o)
    by (Some id) = tt
    by None = refl

standing_keeping : (o : Option Standing) (verdict : Target) (p : Judging) → Keeping (standing_change o verdict p)
standing_keeping (Some s) verdict p = record_keeping s.judged verdict p
standing_keeping None verdict p = tt

asked_keeping : (ss : List Standing) (p : Judging) (read : Result Request ℕ) → Keeping (change_asked ss p read)
asked_keeping ss p (Ok (request.Device number verdict true)) = standing_keeping (numbered number ss) verdict p
asked_keeping ss p (Ok (request.Device number verdict false)) = tt
asked_keeping ss p (Ok (request.GetParameter name)) = tt
asked_keeping ss p (Ok (request.SetParameter name value)) = setting_keeping (parameter_of name) value
asked_keeping ss p (Ok request.ListDevices) = tt
asked_keeping ss p (Ok request.ListRules) = tt
asked_keeping ss p (Ok (request.AppendRule place permanent text)) = rule_keeping place permanent (rule_read text)
asked_keeping ss p (Ok (request.RemoveRule id)) = tt
asked_keeping ss p (Ok request.Watch) = tt
asked_keeping ss p (Err place) = tt

-- ---- what is chosen

-- the change can be made, and it is the one that the order asks for
record Orders (who : Named) (line : List ℕ) (d : DaemonState) (change : Change) : Type 0 where
  can : CanChange change d.sweep.judge.rules
  asks : change_ordered who d (request_read line) ≡ Some change

abbrev OrdersIf : Named → List ℕ → DaemonState → Option Change → Type 0
OrdersIf who line d None = Unit {0}
OrdersIf who line d (Some change) = Orders who line d change

ordered_so : (who : Named) (line : List ℕ) (d : DaemonState) (asked : Request) (change : Option Change) → request_read line ≡ Ok asked → is_granted d.access who (needs asked) ≡ true → change ≡ change_asked d.sweep.standings d.sweep.judge (Ok asked) → change_ordered who d (request_read line) ≡ change
ordered_so who line d asked change reads granted asks =
    ap (λ (r : Result Request ℕ). change_ordered who d r) reads
    ∙ ap (λ (b : Bool). cond b (change_asked d.sweep.standings d.sweep.judge (Ok asked)) None) granted
    ∙ sym asks

module _ {S : Type 0} (gives : S → (call : Call) → Answer call → S → Type 0) (who : Named) (line : List ℕ) (d : DaemonState) where
  chosen_orders : (asked : Request) (outcome : Outcome) (c : Choice) → request_read line ≡ Ok asked → is_granted d.access who (needs asked) ≡ true → outcome.change ≡ change_asked d.sweep.standings d.sweep.judge (Ok asked) → Chosen d outcome c → OrdersIf who line d c.change
  chosen_orders asked _ _ reads granted asks (Told_lines rows) = tt
  chosen_orders asked _ _ reads granted asks (Told_change change can) = record { can = can; asks = ordered_so who line d asked (Some change) reads granted asks }
  chosen_orders asked _ _ reads granted asks Told_watch = tt

  set_orders : (asked : Request) (change : Option Change) → request_read line ≡ Ok asked → is_granted d.access who (needs asked) ≡ true → change ≡ change_asked d.sweep.standings d.sweep.judge (Ok asked) → CanMade d.sweep.judge.rules change → OrdersIf who line d change
  set_orders asked None reads granted asks can = tt
  set_orders asked (Some change) reads granted asks can = record { can = can; asks = ordered_so who line d asked (Some change) reads granted asks }

  of_choice : (c made : Choice) → c ≡ made → OrdersIf who line d made.change → OrdersIf who line d c.change
  of_choice c made is h = subst (λ (x : Choice). OrdersIf who line d x.change) (sym is) h

  found_orders : (number : ℕ) (verdict : Target) (permanent on : Bool) (c : Choice) → request_read line ≡ Ok (request.Device number verdict permanent) → is_granted d.access who (needs (request.Device number verdict permanent)) ≡ true → FoundSo d number verdict permanent on c → OrdersIf who line d c.change
  found_orders number verdict permanent on c reads granted (Set_so change asks some can is) = of_choice c _ is (set_orders (request.Device number verdict permanent) change reads granted asks can)
  found_orders number verdict permanent on c reads granted (Refused_so r why told is) = of_choice c _ is tt

  missing_orders : (number : ℕ) (found : ToldAnswer Probe) (c : Choice) → Missing number found c → OrdersIf who line d c.change
  missing_orders number found c (inl h) = of_choice c _ h.1 tt
  missing_orders number found c (inr h) = of_choice c _ h.1 tt

  asked_orders : (c : Choice) (s t : S) → Asked gives who line d c s t → OrdersIf who line d c.change
  asked_orders c s t (Refused_first r why told is same) = of_choice c _ is tt
  asked_orders c s t (Chosen_first x same) = of_choice c x.chosen x.is (chosen_orders x.asked x.outcome x.chosen x.reads x.granted x.asks x.how)
  asked_orders c s t (Not_found number verdict permanent x missing) = missing_orders number x.found c missing
  asked_orders c s t (Found number verdict permanent on x alive so) = found_orders number verdict permanent on c x.reads x.granted so

  -- ---- what the order leaves

  noted_judge : (became : Stored) (d : DaemonState) → (noted_store became d).sweep.judge ≡ d.sweep.judge
  noted_judge stored.NotNeeded d = refl
  noted_judge stored.Done d = refl
  noted_judge (stored.Failed count) d = refl
  noted_judge stored.TooLong d = refl
  noted_judge stored.Memory d = refl

  changed_judge : (change : Option Change) (became : Stored) → (with_changes change (noted_store became d)).sweep.judge ≡ (with_changes change d).sweep.judge
  changed_judge None became = noted_judge became d
  changed_judge (Some change) became = ap (λ (p : Judging). changed_by change p) (noted_judge became d)

  watched_judge : (watches : Bool) (e : DaemonState) → (if_watching watches e).sweep.judge ≡ e.sweep.judge
  watched_judge true e = refl
  watched_judge false e = refl

  -- the policy is as it was, or has the change
  abbrev Leaves : Option Change → DaemonState → Type 0
  Leaves change a = (a.sweep.judge ≡ d.sweep.judge) ⊎ (a.sweep.judge ≡ (with_changes change d).sweep.judge)

  came_leaves : (change : Option Change) (became : Stored) (s t : S) (a : DaemonState) → Came gives who line d change became s t a → Leaves change a
  came_leaves change became s t a (At_first r why told none unsaved same state) = inl (ap (λ (x : DaemonState). x.sweep.judge) state ∙ noted_judge became d)
  came_leaves change became s t a (At_once x is same) =
      inr (ap (λ (y : DaemonState). y.sweep.judge) x.state
      ∙ watched_judge x.outcome.watches _
      ∙ changed_judge x.outcome.change became
      ∙ ap (λ (o : Option Change). (with_changes o d).sweep.judge) is)
  came_leaves change became s t a (At_probe number verdict permanent x r found none unsaved state) = inl (ap (λ (x : DaemonState). x.sweep.judge) state ∙ noted_judge became d)
  came_leaves change became s t a (At_last asked goes r refuses told unless state) = inl (ap (λ (x : DaemonState). x.sweep.judge) state ∙ noted_judge became d)
  came_leaves change became s t a (Sets x) = inr (ap (λ (y : DaemonState). y.sweep.judge) x.state ∙ changed_judge change became)

  count_judge : (p q : Judging) → p ≡ q → folders (marks p.rules) ≡ folders (marks q.rules)
  count_judge p q e = ap (λ (j : Judging). folders (marks j.rules)) e

  asked_keeps : (change : Option Change) → OrdersIf who line d change → Keeping change
  asked_keeps None h = tt
  asked_keeps (Some change) h = by (request_read line) h.asks
    where
      by : (r : Result Request ℕ) → change_ordered who d r ≡ Some change → Keeping (Some change)
      by (Err place) e = let none : ⊥ = cc in absurd none
      by (Ok asked) e = granted (is_granted d.access who (needs asked)) e
        where
          granted : (b : Bool) → cond b (change_asked d.sweep.standings d.sweep.judge (Ok asked)) None ≡ Some change → Keeping (Some change)
          granted true k = subst Keeping k (asked_keeping d.sweep.standings d.sweep.judge (Ok asked))
          granted false k = let none : ⊥ = cc in absurd none

  with_count : (change : Option Change) → OrdersIf who line d change → folders (marks (with_changes change d).sweep.judge.rules) ≡ folders (marks d.sweep.judge.rules)
  with_count None h = refl
  with_count (Some (Set set)) h = refl
  with_count (Some (Rules edit)) h = edited_folder edit d.sweep.judge.next d.sweep.judge.rules (asked_keeps (Some (Rules edit)) h) h.can

  leaves_count : (change : Option Change) (a : DaemonState) → OrdersIf who line d change → Leaves change a → folders (marks a.sweep.judge.rules) ≡ folders (marks d.sweep.judge.rules)
  leaves_count change a orders (inl same) = count_judge a.sweep.judge d.sweep.judge same
  leaves_count change a orders (inr new) = count_judge a.sweep.judge (with_changes change d).sweep.judge new ∙ with_count change orders

-- the change of an order, if it has one
module _ {S T : Type 0} (gives : S → (call : Call) → Answer call → S → Type 0) (keeps : T → (call : DiskCall) → DiskTold call → T → Type 0) where
  answer_count : (event : Event) (s : S) (o : T) (d : DaemonState) (became : Stored) (t : S) (p : T) (a : DaemonState) → RunsAnswer gives keeps event s o d became t p a → folders (marks a.sweep.judge.rules) ≡ folders (marks d.sweep.judge.rules)
  answer_count (Sweep moment) s o d became t p a h = ap (λ (x : DaemonState). folders (marks x.sweep.judge.rules)) h.3
  answer_count (Hint moment piece) s o d became t p a h = ap (λ (j : Judging). folders (marks j.rules)) (meets_judge piece d a h.3)
  answer_count (Order moment who line) s o d became t p a h =
      let orders = asked_orders gives who line d h.choice s h.behind (asked_of gives who line d h.choice s h.behind h.asks) in
      let came = came_so gives who line d became s h.behind t a h.choice h.asks (stores_as keeps o d h.choice.change became p h.stores) h.acts in
      leaves_count gives who line d h.choice.change a orders (came_leaves gives who line d h.choice.change became s t a came)

  -- ---- what is written

  in_text : (became : Stored) (o : Option (List ℕ)) (c : List ℕ) → Has (if_written became (as_list o)) c → (o ≡ Some c) × (has_written became ≡ true)
  in_text stored.NotNeeded o c h = absurd h
  in_text stored.TooLong o c h = absurd h
  in_text stored.Memory o c h = absurd h
  in_text stored.Done None c h = absurd h
  in_text stored.Done (Some text) c (inl e) = (ap (λ (t : List ℕ). Some t) e, refl)
  in_text stored.Done (Some text) c (inr e) = absurd e
  in_text (stored.Failed count) None c h = absurd h
  in_text (stored.Failed count) (Some text) c (inl e) = (ap (λ (t : List ℕ). Some t) e, refl)
  in_text (stored.Failed count) (Some text) c (inr e) = absurd e

  nothing_written : (became : Stored) (texts : List (List ℕ)) (c : List ℕ) → became ≡ stored.NotNeeded → Has (if_written became texts) c → ⊥
  nothing_written became texts c none h = subst (λ (b : Stored). Has (if_written b texts) c) none h

  same_read : (rules others : List types.Rule) (c text : List ℕ) → c ≡ text → file_read c ≡ Ok rules → file_read text ≡ Ok others → rules ≡ others
  same_read rules others c text e h g =
      let k : Ok rules ≡ Ok others = sym h ∙ ap (λ (t : List ℕ). file_read t) e ∙ g in
      cc

  text_saved : (change : Change) (p : Judging) (c : List ℕ) → text_to_save change p ≡ Some c → c ≡ permanent_text (changed_by change p).rules
  text_saved change p c h = by (is_saved change p.rules) h
    where
      by : (b : Bool) → text_if_saved b change p ≡ Some c → c ≡ permanent_text (changed_by change p).rules
      by true k = cc
      by false k = let none : ⊥ = cc in absurd none

  written_few : (before : ℕ) (who : Named) (line : List ℕ) (d : DaemonState) (change : Change) (became : Stored) (c : List ℕ) (rules : List types.Rule) → Orders who line d change → IsNumbered d.sweep.judge.rules d.sweep.judge.next → length (folder_in d.sweep.judge.rules) ≡ before → (has_written became ≡ true → ChangeSaves change d.sweep.judge) → Has (if_written became (as_list (text_to_save change d.sweep.judge))) c → IsRuleFile rules c → before + length rules ≤ 65536
  written_few before who line d (Set set) became c rules orders numbered_all number saves has file =
      let k = in_text became (text_to_save (Set set) d.sweep.judge) c has in
      let none : ⊥ = cc in
      absurd none
  written_few before who line d (Rules edit) became c rules orders numbered_all number saves has file =
      let p : Judging = d.sweep.judge in
      let all : List RuleEntry = edited_by edit p.next p.rules in
      let k = in_text became (text_to_save (Rules edit) p) c has in
      let text : c ≡ permanent_text all = text_saved (Rules edit) p c k.0 in
      let same : rules ≡ permanent_rules all = same_read rules (permanent_rules all) c (permanent_text all) text file.reads (saves k.1).reads in
      let few : length all ≤ 65536 = (numbered_changed (Rules edit) p orders.can numbered_all).few in
      let keeping = asked_keeps gives who line d (Some (Rules edit)) orders in
      let count : folders (marks all) ≡ folders (marks p.rules) = edited_folder edit p.next p.rules keeping orders.can in
      let new : length (folder_in all) ≡ folders (marks all) = folder_count all in
      let old : length (folder_in p.rules) ≡ folders (marks p.rules) = folder_count p.rules in
      let both : length (folder_in all) + length (permanent_rules all) ≤ length all = among all in
      let long : length rules ≡ length (permanent_rules all) = ap (λ (l : List types.Rule). length l) same in
      omega (arith, few, count, new, old, both, long, number)

-- the order of an event is that of its state when it is ready
ready_orders : (moment : Moment) (who : Named) (line : List ℕ) (tried : Option Saved) (d : DaemonState) → change_ordered who (ready (Order moment who line) tried d) (request_read line) ≡ change_ordered who d (request_read line)
ready_orders moment who line tried d = by (request_read line)
  where
    by : (r : Result Request ℕ) → change_ordered who (ready (Order moment who line) tried d) r ≡ change_ordered who d r
    by (Err place) = refl
    by (Ok asked) = ap (λ (o : Option Change). cond (is_granted d.access who (needs asked)) o None) (asked_anytime d.sweep.standings d.sweep.judge (ready (Order moment who line) tried d).sweep.judge.ctx (Ok asked))

module _ {S T : Type 0} (gives : S → (call : Call) → Answer call → S → Type 0) (keeps : T → (call : DiskCall) → DiskTold call → T → Type 0) (before : ℕ) (tried : Option Saved) where
  -- what an event's order writes
  event_few : (event : Event) (s : S) (o : T) (d : DaemonState) (became : Stored) (t : S) (p : T) (a : DaemonState) → RunsAnswer gives keeps event s o (ready event tried d) became t p a → WritesEvent event d became → IsNumbered d.sweep.judge.rules d.sweep.judge.next → length (folder_in d.sweep.judge.rules) ≡ before → (c : List ℕ) (rules : List types.Rule) → Has (if_written became (texts_of event d)) c → IsRuleFile rules c → before + length rules ≤ 65536
  event_few (Sweep moment) s o d became t p a h writes numbered_all number c rules has file = absurd (nothing_written gives keeps became [] c h.2 has)
  event_few (Hint moment piece) s o d became t p a h writes numbered_all number c rules has file = absurd (nothing_written gives keeps became [] c h.2 has)
  event_few (Order moment who line) s o d became t p a h writes numbered_all number c rules has file = by h.choice.change refl
    where
      now : DaemonState
      now = ready (Order moment who line) tried d

      orders : OrdersIf who line now h.choice.change
      orders = asked_orders gives who line now h.choice s h.behind (asked_of gives who line now h.choice s h.behind h.asks)

      by : (change : Option Change) → h.choice.change ≡ change → before + length rules ≤ 65536
      by None e =
          let none : became ≡ stored.NotNeeded = subst (λ (x : Option Change). StoresAs now.sweep.judge x became) e (stores_as keeps o now h.choice.change became p h.stores) in
          absurd (nothing_written gives keeps became (texts_of (Order moment who line) d) c none has)
      by (Some change) e =
          let there : Orders who line now change = subst (OrdersIf who line now) e orders in
          let asks : change_ordered who d (request_read line) ≡ Some change = sym (ready_orders moment who line tried d) ∙ there.asks in
          let here : Orders who line d change = record { can = there.can; asks = asks } in
          let texts : Has (if_written became (as_list (text_to_save change d.sweep.judge))) c = subst (λ (x : Option Change). Has (if_written became (text_of_change x d.sweep.judge)) c) asks has in
          let saves : WritesRules became (Some change) d.sweep.judge = subst (λ (x : Option Change). WritesRules became x d.sweep.judge) asks writes in
          written_few gives keeps before who line d change became c rules here numbered_all number saves texts file

  pub keeps_folder : (event : Event) (s : S) (o : T) (d : DaemonState) (became : Stored) (m : S) (p : T) (a : DaemonState) (r : S) (e : DaemonState) (t : S) → RunsAnswer gives keeps event s o (ready event tried d) became m p a → Runs gives r (handling a) e t → WritesEvent event d became → IsNumbered d.sweep.judge.rules d.sweep.judge.next → IsNumbered e.sweep.judge.rules e.sweep.judge.next → HasFolder before d → KeepsFolder before event d became e
  keeps_folder event s o d became m p a r e t answers runs writes numbered_all numbered_after was =
      let old : length (folder_in d.sweep.judge.rules) ≡ folders (marks d.sweep.judge.rules) = folder_count d.sweep.judge.rules in
      let new : length (folder_in e.sweep.judge.rules) ≡ folders (marks e.sweep.judge.rules) = folder_count e.sweep.judge.rules in
      let ordered : folders (marks a.sweep.judge.rules) ≡ folders (marks d.sweep.judge.rules) = answer_count gives keeps event s o (ready event tried d) became m p a answers in
      let swept : folders (marks e.sweep.judge.rules) ≡ folders (marks a.sweep.judge.rules) = ap (λ (ms : List Mark). folders ms) (same_marks e.sweep.judge.rules a.sweep.judge.rules (event_keeps_rules gives r a e t runs)) in
      let number : length (folder_in d.sweep.judge.rules) ≡ before = was.number in
      record {
        after = record { number = omega (arith, old, new, ordered, swept, number); few = numbered_after.few };
        wrote = event_few event s o d became m p a answers writes numbered_all number;
      }

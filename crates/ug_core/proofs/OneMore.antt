-- One event more of a run.
use Rattle.std.proofs.Common.{◌≡◌, ℕ, Bool, true, false, not, is_none, ◌&&◌, ◌||◌, List, [], ◌∷◌, ◌++◌, Option, Some, None, Result, Ok, Err, ◌⊎◌, inl, inr, refl, sym, ◌∙◌, ap, subst, append_assoc, append-nil, cond}
use Rattle.ug_core.proofs.Kept.{asked_anytime}
use Rattle.std.specs.List.{list_any}
use Rattle.ug_types.specs.Elements.{Has}
use Rattle.ug_types.specs.Principals.{Named}
use Rattle.ug_types.specs.declared.refusal.Refusal.{Refusal}
use Rattle.ug_types.specs.declared.saved.Saved.{Saved}
use Rattle.ug_types.specs.declared.verdict.Moment.{Moment}
use Rattle.ug_types.proofs.Elements.{cancel}
use Rattle.ug_kernel.specs.Kernel.{Kernel}
use Rattle.ug_kernel.specs.Quiet.{Quiet}
use Rattle.ug_kernel.proofs.Quiet.{quiet_refl}
use Rattle.ug_audit.specs.declared.entry.Entry.{Entry}
use Rattle.ug_audit.specs.declared.entry.Entry.TheVariants as entry
use Rattle.ug_audit.specs.declared.entry.Fault.TheVariants as fault
use Rattle.ug_proto.specs.Privileges.{needs}
use Rattle.ug_proto.specs.Requests.{request_read}
use Rattle.ug_proto.specs.declared.reply.Reply.{Reply}
use Rattle.ug_proto.specs.declared.reply.Reply.TheVariants as reply
use Rattle.ug_proto.specs.declared.request.Request.{Request}
use Rattle.ug_proto.specs.declared.request.Request.TheVariants as request
use Rattle.ug_table.specs.Orders.{with_verdict, with_order, verdict_entry, just_ordered}
use Rattle.ug_table.specs.Parts.{AllBear, numbers_given, writes_in}
use Rattle.ug_table.specs.Standings.{numbered}
use Rattle.ug_table.specs.State.{State, terms_for, terms_of, with_kept}
use Rattle.ug_table.specs.Laws.{AreDefaulted, IsFair, swept_before}
use Rattle.ug_table.specs.declared.standing.Standing.{Standing}
use Rattle.ug_table.proofs.NamedStandings.{numbered_has}
use Rattle.ug_core.specs.Answering.{answer_of, reply_to, answered_with, replying}
use Rattle.ug_core.specs.Storing.{noted_store, with_change, with_changes}
use Rattle.ug_core.specs.Changes.{CanChange, change_asked, change_entry, changed_by, change_lines_of}
use Rattle.ug_core.specs.Privileges.{is_granted}
use Rattle.ug_core.specs.declared.changes.Change.{Change}
use Rattle.ug_core.specs.declared.changes.Change.TheVariants.{Rules, Set}
use Rattle.ug_core.specs.Policy.{Judging, policy_answer, policy_later}
use Rattle.ug_core.specs.Event.{DaemonState, first_entry, moment_of, saved_entries}
use Rattle.ug_types.specs.declared.event.Event.{Event}
use Rattle.ug_types.specs.declared.event.Event.TheVariants.{Sweep, Order, Hint as Hinted}
use Rattle.ug_uevent.specs.declared.hint.Hint.{Hint}
use Rattle.ug_uevent.specs.Faults.{SaidFault}
use Rattle.ug_core.specs.Hinting.{MeetsPiece, names_due, refusals}
use Rattle.ug_core.specs.InForce.{AgreeInForce, Decision, decision_of, decisions_in, decided_entry, unordered}
use Rattle.ug_core.specs.Laws.{AnswersAtOnce, AnswersEvent, Bad_rule, Before_folder, By_facts, CarriesOut, Changes, ComesTo, Denied, Devices, Full, Handled, IsInForce, List_rules, No_device, No_memory, No_parameter, No_place, No_record, No_room, No_rule, No_setting, No_value, Of_folder, Outcome, ProbeRefuses, RefusedBehind, RefusedByProbe, Refuses, RefusesBehind, RefusesOrder, SettlesDue, StoreRefuses, Unread, Unstored, Value, Watches, WhyRefused, Without_memory, change_of, if_watching, tried_in}
use Rattle.ug_core.specs.Rulings.{PolicyStep, Ruling, Told, Was_changed, after_steps, at_moment, decision_by, told_by}
use Rattle.ug_core.specs.Chain.{Happened, ready_of, changes_asked, decided, journal, told_if, told_of, was_done, tells_unlisted, lists_all, has_listed, IsPlaced, WasAsked, WasOrdered}
use Rattle.ug_core.proofs.InForce.{unordered_append, decisions_append, decisions_more, has_decision}
use Rattle.ug_core.proofs.Splits.{has_at}
use Rattle.ug_core.proofs.Walk.{IsAt}
use Rattle.std.proofs.lemmas.Option.{same_Some}
use Rattle.ug_types.specs.declared.access.Privilege.{Privilege}
use Rattle.ug_types.specs.declared.access.Section.{Section}
use Rattle.ug_types.specs.declared.refusal.Refusal.TheVariants as refusal
use Rattle.ug_types.specs.declared.saved.Saved.TheVariants as saved
use Rattle.ug_kernel.specs.declared.calls.Probe.{Probe}
use Rattle.ug_kernel.specs.declared.calls.Probe.TheVariants as probe
use Rattle.ug_ruleset.specs.declared.edit.Edit.TheVariants.{Insert, Remove, Retarget}
use Rattle.ug_table.specs.Orders.{OrderedOne}
use Rattle.ug_table.specs.declared.standing.Settled.{Settled}
use Rattle.ug_table.specs.declared.standing.Settled.TheVariants as settled
use Rattle.ug_core.specs.Privileges.{denied_of, first_denied}
use Rattle.ug_core.specs.declared.storing.Stored.{Stored}
use Rattle.ug_core.specs.declared.storing.Stored.TheVariants as stored
use Rattle.ug_core.proofs.Answered.{answered_values, now_standings}
use Rattle.ug_core.proofs.SoFar.{SoFar, any_append, at_changed, changed_so, entry_silent, fair_so, journal_append, listed_after, listed_append, noted_so, ordered_so, placed_new, still_so, told_append}

-- ---- one event

-- the first entry and that of a save tell no decision, no write, and nothing of a listing

first_decisions : (number : ℕ) (event : Event) (tried : Option Saved) → decisions_in (first_entry number event ∷ saved_entries tried) ≡ []
first_decisions number (Sweep moment) None = refl
first_decisions number (Sweep moment) (Some saved) = refl
first_decisions number (Order moment who line) None = refl
first_decisions number (Order moment who line) (Some saved) = refl
first_decisions number (Hinted moment piece) None = refl
first_decisions number (Hinted moment piece) (Some saved) = refl

first_writes : (number : ℕ) (event : Event) (tried : Option Saved) → writes_in (first_entry number event ∷ saved_entries tried) ≡ []
first_writes number (Sweep moment) None = refl
first_writes number (Sweep moment) (Some saved) = refl
first_writes number (Order moment who line) None = refl
first_writes number (Order moment who line) (Some saved) = refl
first_writes number (Hinted moment piece) None = refl
first_writes number (Hinted moment piece) (Some saved) = refl

first_listings : (number : ℕ) (event : Event) (tried : Option Saved) → list_any tells_unlisted (first_entry number event ∷ saved_entries tried) ≡ false
first_listings number (Sweep moment) None = refl
first_listings number (Sweep moment) (Some saved) = refl
first_listings number (Order moment who line) None = refl
first_listings number (Order moment who line) (Some saved) = refl
first_listings number (Hinted moment piece) None = refl
first_listings number (Hinted moment piece) (Some saved) = refl

-- nor do those of refused uevents

refused_decisions : (answers : List (Result Hint SaidFault)) → decisions_in (refusals answers) ≡ []
refused_decisions [] = refl
refused_decisions (Ok hint ∷ answers) = refused_decisions answers
refused_decisions (Err bad ∷ answers) = refused_decisions answers

refused_writes : (answers : List (Result Hint SaidFault)) → writes_in (refusals answers) ≡ []
refused_writes [] = refl
refused_writes (Ok hint ∷ answers) = refused_writes answers
refused_writes (Err bad ∷ answers) = refused_writes answers

entry_unlisted : (change : Change) (next : ℕ) → list_any tells_unlisted (change_entry change next ∷ []) ≡ false
entry_unlisted (Rules (Insert after rule mark)) next = refl
entry_unlisted (Rules (Remove id)) next = refl
entry_unlisted (Rules (Retarget id rule)) next = refl
entry_unlisted (Set set) next = refl

-- nor do an order's own entries tell of a listing
rest_listings : (name : List ℕ) (es : List Entry) → AllBear name es → list_any tells_unlisted es ≡ false
rest_listings name [] h = refl
rest_listings name (entry.UnsettledAll why ∷ es) h = absurd h.0
rest_listings name (e ∷ es) h = rest_listings name es h.1

any_front : (es fs : List Entry) → list_any tells_unlisted es ≡ false → list_any tells_unlisted (es ++ fs) ≡ list_any tells_unlisted fs
any_front [] fs none = refl
any_front (e ∷ es) fs none = by_first (tells_unlisted e) none (any_front es fs)
  where
    by_first : (b : Bool) → (b || list_any tells_unlisted es) ≡ false → (list_any tells_unlisted es ≡ false → list_any tells_unlisted (es ++ fs) ≡ list_any tells_unlisted fs) → (b || list_any tells_unlisted (es ++ fs)) ≡ list_any tells_unlisted fs
    by_first true h rest = let no_one : ⊥ = cc in absurd no_one
    by_first false h rest = rest h

-- ---- the last stage

abbrev fair_due : (due : Option (List (List ℕ))) (k : Kernel) (w : State Judging) (l : Kernel) (v : State Judging) → SettlesDue due k w l v → IsFair policy_answer policy_later (terms_for w) (tried_in due) k w l v
fair_due None k w l v s = s.fair
fair_due (Some names) k w l v s = s.0.fair

defaults_due : (due : Option (List (List ℕ))) (k : Kernel) (w : State Judging) (l : Kernel) (v : State Judging) → SettlesDue due k w l v → AreDefaulted w.hub k w.standings → AreDefaulted w.hub l v.standings
defaults_due None k w l v s = s.defaults
defaults_due (Some names) k w l v s = s.0.defaults

-- it lists where no names are due and it doesn't tell otherwise
listed_due : (due : Option (List (List ℕ))) (k : Kernel) (w : State Judging) (l : Kernel) (v : State Judging) (s : SettlesDue due k w l v) → v.listed ≡ ((is_none due && not (list_any tells_unlisted (fair_due due k w l v s).rest)) || w.listed)
listed_due None k w l v s = listed_after s.fair.rest w.listed v.listed s.listed
listed_due (Some names) k w l v s = s.1

only_if_none : (due : Option (List (List ℕ))) (a b : Bool) → (due ≡ None → a ≡ b) → (is_none due && not a) ≡ (is_none due && not b)
only_if_none None a b same = ap (λ (x : Bool). not x) (same refl)
only_if_none (Some names) a b same = refl

-- what holds where the last stage begins
record Behind (policy : Judging) (first : Kernel) (hs : List Happened) (h : Happened) : Type 0 where
  so : SoFar policy first h.kernel_answered (hs ++ h ∷ []) (told_of hs ++ told_if (was_done h.answered.reply) (changes_asked (ready_of h) h.event)) (journal hs ++ h.answered.sweep.entries) h.answered.sweep
  at : at_moment (moment_of h.event) h.answered.sweep.judge ≡ h.answered.sweep.judge
  listed : h.answered.sweep.listed ≡ h.before.sweep.listed
  hub : h.answered.sweep.hub ≡ h.before.sweep.hub
  silent : h.answered.due ≡ None → list_any tells_unlisted h.answered.sweep.entries ≡ false
  ordered : unordered (decisions_in h.answered.sweep.entries) ≡ []

told_none : (done : Bool) → told_if done None ≡ []
told_none true = refl
told_none false = refl

told_undone : (change : Option Change) → told_if false change ≡ []
told_undone None = refl
told_undone (Some change) = refl

-- the event's reply is that of its order, and its standings had the verdicts in force
module _ (policy : Judging) (first : Kernel) (hs : List Happened) (h : Happened) (reply_is : h.after.reply ≡ h.answered.reply) (agree : AgreeInForce [] (journal hs) h.before.sweep.standings) where
  abbrev all : List Happened
  all = hs ++ h ∷ []

  -- a state amid the event, from which no verdict was told yet
  record Amid (k : Kernel) (tl : List Told) (d : DaemonState) : Type 0 where
    so : SoFar policy first k all tl (journal hs ++ d.sweep.entries) d.sweep
    plain : decisions_in d.sweep.entries ≡ []
    silent : list_any tells_unlisted d.sweep.entries ≡ false
    at : at_moment (moment_of h.event) d.sweep.judge ≡ d.sweep.judge
    listed : d.sweep.listed ≡ h.before.sweep.listed
    hub : d.sweep.hub ≡ h.before.sweep.hub

  -- an entry more, while all else stays
  amid_noted : (k : Kernel) (tl : List Told) (d a : DaemonState) (e : Entry) → decisions_in (e ∷ []) ≡ [] → writes_in (e ∷ []) ≡ [] → list_any tells_unlisted (e ∷ []) ≡ false → a.sweep ≡ record d.sweep { entries = d.sweep.entries ++ e ∷ [] } → Amid k tl d → Amid k tl a
  amid_noted k tl d a e none unwritten unlisted is x =
      let w : State Judging = record d.sweep { entries = d.sweep.entries ++ e ∷ [] } in
      let so : SoFar policy first k all tl (journal hs ++ w.entries) w = subst (λ (es : List Entry). SoFar policy first k all tl es w) (append_assoc (journal hs) d.sweep.entries (e ∷ [])) (noted_so policy first k all tl (journal hs ++ d.sweep.entries) (e ∷ []) d.sweep w none unwritten refl refl refl (λ m. refl) x.so) in
      record {
        so = subst (λ (v : State Judging). SoFar policy first k all tl (journal hs ++ v.entries) v) (sym is) so;
        plain = ap (λ (v : State Judging). decisions_in v.entries) is ∙ decisions_more d.sweep.entries (e ∷ []) none ∙ x.plain;
        silent = ap (λ (v : State Judging). list_any tells_unlisted v.entries) is ∙ any_append d.sweep.entries (e ∷ []) unlisted ∙ x.silent;
        at = subst (λ (v : State Judging). at_moment (moment_of h.event) v.judge ≡ v.judge) (sym is) x.at;
        listed = ap (λ (v : State Judging). v.listed) is ∙ x.listed;
        hub = ap (λ (v : State Judging). v.hub) is ∙ x.hub;
      }

  amid_stored : (k : Kernel) (tl : List Told) (d : DaemonState) (became : Stored) → Amid k tl d → Amid k tl (noted_store became d)
  amid_stored k tl d stored.NotNeeded x = x
  amid_stored k tl d stored.Done x = amid_noted k tl d (noted_store stored.Done d) (entry.Save saved.Done) refl refl refl refl x
  amid_stored k tl d (stored.Failed count) x = amid_noted k tl d (noted_store (stored.Failed count) d) (entry.Save (saved.Failed count)) refl refl refl refl x
  amid_stored k tl d stored.TooLong x = x
  amid_stored k tl d stored.Memory x = x

  amid_changed : (k : Kernel) (tl : List Told) (d : DaemonState) (change : Change) → CanChange change d.sweep.judge.rules → ((before : List PolicyStep) → told_by policy before ≡ tl → WasAsked policy all before change) → Amid k tl d → Amid k (tl ++ Was_changed change ∷ []) (with_change change d)
  amid_changed k tl d change can was x =
      let e : Entry = change_entry change d.sweep.judge.next in
      let v : State Judging = (with_change change d).sweep in
      record {
        so = subst (λ (es : List Entry). SoFar policy first k all (tl ++ Was_changed change ∷ []) es v) (append_assoc (journal hs) d.sweep.entries (e ∷ [])) (changed_so policy first k all tl (journal hs ++ d.sweep.entries) d.sweep change can was x.so);
        plain = decisions_more d.sweep.entries (e ∷ []) (entry_silent change d.sweep.judge.next) ∙ x.plain;
        silent = any_append d.sweep.entries (e ∷ []) (entry_unlisted change d.sweep.judge.next) ∙ x.silent;
        at = at_changed change d.sweep.judge (moment_of h.event) ∙ ap (λ (j : Judging). changed_by change j) x.at;
        listed = x.listed;
        hub = x.hub;
      }

  amid_moves : (k l : Kernel) (tl : List Told) (d : DaemonState) → Quiet k l → Amid k tl d → Amid l tl d
  amid_moves k l tl d quiet x = record {
    so = subst (λ (v : List Happened). SoFar policy first l v tl (journal hs ++ d.sweep.entries) d.sweep) (append-nil all) (still_so policy first k l all [] tl (journal hs ++ d.sweep.entries) d.sweep quiet x.so);
    plain = x.plain;
    silent = x.silent;
    at = x.at;
    listed = x.listed;
    hub = x.hub;
  }

  -- from a state behind the reply, of which this was told
  behind_of : (tl : List Told) → told_if (was_done h.answered.reply) (changes_asked (ready_of h) h.event) ≡ tl → Amid h.kernel_answered (told_of hs ++ tl) h.answered → Behind policy first hs h
  behind_of tl told x = record {
    so = subst (λ (l : List Told). SoFar policy first h.kernel_answered all (told_of hs ++ l) (journal hs ++ h.answered.sweep.entries) h.answered.sweep) (sym told) x.so;
    at = x.at;
    listed = x.listed;
    hub = x.hub;
    silent = λ none. x.silent;
    ordered = ap (λ (ds : List Decision). unordered ds) x.plain;
  }

  replied : (tl : List Told) (said : Reply) (d : DaemonState) → h.answered.sweep ≡ (replying said d).sweep → told_if (was_done h.answered.reply) (changes_asked (ready_of h) h.event) ≡ tl → Amid h.kernel_answered (told_of hs ++ tl) d → Behind policy first hs h
  replied tl said d is told x = behind_of tl told (amid_noted h.kernel_answered (told_of hs ++ tl) d h.answered (entry.Reply (answer_of said)) refl refl refl is x)

  untold : (k : Kernel) (d : DaemonState) → Amid k (told_of hs) d → Amid k (told_of hs ++ []) d
  untold k d x = subst (λ (l : List Told). Amid k l d) (sym (append-nil (told_of hs))) x

  module _ (moment : Moment) (who : Named) (line : List ℕ) (is : h.event ≡ Order moment who line) (ready : Amid h.kernel (told_of hs) (ready_of h)) where
    abbrev d : DaemonState
    d = ready_of h

    asks_so : (asked : Request) → request_read line ≡ Ok asked → changes_asked d h.event ≡ change_of d asked
    asks_so asked reads = ap (λ (e : Event). changes_asked d e) is ∙ ap (λ (read : Result Request ℕ). change_asked d.sweep.standings d.sweep.judge read) reads

    -- what is in force is told as what was changed
    abbrev told_by_change : Option Change → List Told
    told_by_change None = []
    told_by_change (Some change) = Was_changed change ∷ []

    was_asked : (asked : Request) (change : Change) (before : List PolicyStep) → request_read line ≡ Ok asked → is_granted h.before.access who (needs asked) ≡ true → change_of d asked ≡ Some change → was_done h.answered.reply ≡ true → told_by policy before ≡ told_of hs → WasAsked policy all before change
    was_asked asked change before reads granted asks done told = record {
      earlier = hs;
      event = h;
      later = [];
      in_run = refl;
      told = told;
      moment = moment;
      who = who;
      line = line;
      is_order = is;
      asked = asked;
      reads = reads;
      asks = sym (asked_anytime h.before.sweep.standings h.before.sweep.judge d.sweep.judge.ctx (Ok asked)) ∙ asks;
      granted = granted;
      done = ap (λ (o : Option Reply). was_done o) reply_is ∙ done;
    }

    can_of : (change : Change) (became : Stored) → IsInForce d.sweep.judge (Some change) became → CanChange change d.sweep.judge.rules
    can_of change stored.NotNeeded k = k.0
    can_of change stored.Done k = k.0
    can_of change (stored.Failed count) k = absurd k
    can_of change stored.TooLong k = absurd k
    can_of change stored.Memory k = absurd k

    store_rules : (became : Stored) → (noted_store became d).sweep.judge ≡ d.sweep.judge
    store_rules stored.NotNeeded = refl
    store_rules stored.Done = refl
    store_rules (stored.Failed count) = refl
    store_rules stored.TooLong = refl
    store_rules stored.Memory = refl

    amid_now : (k : Kernel) (asked : Request) (change : Option Change) → request_read line ≡ Ok asked → is_granted h.before.access who (needs asked) ≡ true → change ≡ change_of d asked → IsInForce d.sweep.judge change h.became → was_done h.answered.reply ≡ true → Amid k (told_of hs) d → Amid k (told_of hs ++ told_by_change change) (with_changes change (noted_store h.became d))
    amid_now k asked None reads granted asks force done x = untold k (noted_store h.became d) (amid_stored k (told_of hs) d h.became x)
    amid_now k asked (Some change) reads granted asks force done x =
        amid_changed k (told_of hs) (noted_store h.became d) change (subst (λ (j : Judging). CanChange change j.rules) (sym (store_rules h.became)) (can_of change h.became force)) (λ before told. was_asked asked change before reads granted (sym asks) done told) (amid_stored k (told_of hs) d h.became x)

    told_so : (asked : Request) (change : Option Change) → request_read line ≡ Ok asked → change ≡ change_of d asked → told_if true (changes_asked d h.event) ≡ told_by_change change
    told_so asked change reads asks = ap (λ (o : Option Change). told_if true o) (asks_so asked reads ∙ sym asks) ∙ by_change change
      where
        by_change : (o : Option Change) → told_if true o ≡ told_by_change o
        by_change None = refl
        by_change (Some change) = refl

    -- ---- it was refused

    undone : (r : Refusal) → (was_done (Some (reply.Refused r)) ≡ false) → h.answered.reply ≡ Some (reply.Refused r) → told_if (was_done h.answered.reply) (changes_asked d h.event) ≡ []
    undone r unsaved said = ap (λ (o : Option Reply). told_if (was_done o) (changes_asked d h.event)) said ∙ ap (λ (b : Bool). told_if b (changes_asked d h.event)) unsaved ∙ told_undone (changes_asked d h.event)

    facts_undone : (asked : Request) (r : Refusal) → Refuses d asked r → was_done (Some (reply.Refused r)) ≡ false
    facts_undone _ _ (Bad_rule place permanent text bad read) = refl
    facts_undone _ _ (No_device number verdict permanent none) = refl
    facts_undone _ _ (No_place id permanent text rule read none) = refl
    facts_undone _ _ (No_rule id none) = refl
    facts_undone _ _ (Before_folder id text rule read there own) = refl
    facts_undone _ _ (Of_folder id own) = refl
    facts_undone _ _ (No_parameter name none) = refl
    facts_undone _ _ (No_setting name value none) = refl
    facts_undone _ _ (No_value name value set known none) = refl
    facts_undone _ _ (Full place permanent text rule read there full) = refl

    denied_undone : (asked : Request) (r : Refusal) → denied_of d.access who (needs asked) ≡ Some r → was_done (Some (reply.Refused r)) ≡ false
    denied_undone asked r k = by_first (is_granted d.access who (needs asked)) (needs asked) k
      where
        by_first : (b : Bool) (needed : List (Section × Privilege)) → cond b None (first_denied needed) ≡ Some r → was_done (Some (reply.Refused r)) ≡ false
        by_first true needed k = let none : ⊥ = cc in absurd none
        by_first false [] k = let none : ⊥ = cc in absurd none
        by_first false (p ∷ needed) k = subst (λ (x : Refusal). was_done (Some (reply.Refused x)) ≡ false) (same_Some (refusal.Denied p.0 p.1) r k) refl

    why_undone : (r : Refusal) → WhyRefused who line d r → was_done (Some (reply.Refused r)) ≡ false
    why_undone _ (Unread place reads) = refl
    why_undone _ (Denied asked refused reads denied) = denied_undone asked refused denied
    why_undone _ (By_facts asked refused reads granted facts) = facts_undone asked refused facts
    why_undone _ No_memory = refl

    probe_undone : (number : ℕ) (q : Probe) (r : Refusal) → ProbeRefuses number q r → was_done (Some (reply.Refused r)) ≡ false
    probe_undone number (probe.Alive on) r k = absurd k
    probe_undone number probe.Gone r k = ap (λ (x : Refusal). was_done (Some (reply.Refused x))) k
    probe_undone number probe.Failed r k = ap (λ (x : Refusal). was_done (Some (reply.Refused x))) k.1

    store_undone : (change : Change) (b : Stored) (r : Refusal) → StoreRefuses d.sweep.judge change b r → was_done (Some (reply.Refused r)) ≡ false
    store_undone change stored.NotNeeded r k = absurd k
    store_undone change stored.Done r k = absurd k
    store_undone change (stored.Failed count) r k = ap (λ (x : Refusal). was_done (Some (reply.Refused x))) k.1
    store_undone change stored.TooLong r k = ap (λ (x : Refusal). was_done (Some (reply.Refused x))) k.2
    store_undone change stored.Memory r k = ap (λ (x : Refusal). was_done (Some (reply.Refused x))) k

    behind_undone : (asked : Request) (r : Refusal) → RefusesBehind d h.became asked r → was_done (Some (reply.Refused r)) ≡ false
    behind_undone _ _ (No_record number verdict standing kind place stands is unsaved) = refl
    behind_undone _ _ (No_room number verdict rule asks full unsaved) = refl
    behind_undone _ _ (Unstored asked refused change asks can why) = store_undone change h.became refused why
    behind_undone _ _ (Without_memory asked unsaved) = refl

    refused_so : RefusesOrder who line h.kernel d h.became h.kernel_answered h.answered → Behind policy first hs h
    refused_so r =
        replied [] (reply.Refused r.refused) (noted_store h.became d) (ap (λ (x : DaemonState). x.sweep) r.state)
        (undone r.refused (by_why r.why) (ap (λ (x : DaemonState). x.reply) r.state))
        (untold h.kernel_answered (noted_store h.became d) (amid_stored h.kernel_answered (told_of hs) d h.became (amid_moves h.kernel h.kernel_answered (told_of hs) d r.quiet ready)))
      where
        by_why : (WhyRefused who line d r.refused × (h.kernel_answered ≡ h.kernel) × (h.became ≡ stored.NotNeeded)) ⊎ ((RefusedByProbe who line d h.kernel h.kernel_answered r.refused × (h.became ≡ stored.NotNeeded)) ⊎ RefusedBehind who line d h.became h.kernel h.kernel_answered r.refused) → was_done (Some (reply.Refused r.refused)) ≡ false
        by_why (inl w) = why_undone r.refused w.0
        by_why (inr (inl w)) = probe_undone w.0.number w.0.found r.refused w.0.is
        by_why (inr (inr w)) = behind_undone w.asked r.refused w.why

    -- ---- it was answered without a call

    once_so : h.kernel_answered ≡ h.kernel → AnswersAtOnce who line d h.became h.answered → Behind policy first hs h
    once_so still x =
        let now : DaemonState = with_changes x.outcome.change (noted_store h.became d) in
        let asks : x.outcome.change ≡ change_of d x.asked = comes_asks x.asked x.outcome x.comes in
        let here = subst (λ (k : Kernel). Amid k (told_of hs) d) (sym still) ready in
        let same = watching_same x.outcome.watches (replying (reply.Lines x.outcome.lines) now) in
        replied (told_by_change x.outcome.change) (reply.Lines x.outcome.lines) now
        (ap (λ (v : DaemonState). v.sweep) x.state ∙ same.0)
        (ap (λ (o : Option Reply). told_if (was_done o) (changes_asked d h.event)) (ap (λ (v : DaemonState). v.reply) x.state ∙ same.1) ∙ told_so x.asked x.outcome.change x.reads asks)
        (amid_now h.kernel_answered x.asked x.outcome.change x.reads x.granted asks x.in_force (ap (λ (o : Option Reply). was_done o) (ap (λ (v : DaemonState). v.reply) x.state ∙ same.1)) here)
      where
        watching_same : (b : Bool) (v : DaemonState) → ((if_watching b v).sweep ≡ v.sweep) × ((if_watching b v).reply ≡ v.reply)
        watching_same true v = (refl, refl)
        watching_same false v = (refl, refl)

        comes_asks : (asked : Request) (outcome : Outcome) → ComesTo d asked outcome → outcome.change ≡ change_of d asked
        comes_asks _ _ (Value name set known) = refl
        comes_asks _ _ Devices = refl
        comes_asks _ _ List_rules = refl
        comes_asks _ _ (Changes asked change none asks) = sym asks
        comes_asks _ _ Watches = refl

    -- ---- a verdict was set

    verdict_so : CarriesOut who line h.kernel d h.became h.kernel_answered h.answered → Behind policy first hs h
    verdict_so c =
        let now : DaemonState = with_changes c.change (noted_store h.became d) in
        let w : State Judging = now.sweep in
        let tl : List Told = told_of hs ++ told_by_change c.change in
        let lines : List (List ℕ) = change_lines_of c.change d.sweep.judge.next in
        let done : was_done h.answered.reply ≡ true = ap (λ (x : DaemonState). was_done x.reply) c.state ∙ reply_done (change_lines_of c.change d.sweep.judge.next) c.how in
        let amid = amid_now c.middle (request.Device c.number c.verdict c.permanent) c.change c.asked c.granted c.asks c.in_force done (amid_moves h.kernel c.middle (told_of hs) d c.probed.quiet ready) in
        let y : Standing = with_verdict c.verdict who c.standing in
        let told : Entry = verdict_entry y in
        let kept_in : State Judging = with_kept w c.kept in
        let one = numbered_has c.number d.sweep.standings c.standing c.stands in
        let same_now = now_standings c.change h.became d in
        let here : numbered c.number w.standings ≡ Some c.standing = subst (λ (ss : List Standing). numbered c.number ss ≡ Some c.standing) (sym same_now.0) c.stands in
        let law = subst (λ (x : DaemonState). OrderedOne c.number c.verdict who c.on c.standing c.middle x.sweep h.kernel_answered (with_kept x.sweep c.kept) c.how) c.after_change c.law in
        let its_entries : c.kept.entries ≡ w.entries ++ told ∷ c.rest = subst (λ (x : DaemonState). c.kept.entries ≡ x.sweep.entries ++ told ∷ c.rest) c.after_change c.entries in
        let state : h.answered ≡ answered_with now lines (c.how, c.kept) = subst (λ (x : DaemonState). h.answered ≡ answered_with x lines (c.how, c.kept)) c.after_change c.state in
        let fair = law.fair policy_answer policy_later (terms_of false w.hub) swept_before in
        let rest : c.rest ≡ fair.rest = cancel (w.entries ++ told ∷ []) c.rest fair.rest (append_assoc w.entries (told ∷ []) c.rest ∙ sym its_entries ∙ fair.entries) in
        let inside : h.answered.sweep.entries ≡ w.entries ++ told ∷ (c.rest ++ entry.Reply (answer_of (reply_to lines c.how)) ∷ []) = ap (λ (x : DaemonState). x.sweep.entries) state ∙ ap (λ (es : List Entry). es ++ entry.Reply (answer_of (reply_to lines c.how)) ∷ []) its_entries ∙ append_assoc w.entries (told ∷ c.rest) (entry.Reply (answer_of (reply_to lines c.how)) ∷ []) in
        let was : WasOrdered all (journal hs ++ w.entries) (decision_of y) = record {
          earlier = hs;
          event = h;
          later = [];
          in_run = refl;
          moment = moment;
          who = who;
          line = line;
          is_order = is;
          cause = refl;
          permanent = c.permanent;
          asked = c.asked ∙ ap (λ (n : ℕ). Ok (request.Device n c.verdict c.permanent)) (sym one.1);
          granted = c.granted;
          standing = c.standing;
          stands = ap (λ (n : ℕ). numbered n d.sweep.standings) one.1 ∙ c.stands;
          force = agree c.standing one.0;
          name = refl;
          held = refl;
          front = w.entries;
          back = c.rest ++ entry.Reply (answer_of (reply_to lines c.how)) ∷ [];
          in_event = inside;
          here = refl;
        } in
        let set = ordered_so policy first c.middle all tl (journal hs ++ w.entries) w c.number c.verdict who c.standing here was amid.so in
        let none : decisions_in fair.rest ≡ [] = subst (λ (es : List Entry). decisions_in es ≡ []) rest (given_none c.rest c.given) in
        let unfair = fair_so swept_before policy first all tl ((journal hs ++ w.entries) ++ told ∷ []) (moment_of h.event) false c.middle h.kernel_answered (just_ordered c.number c.verdict who c.standing w) kept_in amid.at refl (λ were. law.defaults w.hub amid.so.defaulted) fair (λ before ds r told plain p. no_ruling w.standings fair.rest before ds r none p) set in
        let written = subst (λ (ds : List Decision). SoFar policy first h.kernel_answered all (tl ++ decided (unordered ds)) (((journal hs ++ w.entries) ++ told ∷ []) ++ fair.rest) kept_in) none unfair in
        let same : ((journal hs ++ w.entries) ++ told ∷ []) ++ fair.rest ≡ journal hs ++ kept_in.entries = append_assoc (journal hs ++ w.entries) (told ∷ []) fair.rest ∙ append_assoc (journal hs) w.entries (told ∷ fair.rest) ∙ ap (λ (es : List Entry). journal hs ++ es) (sym (fair.entries ∙ append_assoc w.entries (told ∷ []) fair.rest)) in
        let its_decisions : decisions_in c.kept.entries ≡ decision_of y ∷ [] = ap (λ (es : List Entry). decisions_in es) its_entries ∙ decisions_append w.entries (told ∷ c.rest) ∙ ap (λ (ds : List Decision). ds ++ (decision_of y ∷ decisions_in c.rest)) amid.plain ∙ ap (λ (ds : List Decision). decision_of y ∷ ds) (given_none c.rest c.given) in
        let e : Entry = entry.Reply (answer_of (reply_to lines c.how)) in
        let noted : State Judging = record kept_in { entries = kept_in.entries ++ e ∷ [] } in
        let last : SoFar policy first h.kernel_answered all (tl ++ []) (journal hs ++ noted.entries) noted =
        subst (λ (es : List Entry). SoFar policy first h.kernel_answered all (tl ++ []) es noted) (append_assoc (journal hs) kept_in.entries (e ∷ []))
        (noted_so policy first h.kernel_answered all (tl ++ []) (journal hs ++ kept_in.entries) (e ∷ []) kept_in noted refl refl refl refl refl (λ m. refl) (subst (λ (es : List Entry). SoFar policy first h.kernel_answered all (tl ++ []) es kept_in) same written)) in
        let whole : h.answered.sweep ≡ noted = ap (λ (x : DaemonState). x.sweep) state in
        record {
          so = subst (λ (l : List Told). SoFar policy first h.kernel_answered all l (journal hs ++ h.answered.sweep.entries) h.answered.sweep)
              (append-nil tl ∙ ap (λ (l : List Told). told_of hs ++ l) (sym (ap (λ (o : Option Reply). told_if (was_done o) (changes_asked d h.event)) (ap (λ (x : DaemonState). x.reply) state) ∙ ap (λ (b : Bool). told_if b (changes_asked d h.event)) (reply_done lines c.how) ∙ told_so (request.Device c.number c.verdict c.permanent) c.change c.asked c.asks)))
              (subst (λ (v : State Judging). SoFar policy first h.kernel_answered all (tl ++ []) (journal hs ++ v.entries) v) (sym whole) last);
          at = subst (λ (v : State Judging). at_moment (moment_of h.event) v.judge ≡ v.judge) (sym whole) amid.at;
          listed = ap (λ (v : State Judging). v.listed) whole ∙ amid.listed;
          hub = ap (λ (v : State Judging). v.hub) whole ∙ amid.hub;
          silent = λ none. ap (λ (v : State Judging). list_any tells_unlisted v.entries) whole ∙ any_append c.kept.entries (e ∷ []) refl ∙ ap (λ (es : List Entry). list_any tells_unlisted es) its_entries ∙ any_front w.entries (told ∷ c.rest) amid.silent ∙ rest_listings c.standing.name c.rest c.bears;
          ordered = ap (λ (v : State Judging). unordered (decisions_in v.entries)) whole ∙ ap (λ (ds : List Decision). unordered ds) (decisions_more c.kept.entries (e ∷ []) refl ∙ its_decisions);
        }
      where
        given_none : (es : List Entry) → numbers_given es ≡ [] → decisions_in es ≡ []
        given_none [] g = refl
        given_none (entry.Judged number name held verdict why ∷ es) g = let none : ⊥ = cc in absurd none
        given_none (e ∷ es) g = given_none es g

        no_ruling : (ss : List Standing) (es : List Entry) (before : List PolicyStep) (ds : List Decision) (r : Ruling) → decisions_in es ≡ [] → IsAt swept_before false (moment_of h.event) c.middle h.kernel_answered (with_order c.number c.verdict who ss) es ds (decision_by (after_steps policy before) r) r → IsPlaced policy all before h.kernel_answered r
        no_ruling ss es before ds r none p =
            let d : Decision = decision_by (after_steps policy before) r in
            let there : Has (decisions_in es) d = has_decision es d.number d.name d.held d.verdict d.cause (subst (λ (x : List Entry). Has x (decided_entry d)) (sym p.at) (has_at p.front (decided_entry d) p.back)) in
            absurd (subst (λ (ds : List Decision). Has ds d) none there)

        reply_done : (lines : List (List ℕ)) (how : Settled) → was_done (Some (reply_to lines how)) ≡ true
        reply_done lines settled.Stands = refl
        reply_done lines settled.Nobody = refl
        reply_done lines (settled.Fault failed) = refl
        reply_done lines settled.Memory = refl

  -- ---- a piece of uevents was met

  module _ (moment : Moment) (piece : List ℕ) (is : h.event ≡ Hinted moment piece) (still : h.kernel_answered ≡ h.kernel) (ready : Amid h.kernel (told_of hs) (ready_of h)) where
    -- entries more, and names are due
    due_so : (es : List Entry) (names : List (List ℕ)) → decisions_in es ≡ [] → writes_in es ≡ [] → h.answered.sweep ≡ record (ready_of h).sweep { entries = (ready_of h).sweep.entries ++ es } → h.answered.due ≡ Some names → Behind policy first hs h
    due_so es names none unwritten same due =
        let d : DaemonState = ready_of h in
        let w : State Judging = record d.sweep { entries = d.sweep.entries ++ es } in
        let told : told_if (was_done h.answered.reply) (changes_asked d h.event) ≡ [] = ap (λ (o : Option Change). told_if (was_done h.answered.reply) o) (ap (λ (e : Event). changes_asked d e) is) ∙ told_none (was_done h.answered.reply) in
        let here : Amid h.kernel_answered (told_of hs ++ []) d = untold h.kernel_answered d (subst (λ (k : Kernel). Amid k (told_of hs) d) (sym still) ready) in
        let so : SoFar policy first h.kernel_answered all (told_of hs ++ []) (journal hs ++ w.entries) w = subst (λ (l : List Entry). SoFar policy first h.kernel_answered all (told_of hs ++ []) l w) (append_assoc (journal hs) d.sweep.entries es) (noted_so policy first h.kernel_answered all (told_of hs ++ []) (journal hs ++ d.sweep.entries) es d.sweep w none unwritten refl refl refl (λ m. refl) here.so) in
        record {
          so = subst (λ (l : List Told). SoFar policy first h.kernel_answered all (told_of hs ++ l) (journal hs ++ h.answered.sweep.entries) h.answered.sweep) (sym told)
              (subst (λ (v : State Judging). SoFar policy first h.kernel_answered all (told_of hs ++ []) (journal hs ++ v.entries) v) (sym same) so);
          at = subst (λ (v : State Judging). at_moment (moment_of h.event) v.judge ≡ v.judge) (sym same) ready.at;
          listed = ap (λ (v : State Judging). v.listed) same ∙ ready.listed;
          hub = ap (λ (v : State Judging). v.hub) same ∙ ready.hub;
          silent = λ nothing. let bad : None ≡ Some names = sym nothing ∙ due in let no_one : ⊥ = cc in absurd no_one;
          ordered = ap (λ (v : State Judging). unordered (decisions_in v.entries)) same ∙ ap (λ (ds : List Decision). unordered ds) (decisions_more d.sweep.entries es none ∙ ready.plain);
        }

    hinted_so : MeetsPiece piece (ready_of h) h.answered → Behind policy first hs h
    hinted_so (inl t) = due_so (refusals t.answers) (names_due (ready_of h).sweep.listed t.names) (refused_decisions t.answers) (refused_writes t.answers) (ap (λ (v : DaemonState). v.sweep) t.state) (ap (λ (v : DaemonState). v.due) t.state)
    hinted_so (inr e) = due_so (entry.UnsettledAll fault.Memory ∷ []) [] refl refl (ap (λ (v : DaemonState). v.sweep) e) (ap (λ (v : DaemonState). v.due) e)

  behind_event : (event : Event) → h.event ≡ event → Amid h.kernel (told_of hs) (ready_of h) → AnswersEvent event h.kernel (ready_of h) h.became h.kernel_answered h.answered → Behind policy first hs h
  behind_event (Sweep moment) is x a =
      behind_of []
      (ap (λ (o : Option Change). told_if (was_done h.answered.reply) o) (ap (λ (e : Event). changes_asked (ready_of h) e) is) ∙ told_none (was_done h.answered.reply))
      (untold h.kernel_answered h.answered (subst (λ (v : DaemonState). Amid h.kernel_answered (told_of hs) v) (sym a.2) (subst (λ (k : Kernel). Amid k (told_of hs) (ready_of h)) (sym a.0) x)))
  behind_event (Hinted moment piece) is x a = hinted_so moment piece is a.0 x a.2
  behind_event (Order moment who line) is x (inl r) = refused_so moment who line is x r
  behind_event (Order moment who line) is x (inr (inl t)) = once_so moment who line is x t.0 t.1
  behind_event (Order moment who line) is x (inr (inr c)) = verdict_so moment who line is x c

  -- the whole event
  one_event : AnswersEvent h.event h.kernel (ready_of h) h.became h.kernel_answered h.answered → Handled h.kernel_answered h.answered h.kernel_after h.after → h.before.sweep.listed ≡ has_listed hs → SoFar policy first h.kernel hs (told_of hs) (journal hs) h.before.sweep → SoFar policy first h.kernel_after (hs ++ h ∷ []) (told_of (hs ++ h ∷ [])) (journal (hs ++ h ∷ [])) h.after.sweep × (h.after.sweep.listed ≡ has_listed (hs ++ h ∷ [])) × (h.after.sweep.hub ≡ h.before.sweep.hub)
  one_event answers law listed so =
      let longer = still_so policy first h.kernel h.kernel hs (h ∷ []) (told_of hs) (journal hs) h.before.sweep (quiet_refl h.kernel) so in
      let begun = noted_so policy first h.kernel (hs ++ h ∷ []) (told_of hs) (journal hs) (ready_of h).sweep.entries h.before.sweep (ready_of h).sweep (first_decisions h.before.event h.event h.tried) (first_writes h.before.event h.event h.tried) refl refl refl (λ m. refl) longer in
      let amid : Amid h.kernel (told_of hs) (ready_of h) = record { so = begun; plain = first_decisions h.before.event h.event h.tried; silent = first_listings h.before.event h.event h.tried; at = refl; listed = refl; hub = refl } in
      let b = behind_event h.event refl amid answers in
      let a : State Judging = h.answered.sweep in
      let v : State Judging = law.swept in
      let fair = fair_due h.answered.due h.kernel_answered a h.kernel_after v law.law in
      let y : Entry = entry.End h.answered.event in
      let kept_hub : v.hub ≡ a.hub = sym (ap (λ (z : State Judging). z.hub) law.entries) ∙ law.hub in
      let entries : h.after.sweep.entries ≡ a.entries ++ (fair.rest ++ y ∷ []) = ap (λ (z : State Judging). z.entries) law.entries ∙ ap (λ (es : List Entry). es ++ y ∷ []) fair.entries ∙ append_assoc a.entries fair.rest (y ∷ []) in
      let whole : (((journal hs ++ a.entries) ++ fair.rest) ++ y ∷ []) ≡ journal (hs ++ h ∷ []) =
      append_assoc (journal hs ++ a.entries) fair.rest (y ∷ [])
      ∙ append_assoc (journal hs) a.entries (fair.rest ++ y ∷ [])
      ∙ ap (λ (es : List Entry). journal hs ++ es) (sym entries ∙ sym (append-nil h.after.sweep.entries))
      ∙ sym (journal_append hs (h ∷ [])) in
      let first_told : List Told = told_if (was_done h.answered.reply) (changes_asked (ready_of h) h.event) in
      let ruled_told : List Told = decided (unordered (decisions_in fair.rest)) in
      let inside : unordered (decisions_in h.after.sweep.entries) ≡ unordered (decisions_in fair.rest) =
      ap (λ (es : List Entry). unordered (decisions_in es)) entries
      ∙ ap (λ (ds : List Decision). unordered ds) (decisions_append a.entries (fair.rest ++ y ∷ []))
      ∙ unordered_append (decisions_in a.entries) (decisions_in (fair.rest ++ y ∷ []))
      ∙ ap (λ (ds : List Decision). ds ++ unordered (decisions_in (fair.rest ++ y ∷ []))) b.ordered
      ∙ ap (λ (ds : List Decision). unordered ds) (decisions_more fair.rest (y ∷ []) refl) in
      let told : (told_of hs ++ first_told) ++ ruled_told ≡ told_of (hs ++ h ∷ []) =
      append_assoc (told_of hs) first_told ruled_told
      ∙ ap (λ (l : List Told). told_of hs ++ (first_told ++ l)) (ap (λ (ds : List Decision). decided ds) (sym inside))
      ∙ ap (λ (o : Option Reply). told_of hs ++ (told_if (was_done o) (changes_asked (ready_of h) h.event) ++ decided (unordered (decisions_in h.after.sweep.entries)))) (sym law.reply)
      ∙ sym (told_append hs h) in
      let swept = fair_so (tried_in h.answered.due) policy first (hs ++ h ∷ []) (told_of hs ++ first_told) (journal hs ++ a.entries) (moment_of h.event) (not a.listed) h.kernel_answered h.kernel_after a v b.at kept_hub (defaults_due h.answered.due h.kernel_answered a h.kernel_after v law.law) fair (λ before ds r told plain p. placed_new policy hs h fair.rest before ds r (answered_values h.event h.kernel (ready_of h) h.became h.kernel_answered h.answered answers) entries (b.listed ∙ listed) b.ordered (told ∙ ap (λ (o : Option Reply). (told_of hs ++ told_if (was_done o) (changes_asked (ready_of h) h.event)) ++ decided ds) (sym law.reply)) plain p) b.so in
      let last = noted_so policy first h.kernel_after (hs ++ h ∷ []) ((told_of hs ++ first_told) ++ ruled_told) ((journal hs ++ a.entries) ++ fair.rest) (y ∷ []) v h.after.sweep refl refl (ap (λ (z : State Judging). z.standings) law.entries) (ap (λ (z : State Judging). z.next) law.entries) (ap (λ (z : State Judging). z.hub) law.entries) (λ m. ap (λ (z : State Judging). at_moment m z.judge) law.entries) swept in (
        subst (λ (l : List Told). SoFar policy first h.kernel_after (hs ++ h ∷ []) l (journal (hs ++ h ∷ [])) h.after.sweep) told
            (subst (λ (es : List Entry). SoFar policy first h.kernel_after (hs ++ h ∷ []) ((told_of hs ++ first_told) ++ ruled_told) es h.after.sweep) whole last),
        ap (λ (z : State Judging). z.listed) law.entries
            ∙ listed_due h.answered.due h.kernel_answered a h.kernel_after v law.law
            ∙ ap (λ (t : Bool). t || a.listed) (only_if_none h.answered.due (list_any tells_unlisted fair.rest) (list_any tells_unlisted h.after.sweep.entries) (λ none. sym (ap (λ (es : List Entry). list_any tells_unlisted es) entries ∙ any_front a.entries (fair.rest ++ y ∷ []) (b.silent none) ∙ any_append fair.rest (y ∷ []) refl)))
            ∙ ap (λ (t : Bool). lists_all h || t) (b.listed ∙ listed)
            ∙ sym (listed_append hs h),
        law.hub ∙ b.hub,
      )

pub one_more : (policy : Judging) (first : Kernel) (hs : List Happened) (h : Happened) → AnswersEvent h.event h.kernel (ready_of h) h.became h.kernel_answered h.answered → Handled h.kernel_answered h.answered h.kernel_after h.after → h.before.sweep.listed ≡ has_listed hs → SoFar policy first h.kernel hs (told_of hs) (journal hs) h.before.sweep → SoFar policy first h.kernel_after (hs ++ h ∷ []) (told_of (hs ++ h ∷ [])) (journal (hs ++ h ∷ [])) h.after.sweep × (h.after.sweep.listed ≡ has_listed (hs ++ h ∷ [])) × (h.after.sweep.hub ≡ h.before.sweep.hub)
one_more policy first hs h answers law listed so = one_event policy first hs h law.reply so.agree answers law listed so

-- What an order does, from what it comes to.
use Rattle.std.proofs.Common.{◌≡◌, ℕ, Bool, true, false, cond, not, ◌&&◌, is_none, List, [], ◌∷◌, ◌++◌, Option, Some, None, Err, Ok, ◌⊎◌, inl, inr, refl, sym, ◌∙◌, ap, subst, append-nil}
use Rattle.std.specs.Prelude.{IsSome}
use Rattle.ug_types.specs.Elements.{Has}
use Rattle.ug_types.specs.Principals.{Named}
use Rattle.ug_types.specs.declared.refusal.Refusal.{Refusal}
use Rattle.ug_types.specs.declared.refusal.Refusal.TheVariants as refusal
use Rattle.ug_types.specs.declared.saved.Saved.{Saved}
use Rattle.ug_types.specs.declared.saved.Saved.TheVariants as saved
use Rattle.ug_types.specs.declared.verdict.Moment.{Moment}
use Rattle.ug_types.specs.declared.verdict.Target.{Target}
use Rattle.ug_types.specs.declared.verdict.Target.TheVariants as target
use Rattle.ug_types.specs.Names.{parent_of}
use Rattle.ug_kernel.specs.declared.control.Write.{Write}
use Rattle.ug_kernel.specs.declared.calls.FailedCall.{FailedCall}
use Rattle.ug_kernel.specs.declared.calls.Probe.{Probe}
use Rattle.ug_kernel.specs.declared.calls.Probe.TheVariants as probe
use Rattle.ug_kernel.specs.Along.{Made, made_with, Along, failure, failure_of, failures, AreNumbered}
use Rattle.ug_kernel.specs.Called.{Follows, says_probe}
use Rattle.ug_kernel.specs.Calls.{Call, Answer, Ask_alive, ToldAnswer, is_probe_failed}
use Rattle.ug_kernel.specs.Kernel.{Kernel, IsKernel}
use Rattle.ug_kernel.specs.Quiet.{Quiet}
use Rattle.ug_kernel.specs.Tree.{Runs, calls}
use Rattle.ug_kernel.proofs.Grow.{quiet_grows}
use Rattle.ug_kernel.proofs.Quiet.{called_quiet, quiet_refl}
use Rattle.ug_kernel.proofs.Rises.{Counting, along_numbered}
use Rattle.ug_kernel.proofs.Told.{told_run}
use Rattle.ug_kernel.proofs.Ways.{ways_run}
use Rattle.ug_audit.specs.declared.entry.Entry.{Entry}
use Rattle.ug_audit.specs.declared.entry.Entry.TheVariants as entry
use Rattle.ug_proto.specs.declared.reply.Reply.{Reply}
use Rattle.ug_proto.specs.declared.reply.Reply.TheVariants as reply
use Rattle.ug_proto.specs.declared.request.Request.{Request}
use Rattle.ug_proto.specs.declared.request.Request.TheVariants as request
use Rattle.ug_ruleset.specs.declared.edit.Edit.TheVariants.{Insert, Remove, Retarget}
use Rattle.ug_store.specs.DiskCalls.{DiskCall, DiskTold}
use Rattle.ug_table.specs.Bring.{default_write, is_reject, is_to_go}
use Rattle.ug_table.specs.Laws.{Stand, swept_before}
use Rattle.ug_table.specs.One.{failed_of, whys}
use Rattle.ug_table.specs.Order.{StandInOrder}
use Rattle.ug_table.specs.Orders.{ProbedOne, with_verdict, verdict_entry, ordering}
use Rattle.ug_table.specs.Parts.{AllBear, failures_told, told_in_reply, unsettled_names}
use Rattle.ug_table.specs.Standings.{known_of, numbered}
use Rattle.ug_table.specs.State.{State, Kept, kept_of, terms_of}
use Rattle.ug_table.specs.declared.standing.Settled.{Settled}
use Rattle.ug_table.specs.declared.standing.Settled.TheVariants as settled
use Rattle.ug_table.specs.declared.standing.Standing.{Standing}
use Rattle.ug_table.proofs.Devices.{stand_stays}
use Rattle.ug_table.proofs.NameEntries.{told_more}
use Rattle.ug_table.proofs.Once.{names_more}
use Rattle.ug_table.proofs.Ordered.{EndsOrder, numbered_now, order_marks, order_one, order_part, order_short, ordering_ways}
use Rattle.ug_table.proofs.NamedStandings.{numbered_has}
use Rattle.ug_table.proofs.Steps.{in_order as kept_order}
use Rattle.ug_core.specs.Answering.{acting, answer_of, asking, deed_after, keeping, reply_to, replying}
use Rattle.ug_core.specs.Changes.{change_entry, change_lines_of}
use Rattle.ug_core.specs.Event.{DaemonState, ready}
use Rattle.ug_core.specs.Values.{LogsValues}
use Rattle.ug_core.specs.Laws.{AnswersInEvent, AnswersAtOnce, AnswersEvent, CarriesOut, GoesAsAnswer, GoesOn, LeavesVerdict, No_record, No_room, Outcome, ProbeRefuses, RefusesBehind, RefusesOrder, RunsAnswer, StoreRefuses, TellsVerdict, Unstored, Without_memory, if_watching, is_on_device}
use Rattle.ug_core.specs.Policy.{Judging, policy_answer, policy_later}
use Rattle.ug_core.specs.Storing.{noted_store, refused_by, stored_with, with_changes}
use Rattle.ug_core.specs.declared.changes.Change.{Change}
use Rattle.ug_core.specs.declared.changes.Change.TheVariants.{Rules, Set}
use Rattle.ug_types.specs.declared.event.Event.{Event}
use Rattle.ug_types.specs.declared.event.Event.TheVariants.{Sweep, Order, Hint}
use Rattle.ug_core.specs.declared.storing.Stored.{Stored}
use Rattle.ug_core.specs.declared.storing.Stored.TheVariants as stored
use Rattle.ug_core.proofs.Came.{At_first, At_last, At_once, At_probe, By_probe, Came, GoesFrom, No_call, Sets, SetsVerdict, came_so, stores_as}
use Rattle.ug_core.proofs.Values.{quiet_values, runs_values, same_values, values_then}
use Rattle.ug_core.proofs.Asked.{Probed}
use Rattle.ug_core.proofs.Pieces.{met_standings, met_told}

-- ---- what a verdict leaves

-- of a standing that is still to be removed
reject_of : (verdict : Target) (removed : Bool) → (is_reject verdict && not removed) ≡ true → verdict ≡ target.Reject
reject_of target.Allow removed e = let none : ⊥ = cc in absurd none
reject_of target.Block removed e = let none : ⊥ = cc in absurd none
reject_of target.Reject removed e = refl

-- where no default is written, none is due
none_due : (b : Bool) (what : Write) → cond b (default_write None) None ≡ Some what → ⊥
none_due true what e = cc
none_due false what e = cc

-- only where memory was wanted is that said behind a verdict
wanted_of : (lines : List (List ℕ)) (how : Settled) (said : Option Reply) → said ≡ Some (reply_to lines how) → said ≡ Some (reply.Refused (refusal.Memory true)) → how ≡ settled.Memory
wanted_of lines settled.Stands said is e = let none : ⊥ = cc in absurd none
wanted_of lines settled.Nobody said is e = let none : ⊥ = cc in absurd none
wanted_of lines (settled.Fault failed) said is e = let none : ⊥ = cc in absurd none
wanted_of lines settled.Memory said is e = refl

leaves_verdict : {S : Type 0} (gives : S → (call : Call) → Answer call → S → Type 0) (next number : ℕ) (verdict : Target) (who : Named) (on : Bool) (k : Kept) (x : Standing) (s : S) (p : Settled × Kept) (t : S) (lines : List (List ℕ)) (said : Option Reply) → said ≡ Some (reply_to lines p.0) → StandInOrder next k.standings → numbered number k.standings ≡ Some x → Runs gives s (ordering number verdict who on k) p t → LeavesVerdict number verdict k.standings p.1.standings p.0 said
leaves_verdict gives next number verdict who on k x s p t lines said is order at run = record {
  wanting = λ e.
      let y : Standing = with_verdict verdict who x in
      let n = order_short gives number verdict who on k x s p t at run (wanted_of lines p.0 said is e) in
      let same : n.0 ≡ y = let both : Some n.0 ≡ Some y = sym n.1 ∙ numbered_now number verdict who k.standings x at in cc in
      elim n.2 [
        | inl go ↦ reject_of verdict x.removed (subst (λ (z : Standing). is_to_go (known_of z) ≡ true) same go)
        | inr due ↦ absurd (none_due (is_none (parent_of n.0.name) && not (known_of n.0).defaulted) due.0 due.1)
      ];
  marks = order_marks gives next number verdict who on k x s p t order at run;
}

-- ---- in the words of calls

-- an order's own entries tell no failure, and name nothing
rest_quiet : (name : List ℕ) (es : List Entry) → AllBear name es → whys es ≡ [] → (failures_told es ≡ []) × (unsettled_names es ≡ [])
rest_quiet name [] h w = (refl, refl)
rest_quiet name (entry.Judged number other held verdict why ∷ es) h w = rest_quiet name es h.1 w
rest_quiet name (entry.Intent number other what ∷ es) h w = rest_quiet name es h.1 w
rest_quiet name (entry.Wrote number other what outcome ∷ es) h w = rest_quiet name es h.1 w
rest_quiet name (entry.Gone number other ∷ es) h w = rest_quiet name es h.1 w
rest_quiet name (entry.Unsettled other why ∷ es) h w = let none : ⊥ = cc in absurd none
rest_quiet name (e ∷ es) h w = absurd h.0

told_answer : (lines : List (List ℕ)) (how : Settled) → told_in_reply (answer_of (reply_to lines how)) ≡ failed_of how
told_answer lines settled.Stands = refl
told_answer lines settled.Nobody = refl
told_answer lines (settled.Fault failed) = refl
told_answer lines settled.Memory = refl

-- a change tells no failure, and names nothing; nor does a save

abbrev IsSilent : List Entry → Type 0
IsSilent es = (failures_told es ≡ []) × (unsettled_names es ≡ [])

change_silent : (change : Change) (next : ℕ) → IsSilent (change_entry change next ∷ [])
change_silent (Rules (Insert place rule mark)) next = (refl, refl)
change_silent (Rules (Remove id)) next = (refl, refl)
change_silent (Rules (Retarget id rule)) next = (refl, refl)
change_silent (Set set) next = (refl, refl)

silent_more : (es : List Entry) (e : Entry) → IsSilent es → IsSilent (e ∷ []) → IsSilent (es ++ e ∷ [])
silent_more es e a b = (
  told_more es (e ∷ []) ∙ ap (λ (x : List FailedCall). x ++ failures_told (e ∷ [])) a.0 ∙ b.0,
  names_more es (e ∷ []) ∙ ap (λ (x : List (List ℕ)). x ++ unsettled_names (e ∷ [])) a.1 ∙ b.1,
)

store_silent : (became : Stored) (d : DaemonState) → IsSilent d.sweep.entries → IsSilent (noted_store became d).sweep.entries
store_silent stored.NotNeeded d h = h
store_silent stored.Done d h = silent_more d.sweep.entries (entry.Save saved.Done) h (refl, refl)
store_silent (stored.Failed count) d h = silent_more d.sweep.entries (entry.Save (saved.Failed count)) h (refl, refl)
store_silent stored.TooLong d h = h
store_silent stored.Memory d h = h

changes_silent : (change : Option Change) (d : DaemonState) → IsSilent d.sweep.entries → IsSilent (with_changes change d).sweep.entries
changes_silent None d h = h
changes_silent (Some change) d h = silent_more d.sweep.entries (change_entry change d.sweep.judge.next) h (change_silent change d.sweep.judge.next)

-- nor do they change standings

store_standings : (became : Stored) (d : DaemonState) → ((noted_store became d).sweep.standings ≡ d.sweep.standings) × ((noted_store became d).sweep.next ≡ d.sweep.next)
store_standings stored.NotNeeded d = (refl, refl)
store_standings stored.Done d = (refl, refl)
store_standings (stored.Failed count) d = (refl, refl)
store_standings stored.TooLong d = (refl, refl)
store_standings stored.Memory d = (refl, refl)

changes_standings : (change : Option Change) (d : DaemonState) → ((with_changes change d).sweep.standings ≡ d.sweep.standings) × ((with_changes change d).sweep.next ≡ d.sweep.next)
changes_standings None d = (refl, refl)
changes_standings (Some change) d = (refl, refl)

pub now_standings : (change : Option Change) (became : Stored) (d : DaemonState) → ((with_changes change (noted_store became d)).sweep.standings ≡ d.sweep.standings) × ((with_changes change (noted_store became d)).sweep.next ≡ d.sweep.next)
now_standings change became d =
    let x = changes_standings change (noted_store became d) in
    let y = store_standings became d in
    (x.0 ∙ y.0, x.1 ∙ y.1)

-- what an order made
pub record Answered {S : Type 0} (gives : S → (call : Call) → Answer call → S → Type 0) (calls faults : S → ℕ) (event : Event) (s : S) (d : DaemonState) (became : Stored) (t : S) (a : DaemonState) : Type 0 where
  pub made : List Made
  pub along : Along gives s made t
  pub goes : GoesAsAnswer gives calls faults event s d became made t a
  pub told : failures_told a.sweep.entries ≡ failures made
  pub nameless : unsettled_names a.sweep.entries ≡ []

reply_told : (said : Reply) (a b : DaemonState) → a ≡ replying said b → failures_told a.sweep.entries ≡ failures_told b.sweep.entries ++ told_in_reply (answer_of said)
reply_told said a b is =
    ap (λ (x : DaemonState). failures_told x.sweep.entries) is
    ∙ told_more b.sweep.entries (entry.Reply (answer_of said) ∷ [])
    ∙ ap (λ (x : List FailedCall). failures_told b.sweep.entries ++ x) (append-nil (told_in_reply (answer_of said)))

reply_names : (said : Reply) (a b : DaemonState) → a ≡ replying said b → unsettled_names a.sweep.entries ≡ unsettled_names b.sweep.entries
reply_names said a b is =
    ap (λ (x : DaemonState). unsettled_names x.sweep.entries) is
    ∙ names_more b.sweep.entries (entry.Reply (answer_of said) ∷ [])
    ∙ append-nil (unsettled_names b.sweep.entries)

module _ {S : Type 0} (gives : S → (call : Call) → Answer call → S → Type 0) (calls faults : S → ℕ) (counting : Counting gives calls faults) (moment : Moment) (who : Named) (line : List ℕ) (s : S) (d : DaemonState) (change : Option Change) (became : Stored) (t : S) (a : DaemonState) (none : calls s ≡ 0) (order : StandInOrder d.sweep.next d.sweep.standings) (silent : IsSilent d.sweep.entries) where
  abbrev Made_so : Type 0
  Made_so = Answered gives calls faults (Order moment who line) s d became t a

  refused_made : (r : Refusal) (made : List Made) → Along gives s made t → (made ≡ []) ⊎ ((x : Standing) × (f : ToldAnswer Probe) × Has d.sweep.standings x × (made ≡ made_with (Ask_alive x.held.0) f ∷ [])) → failures made ≡ told_in_reply (Err r) → a ≡ replying (reply.Refused r) (noted_store became d) → Made_so
  refused_made r made along calls told is =
      let before = store_silent became d silent in
      record {
        made = made;
        along = along;
        goes = inl (record { refused = r; calls = calls; told = told; state = is });
        told = reply_told (reply.Refused r) a (noted_store became d) is ∙ ap (λ (x : List FailedCall). x ++ told_in_reply (Err r)) before.0 ∙ sym told;
        nameless = reply_names (reply.Refused r) a (noted_store became d) is ∙ before.1;
      }

  -- the first call of an event has number 1
  first_number : (held : ℕ) (found : ToldAnswer Probe) (u : S) → gives s (Ask_alive held) found u → found.number ≡ 1
  first_number held found u probed = (subst (λ (n : ℕ). AreNumbered n (made_with (Ask_alive held) found ∷ [])) none (along_numbered gives calls faults counting (made_with (Ask_alive held) found ∷ []) s u (u, probed, refl))).0

  -- a probe that answered that makes this of the failures
  probe_failures : (found : ToldAnswer Probe) (held : ℕ) (q : Probe) → found.answer ≡ q → failures (made_with (Ask_alive held) found ∷ []) ≡ (cond (is_probe_failed q) (failure_of found ∷ []) []) ++ []
  probe_failures found held q is = ap (λ (p : Probe). (cond (is_probe_failed p) (failure_of found ∷ []) []) ++ []) is

  set_made : SetsVerdict gives who line d change became s t a → Made_so
  set_made y =
      let x = y.x in
      let now : DaemonState = with_changes change (noted_store became d) in
      let same = now_standings change became d in
      let here : numbered y.number now.sweep.standings ≡ Some x.standing = subst (λ (ss : List Standing). numbered y.number ss ≡ Some x.standing) (sym same.0) x.stands in
      let in_order : StandInOrder now.sweep.next now.sweep.standings = subst (λ (ss : List Standing). StandInOrder now.sweep.next ss) (sym same.0) (subst (λ (n : ℕ). StandInOrder n d.sweep.standings) (sym same.1) order) in
      let g = order_part gives calls faults counting now.sweep.next y.number y.verdict who y.on (kept_of now.sweep.standings now.sweep.entries) x.standing y.behind y.p t in_order here y.run in
      let z = with_verdict y.verdict who x.standing in
      let rest = rest_quiet x.standing.name g.rest g.bears g.why in
      let b : DaemonState = keeping y.p.1 now in
      let m : Made = made_with (Ask_alive x.standing.held.0) x.found in
      let lines = change_lines_of change d.sweep.judge.next in
      let quiet = changes_silent change (noted_store became d) (store_silent became d silent) in
      let before : failures_told y.p.1.entries ≡ [] = ap (λ (es : List Entry). failures_told es) g.entries ∙ told_more now.sweep.entries (verdict_entry z ∷ g.rest) ∙ ap (λ (fs : List FailedCall). fs ++ failures_told g.rest) quiet.0 ∙ rest.0 in
      let names : unsettled_names y.p.1.entries ≡ [] = ap (λ (es : List Entry). unsettled_names es) g.entries ∙ names_more now.sweep.entries (verdict_entry z ∷ g.rest) ∙ ap (λ (ns : List (List ℕ)). ns ++ unsettled_names g.rest) quiet.1 ∙ rest.1 in
      let alive : failure (Ask_alive x.standing.held.0) x.found ≡ [] = ap (λ (q : Probe). cond (is_probe_failed q) (failure_of x.found ∷ []) []) y.alive in
      record {
        made = m ∷ g.made;
        along = (y.behind, x.probed, g.along);
        goes = inr (inr (record { number = y.number; verdict = y.verdict; standing = x.standing; stands = x.stands; on = y.on; found = x.found; alive = y.alive; behind = y.behind; probed = x.probed; change = change; changed = now; after_change = refl; how = y.p.0; kept = y.p.1; goes = g; made_is = refl; leaves = leaves_verdict gives now.sweep.next y.number y.verdict who y.on (kept_of now.sweep.standings now.sweep.entries) x.standing y.behind y.p t lines a.reply (ap (λ (v : DaemonState). v.reply) y.state) in_order here y.run; lines = lines; state = y.state }));
        told = reply_told (reply_to lines y.p.0) a b y.state ∙ ap (λ (fs : List FailedCall). fs ++ told_in_reply (answer_of (reply_to lines y.p.0))) before ∙ told_answer lines y.p.0 ∙ sym g.failed ∙ ap (λ (fs : List FailedCall). fs ++ failures g.made) (sym alive);
        nameless = reply_names (reply_to lines y.p.0) a b y.state ∙ names;
      }

  at_once_made : (x : AnswersAtOnce who line d became a) → t ≡ s → Made_so
  at_once_made x same =
      let quiet = changes_silent x.outcome.change (noted_store became d) (store_silent became d silent) in
      let before : DaemonState = with_changes x.outcome.change (noted_store became d) in
      let watching : (b : Bool) (v : DaemonState) → (if_watching b v).sweep ≡ v.sweep = watching_sweep in
      let entries : a.sweep.entries ≡ before.sweep.entries ++ entry.Reply (Ok tt) ∷ [] = ap (λ (v : DaemonState). v.sweep.entries) x.state ∙ ap (λ (v : State Judging). v.entries) (watching x.outcome.watches (replying (reply.Lines x.outcome.lines) before)) in
      let says = silent_more before.sweep.entries (entry.Reply (Ok tt)) quiet (refl, refl) in
      record { made = []; along = same; goes = inr (inl (refl, x)); told = ap (λ (es : List Entry). failures_told es) entries ∙ says.0; nameless = ap (λ (es : List Entry). unsettled_names es) entries ∙ says.1 }
    where
      watching_sweep : (b : Bool) (v : DaemonState) → (if_watching b v).sweep ≡ v.sweep
      watching_sweep true v = refl
      watching_sweep false v = refl

  goes_made : (asked : Request) → GoesFrom gives who line d s t asked → (r : Refusal) → told_in_reply (Err r) ≡ [] → a ≡ replying (reply.Refused r) (noted_store became d) → Made_so
  goes_made _ (No_call asked reads granted unsaved same) r quiet is = refused_made r [] same (inl refl) (sym quiet) is
  goes_made _ (By_probe number verdict permanent on x alive) r quiet is =
      refused_made r (made_with (Ask_alive x.standing.held.0) x.found ∷ []) (t, x.probed, refl) (inr (x.standing, x.found, (numbered_has number d.sweep.standings x.standing x.stands).0, refl))
      (probe_failures x.found x.standing.held.0 (probe.Alive on) alive ∙ sym quiet) is

  probe_made : (number : ℕ) (verdict : Target) (permanent : Bool) (x : Probed gives who line d number verdict permanent s t) (r : Refusal) → ((x.found.answer ≡ probe.Gone) × (r ≡ refusal.NoDevice number)) ⊎ ((x.found.answer ≡ probe.Failed) × (r ≡ refusal.ProbeFault x.found.count)) → a ≡ replying (reply.Refused r) (noted_store became d) → Made_so
  probe_made number verdict permanent x r (inl w) is =
      refused_made r (made_with (Ask_alive x.standing.held.0) x.found ∷ []) (t, x.probed, refl) (inr (x.standing, x.found, (numbered_has number d.sweep.standings x.standing x.stands).0, refl))
      (probe_failures x.found x.standing.held.0 probe.Gone w.0 ∙ ap (λ (v : Refusal). told_in_reply (Err v)) (sym w.1)) is
  probe_made number verdict permanent x r (inr w) is =
      refused_made r (made_with (Ask_alive x.standing.held.0) x.found ∷ []) (t, x.probed, refl) (inr (x.standing, x.found, (numbered_has number d.sweep.standings x.standing x.stands).0, refl))
      (probe_failures x.found x.standing.held.0 probe.Failed w.0 ∙ ap (λ (n : ℕ). let f : FailedCall = record { call = n; count = x.found.count } in f ∷ []) (first_number x.standing.held.0 x.found t x.probed) ∙ ap (λ (v : Refusal). told_in_reply (Err v)) (sym w.1)) is

  order_made : Came gives who line d change became s t a → Made_so
  order_made (At_first r why quiet none unsaved same is) = refused_made r [] same (inl refl) (sym quiet) is
  order_made (At_once x changes same) = at_once_made x same
  order_made (At_probe number verdict permanent x r why none unsaved is) = probe_made number verdict permanent x r why is
  order_made (At_last asked goes r why quiet none is) = goes_made asked goes r quiet is
  order_made (Sets y) = set_made y

-- before the order nothing is told of a failed call, and nothing is named

pub ready_failures : (event : Event) (tried : Option Saved) (d : DaemonState) → failures_told (ready event tried d).sweep.entries ≡ []
ready_failures (Sweep moment) None d = refl
ready_failures (Sweep moment) (Some saved) d = refl
ready_failures (Hint moment piece) None d = refl
ready_failures (Hint moment piece) (Some saved) d = refl
ready_failures (Order moment who line) None d = refl
ready_failures (Order moment who line) (Some saved) d = refl

pub ready_names : (event : Event) (tried : Option Saved) (d : DaemonState) → unsettled_names (ready event tried d).sweep.entries ≡ []
ready_names (Sweep moment) None d = refl
ready_names (Sweep moment) (Some saved) d = refl
ready_names (Hint moment piece) None d = refl
ready_names (Hint moment piece) (Some saved) d = refl
ready_names (Order moment who line) None d = refl
ready_names (Order moment who line) (Some saved) d = refl

pub answering_made : {S T : Type 0} (gives : S → (call : Call) → Answer call → S → Type 0) (calls faults : S → ℕ) → Counting gives calls faults → (keeps : T → (call : DiskCall) → DiskTold call → T → Type 0) (event : Event) (s : S) (o : T) (d : DaemonState) (became : Stored) (t : S) (p : T) (a : DaemonState) → calls s ≡ 0 → StandInOrder d.sweep.next d.sweep.standings → failures_told d.sweep.entries ≡ [] → unsettled_names d.sweep.entries ≡ [] → RunsAnswer gives keeps event s o d became t p a → Answered gives calls faults event s d became t a
answering_made gives calls faults counting keeps (Sweep moment) s o d became t p a none order quiet nameless h = record {
  made = [];
  along = h.0;
  goes = (refl, h.3);
  told = ap (λ (x : DaemonState). failures_told x.sweep.entries) h.3 ∙ quiet;
  nameless = ap (λ (x : DaemonState). unsettled_names x.sweep.entries) h.3 ∙ nameless;
}
answering_made gives calls faults counting keeps (Hint moment piece) s o d became t p a none order quiet nameless h =
    let silent = met_told piece d a h.3 quiet nameless in
    record { made = []; along = h.0; goes = (refl, h.3); told = silent.0; nameless = silent.1 }
answering_made gives calls faults counting keeps (Order moment who line) s o d became t p a none order quiet nameless h = order_made gives calls faults counting moment who line s d h.choice.change became t a none order (quiet, nameless) (came_so gives who line d became s h.behind t a h.choice h.asks (stores_as keeps o d h.choice.change became p h.stores) h.acts)

-- ---- in the words of devices

-- what the reply tells
tells_verdict : (lines : List (List ℕ)) (how : Settled) (said : Option Reply) → said ≡ Some (reply_to lines how) → TellsVerdict lines how said
tells_verdict lines settled.Stands said is = is
tells_verdict lines settled.Nobody said is = is
tells_verdict lines (settled.Fault failed) said is = is
tells_verdict lines settled.Memory said is = is

module _ (who : Named) (line : List ℕ) (k : Kernel) (d : DaemonState) (change : Option Change) (became : Stored) (l : Kernel) (a : DaemonState) (sound : IsKernel k) (stand : Stand k d.sweep.standings d.sweep.next) where
  abbrev It_is : Type 0
  It_is = RefusesOrder who line k d became l a ⊎ (((l ≡ k) × AnswersAtOnce who line d became a) ⊎ CarriesOut who line k d became l a)

  -- what a probe leaves
  record Looked (x : Standing) (q : Probe) (m : Kernel) : Type 0 where
    sound_after : IsKernel m
    quiet : Quiet k m
    probed : ProbedOne x k m q

  looked : (number : ℕ) (verdict : Target) (permanent : Bool) (m : Kernel) (x : Probed calls who line d number verdict permanent k m) (q : Probe) → x.found.answer ≡ q → Looked x.standing q m
  looked number verdict permanent m x q is =
      let c = x.probed in
      let quiet = called_quiet (Ask_alive x.standing.held.0) x.found k m tt c in
      record { sound_after = c.sound; quiet = quiet; probed = record { sound = c.sound; quiet = quiet; says = subst (λ (v : Probe). says_probe x.standing.held.0 v k m) is c.says } }

  -- nothing was called
  unmoved : l ≡ k → IsKernel l × Quiet k l
  unmoved same = (subst (λ (v : Kernel). IsKernel v) (sym same) sound, subst (λ (v : Kernel). Quiet k v) (sym same) (quiet_refl k))

  unchanged_by : (asked : Request) (r : Refusal) → RefusesBehind d became asked r → IsSome (refused_by became) ⊎ (became ≡ stored.NotNeeded)
  unchanged_by _ _ (No_record number verdict standing kind place stands is unsaved) = inr unsaved
  unchanged_by _ _ (No_room number verdict rule asks full unsaved) = inr unsaved
  unchanged_by _ _ (Without_memory asked unsaved) = inr unsaved
  unchanged_by _ _ (Unstored asked refused change asks can why) = by_store became why
    where
      by_store : (b : Stored) → StoreRefuses d.sweep.judge change b refused → IsSome (refused_by b) ⊎ (b ≡ stored.NotNeeded)
      by_store stored.NotNeeded w = absurd w
      by_store stored.Done w = absurd w
      by_store (stored.Failed count) w = inl refl
      by_store stored.TooLong w = inl refl
      by_store stored.Memory w = inl refl

  goes_on : (asked : Request) → is_on_device asked ≡ false → l ≡ k → GoesOn d asked k l
  goes_on (request.Device number verdict permanent) unsaved same = let none : ⊥ = cc in absurd none
  goes_on (request.GetParameter name) unsaved same = same
  goes_on (request.SetParameter name value) unsaved same = same
  goes_on request.ListDevices unsaved same = same
  goes_on request.ListRules unsaved same = same
  goes_on (request.AppendRule place permanent text) unsaved same = same
  goes_on (request.RemoveRule id) unsaved same = same
  goes_on request.Watch unsaved same = same

  last_so : (asked : Request) → GoesFrom calls who line d k l asked → (r : Refusal) → RefusesBehind d became asked r → a ≡ replying (reply.Refused r) (noted_store became d) → It_is
  last_so _ (No_call asked reads granted unsaved same) r why is =
      let x = unmoved same in
      inl (record { refused = r; why = inr (inr (record { asked = asked; reads = reads; granted = granted; goes = goes_on asked unsaved same; why = why })); unchanged = unchanged_by asked r why; sound = x.0; quiet = x.1; state = is })
  last_so _ (By_probe number verdict permanent on x alive) r why is =
      let y = looked number verdict permanent l x (probe.Alive on) alive in
      inl (record {
        refused = r;
        why = inr (inr (record { asked = request.Device number verdict permanent; reads = x.reads; granted = x.granted; goes = record { standing = x.standing; stands = x.stands; on = on; probed = y.probed }; why = why }));
        unchanged = unchanged_by (request.Device number verdict permanent) r why;
        sound = y.sound_after;
        quiet = y.quiet;
        state = is;
      })

  unfound_so : (number : ℕ) (verdict : Target) (permanent : Bool) (x : Probed calls who line d number verdict permanent k l) (q : Probe) (r : Refusal) → x.found.answer ≡ q → ProbeRefuses number q r → became ≡ stored.NotNeeded → a ≡ replying (reply.Refused r) (noted_store became d) → It_is
  unfound_so number verdict permanent x q r is why unsaved state =
      let y = looked number verdict permanent l x q is in
      inl (record {
        refused = r;
        why = inr (inl (record { number = number; verdict = verdict; permanent = permanent; asked = x.reads; granted = x.granted; standing = x.standing; stands = x.stands; found = q; probed = y.probed; is = why }, unsaved));
        unchanged = inr unsaved;
        sound = y.sound_after;
        quiet = y.quiet;
        state = state;
      })

  set_so : SetsVerdict calls who line d change became k l a → It_is
  set_so y =
      let x = y.x in
      let now : DaemonState = with_changes change (noted_store became d) in
      let same = now_standings change became d in
      let here : numbered y.number now.sweep.standings ≡ Some x.standing = subst (λ (ss : List Standing). numbered y.number ss ≡ Some x.standing) (sym same.0) x.stands in
      let z = looked y.number y.verdict y.permanent y.behind x (probe.Alive y.on) y.alive in
      let stand_now : Stand k now.sweep.standings now.sweep.next = subst (λ (ss : List Standing). Stand k ss now.sweep.next) (sym same.0) (subst (λ (n : ℕ). Stand k d.sweep.standings n) (sym same.1) stand) in
      let was : Kept = kept_of now.sweep.standings now.sweep.entries in
      let told = (ways_run calls (EndsOrder x.standing (with_verdict y.verdict who x.standing) was) (ordering y.number y.verdict who y.on was) y.behind y.p l (ordering_ways y.number y.verdict who y.on was x.standing here) y.run).so in
      inr (inr (record {
        number = y.number;
        verdict = y.verdict;
        permanent = y.permanent;
        asked = x.reads;
        granted = x.granted;
        standing = x.standing;
        stands = x.stands;
        on = y.on;
        middle = y.behind;
        probed = z.probed;
        change = change;
        asks = y.asks;
        has = y.has;
        in_force = y.in_force;
        changed = now;
        after_change = refl;
        how = y.p.0;
        kept = y.p.1;
        law = order_one y.number y.verdict who y.on now.sweep y.behind l y.p x.standing z.sound_after (stand_stays k y.behind now.sweep.standings now.sweep.next (quiet_grows k y.behind z.quiet) stand_now) here y.run;
        leaves = leaves_verdict calls now.sweep.next y.number y.verdict who y.on was x.standing y.behind y.p l (change_lines_of change d.sweep.judge.next) a.reply (ap (λ (v : DaemonState). v.reply) y.state) (kept_order stand_now) here y.run;
        rest = told.rest;
        entries = told.entries;
        bears = told.bears;
        given = told.given;
        values = values_then k y.behind l (quiet_values k y.behind z.quiet) (runs_values (ordering y.number y.verdict who y.on was) y.behind y.p l y.run);
        tells = tells_verdict (change_lines_of change d.sweep.judge.next) y.p.0 a.reply (ap (λ (v : DaemonState). v.reply) y.state);
        state = y.state;
      }))

  order_so : Came calls who line d change became k l a → It_is
  order_so (At_first r why quiet none unsaved same is) = let x = unmoved same in inl (record { refused = r; why = inl (why, same, unsaved); unchanged = inr unsaved; sound = x.0; quiet = x.1; state = is })
  order_so (At_once x changes same) = inr (inl (same, x))
  order_so (At_probe number verdict permanent x r (inl w) none unsaved is) = unfound_so number verdict permanent x probe.Gone r w.0 w.1 unsaved is
  order_so (At_probe number verdict permanent x r (inr w) none unsaved is) = unfound_so number verdict permanent x probe.Failed r w.0 (x.found.count, w.1) unsaved is
  order_so (At_last asked goes r why quiet none is) = last_so asked goes r why is
  order_so (Sets y) = set_so y

pub answering_told : {S T : Type 0} (gives : S → (call : Call) → Answer call → S → Type 0) (told : S → Option Kernel) → ((s : S) (call : Call) (answer : Answer call) (t : S) (l : Kernel) → gives s call answer t → told t ≡ Some l → Follows call answer (told s) l) → (keeps : T → (call : DiskCall) → DiskTold call → T → Type 0) (event : Event) (s : S) (o : T) (d : DaemonState) (became : Stored) (t : S) (p : T) (a : DaemonState) → RunsAnswer gives keeps event s o d became t p a → AnswersInEvent told event s d became t a
answering_told gives told did keeps (Sweep moment) s o d became t p a h = λ l e. (l, subst (λ (v : _). told v ≡ Some l) h.0 e, λ sound stand. (refl, h.2, h.3))
answering_told gives told did keeps (Hint moment piece) s o d became t p a h = λ l e. (l, subst (λ (v : _). told v ≡ Some l) h.0 e, λ sound stand. (refl, h.2, h.3))
answering_told gives told did keeps (Order moment who line) s o d became t p a h = λ l e.
    let stores = stores_as keeps o d h.choice.change became p h.stores in
    let now : DaemonState = stored_with became h.choice.change d in
    let second = told_run gives told did (acting who now (deed_after became h.choice.deed)) h.behind a t l h.acts e in
    let first = told_run gives told did (asking d who line) s h.choice h.behind second.kernel h.asks second.was in (
      first.kernel,
      first.was,
      λ sound stand.
          let asked = first.run sound in
          let acted = second.run asked.1 in
          order_so who line first.kernel d h.choice.change became l a sound stand (came_so calls who line d became first.kernel second.kernel l a h.choice asked.0 stores acted.0),
    )

-- values change by the writes of an order alone
pub answered_values : (event : Event) (k : Kernel) (d : DaemonState) (became : Stored) (l : Kernel) (a : DaemonState) → AnswersEvent event k d became l a → LogsValues k l
answered_values (Sweep moment) k d became l a h = same_values k l h.0
answered_values (Hint moment piece) k d became l a h = same_values k l h.0
answered_values (Order moment who line) k d became l a (inl h) = quiet_values k l h.quiet
answered_values (Order moment who line) k d became l a (inr (inl h)) = same_values k l h.0
answered_values (Order moment who line) k d became l a (inr (inr h)) = h.values

-- behind an order the kernel is sound, and the standings are of its devices

once_standings : (d a : DaemonState) (became : Stored) (outcome : Outcome) → a ≡ if_watching outcome.watches (replying (reply.Lines outcome.lines) (with_changes outcome.change (noted_store became d))) → (a.sweep.standings ≡ d.sweep.standings) × (a.sweep.next ≡ d.sweep.next)
once_standings d a became outcome is = by_watch outcome.watches is
  where
    by_watch : (b : Bool) → a ≡ if_watching b (replying (reply.Lines outcome.lines) (with_changes outcome.change (noted_store became d))) → (a.sweep.standings ≡ d.sweep.standings) × (a.sweep.next ≡ d.sweep.next)
    by_watch true same = let x = now_standings outcome.change became d in (ap (λ (v : DaemonState). v.sweep.standings) same ∙ x.0, ap (λ (v : DaemonState). v.sweep.next) same ∙ x.1)
    by_watch false same = let x = now_standings outcome.change became d in (ap (λ (v : DaemonState). v.sweep.standings) same ∙ x.0, ap (λ (v : DaemonState). v.sweep.next) same ∙ x.1)

stands_still : (k : Kernel) (d a : DaemonState) → (a.sweep.standings ≡ d.sweep.standings) × (a.sweep.next ≡ d.sweep.next) → Stand k d.sweep.standings d.sweep.next → Stand k a.sweep.standings a.sweep.next
stands_still k d a same stand = subst (λ (ss : List Standing). Stand k ss a.sweep.next) (sym same.0) (subst (λ (n : ℕ). Stand k d.sweep.standings n) (sym same.1) stand)

pub refused_standings : (d a : DaemonState) (became : Stored) (r : Refusal) → a ≡ replying (reply.Refused r) (noted_store became d) → (a.sweep.standings ≡ d.sweep.standings) × (a.sweep.next ≡ d.sweep.next)
refused_standings d a became r is = let x = store_standings became d in (ap (λ (v : DaemonState). v.sweep.standings) is ∙ x.0, ap (λ (v : DaemonState). v.sweep.next) is ∙ x.1)

pub answered_stands : (event : Event) (k : Kernel) (d : DaemonState) (became : Stored) (l : Kernel) (a : DaemonState) → IsKernel k → Stand k d.sweep.standings d.sweep.next → AnswersEvent event k d became l a → IsKernel l × Stand l a.sweep.standings a.sweep.next
answered_stands (Sweep moment) k d became l a sound stand h = (subst (λ (v : Kernel). IsKernel v) (sym h.0) sound, subst (λ (v : Kernel). Stand v a.sweep.standings a.sweep.next) (sym h.0) (subst (λ (x : DaemonState). Stand k x.sweep.standings x.sweep.next) (sym h.2) stand))
answered_stands (Hint moment piece) k d became l a sound stand h = (subst (λ (v : Kernel). IsKernel v) (sym h.0) sound, subst (λ (v : Kernel). Stand v a.sweep.standings a.sweep.next) (sym h.0) (stands_still k d a (met_standings piece d a h.2) stand))
answered_stands (Order moment who line) k d became l a sound stand (inl h) = (h.sound, stands_still l d a (refused_standings d a became h.refused h.state) (stand_stays k l d.sweep.standings d.sweep.next (quiet_grows k l h.quiet) stand))
answered_stands (Order moment who line) k d became l a sound stand (inr (inl h)) =
    (subst (λ (v : Kernel). IsKernel v) (sym h.0) sound, subst (λ (v : Kernel). Stand v a.sweep.standings a.sweep.next) (sym h.0) (stands_still k d a (once_standings d a became h.1.outcome h.1.state) stand))
answered_stands (Order moment who line) k d became l a sound stand (inr (inr h)) =
    let fair = h.law.fair policy_answer policy_later (terms_of false None) swept_before in
    (fair.sound, subst (λ (x : DaemonState). Stand l x.sweep.standings x.sweep.next) (sym h.state) fair.stand)

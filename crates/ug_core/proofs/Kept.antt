-- What a crash may leave of the rule file in an event, and along a run.
use Rattle.std.proofs.Common.{◌≡◌, ℕ, Bool, true, false, cond, List, [], ◌∷◌, ◌++◌, Option, Some, None, Ok, Err, inl, inr, refl, sym, ◌∙◌, ap, subst, append-nil, ◌⊎◌, append_assoc, length}
use Rattle.ug_types.specs.Elements.{Has}
use Rattle.ug_types.specs.declared.saved.Saved.{Saved}
use Rattle.ug_types.specs.declared.saved.Saved.TheVariants as saved
use Rattle.ug_kernel.specs.Kernel.{Kernel}
use Rattle.ug_kernel.specs.Calls.{Call, Answer}
use Rattle.ug_audit.specs.declared.entry.Entry.{Entry}
use Rattle.ug_audit.specs.declared.entry.Entry.TheVariants as entry
use Rattle.ug_policy.specs.declared.entry.RuleEntry.{RuleEntry}
use Rattle.ug_store.specs.Disk.{Disk, Images, FollowsOnDisk}
use Rattle.ug_store.specs.DiskCalls.{DiskCall, DiskTold}
use Rattle.ug_store.specs.Store.{Ended, RunsDisk, saving, HasSaved, SavedAs}
use Rattle.ug_store.proofs.DiskRuns.{runs_split_disk}
use Rattle.ug_store.proofs.Saving.{disk_calls, told_disk, saves}
use Rattle.ug_store.proofs.Standing.{possible_runs}
use Rattle.ug_table.specs.Orders.{with_verdict, verdict_entry}
use Rattle.ug_table.specs.State.{State}
use Rattle.ug_table.specs.declared.standing.Standing.{Standing}
use Rattle.ug_core.specs.Policy.{Judging}
use Rattle.ug_ruleset.specs.RuleFile.{permanent_text}
use Rattle.ug_core.specs.Answering.{answer_of, reply_to, replying}
use Rattle.ug_cond.specs.declared.context.Context.{Context}
use Rattle.ug_types.specs.declared.record.Judged.{Judged}
use Rattle.ug_types.specs.declared.record.Judged.TheVariants as judged
use Rattle.ug_core.specs.Changes.{change_asked, record_change, standing_change, change_entry, changed_by, is_saved, change_lines_of, text_if_saved}
use Rattle.ug_core.specs.declared.changes.Change.{Change}
use Rattle.ug_core.specs.declared.changes.Change.TheVariants.{Rules, Set}
use Rattle.ug_proto.specs.declared.reply.Reply.TheVariants as reply
use Rattle.ug_proto.specs.declared.request.Request.{Request}
use Rattle.ug_core.specs.Event.{DaemonState, if_text, if_pending, trying, ready}
use Rattle.ug_core.specs.Laws.{TellsSweep, AnswersAtOnce, IsInForce, No_record, No_room, Outcome, RefusesBehind, RunsAnswer, StoreRefuses, TellsEvent, Unstored, Without_memory, change_of, if_watching}
use Rattle.ug_types.specs.declared.event.Event.{Event}
use Rattle.ug_types.specs.declared.event.Event.TheVariants.{Sweep, Order, Hint}
use Rattle.ug_core.specs.Durable.{IsKept, KeepsFile, if_written, unsure_behind, unsure_with, as_list, text_of_change, text_of_request, texts_of}
use Rattle.ug_core.specs.Chain.{Happened, StaysOnDisk, Chain, IsKeptThroughout, unsure_past}
use Rattle.ug_core.proofs.Plain.{SameRules}
use Rattle.std.specs.Prelude.{IsSome, nat_le, length, Result}
use Rattle.ug_types.specs.Limits.{text_limit}
use Rattle.ug_types.proofs.Elements.{has_left, has_right}
use Rattle.ug_types.specs.Principals.{Named}
use Rattle.ug_types.specs.declared.refusal.Refusal.{Refusal}
use Rattle.ug_types.specs.declared.refusal.Refusal.TheVariants as refusal
use Rattle.ug_types.specs.declared.verdict.Target.{Target}
use Rattle.ug_kernel.proofs.Ways.{ways_run}
use Rattle.ug_proto.specs.Privileges.{needs}
use Rattle.ug_proto.specs.Requests.{request_read}
use Rattle.ug_proto.specs.declared.request.Request.TheVariants as request
use Rattle.ug_ruleset.specs.RuleEdits.{changes_file}
use Rattle.ug_ruleset.specs.declared.edit.Edit.{Edit}
use Rattle.ug_ruleset.proofs.Edited.{text_stays}
use Rattle.ug_ruleset.proofs.Given.{text_given}
use Rattle.ug_store.specs.Disk.{IsImage}
use Rattle.ug_table.specs.Orders.{ordering}
use Rattle.ug_table.specs.Standings.{numbered}
use Rattle.ug_table.specs.State.{Kept, kept_of}
use Rattle.ug_table.proofs.Ordered.{EndsOrder, ordering_ways}
use Rattle.ug_core.specs.Privileges.{is_granted}
use Rattle.ug_core.specs.Storing.{after_saving, if_fits, if_kept, if_saved, noted_store, refused_by, storing, with_changes}
use Rattle.ug_core.specs.declared.choosing.Choice.{Choice}
use Rattle.ug_core.specs.declared.storing.Stored.{Stored}
use Rattle.ug_core.specs.declared.storing.Stored.TheVariants as stored
use Rattle.ug_core.proofs.Answered.{now_standings}
use Rattle.ug_core.proofs.Asked.{Asked, Chosen, Chosen_first, Found, FoundSo, Not_found, Refused_first, Refused_so, Set_so, Told_change, Told_lines, Told_watch, asked_of}
use Rattle.ug_core.proofs.Pieces.{met_judge}
use Rattle.ug_core.proofs.Came.{StoresAs, At_first, At_last, At_once, At_probe, Came, Sets, SetsVerdict, came_so, stores_as}

-- ---- between events

pub stays_there : (o : Option Disk) → StaysOnDisk o o
stays_there o n e = (n, e, record { text = refl; fresh = refl; synced = refl; left = refl })

pub stays_then : (o p q : Option Disk) → StaysOnDisk o p → StaysOnDisk p q → StaysOnDisk o q
stays_then o p q f g n e =
    let b = g n e in
    let a = f b.0 b.1 in
    (a.0, a.1, record { text = b.2.text ∙ a.2.text; fresh = b.2.fresh ∙ a.2.fresh; synced = b.2.synced ∙ a.2.synced; left = b.2.left ∙ a.2.left })

-- ---- along a run

kept_same : (rules : List RuleEntry) (unsure : List (List ℕ)) (left images : Images) → images ≡ left → IsKept rules unsure left → IsKept rules unsure images
kept_same rules unsure left images same h = subst (λ (i : Images). IsKept rules unsure i) (sym same) h

pub kept_along : (k : Kernel) (o : Option Disk) (d : DaemonState) (hs : List Happened) (l : Kernel) (p : Option Disk) (e : DaemonState) → Chain k o d hs l p e → IsKeptThroughout d.sweep.judge.rules o hs p e.sweep.judge.rules
kept_along k o d [] l p e c n told =
    let a = c.1 n told in
    (a.0, a.1, λ unsure h. (tt, subst (λ (x : DaemonState). IsKept x.sweep.judge.rules unsure n.left) (sym c.2) (kept_same d.sweep.judge.rules unsure a.0.left n.left a.2.left h)))
kept_along k o d (g ∷ hs) l p e c n told =
    let later = kept_along g.kernel_after g.disk_after g.after hs l p e c.4 n told in
    let here = c.3.file later.0 later.1 in
    let a = c.1 here.0 here.1 in (
      a.0,
      a.1,
      λ unsure h.
          let start : IsKept g.before.sweep.judge.rules unsure here.0.left = subst (λ (x : DaemonState). IsKept x.sweep.judge.rules unsure here.0.left) (sym c.2) (kept_same d.sweep.judge.rules unsure a.0.left here.0.left a.2.left h) in
          let kept = here.2 unsure start in
          let rest = later.2 (unsure_past unsure g) kept.left in
          ((record { disk = here.0; told = here.1; disk_after = later.0; told_after = later.1; before = start; kept = kept }, rest.0), rest.1),
    )

-- ---- a pending save

record KeptStage (rules : List RuleEntry) (unsure : List (List ℕ)) (m : Disk) (tried : Option Saved) (n : Disk) : Type 0 where
  since : List Images
  past : n.past ≡ m.past ++ since
  each : (images : Images) → Has since images → IsKept rules unsure images
  left : IsKept rules (unsure_with tried unsure) n.left

left_by : (saved : Saved) (rules : List RuleEntry) (unsure : List (List ℕ)) (m n : Disk) → SavedAs saved (permanent_text rules) m n → IsKept rules unsure m.left → IsKept rules (unsure_with (Some saved) unsure) n.left
left_by saved.Done rules unsure m n h k = subst (λ (i : Images). IsKept rules [] i) (sym h.1) (λ c i. elim i [ inl e ↦ inl (sym e) | inr none ↦ absurd none ])
left_by (saved.Failed count) rules unsure m n h k = λ c i. elim (h.1 c i) [ inl was ↦ k c was | inr e ↦ inl e ]
left_by saved.Memory rules unsure m n h k = kept_same rules unsure m.left n.left h.left k

kept_saved : (rules : List RuleEntry) (unsure : List (List ℕ)) (m : Disk) (saved : Saved) (n : Disk) → HasSaved (permanent_text rules) m saved n → IsKept rules unsure m.left → KeptStage rules unsure m (Some saved) n
kept_saved rules unsure m saved n h k = record {
  since = h.since;
  past = h.past;
  each = λ images a c i. elim (h.each images a c i) [ inl was ↦ k c was | inr e ↦ inl e ];
  left = left_by saved rules unsure m n h.now k;
}

kept_still : (rules : List RuleEntry) (unsure : List (List ℕ)) (m : Disk) (tried : Option Saved) → unsure_with tried unsure ≡ unsure → IsKept rules unsure m.left → KeptStage rules unsure m tried m
kept_still rules unsure m tried same k = record {
  since = [];
  past = sym (append-nil m.past);
  each = λ images a. absurd a;
  left = subst (λ (us : List (List ℕ)). IsKept rules us m.left) (sym same) k;
}

kept_text : (rules : List RuleEntry) (room : Bool) (unsure : List (List ℕ)) (m : Disk) (tried : Option Saved) (n : Disk) → RunsDisk disk_calls m (if_text rules room) tried n → IsKept rules unsure m.left → KeptStage rules unsure m tried n
kept_text rules true unsure m tried n h k =
    let x = runs_split_disk disk_calls m (saving (permanent_text rules)) (λ saved. Ended (Some saved)) tried n h in
    subst (λ (t : Option Saved). KeptStage rules unsure m t n) (sym x.3.0)
    (subst (λ (u : Disk). KeptStage rules unsure m (Some x.0) u) (sym x.3.1) (kept_saved rules unsure m x.0 x.1 (saves (permanent_text rules) m x.1 x.0 x.2) k))
kept_text rules false unsure m tried n h k =
    subst (λ (t : Option Saved). KeptStage rules unsure m t n) (sym h.0)
    (subst (λ (u : Disk). KeptStage rules unsure m (Some saved.Memory) u) (sym h.1) (kept_still rules unsure m (Some saved.Memory) refl k))

kept_stage : (rules : List RuleEntry) (pending : Bool) (unsure : List (List ℕ)) (m : Disk) (tried : Option Saved) (n : Disk) → RunsDisk disk_calls m (if_pending rules pending) tried n → IsKept rules unsure m.left → KeptStage rules unsure m tried n
kept_stage rules true unsure m tried n h k = kept_text rules h.0 unsure m tried n h.1 k
kept_stage rules false unsure m tried n h k =
    subst (λ (t : Option Saved). KeptStage rules unsure m t n) (sym h.0)
    (subst (λ (u : Disk). KeptStage rules unsure m None u) (sym h.1) (kept_still rules unsure m None refl k))

-- ---- what an order leaves of the rules and of the journal

-- the text of the permanent rules behind it
abbrev text_left : Option Change → Stored → Judging → List ℕ
text_left (Some change) stored.Done p = permanent_text (changed_by change p).rules
text_left change became p = permanent_text p.rules

-- and its entries tell what became of the save
record LeavesFile (change : Option Change) (d : DaemonState) (became : Stored) (a : DaemonState) : Type 0 where
  text : permanent_text a.sweep.judge.rules ≡ text_left change became d.sweep.judge
  more : List Entry
  entries : a.sweep.entries ≡ (noted_store became d).sweep.entries ++ more
  failed : (count : ℕ) → became ≡ stored.Failed count → Has more (entry.Reply (Err (refusal.StoreFault count)))

stays_text : (change : Change) (p : Judging) → is_saved change p.rules ≡ false → permanent_text (changed_by change p).rules ≡ permanent_text p.rules
stays_text (Rules edit) p h = text_stays edit p.next p.rules h
stays_text (Set set) p h = refl

-- what is in force has the text that was saved for it, or that was there
force_text : (change : Option Change) (d : DaemonState) (became : Stored) → IsInForce d.sweep.judge change became → permanent_text (with_changes change (noted_store became d)).sweep.judge.rules ≡ text_left change became d.sweep.judge
force_text None d became h = ap (λ (b : Stored). permanent_text (noted_store b d).sweep.judge.rules) h ∙ ap (λ (b : Stored). text_left None b d.sweep.judge) (sym h)
force_text (Some change) d stored.NotNeeded h = stays_text change d.sweep.judge h.1
force_text (Some change) d stored.Done h = refl
force_text (Some change) d (stored.Failed count) h = absurd h
force_text (Some change) d stored.TooLong h = absurd h
force_text (Some change) d stored.Memory h = absurd h

-- and what isn't leaves it
out_text : (change : Option Change) (d : DaemonState) (became : Stored) → IsSome (refused_by became) ⊎ (became ≡ stored.NotNeeded) → permanent_text (noted_store became d).sweep.judge.rules ≡ text_left change became d.sweep.judge
out_text change d stored.NotNeeded h = plain change
  where
    plain : (change : Option Change) → permanent_text d.sweep.judge.rules ≡ text_left change stored.NotNeeded d.sweep.judge
    plain None = refl
    plain (Some change) = refl
out_text change d stored.Done (inl h) = let none : ⊥ = cc in absurd none
out_text change d stored.Done (inr h) = let none : ⊥ = cc in absurd none
out_text None d (stored.Failed count) h = refl
out_text (Some change) d (stored.Failed count) h = refl
out_text None d stored.TooLong h = refl
out_text (Some change) d stored.TooLong h = refl
out_text None d stored.Memory h = refl
out_text (Some change) d stored.Memory h = refl

not_failed : (change : Option Change) (p : Judging) (count : ℕ) → IsInForce p change (stored.Failed count) → ⊥
not_failed None p count h = let none : ⊥ = cc in none
not_failed (Some change) p count h = h

watching_entries : (b : Bool) (x : DaemonState) → ((if_watching b x).sweep.entries ≡ x.sweep.entries) × ((if_watching b x).sweep.judge ≡ x.sweep.judge)
watching_entries true x = (refl, refl)
watching_entries false x = (refl, refl)

module _ {S : Type 0} (gives : S → (call : Call) → Answer call → S → Type 0) (who : Named) (line : List ℕ) (d : DaemonState) (change : Option Change) (became : Stored) (s t : S) (a : DaemonState) where
  refused_leaves : (r : Refusal) → IsSome (refused_by became) ⊎ (became ≡ stored.NotNeeded) → ((count : ℕ) → became ≡ stored.Failed count → r ≡ refusal.StoreFault count) → a ≡ replying (reply.Refused r) (noted_store became d) → LeavesFile change d became a
  refused_leaves r out told is = record {
    text = ap (λ (x : DaemonState). permanent_text x.sweep.judge.rules) is ∙ out_text change d became out;
    more = entry.Reply (Err r) ∷ [];
    entries = ap (λ (x : DaemonState). x.sweep.entries) is;
    failed = λ count fails. inl (ap (λ (x : Refusal). entry.Reply (Err x)) (told count fails));
  }

  not_so : (count : ℕ) → became ≡ stored.NotNeeded → became ≡ stored.Failed count → (r : Refusal) → r ≡ refusal.StoreFault count
  not_so count unsaved fails r = let none : stored.NotNeeded ≡ stored.Failed count = sym unsaved ∙ fails in let bad : ⊥ = cc in absurd bad

  behind_out : (asked : Request) (r : Refusal) → RefusesBehind d became asked r → (IsSome (refused_by became) ⊎ (became ≡ stored.NotNeeded)) × ((count : ℕ) → became ≡ stored.Failed count → r ≡ refusal.StoreFault count)
  behind_out _ _ (No_record number verdict standing kind place stands is unsaved) = (inr unsaved, λ count fails. not_so count unsaved fails (refusal.MalformedDevice number))
  behind_out _ _ (No_room number verdict rule asks full unsaved) = (inr unsaved, λ count fails. not_so count unsaved fails refusal.RulesFull)
  behind_out _ _ (Without_memory asked unsaved) = (inr unsaved, λ count fails. not_so count unsaved fails (refusal.Memory false))
  behind_out _ _ (Unstored asked r one asks can why) = by_store became why
    where
      by_store : (b : Stored) → StoreRefuses d.sweep.judge one b r → (IsSome (refused_by b) ⊎ (b ≡ stored.NotNeeded)) × ((count : ℕ) → b ≡ stored.Failed count → r ≡ refusal.StoreFault count)
      by_store stored.NotNeeded w = absurd w
      by_store stored.Done w = absurd w
      by_store (stored.Failed n) w = (inl refl, λ count fails. w.1 ∙ (let same : n ≡ count = cc in ap (λ (m : ℕ). refusal.StoreFault m) same))
      by_store stored.TooLong w = (inl refl, λ count fails. let bad : ⊥ = cc in absurd bad)
      by_store stored.Memory w = (inl refl, λ count fails. let bad : ⊥ = cc in absurd bad)

  changes_entries : (c : Option Change) (x : DaemonState) → (between : List Entry) × ((with_changes c x).sweep.entries ≡ x.sweep.entries ++ between)
  changes_entries None x = ([], sym (append-nil x.sweep.entries))
  changes_entries (Some c) x = (change_entry c x.sweep.judge.next ∷ [], refl)

  once_leaves : (x : AnswersAtOnce who line d became a) → x.outcome.change ≡ change → LeavesFile change d became a
  once_leaves x same =
      let now : DaemonState = with_changes x.outcome.change (noted_store became d) in
      let more = changes_entries x.outcome.change (noted_store became d) in
      let watched = watching_entries x.outcome.watches (replying (reply.Lines x.outcome.lines) now) in
      record {
        text = ap (λ (v : DaemonState). permanent_text v.sweep.judge.rules) x.state ∙ ap (λ (j : Judging). permanent_text j.rules) watched.1 ∙ force_text x.outcome.change d became x.in_force ∙ ap (λ (c : Option Change). text_left c became d.sweep.judge) same;
        more = more.0 ++ entry.Reply (Ok tt) ∷ [];
        entries = ap (λ (v : DaemonState). v.sweep.entries) x.state ∙ watched.0 ∙ ap (λ (es : List Entry). es ++ entry.Reply (Ok tt) ∷ []) more.1 ∙ append_assoc (noted_store became d).sweep.entries more.0 (entry.Reply (Ok tt) ∷ []);
        failed = λ count fails. absurd (not_failed x.outcome.change d.sweep.judge count (subst (λ (b : Stored). IsInForce d.sweep.judge x.outcome.change b) fails x.in_force));
      }

  set_leaves : SetsVerdict gives who line d change became s t a → LeavesFile change d became a
  set_leaves y =
      let x = y.x in
      let now : DaemonState = with_changes change (noted_store became d) in
      let more = changes_entries change (noted_store became d) in
      let same = now_standings change became d in
      let here : numbered y.number now.sweep.standings ≡ Some x.standing = subst (λ (ss : List Standing). numbered y.number ss ≡ Some x.standing) (sym same.0) x.stands in
      let was : Kept = kept_of now.sweep.standings now.sweep.entries in
      let z = with_verdict y.verdict who x.standing in
      let told = (ways_run gives (EndsOrder x.standing z was) (ordering y.number y.verdict who y.on was) y.behind y.p t (ordering_ways y.number y.verdict who y.on was x.standing here) y.run).so in
      let lines = change_lines_of change d.sweep.judge.next in
      let e : Entry = entry.Reply (answer_of (reply_to lines y.p.0)) in
      let own : List Entry = verdict_entry z ∷ told.rest in
      record {
        text = ap (λ (v : DaemonState). permanent_text v.sweep.judge.rules) y.state ∙ force_text change d became y.in_force;
        more = (more.0 ++ own) ++ e ∷ [];
        entries =
            ap (λ (v : DaemonState). v.sweep.entries) y.state
            ∙ ap (λ (es : List Entry). es ++ e ∷ []) (told.entries ∙ ap (λ (es : List Entry). es ++ own) more.1 ∙ append_assoc (noted_store became d).sweep.entries more.0 own)
            ∙ append_assoc (noted_store became d).sweep.entries (more.0 ++ own) (e ∷ []);
        failed = λ count fails. absurd (not_failed change d.sweep.judge count (subst (λ (b : Stored). IsInForce d.sweep.judge change b) fails y.in_force));
      }

  leaves : Came gives who line d change became s t a → LeavesFile change d became a
  leaves (At_first r why quiet none unsaved moved is) = refused_leaves r (inr unsaved) (λ count fails. not_so count unsaved fails r) is
  leaves (At_once x changes moved) = once_leaves x changes
  leaves (At_probe number verdict permanent x r why none unsaved is) = refused_leaves r (inr unsaved) (λ count fails. not_so count unsaved fails r) is
  leaves (At_last asked goes r why quiet none is) = let k = behind_out asked r why in refused_leaves r k.0 k.1 is
  leaves (Sets y) = set_leaves y

-- ---- the stage of the order on the disk

record StoreStage (texts : List (List ℕ)) (change : Option Change) (p : Judging) (m : Disk) (became : Stored) (n : Disk) : Type 0 where
  since : List Images
  past : n.past ≡ m.past ++ since
  each : (images : Images) → Has since images → (c : List ℕ) → IsImage images c → IsImage m.left c ⊎ Has (if_written became texts) c
  left : (c : List ℕ) → IsImage n.left c → (IsImage m.left c × ((became ≡ stored.Done) → ⊥)) ⊎ (((became ≡ stored.Done) × (c ≡ text_left change stored.Done p)) ⊎ ((count : ℕ) × (became ≡ stored.Failed count) × Has texts c))

still_stage : (texts : List (List ℕ)) (change : Option Change) (p : Judging) (m : Disk) (became : Stored) → ((became ≡ stored.Done) → ⊥) → StoreStage texts change p m became m
still_stage texts change p m became unsaved = record { since = []; past = sym (append-nil m.past); each = λ images a. absurd a; left = λ c i. inl (i, unsaved) }

module _ (change : Change) (p : Judging) (m : Disk) where
  abbrev Saved_text : List ℕ
  Saved_text = permanent_text (changed_by change p).rules

  saved_left : (x : Saved) (n : Disk) → SavedAs x Saved_text m n → (c : List ℕ) → IsImage n.left c → (IsImage m.left c × ((after_saving x ≡ stored.Done) → ⊥)) ⊎ (((after_saving x ≡ stored.Done) × (c ≡ Saved_text)) ⊎ ((count : ℕ) × (after_saving x ≡ stored.Failed count) × Has (Saved_text ∷ []) c))
  saved_left saved.Done n h c i = elim (subst (λ (im : Images). IsImage im c) h.1 i) [ inl e ↦ inr (inl (refl, sym e)) | inr none ↦ absurd none ]
  saved_left (saved.Failed count) n h c i = elim (h.1 c i) [ inl was ↦ inl (was, λ e. let bad : ⊥ = cc in bad) | inr e ↦ inr (inr (count, refl, inl (sym e))) ]
  saved_left saved.Memory n h c i = inl (subst (λ (im : Images). IsImage im c) h.left i, λ e. let bad : ⊥ = cc in bad)

  saved_each : (x : Saved) (n : Disk) (h : HasSaved Saved_text m x n) (images : Images) → Has h.since images → (c : List ℕ) → IsImage images c → IsImage m.left c ⊎ Has (if_written (after_saving x) (Saved_text ∷ [])) c
  saved_each saved.Done n h images a c i = elim (h.each images a c i) [ inl was ↦ inl was | inr e ↦ inr (inl (sym e)) ]
  saved_each (saved.Failed count) n h images a c i = elim (h.each images a c i) [ inl was ↦ inl was | inr e ↦ inr (inl (sym e)) ]
  saved_each saved.Memory n h images a c i = inl (subst (λ (im : Images). IsImage im c) (h.wanting refl images a) i)

  saved_stage : (x : Saved) (n : Disk) → HasSaved Saved_text m x n → StoreStage (Saved_text ∷ []) (Some change) p m (after_saving x) n
  saved_stage x n h = record {
    since = h.since;
    past = h.past;
    each = saved_each x n h;
    left = saved_left x n h.now;
  }

  fits_stage : (b : Bool) (became : Stored) (n : Disk) → RunsDisk disk_calls m (if_fits Saved_text b) became n → StoreStage (Saved_text ∷ []) (Some change) p m became n
  fits_stage true became n h =
      let x = runs_split_disk disk_calls m (saving Saved_text) (λ (s : Saved). Ended (after_saving s)) became n h in
      subst (λ (b : Stored). StoreStage (Saved_text ∷ []) (Some change) p m b n) (sym x.3.0)
      (subst (λ (u : Disk). StoreStage (Saved_text ∷ []) (Some change) p m (after_saving x.0) u) (sym x.3.1) (saved_stage x.0 x.1 (saves Saved_text m x.1 x.0 x.2)))
  fits_stage false became n h =
      subst (λ (b : Stored). StoreStage (Saved_text ∷ []) (Some change) p m b n) (sym h.0)
      (subst (λ (u : Disk). StoreStage (Saved_text ∷ []) (Some change) p m stored.TooLong u) (sym h.1) (still_stage (Saved_text ∷ []) (Some change) p m stored.TooLong (λ e. let bad : ⊥ = cc in bad)))

  need_stage : (b : Bool) (became : Stored) (n : Disk) → RunsDisk disk_calls m (if_saved p change b) became n → StoreStage (as_list (text_if_saved b change p)) (Some change) p m became n
  need_stage true became n h = fits_stage (nat_le (length Saved_text) text_limit) became n h
  need_stage false became n h =
      subst (λ (b : Stored). StoreStage [] (Some change) p m b n) (sym h.0)
      (subst (λ (u : Disk). StoreStage [] (Some change) p m stored.NotNeeded u) (sym h.1) (still_stage [] (Some change) p m stored.NotNeeded (λ e. let bad : ⊥ = cc in bad)))

  room_stage : (b : Bool) (became : Stored) (n : Disk) → RunsDisk disk_calls m (if_kept p change b) became n → StoreStage (text_of_change (Some change) p) (Some change) p m became n
  room_stage true became n h = need_stage (is_saved change p.rules) became n h
  room_stage false became n h =
      subst (λ (b : Stored). StoreStage (text_of_change (Some change) p) (Some change) p m b n) (sym h.0)
      (subst (λ (u : Disk). StoreStage (text_of_change (Some change) p) (Some change) p m stored.Memory u) (sym h.1) (still_stage (text_of_change (Some change) p) (Some change) p m stored.Memory (λ e. let bad : ⊥ = cc in bad)))

store_stage : (d : DaemonState) (change : Option Change) (m : Disk) (became : Stored) (n : Disk) → RunsDisk disk_calls m (storing d change) became n → StoreStage (text_of_change change d.sweep.judge) change d.sweep.judge m became n
unfolding storing
store_stage d None m became n h =
    subst (λ (b : Stored). StoreStage [] None d.sweep.judge m b n) (sym h.0)
    (subst (λ (u : Disk). StoreStage [] None d.sweep.judge m stored.NotNeeded u) (sym h.1) (still_stage [] None d.sweep.judge m stored.NotNeeded (λ e. let bad : ⊥ = cc in bad)))
store_stage d (Some change) m became n h = room_stage change d.sweep.judge m h.0 became n h.1

-- the change of an order is the one that one who may asks for
asked_texts : {S : Type 0} (gives : S → (call : Call) → Answer call → S → Type 0) (who : Named) (line : List ℕ) (d : DaemonState) (c : Choice) (s t : S) → Asked gives who line d c s t → (text : List ℕ) → Has (text_of_change c.change d.sweep.judge) text → Has (text_of_request who d (request_read line)) text
asked_texts gives who line d c s t h text has = by_asked h
  where
    none_there : c.change ≡ None → ⊥
    none_there is = subst (λ (o : Option Change). Has (text_of_change o d.sweep.judge) text) is has

    granted_there : (asked : Request) → request_read line ≡ Ok asked → is_granted d.access who (needs asked) ≡ true → c.change ≡ change_of d asked → Has (text_of_request who d (request_read line)) text
    granted_there asked reads granted is =
        subst (λ (r : Result Request ℕ). Has (text_of_request who d r) text) (sym reads)
        (subst (λ (b : Bool). Has (text_of_change (cond b (change_of d asked) None) d.sweep.judge) text) (sym granted)
        (subst (λ (o : Option Change). Has (text_of_change o d.sweep.judge) text) is has))

    by_found : (number : ℕ) (verdict : Target) (permanent on : Bool) → request_read line ≡ Ok (request.Device number verdict permanent) → is_granted d.access who (needs (request.Device number verdict permanent)) ≡ true → FoundSo d number verdict permanent on c → Has (text_of_request who d (request_read line)) text
    by_found number verdict permanent on reads granted (Set_so change asks some can is) = granted_there (request.Device number verdict permanent) reads granted (ap (λ (v : Choice). v.change) is ∙ asks)
    by_found number verdict permanent on reads granted (Refused_so r why quiet is) = absurd (none_there (ap (λ (v : Choice). v.change) is))

    chosen_change : (outcome : Outcome) (v : Choice) → Chosen d outcome v → v.change ≡ outcome.change
    chosen_change _ _ (Told_lines rows) = refl
    chosen_change _ _ (Told_change change can) = refl
    chosen_change _ _ Told_watch = refl

    by_asked : Asked gives who line d c s t → Has (text_of_request who d (request_read line)) text
    by_asked (Refused_first r why quiet is same) = absurd (none_there (ap (λ (v : Choice). v.change) is))
    by_asked (Chosen_first x same) = granted_there x.asked x.reads x.granted (ap (λ (v : Choice). v.change) x.is ∙ chosen_change x.outcome x.chosen x.how ∙ x.asks)
    by_asked (Not_found number verdict permanent x (inl m)) = absurd (none_there (ap (λ (v : Choice). v.change) m.1))
    by_asked (Not_found number verdict permanent x (inr m)) = absurd (none_there (ap (λ (v : Choice). v.change) m.1))
    by_asked (Found number verdict permanent on x alive so) = by_found number verdict permanent on x.reads x.granted so

-- ---- the whole event

-- what the order leaves, in the words of rules and of the disk
record OrderStage (texts : List (List ℕ)) (became : Stored) (d : DaemonState) (m : Disk) (a : DaemonState) (n : Disk) : Type 0 where
  since : List Images
  past : n.past ≡ m.past ++ since
  each : (images : Images) → Has since images → (unsure : List (List ℕ)) → IsKept d.sweep.judge.rules unsure m.left → IsKept d.sweep.judge.rules (if_written became texts ++ unsure) images
  left : (unsure : List (List ℕ)) → IsKept d.sweep.judge.rules unsure m.left → IsKept a.sweep.judge.rules (unsure_behind became texts unsure) n.left
  same : ((became ≡ stored.Done) → ⊥) → permanent_text a.sweep.judge.rules ≡ permanent_text d.sweep.judge.rules
  done : became ≡ stored.Done → Has texts (permanent_text a.sweep.judge.rules) × Has a.sweep.entries (entry.Save saved.Done)
  failed : (count : ℕ) → became ≡ stored.Failed count → Has a.sweep.entries (entry.Reply (Err (refusal.StoreFault count)))

text_same : (change : Option Change) (became : Stored) (p : Judging) → ((became ≡ stored.Done) → ⊥) → text_left change became p ≡ permanent_text p.rules
text_same None stored.NotNeeded p unsaved = refl
text_same (Some change) stored.NotNeeded p unsaved = refl
text_same change stored.Done p unsaved = absurd (unsaved refl)
text_same None (stored.Failed count) p unsaved = refl
text_same (Some change) (stored.Failed count) p unsaved = refl
text_same None stored.TooLong p unsaved = refl
text_same (Some change) stored.TooLong p unsaved = refl
text_same None stored.Memory p unsaved = refl
text_same (Some change) stored.Memory p unsaved = refl

-- what wasn't sure still isn't
still_unsure : (became : Stored) (texts unsure : List (List ℕ)) → ((became ≡ stored.Done) → ⊥) → (c : List ℕ) → Has unsure c → Has (unsure_behind became texts unsure) c
still_unsure stored.NotNeeded texts unsure unsaved c h = h
still_unsure stored.Done texts unsure unsaved c h = absurd (unsaved refl)
still_unsure (stored.Failed count) texts unsure unsaved c h = has_right texts unsure c h
still_unsure stored.TooLong texts unsure unsaved c h = h
still_unsure stored.Memory texts unsure unsaved c h = h

-- a change that was saved was to be
done_text : (change : Option Change) (p : Judging) → StoresAs p change stored.Done → Has (text_of_change change p) (text_left change stored.Done p)
done_text None p h = let none : ⊥ = cc in absurd none
done_text (Some change) p h = by_saved (is_saved change p.rules) h
  where
    by_saved : (b : Bool) → b ≡ true → Has (as_list (text_if_saved b change p)) (permanent_text (changed_by change p).rules)
    by_saved true e = inl refl
    by_saved false e = let none : ⊥ = cc in absurd none

module _ (texts : List (List ℕ)) (change : Option Change) (d : DaemonState) (became : Stored) (a : DaemonState) (m n : Disk) (leaves_it : LeavesFile change d became a) (stage : StoreStage texts change d.sweep.judge m became n) (stores : StoresAs d.sweep.judge change became) (sub : (text : List ℕ) → Has (text_of_change change d.sweep.judge) text → Has texts text) where
  was_left : (unsure : List (List ℕ)) → IsKept d.sweep.judge.rules unsure m.left → ((became ≡ stored.Done) → ⊥) → (c : List ℕ) → IsImage m.left c → (c ≡ permanent_text a.sweep.judge.rules) ⊎ Has (unsure_behind became texts unsure) c
  was_left unsure k unsaved c i = elim (k c i) [
    | inl is ↦ inl (is ∙ sym (leaves_it.text ∙ text_same change became d.sweep.judge unsaved))
    | inr h ↦ inr (still_unsure became texts unsure unsaved c h)
  ]

  saved_there : became ≡ stored.Done → Has a.sweep.entries (entry.Save saved.Done)
  saved_there is =
      let there : Has ((noted_store stored.Done d).sweep.entries ++ leaves_it.more) (entry.Save saved.Done) = has_left (d.sweep.entries ++ entry.Save saved.Done ∷ []) leaves_it.more (entry.Save saved.Done) (has_right d.sweep.entries (entry.Save saved.Done ∷ []) (entry.Save saved.Done) (inl refl)) in
      subst (λ (es : List Entry). Has es (entry.Save saved.Done)) (sym (leaves_it.entries ∙ ap (λ (b : Stored). (noted_store b d).sweep.entries ++ leaves_it.more) is)) there

  order_stage : OrderStage texts became d m a n
  order_stage = record {
    since = stage.since;
    past = stage.past;
    each = λ images has unsure k c i. elim (stage.each images has c i) [
      | inl was ↦ elim (k c was) [ inl is ↦ inl is | inr h ↦ inr (has_right (if_written became texts) unsure c h) ]
      | inr h ↦ inr (has_left (if_written became texts) unsure c h)
    ];
    left = λ unsure k c i. elim (stage.left c i) [
      | inl was ↦ was_left unsure k was.1 c was.0
      | inr new ↦ elim new [
        | inl done ↦ inl (done.1 ∙ sym (leaves_it.text ∙ ap (λ (b : Stored). text_left change b d.sweep.judge) done.0))
        | inr failed ↦ inr (subst (λ (b : Stored). Has (unsure_behind b texts unsure) c) (sym failed.1) (has_left texts unsure c failed.2))
      ]
    ];
    same = λ unsaved. leaves_it.text ∙ text_same change became d.sweep.judge unsaved;
    done = λ is. (
      subst (λ (text : List ℕ). Has texts text) (sym (leaves_it.text ∙ ap (λ (b : Stored). text_left change b d.sweep.judge) is)) (sub (text_left change stored.Done d.sweep.judge) (done_text change d.sweep.judge (subst (λ (b : Stored). StoresAs d.sweep.judge change b) is stores))),
      saved_there is,
    );
    failed = λ count is. subst (λ (es : List Entry). Has es (entry.Reply (Err (refusal.StoreFault count)))) (sym leaves_it.entries) (has_right (noted_store became d).sweep.entries leaves_it.more (entry.Reply (Err (refusal.StoreFault count))) (leaves_it.failed count is));
  }

wider_written : (texts more : List (List ℕ)) (became : Stored) → ((c : List ℕ) → Has texts c → Has more c) → (c : List ℕ) → Has (if_written became texts) c → Has (if_written became more) c
wider_written texts more stored.Done sub c h = sub c h
wider_written texts more (stored.Failed count) sub c h = sub c h
wider_written texts more stored.NotNeeded sub c h = absurd h
wider_written texts more stored.TooLong sub c h = absurd h
wider_written texts more stored.Memory sub c h = absurd h

-- more texts may be left
wider_stage : (texts more : List (List ℕ)) (change : Option Change) (p : Judging) (m : Disk) (became : Stored) (n : Disk) → ((c : List ℕ) → Has texts c → Has more c) → StoreStage texts change p m became n → StoreStage more change p m became n
wider_stage texts more change p m became n sub s = record {
  since = s.since;
  past = s.past;
  each = λ images has c i. elim (s.each images has c i) [ inl was ↦ inl was | inr h ↦ inr (wider_written texts more became sub c h) ];
  left = λ c i. elim (s.left c i) [
    | inl was ↦ inl was
    | inr new ↦ elim new [ inl done ↦ inr (inl done) | inr failed ↦ inr (inr (failed.0, failed.1, sub c failed.2)) ]
  ];
}

answer_stage : {S : Type 0} (gives : S → (call : Call) → Answer call → S → Type 0) (event : Event) (s : S) (d : DaemonState) (m : Disk) (became : Stored) (t : S) (n : Disk) (a : DaemonState) → RunsAnswer gives disk_calls event s m d became t n a → OrderStage (texts_of event d) became d m a n
answer_stage gives (Sweep moment) s d m became t n a h = record {
  since = [];
  past = ap (λ (x : Disk). x.past) h.1 ∙ sym (append-nil m.past);
  each = λ images has. absurd has;
  left = λ unsure k. subst (λ (x : DaemonState). IsKept x.sweep.judge.rules (unsure_behind became [] unsure) n.left) (sym h.3) (subst (λ (b : Stored). IsKept d.sweep.judge.rules (unsure_behind b [] unsure) n.left) (sym h.2) (subst (λ (x : Disk). IsKept d.sweep.judge.rules unsure x.left) (sym h.1) k));
  same = λ unsaved. ap (λ (x : DaemonState). permanent_text x.sweep.judge.rules) h.3;
  done = λ is. let bad : stored.NotNeeded ≡ stored.Done = sym h.2 ∙ is in let none : ⊥ = cc in absurd none;
  failed = λ count is. let bad : stored.NotNeeded ≡ stored.Failed count = sym h.2 ∙ is in let none : ⊥ = cc in absurd none;
}
answer_stage gives (Hint moment piece) s d m became t n a h =
    let judge = met_judge piece d a h.3 in
    record {
      since = [];
      past = ap (λ (x : Disk). x.past) h.1 ∙ sym (append-nil m.past);
      each = λ images has. absurd has;
      left = λ unsure k. subst (λ (j : Judging). IsKept j.rules (unsure_behind became [] unsure) n.left) (sym judge) (subst (λ (b : Stored). IsKept d.sweep.judge.rules (unsure_behind b [] unsure) n.left) (sym h.2) (subst (λ (x : Disk). IsKept d.sweep.judge.rules unsure x.left) (sym h.1) k));
      same = λ unsaved. ap (λ (j : Judging). permanent_text j.rules) judge;
      done = λ is. let bad : stored.NotNeeded ≡ stored.Done = sym h.2 ∙ is in let none : ⊥ = cc in absurd none;
      failed = λ count is. let bad : stored.NotNeeded ≡ stored.Failed count = sym h.2 ∙ is in let none : ⊥ = cc in absurd none;
    }
answer_stage gives (Order moment who line) s d m became t n a h =
    let stores = stores_as disk_calls m d h.choice.change became n h.stores in
    let came = came_so gives who line d became s h.behind t a h.choice h.asks stores h.acts in
    let sub = asked_texts gives who line d h.choice s h.behind (asked_of gives who line d h.choice s h.behind h.asks) in
    order_stage (texts_of (Order moment who line) d) h.choice.change d became a m n (leaves gives who line d h.choice.change became s t a came)
    (wider_stage (text_of_change h.choice.change d.sweep.judge) (texts_of (Order moment who line) d) h.choice.change d.sweep.judge m became n sub (store_stage d h.choice.change m became n h.stores))
    stores
    sub

answer_possible : {S : Type 0} (gives : S → (call : Call) → Answer call → S → Type 0) (event : Event) (s : S) (d : DaemonState) (m : Disk) (became : Stored) (t : S) (n : Disk) (a : DaemonState) → RunsAnswer gives disk_calls event s m d became t n a → IsImage m.left m.text → IsImage n.left n.text
answer_possible gives (Sweep moment) s d m became t n a h is = subst (λ (x : Disk). IsImage x.left x.text) (sym h.1) is
answer_possible gives (Hint moment piece) s d m became t n a h is = subst (λ (x : Disk). IsImage x.left x.text) (sym h.1) is
answer_possible gives (Order moment who line) s d m became t n a h is = possible_runs (storing d h.choice.change) m became n h.stores is

-- an order's stage on a disk, where that is told
told_answer : {S T : Type 0} (gives : S → (call : Call) → Answer call → S → Type 0) (keeps : T → (call : DiskCall) → DiskTold call → T → Type 0) (told : T → Option Disk) (did : (s : T) (call : DiskCall) (a : DiskTold call) (t : T) (n : Disk) → keeps s call a t → told t ≡ Some n → FollowsOnDisk call a (told s) n) (event : Event) (s : S) (o : T) (d : DaemonState) (became : Stored) (t : S) (p : T) (a : DaemonState) (n : Disk) → RunsAnswer gives keeps event s o d became t p a → told p ≡ Some n → (m : Disk) × (told o ≡ Some m) × RunsAnswer gives disk_calls event s m d became t n a
told_answer gives keeps told did (Sweep moment) s o d became t p a n h is = (n, subst (λ (x : _). told x ≡ Some n) h.1 is, (h.0, refl, h.2, h.3))
told_answer gives keeps told did (Hint moment piece) s o d became t p a n h is = (n, subst (λ (x : _). told x ≡ Some n) h.1 is, (h.0, refl, h.2, h.3))
told_answer gives keeps told did (Order moment who line) s o d became t p a n h is =
    let x = told_disk keeps told did (storing d h.choice.change) o became p n h.stores is in
    (x.0, x.1, record { choice = h.choice; behind = h.behind; asks = h.asks; stores = x.2; acts = h.acts })

-- the texts of an order are those of the state that it began with
judged_asked : (j : Judged) (verdict : Target) (p : Judging) (c : Context) → record_change j verdict (record p { ctx = c }) ≡ record_change j verdict p
judged_asked (judged.Good device) verdict p c = refl
judged_asked (judged.Malformed kind place) verdict p c = refl

standing_asked : (o : Option Standing) (verdict : Target) (p : Judging) (c : Context) → standing_change o verdict (record p { ctx = c }) ≡ standing_change o verdict p
standing_asked (Some s) verdict p c = judged_asked s.judged verdict p c
standing_asked None verdict p c = refl

pub asked_anytime : (ss : List Standing) (p : Judging) (c : Context) (read : Result Request ℕ) → change_asked ss (record p { ctx = c }) read ≡ change_asked ss p read
asked_anytime ss p c (Ok (request.Device number verdict true)) = standing_asked (numbered number ss) verdict p c
asked_anytime ss p c (Ok (request.Device number verdict false)) = refl
asked_anytime ss p c (Ok (request.GetParameter name)) = refl
asked_anytime ss p c (Ok (request.SetParameter name value)) = refl
asked_anytime ss p c (Ok request.ListDevices) = refl
asked_anytime ss p c (Ok request.ListRules) = refl
asked_anytime ss p c (Ok (request.AppendRule place permanent text)) = refl
asked_anytime ss p c (Ok (request.RemoveRule id)) = refl
asked_anytime ss p c (Ok request.Watch) = refl
asked_anytime ss p c (Err place) = refl

text_anytime : (o : Option Change) (p : Judging) (c : Context) → text_of_change o (record p { ctx = c }) ≡ text_of_change o p
text_anytime None p c = refl
text_anytime (Some change) p c = by_change change
  where
    by_saved : (edit : Edit) (b : Bool) → as_list (text_if_saved b (Rules edit) (record p { ctx = c })) ≡ as_list (text_if_saved b (Rules edit) p)
    by_saved edit true = refl
    by_saved edit false = refl

    by_change : (change : Change) → text_of_change (Some change) (record p { ctx = c }) ≡ text_of_change (Some change) p
    by_change (Rules edit) = by_saved edit (changes_file edit p.rules)
    by_change (Set set) = refl

ready_texts : (event : Event) (tried : Option Saved) (d : DaemonState) → texts_of event (ready event tried d) ≡ texts_of event d
ready_texts (Sweep moment) tried d = refl
ready_texts (Hint moment piece) tried d = refl
ready_texts (Order moment who line) tried d = by_read (request_read line)
  where
    by_read : (read : Result Request ℕ) → text_of_request who (ready (Order moment who line) tried d) read ≡ text_of_request who d read
    by_read (Err place) = refl
    by_read (Ok asked) =
        let c : Context = (ready (Order moment who line) tried d).sweep.judge.ctx in
        let p : Judging = d.sweep.judge in
        let may : Bool = is_granted d.access who (needs asked) in
        ap (λ (o : Option Change). text_of_change (cond may o None) (record p { ctx = c })) (asked_anytime d.sweep.standings p c (Ok asked)) ∙ text_anytime (cond may (change_asked d.sweep.standings p (Ok asked)) None) p c

pub kept_event : {S T : Type 0} (gives : S → (call : Call) → Answer call → S → Type 0) (keeps : T → (call : DiskCall) → DiskTold call → T → Type 0) (told : T → Option Disk) (did : (s : T) (call : DiskCall) (a : DiskTold call) (t : T) (n : Disk) → keeps s call a t → told t ≡ Some n → FollowsOnDisk call a (told s) n) (event : Event) (s : S) (o : T) (d : DaemonState) (tried : Option Saved) (q : T) (became : Stored) (m : S) (p : T) (a : DaemonState) (e : DaemonState) (added : List Entry) → RunsDisk keeps o (trying d) tried q → RunsAnswer gives keeps event s q (ready event tried d) became m p a → e.sweep.entries ≡ a.sweep.entries ++ added → SameRules a.sweep.judge e.sweep → KeepsFile told event tried became o d p e
unfolding trying
kept_event gives keeps told did event s o d tried q became m p a e added runs answers tells rules n is =
    let y = told_answer gives keeps told did event s q (ready event tried d) became m p a n answers is in
    let x = told_disk keeps told did (trying d) o tried q y.0 runs y.1 in
    let texts : List (List ℕ) = texts_of event d in
    let ordered : OrderStage texts became (ready event tried d) y.0 a n = subst (λ (ts : List (List ℕ)). OrderStage ts became (ready event tried d) y.0 a n) (ready_texts event tried d) (answer_stage gives event s (ready event tried d) y.0 became m n a y.2) in
    let same : permanent_text e.sweep.judge.rules ≡ permanent_text a.sweep.judge.rules =
    sym (text_given e.sweep.judge.rules)
    ∙ ap (λ (es : List RuleEntry). permanent_text es) rules
    ∙ text_given a.sweep.judge.rules in (
      x.0,
      x.1,
      λ unsure k.
          let stage = kept_stage d.sweep.judge.rules d.pending unsure x.0 tried y.0 x.2 k in
          let more : (x : Entry) → Has a.sweep.entries x → Has e.sweep.entries x = λ x h. subst (λ (es : List Entry). Has es x) (sym tells) (has_left a.sweep.entries added x h) in
          record {
            saving = stage.since;
            ordering = ordered.since;
            past = ordered.past ∙ ap (λ (ps : List Images). ps ++ ordered.since) stage.past;
            first = stage.each;
            second = λ images has. ordered.each images has (unsure_with tried unsure) stage.left;
            left = λ c i. elim (ordered.left (unsure_with tried unsure) stage.left c i) [ inl w ↦ inl (w ∙ sym same) | inr w ↦ inr w ];
            possible = λ is. answer_possible gives event s (ready event tried d) y.0 became m n a y.2 (possible_runs (trying d) x.0 tried y.0 x.2 is);
            same = λ unsaved. same ∙ ordered.same unsaved;
            done = λ is. let h = ordered.done is in (subst (λ (text : List ℕ). Has texts text) (sym same) h.0, more (entry.Save saved.Done) h.1);
            failed = λ count is. more (entry.Reply (Err (refusal.StoreFault count))) (ordered.failed count is);
          },
    )

-- where an event tells its calls
pub file_kept : {S T : Type 0} (gives : S → (call : Call) → Answer call → S → Type 0) {calls faults : S → ℕ} (keeps : T → (call : DiskCall) → DiskTold call → T → Type 0) (told : T → Option Disk) (did : (s : T) (call : DiskCall) (a : DiskTold call) (t : T) (n : Disk) → keeps s call a t → told t ≡ Some n → FollowsOnDisk call a (told s) n) (event : Event) (s : S) (o : T) (d : DaemonState) (tried : Option Saved) (q : T) (became : Stored) (m : S) (p : T) (a : DaemonState) (t : S) (e : DaemonState) → RunsDisk keeps o (trying d) tried q → RunsAnswer gives keeps event s q (ready event tried d) became m p a → TellsEvent gives calls faults event s (ready event tried d) became m a t e → SameRules a.sweep.judge e.sweep → KeepsFile told event tried became o d p e
file_kept gives keeps told did event s o d tried q became m p a t e runs answers tells rules =
    kept_event gives keeps told did event s o d tried q became m p a e (tells.goes.rest ++ entry.End a.event ∷ []) runs answers
    (ap (λ (v : State Judging). v.entries) tells.entries ∙ ap (λ (es : List Entry). es ++ entry.End a.event ∷ []) tells.goes.entries ∙ append_assoc a.sweep.entries tells.goes.rest (entry.End a.event ∷ []))
    rules

-- where its last stage does
pub sweep_adds : {S : Type 0} (gives : S → (call : Call) → Answer call → S → Type 0) (calls faults : S → ℕ) (s : S) (a : DaemonState) (t : S) (e : DaemonState) → TellsSweep gives calls faults s a t e → (added : List Entry) × (e.sweep.entries ≡ a.sweep.entries ++ added)
sweep_adds gives calls faults s a t e h =
    (h.goes.rest ++ entry.End a.event ∷ [], ap (λ (v : State Judging). v.entries) h.entries ∙ ap (λ (es : List Entry). es ++ entry.End a.event ∷ []) h.goes.entries ∙ append_assoc a.sweep.entries h.goes.rest (entry.End a.event ∷ []))

-- When a pending save was tried, and what an event tells of saves.
use Rattle.std.specs.Prelude.{if◌then◌else◌}
use Rattle.std.proofs.Common.{◌≡◌, ℕ, Bool, true, false, is_some, List, [], ◌∷◌, ◌++◌, Option, Some, None, Ok, inl, inr, refl, sym, ◌∙◌, ap, subst, append_assoc, append-nil}
use Rattle.ug_kernel.specs.declared.control.Write.{Write}
use Rattle.ug_types.specs.Principals.{Named}
use Rattle.ug_types.specs.declared.saved.Saved.{Saved}
use Rattle.ug_types.specs.declared.saved.Saved.TheVariants as saved
use Rattle.ug_kernel.specs.declared.calls.FailedCall.{FailedCall}
use Rattle.ug_kernel.specs.declared.calls.Listing.{Listing}
use Rattle.ug_kernel.specs.declared.calls.Listing.TheVariants as listing
use Rattle.ug_kernel.specs.Along.{Made, failure_of}
use Rattle.ug_kernel.specs.Calls.{Call, Answer}
use Rattle.ug_audit.specs.declared.entry.Entry.{Entry}
use Rattle.ug_audit.specs.declared.entry.Entry.TheVariants as entry
use Rattle.ug_audit.specs.declared.entry.Fault.{Fault}
use Rattle.ug_audit.specs.declared.entry.Fault.TheVariants as fault
use Rattle.ug_policy.specs.declared.entry.RuleEntry.{RuleEntry}
use Rattle.ug_proto.specs.declared.reply.Reply.TheVariants as reply
use Rattle.ug_ruleset.specs.RuleFile.{permanent_text}
use Rattle.ug_ruleset.specs.declared.edit.Edit.TheVariants.{Insert, Remove, Retarget}
use Rattle.ug_store.specs.DiskCalls.{DiskCall, DiskTold}
use Rattle.ug_store.specs.Store.{Ended, RunsDisk, saving}
use Rattle.ug_store.proofs.DiskRuns.{runs_split_disk}
use Rattle.ug_table.specs.Orders.{with_verdict, verdict_entry}
use Rattle.ug_table.specs.Parts.{AfterListing, AllBear, BeginsListed, BeginsUnlisted, InParts}
use Rattle.ug_table.specs.Standings.{farewells, lists}
use Rattle.ug_table.specs.State.{State}
use Rattle.ug_table.specs.declared.standing.Standing.{Standing}
use Rattle.ug_core.specs.Answering.{answer_of, reply_to, replying}
use Rattle.ug_core.specs.Changes.{change_entry}
use Rattle.ug_core.specs.Event.{DaemonState, if_pending, if_text, pending_with, ready, saved_entries, trying}
use Rattle.ug_core.specs.Laws.{AnswersAtOnce, GoesAsAnswer, GoesAsDue, GoesAsVerdict, PartsOfDue, RunsAnswer, if_watching}
use Rattle.ug_core.specs.Pending.{IsPendingThen, TriesSave, saves_in, saves_stored, saves_tried}
use Rattle.ug_core.specs.Policy.{Judging}
use Rattle.ug_core.specs.Storing.{noted_store, pending_stored, with_changes}
use Rattle.ug_core.specs.declared.changes.Change.{Change}
use Rattle.ug_core.specs.declared.changes.Change.TheVariants.{Rules, Set}
use Rattle.ug_types.specs.declared.event.Event.{Event}
use Rattle.ug_types.specs.declared.event.Event.TheVariants.{Sweep, Order, Hint}
use Rattle.ug_core.specs.declared.storing.Stored.{Stored}
use Rattle.ug_core.specs.declared.storing.Stored.TheVariants as stored
use Rattle.ug_core.proofs.Pieces.{met_adds, met_pending}

-- ---- a save is tried where one is pending

tried_so : {T : Type 0} (keeps : T → (call : DiskCall) → DiskTold call → T → Type 0) (rules : List RuleEntry) (o : T) (tried : Option Saved) (q : T) (pending : Bool) → RunsDisk keeps o (if_pending rules pending) tried q → is_some tried ≡ pending
tried_so keeps rules o tried q false h = ap (λ (x : Option Saved). is_some x) h.0
tried_so keeps rules o tried q true h = by_room h.0 h.1
  where
    by_room : (room : Bool) → RunsDisk keeps o (if_text rules room) tried q → is_some tried ≡ true
    by_room false h = ap (λ (x : Option Saved). is_some x) h.0
    by_room true h =
        let x = runs_split_disk keeps o (saving (permanent_text rules)) (λ (s : Saved). Ended (Some s)) tried q h in
        ap (λ (y : Option Saved). is_some y) x.3.0

pub tried_when : {T : Type 0} (keeps : T → (call : DiskCall) → DiskTold call → T → Type 0) (d : DaemonState) (o : T) (tried : Option Saved) (q : T) → RunsDisk keeps o (trying d) tried q → is_some tried ≡ d.pending
unfolding trying
tried_when keeps d o tried q h = tried_so keeps d.sweep.judge.rules o tried q d.pending h

-- ---- what entries tell of saves

saves_append : (es fs : List Entry) → saves_in (es ++ fs) ≡ saves_in es ++ saves_in fs
saves_append [] fs = refl
saves_append (entry.Save saved ∷ es) fs = ap (λ (l : List Saved). saved ∷ l) (saves_append es fs)
saves_append (e ∷ es) fs = saves_append es fs

-- two lists that tell none
none_both : (es fs : List Entry) → saves_in es ≡ [] → saves_in fs ≡ [] → saves_in (es ++ fs) ≡ []
none_both es fs a b = saves_append es fs ∙ ap (λ (l : List Saved). l ++ saves_in fs) a ∙ b

bearing_none : (name : List ℕ) (es : List Entry) → AllBear name es → saves_in es ≡ []
bearing_none name [] h = refl
bearing_none name (entry.Save saved ∷ es) h = absurd h.0
bearing_none name (e ∷ es) h = bearing_none name es h.1

parts_none : (hub : Option Write) (binds : Bool) (names : List (List ℕ)) (before after : List Standing) (calls ending : List Made) (entries : List Entry) → InParts hub binds names before after calls ending entries → saves_in entries ≡ []
parts_none hub binds [] before after calls ending entries h = ap (λ (es : List Entry). saves_in es) h.3
parts_none hub binds (name ∷ names) before after calls ending entries h =
    ap (λ (es : List Entry). saves_in es) h.8 ∙ none_both h.4 h.5 (bearing_none name h.4 h.9.bears) (parts_none hub binds names h.0 after h.2 h.3 h.5 h.10)

farewells_none : (names : List (List ℕ)) (ss : List Standing) → saves_in (farewells names ss) ≡ []
farewells_none names [] = refl
farewells_none names (s ∷ ss) = by_listed (lists names s.name) (farewells_none names ss)
  where
    by_listed : (b : Bool) → saves_in (farewells names ss) ≡ [] → saves_in (if b then farewells names ss else entry.Gone s.number s.name ∷ farewells names ss) ≡ []
    by_listed true h = h
    by_listed false h = h

listed_none : (listed : List (List ℕ)) (ss : List Standing) (entries : List Entry) (left : List Standing) (names : List (List ℕ)) (shut : List Made) (binds : Bool) → BeginsListed listed ss entries left names shut binds → saves_in entries ≡ []
listed_none listed ss entries left names shut binds h = ap (λ (es : List Entry). saves_in es) h.2 ∙ farewells_none names ss

unlisted_none : (why : Fault) (ss : List Standing) (entries : List Entry) (left : List Standing) (names : List (List ℕ)) (shut : List Made) (binds : Bool) → BeginsUnlisted why ss entries left names shut binds → saves_in entries ≡ []
unlisted_none why ss entries left names shut binds h = ap (λ (es : List Entry). saves_in es) h.2

head_none : (answer : Listing) (failed : FailedCall) (ss : List Standing) (entries : List Entry) (left : List Standing) (names : List (List ℕ)) (shut : List Made) (binds : Bool) → AfterListing answer failed ss entries left names shut binds → saves_in entries ≡ []
head_none (listing.Names listed) failed ss entries left names shut binds (inl h) = listed_none listed ss entries left names shut binds h
head_none (listing.Names listed) failed ss entries left names shut binds (inr h) = unlisted_none fault.Memory ss entries left names shut binds h
head_none listing.Failed failed ss entries left names shut binds h = unlisted_none (fault.Call failed) ss entries left names shut binds h
head_none listing.Memory failed ss entries left names shut binds h = unlisted_none fault.Memory ss entries left names shut binds h

due_none : {S : Type 0} (gives : S → (call : Call) → Answer call → S → Type 0) (calls faults : S → ℕ) (due : Option (List (List ℕ))) (s : S) (w : State Judging) (t : S) (v : State Judging) (made telling : List Made) (rest : List Entry) → PartsOfDue gives calls faults due s w t v made telling rest → saves_in rest ≡ []
due_none gives calls faults None s w t v made telling rest p =
    let g = p.0 in
    ap (λ (es : List Entry). saves_in es) p.3
    ∙ none_both g.head g.rest (head_none g.listed.answer (failure_of g.listed) w.standings g.head g.left g.names g.shut g.binds g.begins) (parts_none w.hub g.binds g.names g.left v.standings g.made g.ending g.rest g.parts)
due_none gives calls faults (Some names) s w t v made telling rest p =
    let g = p.0 in
    ap (λ (es : List Entry). saves_in es) p.3 ∙ parts_none w.hub true names w.standings v.standings g.made g.ending g.rest g.parts

-- ---- what a part of an event adds

-- its entries tell these saves
record Adds (saves : List Saved) (before after : List Entry) : Type 0 where
  more : List Entry
  all : after ≡ before ++ more
  told : saves_in more ≡ saves

adds_then : (saves later : List Saved) (es fs gs : List Entry) → Adds saves es fs → Adds later fs gs → Adds (saves ++ later) es gs
adds_then saves later es fs gs x y = record {
  more = x.more ++ y.more;
  all = y.all ∙ ap (λ (l : List Entry). l ++ y.more) x.all ∙ append_assoc es x.more y.more;
  told = saves_append x.more y.more ∙ ap (λ (l : List Saved). l ++ saves_in y.more) x.told ∙ ap (λ (l : List Saved). saves ++ l) y.told;
}

-- entries behind it that tell none
adds_behind : (saves : List Saved) (es fs gs more : List Entry) → Adds saves es fs → gs ≡ fs ++ more → saves_in more ≡ [] → Adds saves es gs
adds_behind saves es fs gs more x is none = subst (λ (l : List Saved). Adds l es gs) (append-nil saves) (adds_then saves [] es fs gs x (record { more = more; all = is; told = none }))

adds_nothing : (es : List Entry) → Adds [] es es
adds_nothing es = record { more = []; all = sym (append-nil es); told = refl }

store_adds : (became : Stored) (d : DaemonState) → Adds (saves_stored became) d.sweep.entries (noted_store became d).sweep.entries
store_adds stored.NotNeeded d = adds_nothing d.sweep.entries
store_adds stored.Done d = record { more = entry.Save saved.Done ∷ []; all = refl; told = refl }
store_adds (stored.Failed count) d = record { more = entry.Save (saved.Failed count) ∷ []; all = refl; told = refl }
store_adds stored.TooLong d = adds_nothing d.sweep.entries
store_adds stored.Memory d = adds_nothing d.sweep.entries

change_none : (change : Change) (next : ℕ) → saves_in (change_entry change next ∷ []) ≡ []
change_none (Rules (Insert after rule mark)) next = refl
change_none (Rules (Remove id)) next = refl
change_none (Rules (Retarget id rule)) next = refl
change_none (Set set) next = refl

changes_add : (saves : List Saved) (change : Option Change) (es : List Entry) (d : DaemonState) → Adds saves es d.sweep.entries → Adds saves es (with_changes change d).sweep.entries
changes_add saves None es d x = x
changes_add saves (Some change) es d x = adds_behind saves es d.sweep.entries (with_changes (Some change) d).sweep.entries (change_entry change d.sweep.judge.next ∷ []) x refl (change_none change d.sweep.judge.next)

-- ---- the order

record Behind (became : Stored) (d a : DaemonState) : Type 0 where
  entries : Adds (saves_stored became) d.sweep.entries a.sweep.entries
  pending : a.pending ≡ pending_stored became d.pending

store_pending : (became : Stored) (d : DaemonState) → (noted_store became d).pending ≡ pending_stored became d.pending
store_pending stored.NotNeeded d = refl
store_pending stored.Done d = refl
store_pending (stored.Failed count) d = refl
store_pending stored.TooLong d = refl
store_pending stored.Memory d = refl

changes_pending : (change : Option Change) (d : DaemonState) → (with_changes change d).pending ≡ d.pending
changes_pending None d = refl
changes_pending (Some change) d = refl

watching_same : (b : Bool) (d : DaemonState) → ((if_watching b d).sweep ≡ d.sweep) × ((if_watching b d).pending ≡ d.pending)
watching_same true d = (refl, refl)
watching_same false d = (refl, refl)

once_behind : (who : Named) (line : List ℕ) (d : DaemonState) (became : Stored) (a : DaemonState) → AnswersAtOnce who line d became a → Behind became d a
once_behind who line d became a x =
    let now : DaemonState = with_changes x.outcome.change (noted_store became d) in
    let said = replying (reply.Lines x.outcome.lines) now in
    let same = watching_same x.outcome.watches said in
    let is : a.sweep.entries ≡ said.sweep.entries = ap (λ (v : DaemonState). v.sweep.entries) x.state ∙ ap (λ (v : State Judging). v.entries) same.0 in
    record {
      entries = adds_behind (saves_stored became) d.sweep.entries now.sweep.entries a.sweep.entries (entry.Reply (Ok tt) ∷ []) (changes_add (saves_stored became) x.outcome.change d.sweep.entries (noted_store became d) (store_adds became d)) is refl;
      pending = ap (λ (v : DaemonState). v.pending) x.state ∙ same.1 ∙ changes_pending x.outcome.change (noted_store became d) ∙ store_pending became d;
    }

verdict_behind : {S : Type 0} (gives : S → (call : Call) → Answer call → S → Type 0) (calls faults : S → ℕ) (who : Named) (s : S) (d : DaemonState) (became : Stored) (made : List Made) (t : S) (a : DaemonState) → GoesAsVerdict gives calls faults who s d became made t a → Behind became d a
verdict_behind gives calls faults who s d became made t a x =
    let now : DaemonState = with_changes x.change (noted_store became d) in
    let first : Adds (saves_stored became) d.sweep.entries x.changed.sweep.entries = subst (λ (v : DaemonState). Adds (saves_stored became) d.sweep.entries v.sweep.entries) (sym x.after_change) (changes_add (saves_stored became) x.change d.sweep.entries (noted_store became d) (store_adds became d)) in
    let order : Adds (saves_stored became) d.sweep.entries x.kept.entries = adds_behind (saves_stored became) d.sweep.entries x.changed.sweep.entries x.kept.entries (verdict_entry (with_verdict x.verdict who x.standing) ∷ x.goes.rest) first x.goes.entries (bearing_none x.standing.name x.goes.rest x.goes.bears) in
    record {
      entries = adds_behind (saves_stored became) d.sweep.entries x.kept.entries a.sweep.entries (entry.Reply (answer_of (reply_to x.lines x.how)) ∷ []) order (ap (λ (v : DaemonState). v.sweep.entries) x.state) refl;
      pending = ap (λ (v : DaemonState). v.pending) x.state ∙ ap (λ (v : DaemonState). v.pending) x.after_change ∙ changes_pending x.change (noted_store became d) ∙ store_pending became d;
    }

answer_behind : {S T : Type 0} (gives : S → (call : Call) → Answer call → S → Type 0) (calls faults : S → ℕ) (keeps : T → (call : DiskCall) → DiskTold call → T → Type 0) (event : Event) (s : S) (q : T) (d : DaemonState) (became : Stored) (made : List Made) (m : S) (p : T) (a : DaemonState) → RunsAnswer gives keeps event s q d became m p a → GoesAsAnswer gives calls faults event s d became made m a → Behind became d a
answer_behind gives calls faults keeps (Sweep moment) s q d became made m p a runs goes =
    subst (λ (b : Stored). Behind b d a) (sym runs.2) (subst (λ (v : DaemonState). Behind stored.NotNeeded d v) (sym runs.3) (record { entries = adds_nothing d.sweep.entries; pending = refl }))
answer_behind gives calls faults keeps (Hint moment piece) s q d became made m p a runs goes =
    let x = met_adds piece d a runs.3 in
    subst (λ (b : Stored). Behind b d a) (sym runs.2) (record { entries = record { more = x.0; all = x.1; told = x.2 }; pending = met_pending piece d a runs.3 })
answer_behind gives calls faults keeps (Order moment who line) s q d became made m p a runs (inl x) = record {
  entries = adds_behind (saves_stored became) d.sweep.entries (noted_store became d).sweep.entries a.sweep.entries (entry.Reply (answer_of (reply.Refused x.refused)) ∷ []) (store_adds became d) (ap (λ (v : DaemonState). v.sweep.entries) x.state) refl;
  pending = ap (λ (v : DaemonState). v.pending) x.state ∙ store_pending became d;
}
answer_behind gives calls faults keeps (Order moment who line) s q d became made m p a runs (inr (inl x)) = once_behind who line d became a x.1
answer_behind gives calls faults keeps (Order moment who line) s q d became made m p a runs (inr (inr x)) = verdict_behind gives calls faults who s d became made m a x

-- ---- the event

pending_then : (tried : Option Saved) (became : Stored) (was now : Bool) → now ≡ pending_stored became (pending_with tried was) → IsPendingThen tried became was now
pending_then None stored.NotNeeded was now h = h
pending_then None stored.Done was now h = h
pending_then None (stored.Failed count) was now h = h
pending_then None stored.TooLong was now h = h
pending_then None stored.Memory was now h = h
pending_then (Some saved.Done) stored.NotNeeded was now h = h
pending_then (Some saved.Done) stored.Done was now h = h
pending_then (Some saved.Done) (stored.Failed count) was now h = h
pending_then (Some saved.Done) stored.TooLong was now h = h
pending_then (Some saved.Done) stored.Memory was now h = h
pending_then (Some (saved.Failed count)) stored.NotNeeded was now h = h
pending_then (Some (saved.Failed count)) stored.Done was now h = h
pending_then (Some (saved.Failed count)) (stored.Failed n) was now h = h
pending_then (Some (saved.Failed count)) stored.TooLong was now h = h
pending_then (Some (saved.Failed count)) stored.Memory was now h = h
pending_then (Some saved.Memory) stored.NotNeeded was now h = h
pending_then (Some saved.Memory) stored.Done was now h = h
pending_then (Some saved.Memory) (stored.Failed count) was now h = h
pending_then (Some saved.Memory) stored.TooLong was now h = h
pending_then (Some saved.Memory) stored.Memory was now h = h

saved_none : (tried : Option Saved) → saves_in (saved_entries tried) ≡ saves_tried tried
saved_none None = refl
saved_none (Some saved) = refl

saved_first : (tried : Option Saved) (es : List Entry) (saved : Saved) → tried ≡ Some saved → (later : List Entry) × (saved_entries tried ++ es ≡ entry.Save saved ∷ later)
saved_first tried es saved is = (es, ap (λ (o : Option Saved). saved_entries o ++ es) is)

pub tries_save : {S T : Type 0} (gives : S → (call : Call) → Answer call → S → Type 0) (calls faults : S → ℕ) (keeps : T → (call : DiskCall) → DiskTold call → T → Type 0) (event : Event) (o : T) (d : DaemonState) (tried : Option Saved) (q : T) (s : S) (became : Stored) (made : List Made) (m : S) (p : T) (a : DaemonState) (r t : S) (e : DaemonState) (swept : State Judging) → RunsDisk keeps o (trying d) tried q → RunsAnswer gives keeps event s q (ready event tried d) became m p a → GoesAsAnswer gives calls faults event s (ready event tried d) became made m a → GoesAsDue gives calls faults a.due r a.sweep t swept → e.sweep ≡ record swept { entries = swept.entries ++ entry.End a.event ∷ [] } → e.pending ≡ a.pending → TriesSave event tried became d e
tries_save gives calls faults keeps event o d tried q s became made m p a r t e swept tries answers goes parts ends pending =
    let b : Behind became (ready event tried d) a = answer_behind gives calls faults keeps event s q (ready event tried d) became made m p a answers goes in
    let last : List Entry = parts.rest ++ entry.End a.event ∷ [] in
    let none : saves_in last ≡ [] = none_both parts.rest (entry.End a.event ∷ []) (due_none gives calls faults a.due r a.sweep t swept parts.made parts.telling parts.rest parts.parts) refl in
    let adds : Adds (saves_stored became) (ready event tried d).sweep.entries e.sweep.entries =
    adds_behind (saves_stored became) (ready event tried d).sweep.entries a.sweep.entries e.sweep.entries last b.entries
    (ap (λ (v : State Judging). v.entries) ends ∙ ap (λ (es : List Entry). es ++ entry.End a.event ∷ []) parts.entries ∙ append_assoc a.sweep.entries parts.rest (entry.End a.event ∷ [])) none in
    record {
      when = tried_when keeps d o tried q tries;
      rest = saved_entries tried ++ adds.more;
      told = adds.all;
      at = λ saved is. saved_first tried adds.more saved is;
      saves = saves_append (saved_entries tried) adds.more ∙ ap (λ (l : List Saved). l ++ saves_in adds.more) (saved_none tried) ∙ ap (λ (l : List Saved). saves_tried tried ++ l) adds.told;
      pending = pending_then tried became d.pending e.pending (pending ∙ b.pending);
    }

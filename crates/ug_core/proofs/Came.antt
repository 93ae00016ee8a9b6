-- The shapes that the stages of an order have.
use Rattle.std.proofs.Common.{◌≡◌, ℕ, Bool, true, false, List, [], length, arith, Option, Some, None, Err, Ok, ◌⊎◌, inl, inr, refl, sym, ◌∙◌, ap, subst}
use Rattle.std.specs.Prelude.{IsSome, nat_le}
use Rattle.ug_types.specs.Limits.{text_limit}
use Rattle.ug_types.specs.Principals.{Named}
use Rattle.ug_types.specs.declared.refusal.Refusal.{Refusal}
use Rattle.ug_types.specs.declared.refusal.Refusal.TheVariants as refusal
use Rattle.ug_types.specs.declared.saved.Saved.{Saved}
use Rattle.ug_types.specs.declared.saved.Saved.TheVariants as saved
use Rattle.ug_types.specs.declared.verdict.Target.{Target}
use Rattle.ug_kernel.specs.declared.calls.Probe.TheVariants as probe
use Rattle.ug_kernel.specs.Calls.{Call, Answer, Ask_alive}
use Rattle.ug_kernel.specs.Tree.{Prog, Return, Ask, Room, Runs, then}
use Rattle.ug_proto.specs.declared.reply.Reply.TheVariants as reply
use Rattle.ug_proto.specs.declared.request.Request.{Request}
use Rattle.ug_proto.specs.declared.request.Request.TheVariants as request
use Rattle.ug_proto.specs.Privileges.{needs}
use Rattle.ug_proto.specs.Requests.{request_read}
use Rattle.ug_ruleset.specs.RuleFile.{FitsFile, permanent_text}
use Rattle.ug_store.specs.DiskCalls.{DiskCall, DiskTold}
use Rattle.ug_store.specs.Store.{Ended, RunsDisk, saving}
use Rattle.ug_store.proofs.DiskRuns.{runs_split_disk}
use Rattle.ug_table.specs.Orders.{ordering}
use Rattle.ug_table.specs.Parts.{told_in_reply}
use Rattle.ug_table.specs.State.{Kept, kept_of}
use Rattle.ug_table.specs.declared.standing.Settled.{Settled}
use Rattle.ug_core.specs.Answering.{acting, answered_with, asking, changing, deed_after, if_refused, refusing, replying}
use Rattle.ug_core.specs.Changes.{CanChange, change_lines, changed_by, is_saved, change_lines_of}
use Rattle.ug_core.specs.Event.{DaemonState}
use Rattle.ug_core.specs.Laws.{AnswersAtOnce, ComesTo, IsInForce, Outcome, RefusesBehind, StoreRefuses, Unstored, WhyRefused, change_of, if_watching, is_on_device, only_lines, outcome_of_change}
use Rattle.ug_core.specs.Policy.{Judging}
use Rattle.ug_core.specs.Privileges.{is_granted}
use Rattle.ug_core.specs.Storing.{after_saving, if_fits, if_in_force, if_kept, if_saved, noted_store, refused_by, stored_with, storing, with_changes}
use Rattle.ug_core.specs.declared.changes.Change.{Change}
use Rattle.ug_core.specs.declared.choosing.Choice.{Choice}
use Rattle.ug_core.specs.declared.choosing.Deed.TheVariants as deed
use Rattle.ug_core.specs.declared.storing.Stored.{Stored}
use Rattle.ug_core.specs.declared.storing.Stored.TheVariants as stored
use Rattle.ug_core.proofs.Asked.{Asked, CanMade, Chosen, Chosen_first, Found, FoundSo, Missing, Not_found, Probed, Refused_first, Refused_so, Set_so, Told_change, Told_lines, Told_watch, asked_of}

runs_split : {S A B : Type 0} (gives : S → (call : Call) → Answer call → S → Type 0) (s : S) (p : Prog A) (f : A → Prog B) (r : B) (t : S) → Runs gives s (then p f) r t → (a : A) × (u : S) × Runs gives s p a u × Runs gives u (f a) r t
runs_split gives s (Return value) f r t h = (value, s, (refl, refl), h)
runs_split gives s (Ask call next) f r t h = let k = runs_split gives h.1 (next h.0) f r t h.3 in (k.0, k.1, (h.0, h.1, h.2, k.2), k.3)
runs_split gives s (Room next) f r t h = let k = runs_split gives s (next h.0) f r t h.1 in (k.0, k.1, (h.0, k.2), k.3)

-- ---- the stage on the disk

-- A change of permanent rules was saved, or that failed, or there is no room for its text; no other is saved. Memory may be short.
abbrev pub StoresAs : Judging → Option Change → Stored → Type 0
StoresAs p None became = became ≡ stored.NotNeeded
StoresAs p (Some change) stored.NotNeeded = is_saved change p.rules ≡ false
StoresAs p (Some change) stored.Done = is_saved change p.rules ≡ true
StoresAs p (Some change) (stored.Failed count) = is_saved change p.rules ≡ true
StoresAs p (Some change) stored.TooLong = (is_saved change p.rules ≡ true) × (FitsFile (changed_by change p).rules → ⊥)
StoresAs p (Some change) stored.Memory = Unit {0}

pub stores_as : {T : Type 0} (keeps : T → (call : DiskCall) → DiskTold call → T → Type 0) (o : T) (d : DaemonState) (change : Option Change) (became : Stored) (p : T) → RunsDisk keeps o (storing d change) became p → StoresAs d.sweep.judge change became
unfolding storing
stores_as keeps o d None became p h = h.0
stores_as {T} keeps o d (Some change) became p h = by_room h.0 h.1
  where
    by_saved : is_saved change d.sweep.judge.rules ≡ true → (x : Saved) → became ≡ after_saving x → StoresAs d.sweep.judge (Some change) became
    by_saved sure saved.Done is = subst (λ (b : Stored). StoresAs d.sweep.judge (Some change) b) (sym is) sure
    by_saved sure (saved.Failed count) is = subst (λ (b : Stored). StoresAs d.sweep.judge (Some change) b) (sym is) sure
    by_saved sure saved.Memory is = subst (λ (b : Stored). StoresAs d.sweep.judge (Some change) b) (sym is) tt

    by_length : is_saved change d.sweep.judge.rules ≡ true → (b : Bool) → nat_le (length (permanent_text (changed_by change d.sweep.judge).rules)) text_limit ≡ b → RunsDisk keeps o (if_fits (permanent_text (changed_by change d.sweep.judge).rules) b) became p → StoresAs d.sweep.judge (Some change) became
    by_length sure true fits k =
        let x = runs_split_disk keeps o (saving (permanent_text (changed_by change d.sweep.judge).rules)) (λ (s : Saved). Ended (after_saving s)) became p k in
        by_saved sure x.0 x.3.0
    by_length sure false long k =
        subst (λ (b : Stored). StoresAs d.sweep.judge (Some change) b) (sym k.0)
        (sure, λ fits. let unsaved : ⊥ = grind (arith, long, fits) in unsaved)

    by_need : (b : Bool) → is_saved change d.sweep.judge.rules ≡ b → RunsDisk keeps o (if_saved d.sweep.judge change b) became p → StoresAs d.sweep.judge (Some change) became
    by_need true sure k = by_length sure (nat_le (length (permanent_text (changed_by change d.sweep.judge).rules)) text_limit) refl k
    by_need false unsaved k = subst (λ (b : Stored). StoresAs d.sweep.judge (Some change) b) (sym k.0) unsaved

    by_room : (b : Bool) → RunsDisk keeps o (if_kept d.sweep.judge change b) became p → StoresAs d.sweep.judge (Some change) became
    by_room true k = by_need (is_saved change d.sweep.judge.rules) refl k
    by_room false k = subst (λ (b : Stored). StoresAs d.sweep.judge (Some change) b) (sym k.0) tt

-- ---- what becomes of the change

-- a change that isn't in force is refused
abbrev IsKeptOut : DaemonState → Option Change → Stored → Type 0
IsKeptOut d None became = ⊥
IsKeptOut d (Some change) became = (r : Refusal) × (refused_by became ≡ Some r) × StoreRefuses d.sweep.judge change became r × (told_in_reply (Err r) ≡ [])

-- or it is in force
abbrev IsLetIn : DaemonState → Option Change → Stored → Type 0
IsLetIn d change became = (refused_by became ≡ None) × IsInForce d.sweep.judge change became

kept_or_not : (d : DaemonState) (change : Option Change) (became : Stored) → StoresAs d.sweep.judge change became → CanMade d.sweep.judge.rules change → IsLetIn d change became ⊎ IsKeptOut d change became
kept_or_not d None became stores can = inl (ap refused_by stores, stores)
kept_or_not d (Some change) stored.NotNeeded stores can = inl (refl, (can, stores))
kept_or_not d (Some change) stored.Done stores can = inl (refl, (can, stores))
kept_or_not d (Some change) (stored.Failed count) stores can = inr (refusal.StoreFault count, refl, (stores, refl), refl)
kept_or_not d (Some change) stored.TooLong stores can = inr (refusal.RulesFull, refl, (stores.0, stores.1, refl), refl)
kept_or_not d (Some change) stored.Memory stores can = inr (refusal.Memory false, refl, refl, refl)

-- ---- what is done of the order

-- the request goes on, without a call or behind the probe of its device
pub data GoesFrom {S : Type 0} (gives : S → (call : Call) → Answer call → S → Type 0) (who : Named) (line : List ℕ) (d : DaemonState) (s t : S) : Request → Type 0 where
  No_call : (asked : Request) → request_read line ≡ Ok asked → is_granted d.access who (needs asked) ≡ true → is_on_device asked ≡ false → t ≡ s → GoesFrom gives who line d s t asked
  By_probe : (number : ℕ) (verdict : Target) (permanent on : Bool) (x : Probed gives who line d number verdict permanent s t) → x.found.answer ≡ probe.Alive on → GoesFrom gives who line d s t (request.Device number verdict permanent)

pub record SetsVerdict {S : Type 0} (gives : S → (call : Call) → Answer call → S → Type 0) (who : Named) (line : List ℕ) (d : DaemonState) (change : Option Change) (became : Stored) (s t : S) (a : DaemonState) : Type 0 where
  pub number : ℕ
  pub verdict : Target
  pub permanent : Bool
  pub on : Bool
  pub behind : S
  pub x : Probed gives who line d number verdict permanent s behind
  pub alive : x.found.answer ≡ probe.Alive on
  pub asks : change ≡ change_of d (request.Device number verdict permanent)
  pub has : permanent ≡ true → IsSome change
  pub in_force : IsInForce d.sweep.judge change became
  pub p : Settled × Kept
  pub run : Runs gives behind (ordering number verdict who on (kept_of (with_changes change (noted_store became d)).sweep.standings (with_changes change (noted_store became d)).sweep.entries)) p t
  pub state : a ≡ answered_with (with_changes change (noted_store became d)) (change_lines_of change d.sweep.judge.next) p

pub data Came {S : Type 0} (gives : S → (call : Call) → Answer call → S → Type 0) (who : Named) (line : List ℕ) (d : DaemonState) (change : Option Change) (became : Stored) (s t : S) (a : DaemonState) : Type 0 where
  At_first : (r : Refusal) → WhyRefused who line d r → told_in_reply (Err r) ≡ [] → change ≡ None → became ≡ stored.NotNeeded → t ≡ s → a ≡ replying (reply.Refused r) (noted_store became d) → Came gives who line d change became s t a
  At_once : (x : AnswersAtOnce who line d became a) → x.outcome.change ≡ change → t ≡ s → Came gives who line d change became s t a
  At_probe : (number : ℕ) (verdict : Target) (permanent : Bool) (x : Probed gives who line d number verdict permanent s t) (r : Refusal) → ((x.found.answer ≡ probe.Gone) × (r ≡ refusal.NoDevice number)) ⊎ ((x.found.answer ≡ probe.Failed) × (r ≡ refusal.ProbeFault x.found.count)) → change ≡ None → became ≡ stored.NotNeeded → a ≡ replying (reply.Refused r) (noted_store became d) → Came gives who line d change became s t a
  At_last : (asked : Request) → GoesFrom gives who line d s t asked → (r : Refusal) → RefusesBehind d became asked r → told_in_reply (Err r) ≡ [] → (became ≡ stored.NotNeeded → change ≡ None) → a ≡ replying (reply.Refused r) (noted_store became d) → Came gives who line d change became s t a
  Sets : SetsVerdict gives who line d change became s t a → Came gives who line d change became s t a

module _ {S : Type 0} (gives : S → (call : Call) → Answer call → S → Type 0) (who : Named) (line : List ℕ) (d : DaemonState) (became : Stored) (s u t : S) (a : DaemonState) where
  abbrev Comes : Option Change → Type 0
  Comes change = Came gives who line d change became s t a

  abbrev Acts : Choice → Type 0
  Acts c = Runs gives u (acting who (stored_with became c.change d) (deed_after became c.deed)) a t

  -- nothing is changed
  plain : (r : Refusal) → became ≡ stored.NotNeeded → Acts (refusing r) → (a ≡ replying (reply.Refused r) (noted_store became d)) × (t ≡ u)
  plain r none h = subst (λ (b : Stored). Runs gives u (acting who (stored_with b None d) (deed_after b (deed.Refuse r))) a t → (a ≡ replying (reply.Refused r) (noted_store b d)) × (t ≡ u)) (sym none) (λ k. k) h

  -- what isn't in force
  kept_out : (change : Option Change) (r : Refusal) → refused_by became ≡ Some r → (doing : _) → Runs gives u (acting who (if_in_force (refused_by became) change (noted_store became d)) (if_refused (refused_by became) doing)) a t → (a ≡ replying (reply.Refused r) (noted_store became d)) × (t ≡ u)
  kept_out change r is doing h = subst (λ (o : Option Refusal). Runs gives u (acting who (if_in_force o change (noted_store became d)) (if_refused o doing)) a t) is h

  let_in : (change : Option Change) → refused_by became ≡ None → (doing : _) → Runs gives u (acting who (if_in_force (refused_by became) change (noted_store became d)) (if_refused (refused_by became) doing)) a t → Runs gives u (acting who (with_changes change (noted_store became d)) doing) a t
  let_in change is doing h = subst (λ (o : Option Refusal). Runs gives u (acting who (if_in_force o change (noted_store became d)) (if_refused o doing)) a t) is h

  -- what isn't in force needed a save
  needed : (r : Refusal) (change : Change) → refused_by became ≡ Some r → became ≡ stored.NotNeeded → ⊥
  needed r change is unsaved = let none : None ≡ Some r = ap refused_by (sym unsaved) ∙ is in let bad : ⊥ = cc in bad

  -- an order that needs no call

  module _ (asked : Request) (reads : request_read line ≡ Ok asked) (granted : is_granted d.access who (needs asked) ≡ true) (none : is_on_device asked ≡ false) (same : u ≡ s) where
    once : (outcome : Outcome) → ComesTo d asked outcome → IsInForce d.sweep.judge outcome.change became → (a ≡ if_watching outcome.watches (replying (reply.Lines outcome.lines) (with_changes outcome.change (noted_store became d)))) × (t ≡ u) → Comes outcome.change
    once outcome comes force h = At_once (record { asked = asked; reads = reads; granted = granted; outcome = outcome; comes = comes; in_force = force; state = h.0 }) refl (h.1 ∙ same)

    changes : (change : Change) → ComesTo d asked (outcome_of_change d change) → Some change ≡ change_of d asked → CanChange change d.sweep.judge.rules → StoresAs d.sweep.judge (Some change) became → Acts (changing change (deed.Tell (change_lines change d.sweep.judge.next))) → Comes (Some change)
    changes change comes asks can stores h = elim (kept_or_not d (Some change) became stores can) [
      | inl k ↦ once (outcome_of_change d change) comes k.1 (let_in (Some change) k.0 (deed.Tell (change_lines change d.sweep.judge.next)) h)
      | inr k ↦
          let e = kept_out (Some change) k.0 k.1 (deed.Tell (change_lines change d.sweep.judge.next)) h in
          At_last asked (No_call asked reads granted none (e.1 ∙ same)) k.0 (Unstored asked k.0 change (sym asks) can k.2) k.3 (λ unsaved. absurd (needed k.0 change k.1 unsaved)) e.0
    ]

    by_chosen : (outcome : Outcome) (c : Choice) → ComesTo d asked outcome → outcome.change ≡ change_of d asked → Chosen d outcome c → StoresAs d.sweep.judge c.change became → Acts c → Comes c.change
    by_chosen _ _ comes asks (Told_lines rows) stores h = once (only_lines rows) comes stores (let_in None (ap refused_by stores) (deed.Tell rows) h)
    by_chosen _ _ comes asks (Told_change change can) stores h = changes change comes asks can stores h
    by_chosen _ _ comes asks Told_watch stores h = once (record { lines = []; change = None; watches = true }) comes stores (let_in None (ap refused_by stores) deed.Watch h)

  -- a verdict, on a device that was found

  by_found : (number : ℕ) (verdict : Target) (permanent on : Bool) (x : Probed gives who line d number verdict permanent s u) → x.found.answer ≡ probe.Alive on → (c : Choice) → FoundSo d number verdict permanent on c → StoresAs d.sweep.judge c.change became → Acts c → Comes c.change
  by_found number verdict permanent on x alive c (Refused_so r why silent is) stores h =
      let none : became ≡ stored.NotNeeded = subst (λ (v : Choice). StoresAs d.sweep.judge v.change became) is stores in
      let e = plain r none (subst Acts is h) in
      At_last (request.Device number verdict permanent) (subst (λ (v : S). GoesFrom gives who line d s v (request.Device number verdict permanent)) (sym e.1) (By_probe number verdict permanent on x alive)) r (subst (λ (b : Stored). RefusesBehind d b (request.Device number verdict permanent) r) (sym none) why) silent (λ unsaved. ap (λ (v : Choice). v.change) is) e.0
  by_found number verdict permanent on x alive c (Set_so change asks has can is) stores h =
      subst (λ (v : Choice). Comes v.change) (sym is) (by_store (kept_or_not d change became (subst (λ (v : Choice). StoresAs d.sweep.judge v.change became) is stores) can) (subst Acts is h))
    where
      out : (change : Option Change) → change ≡ change_of d (request.Device number verdict permanent) → CanMade d.sweep.judge.rules change → IsKeptOut d change became → Runs gives u (acting who (stored_with became change d) (deed_after became (deed.SetVerdict number verdict on (change_lines_of change d.sweep.judge.next)))) a t → Comes change
      out None asks can k run = absurd k
      out (Some change) asks can k run =
          let e = kept_out (Some change) k.0 k.1 (deed.SetVerdict number verdict on (change_lines change d.sweep.judge.next)) run in
          At_last (request.Device number verdict permanent) (subst (λ (v : S). GoesFrom gives who line d s v (request.Device number verdict permanent)) (sym e.1) (By_probe number verdict permanent on x alive)) k.0 (Unstored (request.Device number verdict permanent) k.0 change (sym asks) can k.2) k.3 (λ unsaved. absurd (needed k.0 change k.1 unsaved)) e.0

      by_store : IsLetIn d change became ⊎ IsKeptOut d change became → Runs gives u (acting who (stored_with became change d) (deed_after became (deed.SetVerdict number verdict on (change_lines_of change d.sweep.judge.next)))) a t → Comes change
      by_store (inl k) run =
          let r = runs_split gives u (ordering number verdict who on (kept_of (with_changes change (noted_store became d)).sweep.standings (with_changes change (noted_store became d)).sweep.entries)) (λ (p : Settled × Kept). Return (answered_with (with_changes change (noted_store became d)) (change_lines_of change d.sweep.judge.next) p)) a t (let_in change k.0 (deed.SetVerdict number verdict on (change_lines_of change d.sweep.judge.next)) run) in
          Sets (record {
            number = number;
            verdict = verdict;
            permanent = permanent;
            on = on;
            behind = u;
            x = x;
            alive = alive;
            asks = asks;
            has = has;
            in_force = k.1;
            p = r.0;
            run = subst (λ (v : S). Runs gives u (ordering number verdict who on (kept_of (with_changes change (noted_store became d)).sweep.standings (with_changes change (noted_store became d)).sweep.entries)) r.0 v) (sym r.3.1) r.2;
            state = r.3.0;
          })
      by_store (inr k) run = out change asks can k run

  by_missing : (number : ℕ) (verdict : Target) (permanent : Bool) (x : Probed gives who line d number verdict permanent s u) (c : Choice) → Missing number x.found c → StoresAs d.sweep.judge c.change became → Acts c → Comes c.change
  by_missing number verdict permanent x c (inl m) stores h =
      let none : became ≡ stored.NotNeeded = subst (λ (v : Choice). StoresAs d.sweep.judge v.change became) m.1 stores in
      let e = plain (refusal.NoDevice number) none (subst Acts m.1 h) in
      At_probe number verdict permanent (record { reads = x.reads; granted = x.granted; standing = x.standing; stands = x.stands; found = x.found; probed = subst (λ (v : S). gives s (Ask_alive x.standing.held.0) x.found v) (sym e.1) x.probed }) (refusal.NoDevice number) (inl (m.0, refl)) (ap (λ (v : Choice). v.change) m.1) none e.0
  by_missing number verdict permanent x c (inr m) stores h =
      let none : became ≡ stored.NotNeeded = subst (λ (v : Choice). StoresAs d.sweep.judge v.change became) m.1 stores in
      let e = plain (refusal.ProbeFault x.found.count) none (subst Acts m.1 h) in
      At_probe number verdict permanent (record { reads = x.reads; granted = x.granted; standing = x.standing; stands = x.stands; found = x.found; probed = subst (λ (v : S). gives s (Ask_alive x.standing.held.0) x.found v) (sym e.1) x.probed }) (refusal.ProbeFault x.found.count) (inr (m.0, refl)) (ap (λ (v : Choice). v.change) m.1) none e.0

  came : (c : Choice) → Runs gives s (asking d who line) c u → StoresAs d.sweep.judge c.change became → Acts c → Comes c.change
  came c asks stores h = by_asked (asked_of gives who line d c s u asks)
    where
      by_asked : Asked gives who line d c s u → Comes c.change
      by_asked (Refused_first r why silent is same) =
          let none : became ≡ stored.NotNeeded = subst (λ (v : Choice). StoresAs d.sweep.judge v.change became) is stores in
          let e = plain r none (subst Acts is h) in
          At_first r why silent (ap (λ (v : Choice). v.change) is) none (e.1 ∙ same) e.0
      by_asked (Chosen_first x same) = subst (λ (v : Choice). Comes v.change) (sym x.is) (by_chosen x.asked x.reads x.granted x.no_device same x.outcome x.chosen x.comes x.asks x.how (subst (λ (v : Choice). StoresAs d.sweep.judge v.change became) x.is stores) (subst Acts x.is h))
      by_asked (Not_found number verdict permanent x m) = by_missing number verdict permanent x c m stores h
      by_asked (Found number verdict permanent on x alive so) = by_found number verdict permanent on x alive c so stores h

pub came_so : {S : Type 0} (gives : S → (call : Call) → Answer call → S → Type 0) (who : Named) (line : List ℕ) (d : DaemonState) (became : Stored) (s u t : S) (a : DaemonState) (c : Choice) → Runs gives s (asking d who line) c u → StoresAs d.sweep.judge c.change became → Runs gives u (acting who (stored_with became c.change d) (deed_after became c.deed)) a t → Came gives who line d c.change became s t a
came_so gives who line d became s u t a c asks stores h = came gives who line d became s u t a c asks stores h

-- What turns tell, and the run that they are.
use Rattle.std.proofs.Common.{◌≡◌, ℕ, ◌+◌, ◌<◌, Bool, true, false, List, [], ◌∷◌, ◌++◌, Option, Some, None, inl, inr, length, map, refl, sym, ◌∙◌, ap, subst, append_assoc, append-nil, length-append}
use Rattle.std.specs.List.{flat_map}
use Rattle.ug_kernel.specs.declared.control.Write.{Write}
use Rattle.ug_types.specs.declared.verdict.Moment.{Moment}
use Rattle.ug_links.specs.declared.waiter.Ready.{Ready}
use Rattle.ug_types.specs.Told.{GrowsBy}
use Rattle.ug_links.specs.Waits.{Waited, Tokens, wait_tokens}
use Rattle.ug_kernel.specs.Kernel.{Kernel, IsKernel}
use Rattle.ug_kernel.specs.Calls.{Call, Answer}
use Rattle.ug_kernel.specs.Called.{Follows}
use Rattle.ug_kernel.specs.Tree.{Runs, calls}
use Rattle.ug_kernel.proofs.Told.{told_run}
use Rattle.ug_kernel.proofs.Grow.{some_same}
use Rattle.ug_core.specs.Event.{handling}
use Rattle.ug_told_laws.specs.Told.{AllStagesRun, RunsKeepTold}
use Rattle.ug_told_laws.proofs.Stages.{keep_told}
use Rattle.ug_kernel.proofs.Stayed.{unmoving}
use Rattle.ug_kernel.specs.declared.sysfs.Sysfs
use Rattle.ug_audit.specs.declared.entry.Entry.{Entry}
use Rattle.ug_table.specs.State.{State}
use Rattle.ug_table.specs.Laws.{Stand}
use Rattle.ug_table.specs.declared.standing.Standing.{Standing}
use Rattle.ug_types.specs.declared.event.Event.{Event}
use Rattle.ug_core.specs.Policy.{Judging}
use Rattle.ug_core.specs.Event.{DaemonState, IsStarted, ready}
use Rattle.ug_core.specs.Durable.{KeepsFile}
use Rattle.ug_core.specs.Pending.{TriesSave}
use Rattle.ug_core.specs.Laws.{AnswersEvent, Handled, SettlesDue}
use Rattle.ug_core.specs.Stops.{AllReadable}
use Rattle.ug_core.specs.Durable.{WritesEvent}
use Rattle.ug_ruleset.specs.RuleFile.{IsSaveable}
use Rattle.ug_core.specs.declared.storing.Stored.{Stored}
use Rattle.ug_core.specs.Chain.{Happened, Chain, StaysOnDisk, journal}
use Rattle.ug_core.proofs.Answered.{answered_stands}
use Rattle.ug_store.specs.Disk.{Disk}
use Rattle.ug_store.specs.declared.disk.RuleDisk
use Rattle.ug_types.specs.declared.saved.Saved.{Saved}
use Rattle.ug_links.specs.declared.waiter.Waiter
use Rattle.ug_links.specs.declared.clock.Clock
use Rattle.ug_core.proofs.Chained.{is_run}
use Rattle.ug_audit.specs.Noting.{NotesEntries, without_drops}
use Rattle.ug_audit.proofs.Noting.{notes_on, drops_append}
use Rattle.ug_links.specs.declared.step.LinkStep.{LinkStep}
use Rattle.ug_links.specs.Steps.{TellsStep}
use Rattle.ug_links.specs.Talk.{TellsSteps}
use Rattle.ug_links.proofs.Told.{made_told}
use Rattle.ug_links.proofs.Extending.{extends_nil, extends_more}
use Rattle.ug_links.specs.declared.links.Links
use Rattle.ug_sessions.specs.States.{ServerState}
use Rattle.ug_serve.specs.Turns.{TurnEvent, Turned, turns_events, events_entries, turns_entries, AreWhole, Core, CoreAndServer, with_server, TurnWorld, IsHandled, AreOrders, ServesOrders, Events, Sweeps, Sweeps_not, Serves, Serves_not, Sends, IsTurn, Turns, EndsTurn, CutsTurns, ServesTurns}
use Rattle.ug_serve.specs.declared.turn.TurnEnd.{TurnEnd}
use Rattle.ug_serve.specs.declared.turn.TurnEnd.TheVariants as end
use Rattle.ug_serve.specs.Telling.{turns_tokens, turns_moments, turns_calls, IsRunOfTurns, TurnsTell}

grows_none : {A : Type 0} (told : Option (List A)) (after : List A) → told ≡ Some after → GrowsBy told [] after
grows_none told after e = (after, e, sym (append-nil after))

grows_both : {A : Type 0} (told middle : Option (List A)) (xs ys between after : List A) → middle ≡ Some between → GrowsBy told xs between → GrowsBy middle ys after → GrowsBy told (xs ++ ys) after
grows_both {A} told middle xs ys between after e g h =
    let same : h.0 ≡ between = let both : Some h.0 ≡ Some between = sym h.1 ∙ e in cc in
    (g.0, g.1, h.2 ∙ (ap (λ (l : List A). l ++ ys) (same ∙ g.2) ∙ append_assoc g.0 xs ys))

-- a disk that isn't asked is as it was
rests : (o : Option Disk) → StaysOnDisk o o
rests o n is = (n, is, record { text = refl; fresh = refl; synced = refl; left = refl })

nothing_stands : (k : Kernel) → Stand k [] 1
nothing_stands k = record { devices = λ s h. absurd h; hashes = λ s h. absurd h; numbers = λ s h. absurd h; names = tt; order = tt; distinct = tt; done = λ control s h e. absurd h }

-- the kernel is sound behind the last stage, and the standings are of its devices
sound_due : (due : Option (List (List ℕ))) (k : Kernel) (w : State Judging) (l : Kernel) (v : State Judging) → SettlesDue due k w l v → IsKernel l × Stand l v.standings v.next
sound_due None k w l v s = (s.fair.sound, s.fair.stand)
sound_due (Some names) k w l v s = (s.0.fair.sound, s.0.fair.stand)

stands_after : (k : Kernel) (d : DaemonState) (m : Kernel) (e : DaemonState) → Handled k d m e → Stand m e.sweep.standings e.sweep.next
stands_after k d m e h = subst (λ (v : State Judging). Stand m v.standings v.next) (sym h.entries) (sound_due d.due k d.sweep m h.swept h.law).1

stands_first : (policy : Judging) (hub : Option Write) (first : ℕ) (d : DaemonState) (k : Kernel) → IsStarted policy hub first d → Stand k d.sweep.standings d.sweep.next
stands_first policy hub first d k h = subst (λ (n : ℕ). Stand k d.sweep.standings n) (sym h.next) (subst (λ (ss : List Standing). Stand k ss 1) (sym h.standings) (nothing_stands k))

record IsChained (events : List TurnEvent) (k : Kernel) (o : Option Disk) (d : DaemonState) (l : Kernel) (p : Option Disk) (e : DaemonState) : Type 0 where
  hs : List Happened
  events_are : map (λ h. h.event) hs ≡ map (λ x. x.event) events
  entries_are : journal hs ≡ without_drops (events_entries events)
  chain : Chain k o d hs l p e
  readable : AllReadable hs
  stages : AllStagesRun hs

chained_more : (x : TurnEvent) (xs : List TurnEvent) (tried : Option Saved) (k : Kernel) (o : Option Disk) (d : DaemonState) (became : Stored) (j : Kernel) (a : DaemonState) (m : Kernel) (n : Option Disk) (b : DaemonState) (l : Kernel) (p : Option Disk) (e : DaemonState)
    → b.sweep.entries ≡ without_drops x.entries → AnswersEvent x.event k (ready x.event tried d) became j a → Handled j a m b → KeepsFile (λ (y : Option Disk). y) x.event tried became o d n b → IsSaveable d.sweep.judge.rules → WritesEvent x.event d became → IsSaveable b.sweep.judge.rules → TriesSave x.event tried became d b → IsKernel j → Stand j a.sweep.standings a.sweep.next → Runs calls j (handling a) b m → IsChained xs m n b l p e → IsChained (x ∷ xs) k o d l p e
chained_more x xs tried k o d became j a m n b l p e is answers handled file saves writes saves_after tries sound stand runs c = record {
  hs = record { event = x.event; tried = tried; kernel = k; disk = o; before = d; became = became; kernel_answered = j; answered = a; kernel_after = m; disk_after = n; after = b } ∷ c.hs;
  events_are = ap (λ (es : List Event). x.event ∷ es) c.events_are;
  entries_are = ap (λ (es : List Entry). b.sweep.entries ++ es) c.entries_are ∙ (ap (λ (es : List Entry). es ++ without_drops (events_entries xs)) is ∙ sym (drops_append x.entries (events_entries xs)));
  chain = (unmoving k, rests o, refl, record { answers = answers; handled = handled; file = file; saves = tries }, c.chain);
  readable = (record { before = saves; written = writes; after = saves_after }, c.readable);
  stages = (record { sound = sound; stand = stand; runs = runs }, c.stages);
}

pub flat-append : {A B : Type 0} (f : A → List B) (xs ys : List A) → flat_map f (xs ++ ys) ≡ flat_map f xs ++ flat_map f ys
flat-append f [] ys = refl
flat-append {A} {B} f (x ∷ xs) ys = ap (λ (l : List B). f x ++ l) (flat-append f xs ys) ∙ sym (append_assoc (f x) (flat_map f xs) (flat_map f ys))

whole_one : (turns : List Turned) (turn : Turned) → AreWhole turns → turn.whole ≡ true → AreWhole (turns ++ turn ∷ [])
whole_one [] turn h e = (e, tt)
whole_one (first ∷ turns) turn h e = (h.0, whole_one turns turn h.1 e)

module _ {Y D : Type 0} (sysfs : Sysfs.Ghosts Y) (disk : RuleDisk.Ghosts D) where
  open sysfs use {told}
  open disk use {told as disk_told}

  -- events one after another, whatever is put to sessions between them

  abbrev pub AreHandled : Core Y D → List TurnEvent → Core Y D → Type 0
  AreHandled c [] d = d ≡ c
  AreHandled c (x ∷ xs) d = (m : Core Y D) × IsHandled sysfs disk c x m × AreHandled m xs d

  handled_both : (c : Core Y D) (xs ys : List TurnEvent) (m d : Core Y D) → AreHandled c xs m → AreHandled m ys d → AreHandled c (xs ++ ys) d
  handled_both c [] ys m d h k = subst (λ (x : Core Y D). AreHandled x ys d) h k
  handled_both c (x ∷ xs) ys m d h k = (h.0, h.1, handled_both h.0 xs ys m d h.2 k)

  handled_behind : (c a : Core Y D) (x : TurnEvent) (m : Core Y D) → c ≡ a → IsHandled sysfs disk c x m → IsHandled sysfs disk a x m
  handled_behind c a x m e h = subst (λ (y : Core Y D). IsHandled sysfs disk y x m) e h

  orders_handled : (moment : Moment) (a : CoreAndServer Y D) (xs : List TurnEvent) (b : CoreAndServer Y D) → AreOrders sysfs disk moment a xs b → AreHandled a.core xs b.core
  orders_handled moment a [] b h = ap (λ (s : CoreAndServer Y D). s.core) h
  orders_handled moment a (x ∷ xs) b h = (h.0.core, handled_behind h.1.handed.core a.core x h.0.core h.1.hands.0 h.1.handled, orders_handled moment h.0 xs b h.2)

  rest_handled : (moment : Moment) (a : CoreAndServer Y D) (xs : List TurnEvent) (whole : Bool) (b : CoreAndServer Y D) → ServesOrders sysfs disk moment a xs whole b → AreHandled a.core xs b.core
  rest_handled moment a xs true b h = subst (λ (c : Core Y D). AreHandled a.core xs c) (sym h.2.0) (orders_handled moment a xs h.0 h.1)
  rest_handled moment a xs false b h = subst (λ (c : Core Y D). AreHandled a.core xs c) (sym h.3.0) (orders_handled moment a xs h.0 h.2)

  events_handled : (moment : Moment) (a : CoreAndServer Y D) (xs : List TurnEvent) (whole : Bool) (b : CoreAndServer Y D) → Events sysfs disk moment a xs whole b → AreHandled a.core xs b.core
  events_handled moment a _ _ _ (Sweeps e b h) = (b.core, handled_behind h.passed.core a.core e b.core h.hands.0 h.handled, refl)
  events_handled moment a _ _ _ (Sweeps_not b h r) = h.0
  events_handled moment a _ _ _ (Serves e m es whole b h k) = (m.core, handled_behind h.handed.core a.core e m.core h.hands.0 h.handled, rest_handled moment m es whole b k)
  events_handled moment a _ _ _ (Serves_not asked b h r) = h.0

  events_noted : (c : Core Y D) (xs : List TurnEvent) (d : Core Y D) → AreHandled c xs d → NotesEntries (events_entries xs) c.members d.members
  events_noted c [] d h = (refl, ap (λ (x : Core Y D). x.members) h)
  events_noted c (x ∷ xs) d h = notes_on [] x.entries (events_entries xs) c.members h.0.members d.members [] [] h.1.noted (events_noted h.0 xs d h.2)

  -- the run of the daemon

  -- where a kernel is told after a call, the call did what it may
  abbrev pub Did : Type 0
  Did = (s : Y) (call : Call) (answer : Answer call) (t : Y) (l : Kernel) → sysfs.gives s call answer t → told t ≡ Some l → Follows call answer (told s) l

  chained : Did → (c : Core Y D) (xs : List TurnEvent) (d : Core Y D) (l : Kernel) → AreHandled c xs d → told d.sysfs ≡ Some l
      → (k : Kernel) × (told c.sysfs ≡ Some k) × (IsKernel k → Stand k c.daemon.sweep.standings c.daemon.sweep.next → IsChained xs k (disk_told c.disk) c.daemon l (disk_told d.disk) d.daemon)
  chained did c [] d l h is = (
    l,
    ap (λ (x : Core Y D). told x.sysfs) (sym h) ∙ is,
    λ sound stand.
        record { hs = []; events_are = refl; entries_are = refl; chain = (unmoving l, subst (λ (x : Core Y D). StaysOnDisk (disk_told c.disk) (disk_told x.disk)) (sym h) (rests (disk_told c.disk)), ap (λ (x : Core Y D). x.daemon) h); readable = tt; stages = tt },
  )
  chained did c (x ∷ xs) d l h is =
      let m : Core Y D = h.0 in
      let later = chained did m xs d l h.2 is in
      let swept = h.1.handled.law later.0 later.1 in
      let now = h.1.handled.answers_law swept.0 swept.1 in (
        now.0,
        now.1,
        λ sound stand.
            let begins_so : DaemonState = ready x.event h.1.handled.tried c.daemon in
            let answers = now.2 sound stand in
            let behind = answered_stands x.event now.0 begins_so h.1.handled.became swept.0 h.1.handled.answered sound stand answers in
            let ran = told_run sysfs.gives told did (handling h.1.handled.answered) h.1.handled.middle m.daemon m.sysfs later.0 h.1.handled.runs later.1 in
            let same : ran.kernel ≡ swept.0 = some_same (told h.1.handled.middle) ran.kernel swept.0 ran.was swept.1 in
            let runs : Runs calls swept.0 (handling h.1.handled.answered) m.daemon later.0 = subst (λ (k : Kernel). Runs calls k (handling h.1.handled.answered) m.daemon later.0) same (ran.run (subst (λ (k : Kernel). IsKernel k) (sym same) behind.0)).0 in
            let handled : Handled swept.0 h.1.handled.answered later.0 m.daemon = swept.2 behind.0 behind.1 in
            chained_more x xs h.1.handled.tried now.0 (disk_told c.disk) c.daemon h.1.handled.became swept.0 h.1.handled.answered later.0 (disk_told m.disk) m.daemon l (disk_told d.disk) d.daemon h.1.entries answers handled h.1.handled.file h.1.handled.saveable h.1.handled.written h.1.handled.saveable_after h.1.handled.saves behind.0 behind.1 runs
            (later.2 (sound_due h.1.handled.answered.due swept.0 h.1.handled.answered.sweep later.0 handled.swept handled.law).0 (stands_after swept.0 h.1.handled.answered later.0 m.daemon handled)),
      )

  module _ {N W C : Type 0} (net : Links.Ghosts N) (wait : Waiter.Ghosts W) (ticks : Clock.Ghosts C) where
    open net use {gives as links, told as links_told}
    open wait use {gives as waits, told as waiter_told}
    open ticks use {gives as clocks, told as clock_told}

    abbrev Are : TurnWorld Y D N W C → List Turned → TurnWorld Y D N W C → Type 0
    Are s turns t = Turns sysfs disk net wait ticks s turns t

    -- one turn more

    pub turns_more : (s : TurnWorld Y D N W C) (turns : List Turned) (t : TurnWorld Y D N W C) (turn : Turned) (u : TurnWorld Y D N W C) → Are s turns t → IsTurn sysfs disk net wait ticks t turn u → Are s (turns ++ turn ∷ []) u
    turns_more s [] t turn u h k = (u, subst (λ (x : TurnWorld Y D N W C). IsTurn sysfs disk net wait ticks x turn u) h k, refl)
    turns_more s (first ∷ turns) t turn u h k = (h.0, h.1, turns_more h.0 turns t turn u h.2 k)

    pub turns_one : (n : ℕ) (s t u : TurnWorld Y D N W C) → (made : List Turned) × (length made ≡ n) × AreWhole made × Are s made t → EndsTurn sysfs disk net wait ticks t end.Done u → (made : List Turned) × (length made ≡ n + 1) × AreWhole made × Are s made u
    turns_one n s t u so one = (
      so.0 ++ one.0 ∷ [],
      length-append so.0 (one.0 ∷ []) ∙ ap (λ (k : ℕ). k + 1) so.1,
      whole_one so.0 one.0 so.2 one.2,
      turns_more s so.0 t one.0 u so.3 one.1,
    )

    -- the next one is cut
    pub turns_cut : (n : ℕ) (s t u : TurnWorld Y D N W C) (made : List Turned) → length made < n → AreWhole made → Are s made t → EndsTurn sysfs disk net wait ticks t end.Numbers u → (all : List Turned) × CutsTurns sysfs disk net wait ticks n s all u
    turns_cut n s t u made few whole are (inl h) = (made, inl (t, (few, whole, are), h))
    turns_cut n s t u made few whole are (inr h) = (made ++ h.0 ∷ [], inr (t, made, h.0, refl, (few, whole, are), h.1, h.2))

    -- their events were handled, one turn's after another's

    pub turns_handled : (s : TurnWorld Y D N W C) (turns : List Turned) (t : TurnWorld Y D N W C) → Are s turns t → AreHandled s.core (turns_events turns) t.core
    turns_handled s [] t h = ap (λ (x : TurnWorld Y D N W C). x.core) h
    turns_handled s (turn ∷ turns) t h =
        handled_both s.core turn.events (turns_events turns) h.0.core t.core (events_handled turn.moment (with_server s.core h.1.came) turn.events turn.whole (with_server h.0.core h.1.served) h.1.events) (turns_handled h.0 turns t h.2)

    pub turns_noted : (s : TurnWorld Y D N W C) (turns : List Turned) (t : TurnWorld Y D N W C) → Are s turns t → NotesEntries (turns_entries turns) s.core.members t.core.members
    turns_noted s turns t h = events_noted s.core (turns_events turns) t.core (turns_handled s turns t h)

    pub cuts_turns : (n : ℕ) (s : TurnWorld Y D N W C) (turns : List Turned) (t : TurnWorld Y D N W C) → CutsTurns sysfs disk net wait ticks n s turns t → Are s turns t
    cuts_turns n s turns t (inl h) = subst (λ (x : TurnWorld Y D N W C). Are s turns x) (sym h.2.same) h.1.2
    cuts_turns n s turns t (inr h) = subst (λ (l : List Turned). Are s l t) (sym h.3) (turns_more s h.1 h.0 h.2 t h.4.2 h.5)

    pub serves_noted : (n : ℕ) (s : TurnWorld Y D N W C) (made : List Turned) (ended : TurnEnd) (t : TurnWorld Y D N W C) → ServesTurns sysfs disk net wait ticks n s made ended t → NotesEntries (turns_entries made) s.core.members t.core.members
    serves_noted n s made end.Done t h = turns_noted s made t h.2
    serves_noted n s made end.Numbers t h = turns_noted s made t (cuts_turns n s made t h)
    serves_noted n s made end.WaitFailed t h = subst (λ (x : TurnWorld Y D N W C). NotesEntries (turns_entries made) s.core.members x.core.members) (sym h.2.same) (turns_noted s made h.0 h.1.2)

    module _ (links_tell : (s : N) (step : LinkStep) (t : N) (after : List LinkStep) → links s step t → links_told t ≡ Some after → TellsStep (links_told s) step after)
        (waiter_tells : (s : W) (waited : Waited) (t : W) (after : List (List Ready)) → waits s waited t → waiter_told t ≡ Some after → GrowsBy (waiter_told s) (wait_tokens waited) after)
        (clock_tells : (s : C) (moment : Moment) (t : C) (after : List Moment) → clocks s moment t → clock_told t ≡ Some after → GrowsBy (clock_told s) (moment ∷ []) after) where
      tokens_told : (s : TurnWorld Y D N W C) (turns : List Turned) (t : TurnWorld Y D N W C) (after : List (List Ready)) → Are s turns t → waiter_told t.waiter ≡ Some after → GrowsBy (waiter_told s.waiter) (turns_tokens turns) after
      tokens_told s [] t after h is = grows_none (waiter_told s.waiter) after (ap (λ (x : TurnWorld Y D N W C). waiter_told x.waiter) (sym h) ∙ is)
      tokens_told s (turn ∷ turns) t after h is =
          let later = tokens_told h.0 turns t after h.2 is in
          grows_both (waiter_told s.waiter) (waiter_told h.0.waiter) (turn.tokens ∷ []) (turns_tokens turns) later.0 after later.1 (waiter_tells s.waiter (Tokens turn.tokens) h.0.waiter later.0 h.1.waited later.1) later

      moments_told : (s : TurnWorld Y D N W C) (turns : List Turned) (t : TurnWorld Y D N W C) (after : List Moment) → Are s turns t → clock_told t.clock ≡ Some after → GrowsBy (clock_told s.clock) (turns_moments turns) after
      moments_told s [] t after h is = grows_none (clock_told s.clock) after (ap (λ (x : TurnWorld Y D N W C). clock_told x.clock) (sym h) ∙ is)
      moments_told s (turn ∷ turns) t after h is =
          let later = moments_told h.0 turns t after h.2 is in
          grows_both (clock_told s.clock) (clock_told h.0.clock) (turn.moment ∷ []) (turns_moments turns) later.0 after later.1 (clock_tells s.clock turn.moment h.0.clock later.0 h.1.moment later.1) later

      -- the writes of a turn, and what it did before

      sends_told : (whole : Bool) (steps : List LinkStep) (v : ServerState) (l : N) (u : ServerState) (m : N) (after : List LinkStep) → Sends sysfs disk net wait ticks whole steps v l u m → links_told m ≡ Some after → TellsSteps (links_told l) steps after
      sends_told true steps v l u m after h is = made_told links links_told links_tell l steps m after h.2 is
      sends_told false steps v l u m after h is =
          subst (λ (x : List LinkStep). TellsSteps (links_told l) x after) (sym h.0) (extends_nil (links_told l) after (ap links_told (sym h.2) ∙ is))

      turn_told : (s : TurnWorld Y D N W C) (turn : Turned) (t : TurnWorld Y D N W C) (after : List LinkStep) → IsTurn sysfs disk net wait ticks s turn t → links_told t.links ≡ Some after → TellsSteps (links_told s.links) (turn.comes ++ turn.sends) after
      turn_told s turn t after h is =
          let sent = sends_told turn.whole turn.sends h.served h.came_links t.server t.links after h.sends is in
          extends_more (links_told s.links) (links_told h.came_links) turn.comes turn.sends sent.0 after sent.1 (made_told links links_told links_tell s.links turn.comes h.came_links sent.0 h.comes_made sent.1) sent

      calls_told : (s : TurnWorld Y D N W C) (turns : List Turned) (t : TurnWorld Y D N W C) (after : List LinkStep) → Are s turns t → links_told t.links ≡ Some after → TellsSteps (links_told s.links) (turns_calls turns) after
      calls_told s [] t after h is = extends_nil (links_told s.links) after (ap (λ (x : TurnWorld Y D N W C). links_told x.links) (sym h) ∙ is)
      calls_told s (turn ∷ turns) t after h is =
          let later = calls_told h.0 turns t after h.2 is in
          extends_more (links_told s.links) (links_told h.0.links) (turn.comes ++ turn.sends) (turns_calls turns) later.0 after later.1 (turn_told s turn h.0 later.0 h.1 later.1) later

      run_told : Did → (policy : Judging) (hub : Option Write) (first : ℕ) (s : TurnWorld Y D N W C) (turns : List Turned) (t : TurnWorld Y D N W C) (l : Kernel) → IsStarted policy hub first s.core.daemon → Are s turns t → told t.core.sysfs ≡ Some l
          → (k : Kernel) × (told s.core.sysfs ≡ Some k) × (IsKernel k → IsRunOfTurns policy hub turns k (disk_told s.core.disk) s.core.daemon l (disk_told t.core.disk) t.core.daemon)
      run_told did policy hub first s turns t l started h is =
          let c = chained did s.core (turns_events turns) t.core l (turns_handled s turns t h) is in (
            c.0,
            c.1,
            λ sound.
                let chain = c.2 sound (stands_first policy hub first s.core.daemon c.0 started) in
                record { happened = chain.hs; events = chain.events_are; entries = chain.entries_are; chain = chain.chain; run = is_run policy hub first c.0 (disk_told s.core.disk) s.core.daemon chain.hs l (disk_told t.core.disk) t.core.daemon started chain.chain; readable = chain.readable; keeps = keep_told policy hub first c.0 (disk_told s.core.disk) s.core.daemon chain.hs l (disk_told t.core.disk) t.core.daemon started chain.chain chain.stages },
          )

      pub turns_tell : Did → TurnsTell sysfs disk net wait ticks
      turns_tell did policy hub first s turns t started h = record {
        run = λ l is. run_told did policy hub first s turns t l started h is;
        calls = λ after is. calls_told s turns t after h is;
        tokens = λ after is. tokens_told s turns t after h is;
        moments = λ after is. moments_told s turns t after h is;
      }

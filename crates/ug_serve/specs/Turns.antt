-- A turn of the daemon: one wait, one moment, what is accepted and read, the events, and what is
-- sent; and turns one after another.
use Rattle.std.specs.Prelude.{◌≡◌, ◌⊎◌, ℕ, ◌<◌, Bool, true, false, List, [], ◌∷◌, ◌++◌, length, Option, Some, None, IsSome}
use Rattle.std.specs.List.{flat_map}
use Rattle.ug_types.specs.declared.verdict.Moment.{Moment}
use Rattle.ug_links.specs.declared.waiter.LinkId.{LinkId}
use Rattle.ug_links.specs.declared.waiter.Ready.{Ready}
use Rattle.ug_types.specs.Principals.{Named}
use Rattle.ug_links.specs.Waits.{Tokens, Failed}
use Rattle.ug_links.specs.declared.waiter.Waiter
use Rattle.ug_links.specs.declared.clock.Clock
use Rattle.ug_kernel.specs.declared.sysfs.Sysfs
use Rattle.ug_audit.specs.declared.entry.Entry.{Entry}
use Rattle.ug_audit.specs.Noting.{NotesEntries, without_drops}
use Rattle.ug_audit.specs.Panels.{Member}
use Rattle.ug_types.specs.declared.event.Event.{Event}
use Rattle.ug_types.specs.declared.event.Event.TheVariants.{Sweep, Order}
use Rattle.ug_store.specs.declared.disk.RuleDisk
use Rattle.ug_core.specs.Event.{DaemonState, has_numbers}
use Rattle.ug_core.specs.Laws.{HandlesEvent}
use Rattle.ug_links.specs.declared.step.LinkStep.{LinkStep}
use Rattle.ug_links.specs.Talk.{Path, Makes}
use Rattle.ug_links.specs.declared.links.Links
use Rattle.ug_sessions.specs.Answering.{HandsNext}
use Rattle.ug_sessions.specs.States.{ServerState}
use Rattle.ug_sessions.specs.Serving.{turning, flushing}
use Rattle.ug_sessions.specs.declared.session.Turn.{Turn}
use Rattle.ug_serve.specs.Responses.{ChangesSessions, Notifies, Responds}
use Rattle.ug_serve.specs.declared.turn.TurnEnd.{TurnEnd}
use Rattle.ug_serve.specs.declared.turn.TurnEnd.TheVariants as end

-- An event of a turn: the session whose request it is, where it is an order; the event; the daemon
-- after it; and its entries with the `dropped` ones.
pub record TurnEvent : Type 0 where
  pub asked_by : Option LinkId
  pub event : Event
  pub after : DaemonState
  pub entries : List Entry

-- What a turn was: the tokens of its wait; its moment; the accepts and reads, with their answers;
-- its events; the writes; and whether all of it was made, or the numbers left no room for an event.
pub record Turned : Type 0 where
  pub tokens : List Ready
  pub moment : Moment
  pub comes : List LinkStep
  pub events : List TurnEvent
  pub sends : List LinkStep
  pub whole : Bool

-- the events of turns, in order
abbrev pub turns_events : List Turned → List TurnEvent
turns_events turns = flat_map (λ turn. turn.events) turns

abbrev pub events_entries : List TurnEvent → List Entry
events_entries events = flat_map (λ e. e.entries) events

-- the entries of turns, in order
abbrev pub turns_entries : List Turned → List Entry
turns_entries turns = events_entries (turns_events turns)

abbrev pub AreWhole : List Turned → Type 0
AreWhole [] = Unit {0}
AreWhole (turn ∷ turns) = (turn.whole ≡ true) × AreWhole turns

-- what an event is handled over: the daemon, the kernel's files, the disk, and the auditors
pub record Core (Y D : Type 0) : Type 0 where
  pub daemon : DaemonState
  pub sysfs : Y
  pub disk : D
  pub members : List Member

abbrev pub core_of : {Y D : Type 0} → DaemonState → Y → D → List Member → Core Y D
core_of d y o ms = record { daemon = d; sysfs = y; disk = o; members = ms }

-- what the events of a turn are over
pub record CoreAndServer (Y D : Type 0) : Type 0 where
  pub core : Core Y D
  pub server : ServerState

abbrev pub with_server : {Y D : Type 0} → Core Y D → ServerState → CoreAndServer Y D
with_server c v = record { core = c; server = v }

-- what a turn is over
pub record TurnWorld (Y D N W C : Type 0) : Type 0 where
  pub core : Core Y D
  pub server : ServerState
  pub links : N
  pub waiter : W
  pub clock : C

abbrev pub turn_world : {Y D N W C : Type 0} → Core Y D → ServerState → N → W → C
    → TurnWorld Y D N W C
turn_world c v n w k = record { core = c; server = v; links = n; waiter = w; clock = k }

-- a request: its session, whose it is, and its line
abbrev pub AskedLine : Type 0
AskedLine = LinkId × Named × List ℕ

-- that request is handed out next, or there is none
abbrev pub HandsOutNext : {Y D : Type 0} → Option AskedLine → CoreAndServer Y D → CoreAndServer Y D
    → Type 0
HandsOutNext request a b =
    (b.core ≡ a.core) × ChangesSessions (λ ss ts. HandsNext ss request ts) a.server b.server

module _ {Y D : Type 0} (sysfs : Sysfs.Ghosts Y) (disk : RuleDisk.Ghosts D) where
  open sysfs use {faults}
  open disk use {faults as disk_faults}

  -- the numbers leave room for an event
  abbrev pub has_room : Core Y D → Bool
  has_room c = has_numbers c.daemon (faults c.sysfs) (disk_faults c.disk)

  -- the event is handled, and its entries are noted by the auditors while it goes on
  pub record IsHandled (c : Core Y D) (e : TurnEvent) (d : Core Y D) : Type 0 where
    pub room : has_room c ≡ true
    pub handled : HandlesEvent sysfs disk e.event
        c.sysfs c.disk c.daemon d.sysfs d.disk d.daemon
    pub after : d.daemon ≡ e.after
    pub entries : d.daemon.sweep.entries ≡ without_drops e.entries
    pub noted : NotesEntries e.entries c.members d.members

  -- the request that is handed out next is an order's, of its session's user or group; it leaves a
  -- reply, and what it comes to is put to the sessions at once
  pub record IsOrder (moment : Moment) (a : CoreAndServer Y D) (e : TurnEvent)
      (b : CoreAndServer Y D) : Type 0 where
    pub asked : AskedLine
    pub handed : CoreAndServer Y D
    pub hands : HandsOutNext (Some asked) a handed
    pub session : e.asked_by ≡ Some asked.0
    pub order : e.event ≡ Order moment asked.1 asked.2
    pub handled : IsHandled handed.core e b.core
    pub replied : IsSome e.after.reply
    pub responds : ChangesSessions (Responds asked.0 e.after e.entries) handed.server b.server

  -- there is no request, and all devices are looked at
  pub record IsSweep (moment : Moment) (a : CoreAndServer Y D) (e : TurnEvent)
      (b : CoreAndServer Y D) : Type 0 where
    pub passed : CoreAndServer Y D
    pub hands : HandsOutNext None a passed
    pub session : e.asked_by ≡ None
    pub sweep : e.event ≡ Sweep moment
    pub handled : IsHandled passed.core e b.core
    pub notifies : ChangesSessions (Notifies e.after.access e.entries) passed.server b.server

  abbrev pub AreOrders : Moment → CoreAndServer Y D → List TurnEvent → CoreAndServer Y D → Type 0
  AreOrders moment a [] b = b ≡ a
  AreOrders moment a (e ∷ es) b =
      (m : CoreAndServer Y D) × IsOrder moment a e m × AreOrders moment m es b

  -- orders until no request is left, or until the numbers leave no room for that of the next one
  abbrev pub ServesOrders : Moment → CoreAndServer Y D → List TurnEvent → Bool → CoreAndServer Y D
      → Type 0
  ServesOrders moment a es true b =
      (m : CoreAndServer Y D) × AreOrders moment a es m × HandsOutNext None m b
  ServesOrders moment a es false b =
      (m : CoreAndServer Y D) × (asked : AskedLine) × AreOrders moment a es m
      × HandsOutNext (Some asked) m b × (has_room b.core ≡ false)

  -- The events of a turn, and whether the numbers left room for each: an order for each request in
  -- turn, or one sweep where there is no request.
  pub data Events (moment : Moment) (a : CoreAndServer Y D) : List TurnEvent → Bool
      → CoreAndServer Y D → Type 0 where
    Sweeps : (e : TurnEvent) (b : CoreAndServer Y D) → IsSweep moment a e b
        → Events moment a (e ∷ []) true b
    Sweeps_not : (b : CoreAndServer Y D) → HandsOutNext None a b → has_room b.core ≡ false
        → Events moment a [] false b
    Serves : (e : TurnEvent) (m : CoreAndServer Y D) (es : List TurnEvent) (whole : Bool)
        (b : CoreAndServer Y D)
        → IsOrder moment a e m → ServesOrders moment m es whole b → Events moment a (e ∷ es) whole b
    Serves_not : (asked : AskedLine) (b : CoreAndServer Y D) → HandsOutNext (Some asked) a b
        → has_room b.core ≡ false → Events moment a [] false b

  module _ {N W C : Type 0}
      (net : Links.Ghosts N) (wait : Waiter.Ghosts W) (ticks : Clock.Ghosts C) where
    open net use {gives as links}
    open wait use {gives as waits}
    open ticks use {gives as clocks}

    -- these calls send what is unsent; behind events that were cut nothing is sent
    abbrev pub Sends : Bool → List LinkStep → ServerState → N → ServerState → N → Type 0
    Sends true steps v l u m =
        (counts : Turn) × Path (flushing v) steps (u, counts) × Makes links l steps m
    Sends false steps v l u m = (steps ≡ []) × (u ≡ v) × (m ≡ l)

    -- The tokens of one wait and the moment of one look at the clock; the accepts and reads for
    -- these tokens; the events at that moment; and the writes.
    pub record IsTurn (s : TurnWorld Y D N W C) (turn : Turned) (t : TurnWorld Y D N W C) : Type 0
      where
        pub room : has_room s.core ≡ true
        pub waited : waits s.waiter (Tokens turn.tokens) t.waiter
        pub moment : clocks s.clock turn.moment t.clock
        pub came : ServerState
        pub counts : Turn
        pub came_links : N
        pub comes : Path (turning turn.tokens s.server) turn.comes (came, counts)
        pub comes_made : Makes links s.links turn.comes came_links
        pub served : ServerState
        pub events : Events turn.moment (with_server s.core came) turn.events turn.whole
            (with_server t.core served)
        pub sends : Sends turn.whole turn.sends served came_links t.server t.links

    -- one after another, each from what the one before left
    abbrev pub Turns : TurnWorld Y D N W C → List Turned → TurnWorld Y D N W C → Type 0
    Turns s [] t = t ≡ s
    Turns s (turn ∷ turns) t = (u : TurnWorld Y D N W C) × IsTurn s turn u × Turns u turns t

    -- the numbers left no room, and nothing was done
    pub record IsOutOfNumbers (s t : TurnWorld Y D N W C) : Type 0 where
      pub room : has_room s.core ≡ false
      pub same : t ≡ s

    -- a turn whose wait failed did nothing else
    pub record FailsToWait (s t : TurnWorld Y D N W C) : Type 0 where
      pub room : has_room s.core ≡ true
      pub waited : waits s.waiter Failed t.waiter
      pub same : t ≡ record s { waiter = t.waiter }

    -- what one turn came to: the numbers leave room neither at its start nor before one of its
    -- events
    abbrev pub EndsTurn : TurnWorld Y D N W C → TurnEnd → TurnWorld Y D N W C → Type 0
    EndsTurn s end.Done t = (turn : Turned) × IsTurn s turn t × (turn.whole ≡ true)
    EndsTurn s end.Numbers t =
        IsOutOfNumbers s t ⊎ ((turn : Turned) × IsTurn s turn t × (turn.whole ≡ false))
    EndsTurn s end.WaitFailed t = FailsToWait s t

    -- fewer than that many turns, all of them whole
    abbrev pub FewerTurns : ℕ → TurnWorld Y D N W C → List Turned → TurnWorld Y D N W C → Type 0
    FewerTurns n s turns t = (length turns < n) × AreWhole turns × Turns s turns t

    -- the numbers leave no room at the start of a turn, or in the last one
    abbrev pub CutsTurns : ℕ → TurnWorld Y D N W C → List Turned → TurnWorld Y D N W C → Type 0
    CutsTurns n s turns t =
        ((u : TurnWorld Y D N W C) × FewerTurns n s turns u × IsOutOfNumbers u t)
        ⊎
        ((u : TurnWorld Y D N W C) × (front : List Turned) × (last : Turned)
        × (turns ≡ front ++ last ∷ []) × FewerTurns n s front u × IsTurn u last t
        × (last.whole ≡ false))

    -- what a number of turns came to: all of them were made, or fewer, and the next one was cut
    abbrev pub ServesTurns : ℕ → TurnWorld Y D N W C → List Turned → TurnEnd → TurnWorld Y D N W C
        → Type 0
    ServesTurns n s turns end.Done t = (length turns ≡ n) × AreWhole turns × Turns s turns t
    ServesTurns n s turns end.Numbers t = CutsTurns n s turns t
    ServesTurns n s turns end.WaitFailed t =
        (u : TurnWorld Y D N W C) × FewerTurns n s turns u × FailsToWait u t

-- The daemon from its words to its exit status.
use Rattle.std.specs.Prelude.{◌≡◌, ℕ, List, [], ◌∷◌, ◌++◌, length, Option, Some, None, Ok, Err}
use Rattle.rand_core.specs.Stream.{Stream}
use Rattle.ug_types.specs.Principals.{Named}
use Rattle.ug_types.specs.declared.text_fault.TextFault.{TextFault}
use Rattle.ug_links.specs.declared.waiter.Waiter
use Rattle.ug_links.specs.declared.clock.Clock
use Rattle.ug_conf.specs.Files.{FileStep}
use Rattle.ug_store.specs.declared.disk.RuleDisk
use Rattle.ug_kernel.specs.declared.sysfs.Sysfs
use Rattle.ug_acl.specs.Acls.{Addition}
use Rattle.ug_audit.specs.declared.start_entry.ConfigPart.{ConfigPart}
use Rattle.ug_audit.specs.declared.start_entry.StartEntry.{StartEntry}
use Rattle.ug_audit.specs.declared.start_entry.StartEntry.TheVariants as entry
use Rattle.ug_audit.specs.Noting.{NotesEntries, NotesStart}
use Rattle.ug_audit.specs.Panels.{Member}
use Rattle.ug_serve.specs.Causes.{start_status, refusal_entries}
use Rattle.ug_serve.specs.Listening.{listening, listening_status}
use Rattle.ug_serve.specs.Opening.{Started, Opens}
use Rattle.ug_links.specs.declared.step.LinkStep.{LinkStep}
use Rattle.ug_links.specs.Talk.{Path, Makes, AreSteps}
use Rattle.ug_links.specs.declared.links.Links
use Rattle.ug_sessions.specs.States.{ServerState}
use Rattle.ug_serve.specs.Saying.{AreServed, HaveAccess}
use Rattle.ug_serve.specs.Telling.{turns_calls}
use Rattle.ug_serve.specs.Turns.{Turned, turns_events, turns_entries, core_of, TurnWorld, turn_world, ServesTurns}
use Rattle.ug_serve.specs.declared.listening.NotListening.{NotListening}
use Rattle.ug_serve.specs.declared.not_started.NotStarted.{NotStarted}
use Rattle.ug_serve.specs.declared.not_started.NotStarted.TheVariants.{Memory}
use Rattle.ug_serve.specs.declared.turn.TurnEnd.{TurnEnd}
use Rattle.ug_serve.specs.declared.turn.TurnEnd.TheVariants as end

-- the objects that the daemon is handed: the kernel's files, the disk, the links, the waiter, the
-- clock, and the auditors
pub record Objects (Y D N W C : Type 0) : Type 0 where
  pub sysfs : Y
  pub disk : D
  pub links : N
  pub waiter : W
  pub clock : C
  pub members : List Member

abbrev pub objects : {Y D N W C : Type 0} → Y → D → N → W → C → List Member → Objects Y D N W C
objects y d n w c ms =
    record { sysfs = y; disk = d; links = n; waiter = w; clock = c; members = ms }

abbrev pub objects_of : {Y D N W C : Type 0} → TurnWorld Y D N W C → Objects Y D N W C
objects_of w = objects w.core.sysfs w.core.disk w.links w.waiter w.clock w.core.members

-- a server of listeners for these, none of which was tried, and no session
abbrev pub server_for : List Named → ServerState
server_for principals = record { principals = principals; listeners = []; sessions = [] }

-- what the first turn is over: a daemon that started, with links that listen
abbrev pub first_world : {Y D N W C : Type 0} → Started → N → Objects Y D N W C
    → TurnWorld Y D N W C
first_world c n s =
    turn_world (core_of c.daemon s.sysfs s.disk s.members) (server_for c.principals) n s.waiter
    s.clock

-- Who a daemon is open to, and who of them may do what; the calls by which its links were asked to
-- listen; and its server behind its turns.
pub record AtSockets : Type 0 where
  pub access : List Addition
  pub principals : List Named
  pub asked : List LinkStep
  pub server : ServerState

abbrev pub at_sockets : Started → List LinkStep → ServerState → AtSockets
at_sockets c asked v = record {
  access = c.daemon.access;
  principals = c.principals;
  asked = asked;
  server = v;
}

-- a daemon that didn't start
abbrev pub no_sockets : AtSockets
no_sockets = record { access = []; principals = []; asked = []; server = server_for [] }

-- the exit status of a daemon that started
abbrev pub turns_status : TurnEnd → ℕ
turns_status end.Done = 0
turns_status end.Numbers = 10
turns_status end.WaitFailed = 11

-- the exit statuses of the daemon
abbrev pub daemon_statuses : List ℕ
daemon_statuses = 0 ∷ 1 ∷ 3 ∷ 4 ∷ 6 ∷ 9 ∷ 10 ∷ 11 ∷ []

-- A daemon that started, with the turns that it made and the exit status: the links are asked to
-- listen for those that it is open to. Where one of these calls isn't done, its cause is the
-- status. Else turns are made.
pub data ServesStarted {Y D N W C : Type 0} (sysfs : Sysfs.Ghosts Y) (disk : RuleDisk.Ghosts D)
    (net : Links.Ghosts N) (wait : Waiter.Ghosts W) (ticks : Clock.Ghosts C)
    (turns : ℕ) (c : Started) (s : Objects Y D N W C)
    : AtSockets → List Turned → ℕ → Objects Y D N W C → Type 0 where
  Listens_not : (steps : List LinkStep) (fault : NotListening) (n : N)
      → Path (listening c.principals) steps (Err fault)
      → Makes net.gives s.links steps n
      → ServesStarted sysfs disk net wait ticks turns c s
      (at_sockets c steps (server_for c.principals)) []
      (listening_status fault) (record s { links = n })
  Listens : (steps : List LinkStep) (n : N) (made : List Turned) (ended : TurnEnd)
      (w : TurnWorld Y D N W C)
      → Path (listening c.principals) steps (Ok tt)
      → Makes net.gives s.links steps n
      → ServesTurns sysfs disk net wait ticks turns (first_world c n s) made ended w
      → ServesStarted sysfs disk net wait ticks turns c s
      (at_sockets c steps w.server) made (turns_status ended) (objects_of w)

-- The daemon from its words, with the entries of its start, the turns that it made and the exit
-- status. Other words than a path's do nothing, and neither does a daemon that has no room for its
-- words. A start that isn't done is noted, where a part isn't taken, and its cause is the status.
-- Else it listens and makes turns, from what the start left.
pub data Serves {F Y D N W C : Type 0} (reads : F → FileStep → F → Type 0)
    (sysfs : Sysfs.Ghosts Y) (disk : RuleDisk.Ghosts D)
    (net : Links.Ghosts N) (wait : Waiter.Ghosts W) (ticks : Clock.Ghosts C)
    (turns : ℕ) (clock : ℕ → ℕ) (words : Stream) (f : F) (s : Objects Y D N W C)
    : Option (List ℕ) → List StartEntry → AtSockets → List Turned → ℕ → F → Objects Y D N W C
    → Type 0 where
  Bad_words : Serves reads sysfs disk net wait ticks turns clock words f s
      None [] no_sockets [] 1 f s
  No_room : (path : Option (List ℕ))
      → Serves reads sysfs disk net wait ticks turns clock words f s
      path [] no_sockets [] (start_status Memory) f s
  Not_started : (path : List ℕ) (entries : List StartEntry) (fault : NotStarted)
      (g : F) (d : D) (ms : List Member)
      → Opens reads disk path clock words f s.disk entries (Err fault) g d
      → NotesStart (entries ++ refusal_entries fault) s.members ms
      → Serves reads sysfs disk net wait ticks turns clock words f s
      (Some path) (entries ++ refusal_entries fault) no_sockets [] (start_status fault)
      g (objects s.sysfs d s.links s.waiter s.clock ms)
  Served : (path : List ℕ) (entries : List StartEntry) (c : Started) (g : F) (d : D)
      (ms : List Member) (sockets : AtSockets) (made : List Turned) (status : ℕ)
      (t : Objects Y D N W C)
      → Opens reads disk path clock words f s.disk entries (Ok c) g d
      → NotesStart entries s.members ms
      → ServesStarted sysfs disk net wait ticks turns c
      (objects s.sysfs d s.links s.waiter s.clock ms) sockets made status t
      → Serves reads sysfs disk net wait ticks turns clock words f s
      (Some path) entries sockets made status g t

-- a part isn't taken, and the last entry of the start tells which, with the first line that is bad
abbrev pub TellsRefusal : List StartEntry → Type 0
TellsRefusal noted =
    (before : List StartEntry) × (part : ConfigPart) × (bad : TextFault)
    × (noted ≡ before ++ entry.Refused part bad.line bad.kind bad.place ∷ [])

-- The calls of the links in a run, in order: those by which they were asked to listen, and those of
-- its turns.
abbrev pub run_calls : AtSockets → List Turned → List LinkStep
run_calls sockets made = sockets.asked ++ turns_calls made

-- A run of the daemon: the entries of its start, and its turns. The auditors were given the former
-- and then the entries of the turns: that is the journal. With status 0 all turns were made, and
-- with 3 the journal tells what isn't taken. Who may do what stays as the start left it. Where the
-- calls of the links have answers that new links may give, the turns served the sessions, whatever
-- the status.
pub record RunsDaemon {F Y D N W C : Type 0} (reads : F → FileStep → F → Type 0)
    (sysfs : Sysfs.Ghosts Y) (disk : RuleDisk.Ghosts D)
    (net : Links.Ghosts N) (wait : Waiter.Ghosts W) (ticks : Clock.Ghosts C)
    (turns : ℕ) (clock : ℕ → ℕ) (words : Stream) (f : F) (s : Objects Y D N W C)
    (path : Option (List ℕ)) (status : ℕ) (g : F) (t : Objects Y D N W C) : Type 0 where
  pub start : List StartEntry
  pub sockets : AtSockets
  pub made : List Turned
  pub serves : Serves reads sysfs disk net wait ticks turns clock words f s
      path start sockets made status g t
  pub between : List Member
  pub start_noted : NotesStart start s.members between
  pub turns_noted : NotesEntries (turns_entries made) between t.members
  pub all_made : status ≡ 0 → length made ≡ turns
  pub told_refused : status ≡ 3 → TellsRefusal start
  pub access : HaveAccess sockets.access (turns_events made)
  pub calls : Makes net.gives s.links (run_calls sockets made) t.links
  pub sessions : AreSteps [] (run_calls sockets made)
      → AreServed sockets.access sockets.principals (run_calls sockets made) made sockets.server

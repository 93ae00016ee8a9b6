-- What each line of a script writes, and what it leaves.
use Rattle.std.specs.Prelude.{◌≡◌, ◌⊎◌, ℕ, zero, suc, ◌+◌, ◌-◌, Bool, true, false, nat_eq, cond, List, [], ◌∷◌, ◌++◌, codes, decimal, Option, Some, None, Result, Ok, Err, flat_map}
use Rattle.std.specs.Cmp.Lexicographic.{pointwise}
use Rattle.ug_types.specs.Principals.{Named}
use Rattle.ug_types.specs.declared.rule.Rule as types
use Rattle.ug_types.specs.declared.saved.Saved.{Saved}
use Rattle.ug_kernel.specs.declared.device.Device.{Device}
use Rattle.ug_sysfs.specs.Queue.{with_move}
use Rattle.ug_sysfs.specs.World.{halting, World, event_begun, carried, over}
use Rattle.ug_audit.specs.declared.entry.Entry.{Entry}
use Rattle.ug_audit.specs.Lines.{entry_line}
use Rattle.ug_lines.specs.Lines.{lines_of}
use Rattle.ug_proto.specs.declared.reply.Reply.{Reply}
use Rattle.ug_proto.specs.Replies.{reply_text}
use Rattle.ug_script.specs.Play.{play, tells_memory}
use Rattle.ug_store.specs.PlayDisk.{play_disk}
use Rattle.ug_store.specs.Scripted.{DiskWorld, begun_on, coming_up, forgetting, plan_at, stops_by}
use Rattle.ug_store.specs.declared.mishap.Planned.{Planned}
use Rattle.ug_core.specs.Answering.{acting, asking, deed_after}
use Rattle.ug_core.specs.Storing.{stored_with, storing}
use Rattle.ug_core.specs.declared.storing.Stored.{Stored}
use Rattle.ug_core.specs.declared.storing.Stored.TheVariants as stored
use Rattle.ug_core.specs.declared.choosing.Choice.{Choice}
use Rattle.ug_core.specs.Event.{DaemonState, daemon_of, handling, has_numbers, ready, trying}
use Rattle.ug_types.specs.declared.event.Event.{Event}
use Rattle.ug_types.specs.declared.event.Event.TheVariants.{Sweep, Order, Hint}
use Rattle.ug_command_io.specs.Fold.{LineRefusal, LineOutcome, Writes, Refused, BadLine, InputTooLong, is_within}
use Rattle.ug_command_io.specs.Runs.{Steps}
use Rattle.ug_command_io.specs.declared.machine.Ran.{Ran}
use Rattle.ug_command_io.specs.declared.machine.Ran.TheVariants as ran
use Rattle.ug_script.specs.declared.interpreter.Interpreter.{Interpreter}
use Rattle.ug_script.specs.declared.runner.Runner.{Runner}
use Rattle.ug_script.specs.declared.progress.Running.{Running}
use Rattle.ug_script.specs.declared.session.Session.{Session}
use Rattle.ug_steps.specs.declared.step.Plan.{Plan}
use Rattle.ug_steps.specs.declared.step.Plan.TheVariants as plan
use Rattle.ug_steps.specs.declared.step.SetupLine.{SetupLine}
use Rattle.ug_steps.specs.declared.step.Step.{Step}
use Rattle.ug_steps.specs.declared.step.Step.TheVariants as step
use Rattle.ug_steps.specs.declared.step.StepFault.{StepFault}
use Rattle.ug_steps.specs.declared.step.StepFault.TheVariants.{Bad, Memory}
use Rattle.ug_iface.specs.declared.rules.IfaceRule.{IfaceRule}
use Rattle.ug_script.specs.Passes.{pass_behind}
use Rattle.ug_steps.specs.Grammar.{step_of_line}
use Rattle.ug_script.specs.Hints.{hint_played}
use Rattle.ug_script.specs.Script.{Script, Started, takes_setup, with_setup_closed, daemon_in, disk_in, can_start, fresh, phase_of}
use Rattle.ug_script.specs.Setup.{SetupState, beside_of, one_line_more, after_reading, policy_of, rules_from, started_at, with_rules}

abbrev pub script_of : Running → Script
script_of r = record { setup = r.setup; phase = phase_of r.phase; planned = r.plan.items }

-- that of a session
abbrev pub started_script : SetupState → Session → List Planned → Script
started_script setup session plan =
    record
    { setup = setup; phase = Started (daemon_of session.daemon) session.disk; planned = plan }

abbrev pub script_in : Option Running → Option Script
script_in None = None
script_in (Some r) = Some (script_of r)

-- the first line was taken
abbrev pub has_begun : Option Script → Bool
has_begun None = false
has_begun (Some s) = true

abbrev pub interpreter_state : Interpreter → Option Script
interpreter_state interpreter = script_in interpreter.running

unfoldable pub header : List ℕ
header = codes "usbguard-replay 1"

abbrev pub terminated : Entry → List ℕ
terminated e = entry_line e ++ 10 ∷ []

-- the lines of entries, each with its newline
abbrev pub lines_text : List Entry → List ℕ
lines_text entries = flat_map terminated entries

-- a line behind `> `
abbrev pub quoted : List ℕ → List ℕ
quoted line = 62 ∷ 32 ∷ line ++ 10 ∷ []

-- the lines of a text, each so
abbrev pub quoted_lines : List ℕ → List ℕ
quoted_lines text = flat_map quoted (lines_of text)

-- the lines of a reply, if there is one
abbrev pub reply_lines : Option Reply → List ℕ
reply_lines None = []
reply_lines (Some reply) = quoted_lines (reply_text reply)

-- what came of an event: its entries, and the reply to its order, if it has one
pub record EventOutcome : Type 0 where
  pub entries : List Entry
  pub reply : Option Reply

abbrev pub outcome_of : DaemonState → EventOutcome
outcome_of d = record { entries = d.sweep.entries; reply = d.reply }

-- and how it is written
abbrev pub outcome_text : EventOutcome → List ℕ
outcome_text outcome = lines_text outcome.entries ++ reply_lines outcome.reply

-- a line writes nothing and leads there
abbrev pub quiet : Script → World → LineOutcome (Option Script × World)
quiet s w = Writes [] (Some s, w)

-- a line that may not stand there
abbrev pub bad : Script → World → LineOutcome (Option Script × World)
bad s w = Refused BadLine (Some s, w)

-- ---- lines of setup

abbrev pub line_added : Option SetupState → Script → World → LineOutcome (Option Script × World)
line_added None s w = bad s w
line_added (Some setup) s w = quiet (record s { setup = setup }) w

abbrev pub line_taken : SetupLine → Script → World → LineOutcome (Option Script × World)
line_taken line s w =
    cond (takes_setup s.phase) (line_added (one_line_more line s.setup) s w) (bad s w)

-- ---- moves and plans

abbrev pub with_devices : List Device → World → World
with_devices ds w = record w { kernel = record w.kernel { devices = ds } }

abbrev pub planned : Plan → World → World
planned (plan.Move m) w = record w { moves = with_move m w.moves }
planned (plan.Fail f) w = record w { fails = w.fails ++ f ∷ [] }
planned (plan.OnDisk p) w = w

-- the disk of the next event may not be there yet: the script keeps what is to fail on it
abbrev pub with_plan : Plan → Script → Script
with_plan (plan.OnDisk p) s = record s { planned = s.planned ++ p ∷ [] }
with_plan plan s = s

-- ---- events

-- a daemon over the kernel and the disk of its script
pub record Played : Type 0 where
  pub daemon : DaemonState
  pub world : World
  pub disk : DiskWorld

-- what the order of an event leaves, and what became of the save of its change
pub record OrderPlayed : Type 0 where
  pub daemon : DaemonState
  pub became : Stored
  pub world : World
  pub disk : DiskWorld

-- The stages of an order: on the kernel, what it comes to; on the disk, what it changes is saved,
-- if it has to be, and is then in force; on the kernel, what is then done.

abbrev pub with_deed : Stored × DiskWorld → DaemonState × World → OrderPlayed
with_deed saved done = record { daemon = done.0; became = saved.0; world = done.1; disk = saved.1 }

abbrev pub with_store : Named → DaemonState → Choice × World → Stored × DiskWorld → OrderPlayed
with_store who d chosen saved =
    with_deed saved
    (play (acting who (stored_with saved.0 chosen.0.change d) (deed_after saved.0 chosen.0.deed))
    chosen.1)

abbrev pub with_choice : Named → DaemonState → DiskWorld → Choice × World → OrderPlayed
with_choice who d o chosen = with_store who d chosen (play_disk (storing d chosen.0.change) o)

-- a sweep alone has none, and a piece of uevents is read without a call
abbrev pub order_played_by : Event → DaemonState → World → DiskWorld → OrderPlayed
order_played_by (Sweep moment) d w o =
    record { daemon = d; became = stored.NotNeeded; world = w; disk = o }
order_played_by (Hint moment piece) d w o =
    record { daemon = hint_played piece d; became = stored.NotNeeded; world = w; disk = o }
order_played_by (Order moment who line) d w o = with_choice who d o (play (asking d who line) w)

-- An event as the world and the disk fix it, whose calls are numbered anew: a pending save is
-- tried, the order is answered or the piece is read, and then comes the last stage. The kernel is
-- halted as soon as the machine has stopped in a call of the disk.

abbrev pub halted : DiskWorld → World → World
halted o w = cond o.stopped (halting w) w

abbrev pub tried_by : DaemonState → DiskWorld → Option Saved × DiskWorld
tried_by d o = play_disk (trying d) o

abbrev pub answered_from : Event → DaemonState → World → DiskWorld → OrderPlayed
answered_from event d w o =
    order_played_by event (ready event (tried_by d o).0 d) (halted (tried_by d o).1 (event_begun w))
    (tried_by d o).1

abbrev pub swept_over : DiskWorld → DaemonState × World → Played
swept_over o p = record { daemon = p.0; world = p.1; disk = o }

abbrev pub swept_behind : OrderPlayed → Played
swept_behind a = swept_over a.disk (play (handling a.daemon) (halted a.disk a.world))

abbrev pub event_from : Event → DaemonState → World → DiskWorld → Played
event_from event d w o = swept_behind (answered_from event d w o)

-- an event's entries tell want of memory
abbrev pub tells : DaemonState → Type 0
tells d = tells_memory d.sweep.entries ≡ true

-- the event came to what is fixed, or its entries tell want of memory, or the kernel or the disk
-- has run out
abbrev pub IsEventPlayed : Event → DaemonState → World → DiskWorld → DaemonState → World → DiskWorld
    → Type 0
IsEventPlayed event d w o e t p =
    (record { daemon = e; world = t; disk = p } ≡ event_from event d w o)
    ⊎ (tells e ⊎ ((t.ran_out ≡ true) ⊎ (p.ran_out ≡ true)))

-- the calls that are to fail, or to stop the machine, are those that lines planned, and they are
-- numbered anew
abbrev pub begun_disk : List Planned → DiskWorld → DiskWorld
begun_disk plan o = record (begun_on o) { planned = plan }

abbrev pub disk_of : Script → DiskWorld
disk_of s = begun_disk s.planned (disk_in s)

abbrev pub answered_of : Event → Script → World → OrderPlayed
answered_of event s w = answered_from event (daemon_in s) w (disk_of s)

abbrev pub event_of : Event → Script → World → Played
event_of event s w = event_from event (daemon_in s) w (disk_of s)

-- The daemon that it leaves, and the world behind its pass over interfaces and the disk behind it.
-- What a crash might have left of the rule file within the event is forgotten.
abbrev pub left_played : List IfaceRule → Played → Played
left_played rules p =
    record p {
      world = over (pass_behind rules p.daemon p.world).world;
      disk = forgetting p.disk;
    }

-- its text, and that of the pass
abbrev pub finished_text : List IfaceRule → Played → List ℕ
finished_text rules p =
    outcome_text (outcome_of p.daemon) ++ (pass_behind rules p.daemon p.world).text

abbrev pub finished : List IfaceRule → Played → LineOutcome Played
finished rules p = Writes (finished_text rules p) (left_played rules p)

-- the first of so many calls in which the machine is to stop, else that one
abbrev pub first_stop : List Planned → ℕ → ℕ → ℕ
first_stop plan other zero = other
first_stop plan other (suc n) =
    first_stop plan (cond (stops_by (plan_at (suc n) None plan)) (suc n) other) n

-- the call of the disk in which the machine stopped in an event
abbrev pub stop_in : List Planned → Played → ℕ
stop_in plan p = first_stop plan 0 p.disk.calls

abbrev pub first_line : List Entry → List ℕ
first_line [] = []
first_line (e ∷ es) = terminated e

unfoldable pub stopped_line : ℕ → List ℕ
stopped_line call = codes "stopped " ++ decimal call ++ 10 ∷ []

-- the line of its beginning, and that of the call: of an event in which the machine stopped, no
-- more is written
abbrev pub stopped_text : ℕ → List Entry → List ℕ
stopped_text call entries = first_line entries ++ stopped_line call

-- The machine comes up again behind the event, and a new daemon reads the rule file as the stop
-- left it.

abbrev pub up_again : Played → Played
up_again p = record p { world = over p.world; disk = after_reading (coming_up p.disk) }

abbrev pub begun_again : SetupState → List types.Rule → Played → Played
begun_again setup rules p =
    record (up_again p)
    { daemon = started_at p.daemon.event (beside_of setup) (with_rules rules (policy_of setup)) }

abbrev pub stopped_of : SetupState → ℕ → Played → Result (List types.Rule) LineRefusal
    → LineOutcome Played
stopped_of setup call p (Ok rules) =
    Writes (stopped_text call p.daemon.sweep.entries) (begun_again setup rules p)
stopped_of setup call p (Err fault) = Refused fault (up_again p)

-- what an event with that plan comes to
abbrev pub came_of : SetupState → List Planned → Played → LineOutcome Played
came_of setup plan p =
    cond p.disk.stopped (stopped_of setup (stop_in plan p) p
    (rules_from setup.folder.count p.disk.disk.text))
    (finished setup.ifaces p)

-- unless the numbers have run out
abbrev pub event_by : SetupState → Event → List Planned → DaemonState → World → DiskWorld
    → LineOutcome Played
event_by setup event plan d w o =
    cond (has_numbers d w.faults o.faults)
    (came_of setup plan (event_from event d w (begun_disk plan o)))
    (Refused BadLine (record { daemon = d; world = w; disk = o }))

-- nothing is planned any more
abbrev pub with_played : Script → Played → Script
with_played s p = record s { phase = Started p.daemon p.disk; planned = [] }

abbrev pub in_script : Script → LineOutcome Played → LineOutcome (Option Script × World)
in_script s (Writes text p) = Writes text (Some (with_played s p), p.world)
in_script s (Refused fault p) = Refused fault (Some (with_played s p), p.world)

-- the first event starts the daemon
abbrev pub event_taken : Event → Script → World → LineOutcome (Option Script × World)
event_taken event s w =
    cond (can_start s.setup s.phase)
    (in_script s (event_by s.setup event s.planned (daemon_in s) w (disk_in s)))
    (Refused InputTooLong (Some s, w))

-- ---- a new daemon

-- The new daemon reads the rule file again, and judges by its rules, and else by the policy of the
-- setup lines, with no histories and with the words of the seed from the first one on. It has the
-- access that these lines give, knows no device, and counts its devices from 1. The numbers of
-- events go on. The kernel, its open files, the files of the disk and what is scheduled for the
-- next event stay as they are.
abbrev pub with_restart : List types.Rule → Script → Script
with_restart rules s =
    record s {
      phase = Started
          (started_at (daemon_in s).event (beside_of s.setup)
          (with_rules rules (policy_of s.setup)))
          (after_reading (disk_in s));
    }

-- where none starts with that text, the one before stays, and the disk was read
abbrev pub without_restart : Script → Script
without_restart s = record s { phase = Started (daemon_in s) (after_reading (disk_in s)) }

abbrev pub restarted : Result (List types.Rule) LineRefusal → Script → World
    → LineOutcome (Option Script × World)
restarted (Ok rules) s w = quiet (with_restart rules s) w
restarted (Err fault) s w = Refused fault (Some (without_restart s), w)

-- the first daemon is started before, if none was
abbrev pub restart_taken : Script → World → LineOutcome (Option Script × World)
restart_taken s w =
    cond (can_start s.setup s.phase)
    (restarted (rules_from s.setup.folder.count (disk_in s).disk.text) s w)
    (Refused InputTooLong (Some s, w))

-- ---- all lines

abbrev pub taken : Step → Script → World → LineOutcome (Option Script × World)
taken step.Skip s w = quiet s w
taken (step.Setup line) s w = line_taken line s w
taken (step.Move action) s w =
    quiet (with_setup_closed s) (carried action w)
taken (step.Schedule plan) s w = quiet (with_plan plan (with_setup_closed s)) (planned plan w)
taken (step.Event event) s w = event_taken event s w
taken step.Restart s w = restart_taken s w

abbrev pub taken_if : Option Step → Script → World → LineOutcome (Option Script × World)
taken_if None s w = bad s w
taken_if (Some step) s w = taken step s w

-- An event and a restart are refused only where no daemon was started and the rules fit no file,
-- and an event where the numbers leave no room. What a stop left of the rule file is never a
-- reason, nor what a save that failed left.
abbrev pub StartsAgain : Option Step → Script → World → Ran → Type 0
StartsAgain (Some (step.Event event)) s w result =
    (result ≡ ran.Bad → has_numbers (daemon_in s) w.faults (disk_in s).faults ≡ false)
    × (result ≡ ran.TooLong → can_start s.setup s.phase ≡ false)
StartsAgain (Some step.Restart) s w result =
    (result ≡ ran.Bad → ⊥) × (result ≡ ran.TooLong → can_start s.setup s.phase ≡ false)
StartsAgain other s w result = Unit {0}

-- the first line is the header
abbrev pub first_step : List ℕ → World → LineOutcome (Option Script × World)
first_step line w = cond (pointwise nat_eq line header) (quiet fresh w) (Refused BadLine (None, w))

abbrev pub script_step : Option Script × World → List ℕ → LineOutcome (Option Script × World)
script_step (None, w) line = first_step line w
script_step (Some s, w) line = taken_if (step_of_line line) s w

abbrev pub done_line : ℕ → List ℕ
done_line events = codes "done " ++ decimal events ++ 10 ∷ []

-- the number of events, where the header was read
abbrev pub script_end : Option Script → Option (List ℕ)
script_end None = None
script_end (Some s) = Some (done_line ((daemon_in s).event - 1))

-- ---- single lines

-- a script that is run by single lines: how many were taken, and how the last call ended
pub record RunnerState : Type 0 where
  pub script : Option Script
  pub lines : ℕ
  pub so_far : Ran

abbrev pub runner_state : Runner → RunnerState
runner_state r =
    record { script = interpreter_state r.interpreter; lines = r.lines; so_far = r.so_far }

-- what a line comes to behind so many lines; one that is past a limit may not stand there
abbrev pub step_behind : (Option Script × World → List ℕ → LineOutcome (Option Script × World)) → ℕ
    → Option Script × World → List ℕ → LineOutcome (Option Script × World)
step_behind takes n p line = cond (is_within n line) (takes p line) (Refused BadLine p)

-- one line more was taken, unless it was refused or there was a fault
abbrev pub lines_after : Ran → ℕ → ℕ
lines_after ran.Done n = n + 1
lines_after ran.Bad n = n
lines_after ran.TooLong n = n
lines_after ran.SinkFailed n = n
lines_after ran.Memory n = n

-- a line was taken as it stands there, and how that ended is kept
pub record TakesLine (takes : Option Script × World → List ℕ → LineOutcome (Option Script × World))
    (r : RunnerState) (w : World) (line : List ℕ) (before after : Option (List ℕ)) (answer : Ran)
    (s : RunnerState) (v : World) : Type 0 where
  pub steps : Steps (step_behind takes r.lines (r.script, w) line) (s.script, v) before after answer
  pub lines : s.lines ≡ lines_after answer r.lines
  pub kept : s.so_far ≡ answer

-- what a first line leads to
abbrev pub Begins : List ℕ → Result Running StepFault → Type 0
Begins line (Ok r) = (pointwise nat_eq line header ≡ true) × (script_of r ≡ fresh)
Begins line (Err Bad) = pointwise nat_eq line header ≡ false
Begins line (Err Memory) = Unit {0}

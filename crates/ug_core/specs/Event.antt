-- An event of the daemon, in stages, each of which is on one object: a pending save, an order or a
-- piece of recorded uevents, and the settling of all devices or of those that the piece names.
use Rattle.std.specs.Prelude.{◌≡◌, ◌≤◌, ℕ, ◌+◌, ◌-◌, ◌^◌, Bool, true, false, ◌&&◌, nat_le, nat_lt, List, [], ◌∷◌, ◌++◌, length, Option, Some, None}
use Rattle.rand_core.specs.declared.Rng as Rng
use Rattle.ug_cond.specs.declared.zone.Zone as Zone
use Rattle.ug_kernel.specs.declared.control.Write.{Write}
use Rattle.ug_types.specs.declared.saved.Saved.{Saved}
use Rattle.ug_types.specs.declared.saved.Saved.TheVariants as saved
use Rattle.ug_types.specs.declared.verdict.Moment.{Moment}
use Rattle.ug_kernel.specs.Tree.{Prog, Return, then}
use Rattle.ug_acl.specs.Acls.{Addition}
use Rattle.ug_audit.specs.Journal.{AuditorTold, live_in, members}
use Rattle.ug_audit.specs.Noting.{NotesEntries, without_drops}
use Rattle.ug_audit.specs.Panels.{Member}
use Rattle.ug_audit.specs.declared.entry.Entry.{Entry}
use Rattle.ug_audit.specs.declared.entry.Entry.TheVariants as entry
use Rattle.ug_audit.specs.declared.panel.Panel.{Panel}
use Rattle.ug_policy.specs.declared.entry.RuleEntry.{RuleEntry}
use Rattle.ug_proto.specs.declared.reply.Reply.{Reply}
use Rattle.ug_store.specs.Store.{DiskProg, Ended, DiskRoom, then_disk, saving, pending_after}
use Rattle.ug_table.specs.State.{State, terms_for}
use Rattle.ug_table.specs.Sweep.{settling_all, sweeping}
use Rattle.ug_uevent.specs.Streams.{Stream, nothing_begun}
use Rattle.ug_core.specs.Policy.{Judging, judging_of, context_at, policy_answer, policy_later}
use Rattle.ug_ruleset.specs.RuleFile.{permanent_text}
use Rattle.ug_core.specs.declared.daemon.Daemon.{Daemon}
use Rattle.ug_types.specs.declared.event.Event.{Event}
use Rattle.ug_types.specs.declared.event.Event.TheVariants.{Sweep, Order, Hint}

-- the standings and the judge, with the entries of the last event but for the `dropped` ones; who
-- may do what; whether a save is pending; what is kept of the stream of recorded uevents; within an
-- event, the names whose devices alone it is to settle, where it doesn't sweep; the number of the
-- next event; the reply to the order of the last one, if it had one; and whether that asked for
-- notices and may have them
pub record DaemonState : Type 0 where
  pub sweep : State Judging
  pub access : List Addition
  pub pending : Bool
  pub stream : Stream
  pub due : Option (List (List ℕ))
  pub event : ℕ
  pub reply : Option Reply
  pub watch : Bool

abbrev pub daemon_of : {Z R : Type 0} {z : Zone.Ghosts Z} {g : Rng.Ghosts R} → Daemon Z R z g
    → DaemonState
daemon_of {z = z} {g = g} d = record {
  sweep =
      record {
        standings = d.table.standings;
        next = d.table.next;
        listed = d.table.listed;
        judge =
            judging_of z.clock g.stream d.policy;
        hub = d.hub_default;
        entries = without_drops
            d.report.entries.entries;
      };
  access = d.acl;
  pending = d.store;
  stream = d.hints;
  due = d.due;
  event = d.next_event;
  reply = d.report.reply;
  watch = d.report.watch;
}

-- First stage, on the disk alone: a pending save is tried, with the text of the rules that aren't
-- temporary.
abbrev pub if_text : List RuleEntry → Bool → DiskProg (Option Saved)
if_text rules true = then_disk (saving (permanent_text rules)) (λ saved. Ended (Some saved))
if_text rules false = Ended (Some saved.Memory)

abbrev pub saving_rules : List RuleEntry → DiskProg (Option Saved)
saving_rules rules = DiskRoom (if_text rules)

abbrev pub if_pending : List RuleEntry → Bool → DiskProg (Option Saved)
if_pending rules true = saving_rules rules
if_pending rules false = Ended None

unfoldable pub trying : DaemonState → DiskProg (Option Saved)
trying d = if_pending d.sweep.judge.rules d.pending

abbrev pub noting : Entry → DaemonState → DaemonState
noting e d = record d { sweep = record d.sweep { entries = d.sweep.entries ++ e ∷ [] } }

-- what is noted of it
abbrev pub saved_entries : Option Saved → List Entry
saved_entries None = []
saved_entries (Some saved) = entry.Save saved ∷ []

-- a save that was done is pending no more, and one that wanted memory is as it was
abbrev pub pending_with : Option Saved → Bool → Bool
pending_with None was = was
pending_with (Some saved) was = pending_after saved was

abbrev pub moment_of : Event → Moment
moment_of (Sweep moment) = moment
moment_of (Order moment who line) = moment
moment_of (Hint moment piece) = moment

abbrev pub first_entry : ℕ → Event → Entry
first_entry number (Sweep moment) = entry.Event number moment
first_entry number (Order moment who line) = entry.Order number moment who
first_entry number (Hint moment piece) = entry.Hint number moment

-- the judge is told the moment, the first entry is noted, no names are due, and nothing is replied
-- yet
abbrev pub begun : Event → DaemonState → DaemonState
begun event d =
    record d {
      sweep = record d.sweep {
        judge = record d.sweep.judge
            { ctx = context_at d.sweep.judge.clock (moment_of event) };
        entries = first_entry d.event event
            ∷ [];
      };
      due = None;
      reply = None;
      watch = false;
    }

abbrev pub tried_with : Option Saved → DaemonState → DaemonState
tried_with tried d =
    record d {
      sweep = record d.sweep { entries = d.sweep.entries ++ saved_entries tried };
      pending =
          pending_with tried d.pending;
    }

-- what the order, the piece, or else the sweep begins with
abbrev pub ready : Event → Option Saved → DaemonState → DaemonState
ready event tried d = tried_with tried (begun event d)

-- Last stage, on the kernel alone: all devices are listed and settled, or those of the names that
-- are due; and the last entry.
abbrev pub settling_due : Option (List (List ℕ)) → State Judging → Prog (State Judging)
settling_due None w = sweeping policy_answer policy_later w
settling_due (Some names) w = settling_all policy_answer policy_later names (terms_for w) w

abbrev pub ended : DaemonState → State Judging → Prog DaemonState
ended d v =
    Return
    (record d {
      sweep = record v { entries = v.entries ++ entry.End d.event ∷ [] };
      due = None;
      event = d.event + 1;
    })

unfoldable pub handling : DaemonState → Prog DaemonState
handling d = then (settling_due d.due d.sweep) (ended d)

-- some entries more were noted by the members
pub record NotesMore (before after : List Entry) (ms ns : List Member) : Type 0 where
  pub added : List Entry
  pub all : after ≡ before ++ added
  pub noted : NotesEntries added ms ns

-- A part of an event noted entries, each for the members of a panel, and of the places that were
-- left it used at most so many, beside one for each member that failed. The event keeps its number,
-- and the next device and the next event theirs; the same names are due; and there are no more
-- standings than before.
pub record NotesAtMost {Z R : Type 0} {z : Zone.Ghosts Z} {g : Rng.Ghosts R} {X : Type 0}
    {F : X → Type 0} (most : ℕ)
    (told : AuditorTold X F) (d : Daemon Z R z g) (panel : Panel X F) (e : Daemon Z R z g)
    (last : Panel X F)
    : Type 0 where
  pub spare : d.report.entries.spare + live_in last ≤ e.report.entries.spare + most + live_in panel
  pub noted : NotesMore d.report.entries.entries e.report.entries.entries
      (members told panel) (members told last)
  pub number : e.report.event ≡ d.report.event
  pub next : e.table.next ≡ d.table.next
  pub next_event : e.next_event ≡ d.next_event
  pub due : e.due ≡ d.due
  pub standings : length e.table.standings ≤ length d.table.standings

-- numbers up to this one leave room for an event
abbrev pub is_low : ℕ → Bool
is_low n = nat_le n (2 ^ 64 - 1 - 4194304)

-- no more standings than these are kept
abbrev pub most_standings : ℕ
most_standings = 2097152

-- the next device number, the counts of faults, the event number and the standings leave room, and
-- an id is left for one rule more
abbrev pub has_numbers : DaemonState → ℕ → ℕ → Bool
has_numbers d sysfs_faults disk_faults =
    is_low d.sweep.next && is_low d.event && is_low sysfs_faults && is_low disk_faults
    && nat_le (length d.sweep.standings) most_standings
    && nat_lt d.sweep.judge.next (2 ^ 64 - 1)

-- a new daemon judges by that policy, writes that to the default of each root hub, has no standing,
-- has noted nothing, no save is pending, and a new stream of uevents begins
pub record IsStarted (policy : Judging) (to_hubs : Option Write) (first : ℕ) (d : DaemonState) :
    Type 0 where
  pub judge : d.sweep.judge ≡ policy
  pub hub : d.sweep.hub ≡ to_hubs
  pub standings : d.sweep.standings ≡ []
  pub next : d.sweep.next ≡ 1
  pub listed : d.sweep.listed ≡ false
  pub entries : d.sweep.entries ≡ []
  pub pending : d.pending ≡ false
  pub stream : d.stream ≡ record { messages = []; begun = nothing_begun }
  pub due : d.due ≡ None
  pub event : d.event ≡ first
  pub reply : d.reply ≡ None
  pub watch : d.watch ≡ false

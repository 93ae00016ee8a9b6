-- How a run of the daemon is seen from outside, and the headline as a law of each run.
use Rattle.std.specs.Prelude.{ℕ, Bool, false, List, [], map, Option, Some, None, Result, Ok, Err}
use Rattle.ug_types.specs.Principals.{Named}
use Rattle.ug_types.specs.declared.event.Event.{Event}
use Rattle.ug_types.specs.declared.event.Event.TheVariants.{Sweep, Order, Hint}
use Rattle.ug_types.specs.declared.verdict.Target.{Target}
use Rattle.ug_kernel.specs.Kernel.{Kernel}
use Rattle.ug_kernel.specs.declared.control.Write.{Write}
use Rattle.ug_acl.specs.Acls.{Addition}
use Rattle.ug_audit.specs.declared.entry.Entry.{Entry}
use Rattle.ug_audit.specs.declared.entry.Entry.TheVariants as entry
use Rattle.ug_proto.specs.Privileges.{needs}
use Rattle.ug_proto.specs.Requests.{request_read}
use Rattle.ug_proto.specs.declared.request.Request.{Request}
use Rattle.ug_proto.specs.declared.request.Request.TheVariants as request
use Rattle.ug_store.specs.Disk.{Disk}
use Rattle.ug_core.specs.Chain.{Chain, Happened, changes_asked, lists_all, was_done}
use Rattle.ug_core.specs.Event.{DaemonState, IsStarted, moment_of}
use Rattle.ug_core.specs.Policy.{Judging}
use Rattle.ug_core.specs.Privileges.{is_granted}
use Rattle.ug_core.specs.Verdicts.{IsLater}
use Rattle.ug_headline.specs.Headline.{IsToldAndWarranted, Line, Verdict, Intends, Did, Else, Seen}

abbrev pub ordered_by : Event → Option Named
ordered_by (Sweep moment) = None
ordered_by (Hint moment piece) = None
ordered_by (Order moment who line) = Some who

-- a line that is no request grants nothing, and asks for no verdict

abbrev pub is_granted_read : List Addition → Named → Result Request ℕ → Bool
is_granted_read access who (Ok asked) = is_granted access who (needs asked)
is_granted_read access who (Err bad) = false

abbrev pub is_granted_in : List Addition → Event → Bool
is_granted_in access (Sweep moment) = false
is_granted_in access (Hint moment piece) = false
is_granted_in access (Order moment who line) = is_granted_read access who (request_read line)

abbrev pub verdict_read : Result Request ℕ → Option (ℕ × Target)
verdict_read (Ok (request.Device number verdict permanent)) = Some (number, verdict)
verdict_read read = None

abbrev pub verdict_in : Event → Option (ℕ × Target)
verdict_in (Sweep moment) = None
verdict_in (Hint moment piece) = None
verdict_in (Order moment who line) = verdict_read (request_read line)

abbrev pub line_of : Entry → Line
line_of (entry.Judged number name held verdict why) = Verdict number name held verdict why
line_of (entry.Intent number name what) = Intends number name what
line_of (entry.Wrote number name what outcome) = Did number name what outcome
line_of e = Else

abbrev pub seen_of : Happened → Seen
seen_of h = record {
  moment = moment_of h.event;
  who = ordered_by h.event;
  granted = is_granted_in h.before.access h.event;
  verdict = verdict_in h.event;
  change = changes_asked h.before h.event;
  done = was_done h.after.reply;
  begun = h.kernel_answered;
  ended = h.kernel_after;
  lines = map line_of h.after.sweep.entries;
  lists = lists_all h;
}

-- The headline holds of any run from a start by settings and rules that were never used.
abbrev pub EachWriteIsWarranted : Type 0
EachWriteIsWarranted =
    (start : Judging) (hub : Option Write) (number : ℕ) (first : Kernel) (o : Option Disk)
    (d : DaemonState) (run : List Happened) (k : Kernel) (p : Option Disk) (e : DaemonState)
    → IsStarted start hub number d → IsLater start 0 [] start → Chain first o d run k p e
    → IsToldAndWarranted start first (map seen_of run) k

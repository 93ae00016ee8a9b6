-- What a run owes to the devices that it was told of, by listings and by uevents.
use Rattle.std.specs.Prelude.{◌≡◌, ℕ, true, false, List, [], ◌∷◌, ◌++◌, Option, Some, None, ◌⊎◌}
use Rattle.ug_types.specs.Elements.{Has}
use Rattle.ug_kernel.specs.declared.control.Write.{Write}
use Rattle.ug_kernel.specs.declared.device.Device.{Device}
use Rattle.ug_kernel.specs.Kernel.{Kernel, Live, IsKernel}
use Rattle.ug_kernel.specs.Tree.{Runs, calls}
use Rattle.ug_table.specs.State.{State, Answers, Laters, Terms}
use Rattle.ug_table.specs.Sweep.{settling_all}
use Rattle.ug_kernel.specs.Called.{Lived}
use Rattle.ug_store.specs.Disk.{Disk}
use Rattle.ug_table.specs.Laws.{IsNamed, IsUnlisted, IsAsJudged, Stand}
use Rattle.ug_table.specs.declared.standing.Standing.{Standing}
use Rattle.std.specs.Prelude.{Result}
use Rattle.ug_types.specs.declared.verdict.Moment.{Moment}
use Rattle.ug_types.specs.declared.event.Event.TheVariants as event
use Rattle.ug_uevent.specs.declared.hint.Hint.{Hint}
use Rattle.ug_uevent.specs.Faults.{SaidFault}
use Rattle.ug_uevent.specs.Streams.{stream_with_piece}
use Rattle.ug_core.specs.Hinting.{AnswerEach, hinted_names}
use Rattle.ug_core.specs.Policy.{Judging}
use Rattle.ug_core.specs.Event.{DaemonState, IsStarted, handling}
use Rattle.ug_core.specs.Chain.{Happened, Chain, IsEvent, has_listed, lists_all}

-- a last stage that sweeps looks at each name; the settling of names that are due at these alone
abbrev pub LooksAt : Option (List (List ℕ)) → List ℕ → Type 0
LooksAt None name = Unit {0}
LooksAt (Some names) name = Has names name

-- the name is due
abbrev pub IsDueName : Option (List (List ℕ)) → List ℕ → Type 0
IsDueName None name = ⊥
IsDueName (Some names) name = Has names name

-- the event was told of devices of that name: its listing succeeded, or the name was due
abbrev pub IsToldOf : Happened → List ℕ → Type 0
IsToldOf h name = (lists_all h ≡ true) ⊎ IsDueName h.answered.due name

-- an event of the run was told of the device, which lived through the last stage of that
pub record WasTold (hs : List Happened) (i : ℕ) : Type 0 where
  pub event : Happened
  pub in_run : Has hs event
  pub d : Device
  pub lived : Lived event.kernel_answered.devices event.kernel_after.devices i d
  pub told : IsToldOf event d.name

-- the last event that looked at the name tells it as unsettled, or that the listing was
pub record StaysNamed (hs : List Happened) (name : List ℕ) : Type 0 where
  pub earlier : List Happened
  pub event : Happened
  pub later : List Happened
  pub in_run : hs ≡ earlier ++ event ∷ later
  pub looks : LooksAt event.answered.due name
  pub named : IsNamed event.after.sweep.entries name ⊎ IsUnlisted event.after.sweep.entries
  pub since : (h : Happened) → Has later h → LooksAt h.answered.due name → ⊥

-- Each device that is there, and of which an event of the run was told, stands as judged, or stays
-- named.
abbrev pub KeepsTold : Option Write → List Happened → Kernel → List Standing → Type 0
KeepsTold hub hs k ss =
    (i : ℕ) (d : Device) → Live k.devices i d → WasTold hs i
    → IsAsJudged hub k ss i ⊎ StaysNamed hs d.name

-- An event with due names makes no call before it settles them, and leaves a device of another name
-- as judged.
abbrev pub LeavesOthers : Option Write → Happened → Type 0
LeavesOthers hub h =
    (names : List (List ℕ)) → h.answered.due ≡ Some names
    → (h.kernel_answered ≡ h.kernel)
    × ((i : ℕ) (d : Device) → Lived h.kernel.devices h.kernel_after.devices i d
    → (Has names d.name → ⊥)
    → IsAsJudged hub h.kernel h.before.sweep.standings i
    → IsAsJudged hub h.kernel_after h.after.sweep.standings i)

-- so it is of the settling of names itself, over each kernel and for each judge
abbrev pub NamesLeaveOthers : {J : Type 0} → Answers J → Laters J → Type 0
NamesLeaveOthers {J} answer later =
    (terms : Terms) (names : List (List ℕ)) (w : State J) (k l : Kernel) (v : State J)
    → IsKernel k → Stand k w.standings w.next
    → Runs calls k (settling_all answer later names terms w) v l
    → (hub : Option Write) (i : ℕ) (d : Device) → Lived k.devices l.devices i d
    → (Has names d.name → ⊥)
    → IsAsJudged hub k w.standings i → IsAsJudged hub l v.standings i

-- The same of the settling of due names, over the kernels of the last stage alone.
abbrev pub SettlesApart : Option Write → Happened → Type 0
SettlesApart hub h =
    (names : List (List ℕ)) → h.answered.due ≡ Some names
    → (i : ℕ) (d : Device) → Lived h.kernel_answered.devices h.kernel_after.devices i d
    → (Has names d.name → ⊥)
    → IsAsJudged hub h.kernel_answered h.answered.sweep.standings i
    → IsAsJudged hub h.kernel_after h.after.sweep.standings i

-- with it, an event leaves others
abbrev pub EventsLeaveOthers : Type 0
EventsLeaveOthers =
    (hub : Option Write) (h : Happened) → IsEvent h → SettlesApart hub h → LeavesOthers hub h

abbrev pub AllLeaveOthers : Option Write → List Happened → Type 0
AllLeaveOthers hub [] = Unit {0}
AllLeaveOthers hub (h ∷ hs) = LeavesOthers hub h × AllLeaveOthers hub hs

-- The last stage of an event is a run of the daemon's over the kernel, which is sound there, and
-- the standings are of its devices.
pub record StageRuns (h : Happened) : Type 0 where
  pub sound : IsKernel h.kernel_answered
  pub stand : Stand h.kernel_answered h.answered.sweep.standings h.answered.sweep.next
  pub runs : Runs calls h.kernel_answered (handling h.answered) h.after h.kernel_after

abbrev pub AllStagesRun : List Happened → Type 0
AllStagesRun [] = Unit {0}
AllStagesRun (h ∷ hs) = StageRuns h × AllStagesRun hs

-- the law of a run from a start, with no premise on the source of the pieces
abbrev pub RunsKeepTold : Type 0
RunsKeepTold =
    (policy : Judging) (hub : Option Write) (number : ℕ) (first : Kernel) (o : Option Disk)
    (d : DaemonState) (hs : List Happened) (k : Kernel) (p : Option Disk) (e : DaemonState)
    → IsStarted policy hub number d → Chain first o d hs k p e → AllStagesRun hs
    → KeepsTold hub hs k e.sweep.standings

-- ---- where the source told each announcement

-- the messages that end in the piece, read behind the stream so far, hint at the name
abbrev pub Announces : DaemonState → List ℕ → List ℕ → Type 0
Announces d piece name =
    (answers : List (Result Hint SaidFault))
    → AnswerEach (stream_with_piece d.stream piece).messages answers
    → Has (hinted_names answers) name

-- the event is a piece's that announces the name, or its listing succeeded
abbrev pub IsAnnouncedIn : Happened → List ℕ → Type 0
IsAnnouncedIn h name =
    (lists_all h ≡ true)
    ⊎ ((moment : Moment) × (piece : List ℕ) × (h.event ≡ event.Hint moment piece)
    × Announces h.before piece name)

-- The premise: once a listing has succeeded, each device that is there when an event begins was
-- announced by that event, or by an earlier one, through which it lived.
abbrev pub AreAllAnnounced : List Happened → Type 0
AreAllAnnounced hs =
    (earlier : List Happened) (h : Happened) (later : List Happened)
    → hs ≡ earlier ++ h ∷ later → has_listed earlier ≡ true
    → (i : ℕ) (d : Device) → Live h.kernel.devices i d
    → WasTold earlier i ⊎ IsAnnouncedIn h d.name

-- an event has told that not all is known, and no listing has succeeded since
pub record OwesAll (hs : List Happened) : Type 0 where
  pub earlier : List Happened
  pub event : Happened
  pub later : List Happened
  pub in_run : hs ≡ earlier ++ event ∷ later
  pub told : IsUnlisted event.after.sweep.entries
  pub since : (h : Happened) → Has later h → lists_all h ≡ false

-- each device that was there before the event and is behind it, whether that was a hint, an order
-- or a sweep, stands as judged or stays named; or a piece was dropped, or a listing failed, and a
-- sweep is owed
abbrev pub StandsBehindLast : Option Write → List Happened → Happened → Type 0
StandsBehindLast hub earlier h =
    (i : ℕ) (b d : Device) → Live h.kernel.devices i b → Live h.kernel_after.devices i d
    → IsAsJudged hub h.kernel_after h.after.sweep.standings i
    ⊎ (StaysNamed (earlier ++ h ∷ []) d.name ⊎ OwesAll (earlier ++ h ∷ []))

abbrev pub RunsStandBehindEach : Type 0
RunsStandBehindEach =
    (policy : Judging) (hub : Option Write) (number : ℕ) (first : Kernel) (o : Option Disk)
    (d : DaemonState) (hs : List Happened) (k : Kernel) (p : Option Disk) (e : DaemonState)
    → IsStarted policy hub number d → Chain first o d hs k p e → AllStagesRun hs
    → AreAllAnnounced hs
    → (earlier : List Happened) (h : Happened) (later : List Happened)
    → hs ≡ earlier ++ h ∷ later → has_listed earlier ≡ true → StandsBehindLast hub earlier h

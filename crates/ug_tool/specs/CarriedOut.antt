-- What each command of usbguard(1) does.
use Rattle.std.specs.Prelude.{◌≡◌, ◌⊎◌, ◌++◌, [], ℕ, List, Option, Some, None}
use Rattle.ug_command_io.specs.Fold.{of_first}
use Rattle.ug_command_io.specs.Statuses.{AnswersLines, status_of}
use Rattle.ug_command_io.specs.declared.results.Ended.{Ended}
use Rattle.ug_lines.specs.Lines.{lines_of}
use Rattle.ug_links.specs.declared.link_call.LinkCall.{LinkCall}
use Rattle.ug_sysfs.specs.World.{World}
use Rattle.ug_script.specs.Against.{RefusesScript}
use Rattle.ug_script.specs.CarriedOn.{CarriesThrough}
use Rattle.ug_script.specs.Generating.{IsFirstPolicy, TellsFaultAlone, generate_end, generate_step}
use Rattle.ug_script.specs.Roomless.{TellsRoom}
use Rattle.ug_script.specs.Script.{Script}
use Rattle.ug_script.specs.Replay.{script_step, script_end}
use Rattle.ug_script.specs.Summing.{Summary, TellsSummary, no_totals, summary_end, summary_step}
use Rattle.ug_commands.specs.GeneratedScripts.{generated_script}
use Rattle.ug_commands.specs.Listing.{AnswersListing}
use Rattle.ug_commands.specs.Checking.{AnswersCheck, check_status}
use Rattle.ug_commands.specs.Linting.{AnswersLint}
use Rattle.ug_acl.specs.Adding.{AnswersAdding}
use Rattle.ug_proto.specs.declared.request.Request.{Request}
use Rattle.ug_proto.specs.declared.request.Request.TheVariants as request
use Rattle.ug_client.specs.Asking.{request_line}
use Rattle.ug_client.specs.Following.{change_line, rules_lines}
use Rattle.ug_arguments.specs.declared.command.Command.{Command}
use Rattle.ug_arguments.specs.declared.command.Command.TheVariants.{AddUser, Ask, ChangeParameter, CheckRules, GeneratePolicy, LintRules, ListChosen, ListLabelled, ListRuleDevices, MakeScript, Order, ReadDescriptor, Replay, Summarize, Watch, WatchWaiting}
use Rattle.ug_types.specs.declared.rule.Query.{Query}
use Rattle.ug_rows.specs.declared.choice.Choice.{Choice}
use Rattle.ug_client.specs.declared.orders.Wanted.{Wanted}
use Rattle.ug_tool.specs.Client.{AsksAndEnds, ChoosesAndEnds, LabelsAndEnds, OrdersAndEnds, TellsBothAndEnds, WatchesAndEnds}
use Rattle.ug_tool.specs.Faults.{EndsIn, IsOutOfMemory}
use Rattle.ug_tool.specs.Replay.{new_world}

-- what is around a command at one time: what its input has left, what its output holds, and of its
-- link the calls that were made, the bytes that were sent, those that are left to be received, and
-- the count of its faults
pub record Streams : Type 0 where
  pub input : Option (List ℕ)
  pub output : Option (List ℕ)
  pub calls : Option (List LinkCall)
  pub sent : Option (List ℕ)
  pub incoming : Option (List ℕ)
  pub faults : ℕ

-- `replay`: the journal of the script
pub record ReplaysScript (before after : Streams) (status : ℕ) : Type 0 where
  pub journal : (all base : List ℕ) → before.input ≡ Some all → before.output ≡ Some base
      → (script : Option Script) × (world : World)
      × AnswersLines script_step (of_first script_end) (None, new_world) all base
      after.input after.output (script, world) status
  pub why : (all : List ℕ) → before.input ≡ Some all → status ≡ 2
      → RefusesScript new_world (lines_of all)
  pub too_long : (all base : List ℕ) → before.input ≡ Some all → before.output ≡ Some base
      → TellsRoom new_world (lines_of all) base after.output status
  pub carries : (all base : List ℕ) → before.input ≡ Some all → before.output ≡ Some base
      → status ≡ 0 → CarriesThrough new_world (lines_of all)
  pub ended : (ended : Ended) × (status ≡ status_of ended)

-- `replay --summary`: numbers of that journal
pub record SummarizesScript (before after : Streams) (status : ℕ) : Type 0 where
  pub numbers : (all base : List ℕ) → before.input ≡ Some all → before.output ≡ Some base
      → (summary : Summary) × (world : World)
      × AnswersLines summary_step summary_end ((None, no_totals), new_world) all base
      after.input after.output (summary, world) status
  pub told : (all base : List ℕ) → before.input ≡ Some all → before.output ≡ Some base
      → TellsSummary new_world all base after.output status
  pub why : (all : List ℕ) → before.input ≡ Some all → status ≡ 2
      → RefusesScript new_world (lines_of all)
  pub ended : (ended : Ended) × (status ≡ status_of ended)

-- `make-script`: the text of a script, unless there was no memory for the command's words
pub record MakesScript (events start : ℕ) (before after : Streams) (status : ℕ) : Type 0 where
  pub text : EndsIn (generated_script events start) 0 before.output after.output status
      ⊎ IsOutOfMemory before.output after.output status
  pub unread : after.input ≡ before.input
  pub ended : (ended : Ended) × (status ≡ status_of ended)

-- a command that reads its whole input, and answers it: `statuses` are those of its ends
pub record AnswersInput
    (answers : (all base : List ℕ) → Option (List ℕ) → Option (List ℕ) → ℕ → Type 0)
    (statuses : Ended → ℕ) (before after : Streams) (status : ℕ) : Type 0
  where
    pub answer : (all base : List ℕ) → before.input ≡ Some all → before.output ≡ Some base
        → answers all base after.input after.output status
    pub ended : (ended : Ended) × (status ≡ statuses ended)

-- `generate-policy`: the policy for the devices of the script, or a fault line alone
pub record GeneratesPolicy (before after : Streams) (status : ℕ) : Type 0 where
  pub lines : (all base : List ℕ) → before.input ≡ Some all → before.output ≡ Some base
      → (script : Option Script) × (world : World)
      × AnswersLines generate_step generate_end (None, new_world) all base
      after.input after.output (script, world) status
  pub policy : (all base : List ℕ) → before.input ≡ Some all → before.output ≡ Some base
      → status ≡ 0 → (text : List ℕ) × (after.output ≡ Some (base ++ text))
      × IsFirstPolicy (lines_of all) [] text
  pub alone : (all base : List ℕ) → before.input ≡ Some all → before.output ≡ Some base
      → TellsFaultAlone base after.output status
  pub ended : (ended : Ended) × (status ≡ status_of ended)

-- one of the commands that ask the daemon at the socket of that path
abbrev pub AsksRequest : List ℕ → Request → Streams → Streams → ℕ → Type 0
AsksRequest socket request before after status = AsksAndEnds socket (request_line request)
    before.calls after.calls before.sent after.sent before.incoming after.incoming
    before.output after.output before.faults after.faults status × (after.input ≡ before.input)

-- `list-devices` where some devices are wanted
abbrev pub ListsDevices : List ℕ → Choice → Streams → Streams → ℕ → Type 0
ListsDevices socket choice before after status = ChoosesAndEnds socket choice
    before.calls after.calls before.sent after.sent before.incoming after.incoming
    before.output after.output before.faults after.faults status × (after.input ≡ before.input)

-- `list-rules --label`
abbrev pub ListsLabelled : List ℕ → List ℕ → Streams → Streams → ℕ → Type 0
ListsLabelled socket label before after status = LabelsAndEnds socket label
    before.calls after.calls before.sent after.sent before.incoming after.incoming
    before.output after.output before.faults after.faults status × (after.input ≡ before.input)

-- two requests, and what is told of the lines of both replies
abbrev pub TellsBoth : (List (List ℕ) → List (List ℕ) → List ℕ) → List ℕ → Request → Request
    → Streams → Streams → ℕ → Type 0
TellsBoth text socket first second before after status = TellsBothAndEnds text socket
    (request_line first) (request_line second)
    before.calls after.calls before.sent after.sent before.incoming after.incoming
    before.output after.output before.faults after.faults status × (after.input ≡ before.input)

-- `allow-device` and the like, by a query
abbrev pub OrdersDevices : List ℕ → Query → Wanted → Streams → Streams → ℕ → Type 0
OrdersDevices socket query wanted before after status = OrdersAndEnds socket query wanted
    before.calls after.calls before.sent after.sent before.incoming after.incoming
    before.output after.output before.faults after.faults status × (after.input ≡ before.input)

-- `watch`: so many notices at most
abbrev pub WatchesNotices : List ℕ → ℕ → Streams → Streams → ℕ → Type 0
WatchesNotices socket most before after status = WatchesAndEnds socket
    (request_line request.Watch) most
    before.calls after.calls before.sent after.sent before.incoming after.incoming
    before.output after.output before.faults after.faults status × (after.input ≡ before.input)

-- the command, from the streams at its start to those at its end, with that status
abbrev pub CarriesCommandOut : Command → Streams → Streams → ℕ → Type 0
CarriesCommandOut Replay = ReplaysScript
CarriesCommandOut Summarize = SummarizesScript
CarriesCommandOut (MakeScript events start) = MakesScript events start
CarriesCommandOut ReadDescriptor = AnswersInput AnswersListing status_of
CarriesCommandOut CheckRules = AnswersInput AnswersCheck check_status
CarriesCommandOut (LintRules prune) = AnswersInput (AnswersLint prune) check_status
CarriesCommandOut GeneratePolicy = GeneratesPolicy
CarriesCommandOut (AddUser name asked) = AnswersInput (AnswersAdding asked) status_of
CarriesCommandOut (Ask socket request) = AsksRequest socket request
CarriesCommandOut (ListChosen socket choice) = ListsDevices socket choice
CarriesCommandOut (Order socket query target permanent) =
    OrdersDevices socket query (record { target = target; permanent = permanent })
CarriesCommandOut (ListLabelled socket label) = ListsLabelled socket label
CarriesCommandOut (ListRuleDevices socket label) =
    TellsBoth (rules_lines label) socket request.ListRules request.ListDevices
CarriesCommandOut (ChangeParameter socket name value) =
    TellsBoth (change_line value) socket (request.GetParameter name)
    (request.SetParameter name value)
CarriesCommandOut (Watch socket most) = WatchesNotices socket most
CarriesCommandOut (WatchWaiting socket most once) = WatchesNotices socket most

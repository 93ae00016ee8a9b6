-- What a line came to, before its text is written or counted.
use Rattle.std.specs.Prelude.{ℕ, List, [], ◌++◌, Option, Some, None}
use Rattle.ug_command_io.specs.Fold.{LineOutcome}
use Rattle.ug_command_io.specs.Runs.{Steps}
use Rattle.ug_command_io.specs.declared.machine.Ran.{Ran}
use Rattle.ug_command_io.specs.declared.machine.Ran.TheVariants as ran
use Rattle.ug_core.specs.declared.report.Report.{Report}
use Rattle.ug_script.specs.declared.progress.Phase.{Phase}
use Rattle.ug_script.specs.declared.progress.Phase.TheVariants.{SettingUp, Unstarted, Started}
use Rattle.ug_script.specs.declared.progress.Running.{Running}
use Rattle.ug_script.specs.declared.taken.Taken.{Taken}
use Rattle.ug_script.specs.declared.taken.Taken.TheVariants as taken
use Rattle.ug_script.specs.Replay.{EventOutcome, outcome_text}

-- what a daemon reports of its last event
abbrev pub reported : Report → EventOutcome
reported report = record { entries = report.entries.entries; reply = report.reply }

abbrev pub nothing_reported : EventOutcome
nothing_reported = record { entries = []; reply = None }

abbrev pub reported_in : Phase → EventOutcome
reported_in SettingUp = nothing_reported
reported_in Unstarted = nothing_reported
reported_in (Started session) = reported session.daemon.report

abbrev pub reported_by : Option Running → EventOutcome
reported_by None = nothing_reported
reported_by (Some r) = reported_in r.phase

-- the text that there is to write
abbrev pub text_to_write : EventOutcome → Taken → List ℕ
text_to_write outcome taken.Silent = []
text_to_write outcome (taken.Event passed) = outcome_text outcome ++ passed.items
text_to_write outcome (taken.Text text) = text.items
text_to_write outcome taken.Bad = []
text_to_write outcome taken.TooLong = []
text_to_write outcome taken.Memory = []

-- how the line ends, once the text is written
abbrev pub ran_of : Taken → Ran
ran_of taken.Silent = ran.Done
ran_of (taken.Event passed) = ran.Done
ran_of (taken.Text text) = ran.Done
ran_of taken.Bad = ran.Bad
ran_of taken.TooLong = ran.TooLong
ran_of taken.Memory = ran.Memory

-- a line of which nothing is written, and which no sink fails
abbrev pub silent : Ran → Taken
silent ran.Done = taken.Silent
silent ran.Bad = taken.Bad
silent ran.TooLong = taken.TooLong
silent ran.SinkFailed = taken.Memory
silent ran.Memory = taken.Memory

-- a line's step, whose text is still to be written
abbrev pub StepsToTell : {M : Type 0} → LineOutcome M → M → EventOutcome → Taken → Type 0
StepsToTell outcome new told t =
    Steps outcome new (Some []) (Some (text_to_write told t)) (ran_of t)

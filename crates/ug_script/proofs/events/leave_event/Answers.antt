use Rattle.std.proofs.Common.{◌≡◌, ℕ, List, [], ◌++◌, Option, Some, ◌∙◌, ap}
use Rattle.ug_audit.specs.declared.entry.Entry.{Entry}
use Rattle.ug_command_io.specs.declared.machine.Ran.TheVariants.{Done}
use Rattle.ug_core.specs.Event.{daemon_of}
use Rattle.ug_proto.specs.declared.reply.Reply.{Reply}
use Rattle.ug_store.specs.Scripted.{DiskWorld}
use Rattle.ug_sysfs.specs.World.{World}
use Rattle.ug_script.specs.Replay.{Played, finished_text, left_played, outcome_text}
use Rattle.ug_script.specs.Taking.{reported}
use Rattle.ug_script.proofs.EventSteps.{text_steps}
use Rattle.ug_script.proofs.events.leave_event.Goals as goal

same_text : (es fs : List Entry) (reply : Option Reply) (pass text : List ℕ) → es ≡ fs → pass ≡ text → outcome_text (record { entries = es; reply = reply }) ++ pass ≡ outcome_text (record { entries = fs; reply = reply }) ++ text
same_text es fs reply pass text same is = ap (λ (x : List Entry). outcome_text (record { entries = x; reply = reply }) ++ pass) same ∙ ap (λ (x : List ℕ). outcome_text (record { entries = fs; reply = reply }) ++ x) is

pub returns-in-Ok-clause-ran : goal.returns-in-Ok-clause-ran
returns-in-Ok-clause-ran c = λ rules w is.
    let p : Played = record { daemon = daemon_of c.args.session.now.daemon; world = w; disk = c.args.session.now.disk } in
    let left : World = (left_played rules p).world in
    text_steps (finished_text rules p) (left_played rules p) (record { daemon = p.daemon; world = left; disk = c.forget.new.self }) (Some []) (Some (outcome_text (reported c.args.session.now.daemon.report) ++ c.args.passed.items)) Done
    (ap (λ (x : DiskWorld). record { daemon = p.daemon; world = left; disk = x }) c.in-Ok.ensures.ok)
    (same_text _ _ p.daemon.reply _ _ c.requires is)

use Rattle.std.proofs.Common.{◌≡◌, Bool, None, true, false, refl}
use Rattle.ug_arguments.specs.declared.command.Command.TheVariants as command
use Rattle.ug_command_io.specs.Fold.{of_first}
use Rattle.ug_script.specs.Replay.{script_step, script_end}
use Rattle.ug_script.specs.Summing.{no_totals, summary_end, summary_step}
use Rattle.ug_sysfs.specs.IfaceMoves.{bus_new_sound}
use Rattle.ug_sysfs.specs.Sound.{new_sound}
use Rattle.ug_script.proofs.Births.{stays_born}
use Rattle.ug_script.proofs.EventCalls.{stays_at_calls}
use Rattle.ug_script.proofs.Journals.{stays_lawful, stays_recorded}
use Rattle.ug_tool.specs.Replay.{new_world}
use Rattle.ug_tool.specs.Tool.{replay_of}
use Rattle.ug_tool.proofs.Memory.{lines_unread, memory_summary, memory_undone, memory_unrefused, only_memory, same_command}
use Rattle.ug_tool.proofs.replay.run_replay.Goals as goal

pub returns-in-Ok-clause-laws : goal.returns-in-Ok-clause-laws
returns-in-Ok-clause-laws g c = stays_lawful new_world refl new_sound

pub returns-in-Ok-clause-recorded : goal.returns-in-Ok-clause-recorded
returns-in-Ok-clause-recorded g c = stays_recorded new_world refl new_sound

pub returns-in-Err-clause-laws : goal.returns-in-Err-clause-laws
returns-in-Err-clause-laws g c = stays_lawful new_world refl new_sound

pub returns-in-Err-clause-recorded : goal.returns-in-Err-clause-recorded
returns-in-Err-clause-recorded g c = stays_recorded new_world refl new_sound

pub returns-in-Ok-clause-births : goal.returns-in-Ok-clause-births
returns-in-Ok-clause-births g c = stays_born new_world refl new_sound.devices

pub returns-in-Err-clause-births : goal.returns-in-Err-clause-births
returns-in-Err-clause-births g c = stays_born new_world refl new_sound.devices

pub returns-in-Ok-clause-calls : goal.returns-in-Ok-clause-calls
returns-in-Ok-clause-calls g c = stays_at_calls new_world refl refl refl bus_new_sound

pub returns-in-Err-clause-calls : goal.returns-in-Err-clause-calls
returns-in-Err-clause-calls g c = stays_at_calls new_world refl refl refl bus_new_sound

pub returns-in-Err-clause-replayed : goal.returns-in-Err-clause-replayed
returns-in-Err-clause-replayed g c = λ e all base a b.
    let short = c.refuse.ensures.memory (only_memory c.in-Err.fault (λ is. c.in-Err.ensures.bad is false) e) in
    (None, rw (a, c.requires) (lines_unread script_step (of_first script_end) (None, new_world) all base (g.K.Sink.held c.refuse.new.out) c.refuse.result (rw b at short)))

pub returns-in-Err-clause-summarized : goal.returns-in-Err-clause-summarized
returns-in-Err-clause-summarized g c = λ e all base a b.
    let short = c.refuse.ensures.memory (only_memory c.in-Err.fault (λ is. c.in-Err.ensures.bad is true) e) in
    ((None, no_totals), rw (a, c.requires) (lines_unread summary_step summary_end ((None, no_totals), new_world) all base (g.K.Sink.held c.refuse.new.out) c.refuse.result (rw b at short)))

pub returns-in-Err-clause-summary : goal.returns-in-Err-clause-summary
returns-in-Err-clause-summary g c = λ e all base a b.
    let short = c.refuse.ensures.memory (only_memory c.in-Err.fault (λ is. c.in-Err.ensures.bad is true) e) in
    memory_summary new_world all base (g.K.Sink.held c.refuse.new.out) c.refuse.result (rw b at short)

pub returns-in-Ok-clause-why : goal.returns-in-Ok-clause-why
returns-in-Ok-clause-why g c = λ summary e all is two. c.replay_or_summarize.ensures.why all is two

pub returns-in-Err-clause-why : goal.returns-in-Err-clause-why
returns-in-Err-clause-why g c = λ summary e all is two.
    absurd (memory_unrefused _ _ c.refuse.result (c.refuse.ensures.memory (only_memory c.in-Err.fault (λ bad. c.in-Err.ensures.bad bad summary) e)) two)

pub returns-in-Err-clause-too_long : goal.returns-in-Err-clause-too_long
returns-in-Err-clause-too_long g c = λ e all base a b two.
    absurd (memory_unrefused _ _ c.refuse.result (c.refuse.ensures.memory (only_memory c.in-Err.fault (λ bad. c.in-Err.ensures.bad bad false) e)) two)

asks_whole : (summary : Bool) → replay_of summary ≡ command.Replay → summary ≡ false
asks_whole true e = let none : ⊥ = cc in absurd none
asks_whole false e = refl

pub returns-in-Ok-clause-too_long : goal.returns-in-Ok-clause-too_long
returns-in-Ok-clause-too_long g c = λ e all base a b. c.replay_or_summarize.ensures.too_long (asks_whole c.in-Ok.summary (same_command _ _ _ c.in-Ok.ensures.ok e)) all base a b

pub returns-in-Err-clause-carries : goal.returns-in-Err-clause-carries
returns-in-Err-clause-carries g c = λ summary e all base a b done.
    absurd (memory_undone _ _ c.refuse.result (c.refuse.ensures.memory (only_memory c.in-Err.fault (λ bad. c.in-Err.ensures.bad bad summary) e)) done)

pub returns-in-Ok-clause-carries : goal.returns-in-Ok-clause-carries
returns-in-Ok-clause-carries g c = λ summary e all base a b done. c.replay_or_summarize.ensures.carries all base a b done

pub returns-in-Ok-clause-refused : goal.returns-in-Ok-clause-refused
returns-in-Ok-clause-refused g c = λ other. absurd (other c.in-Ok.summary c.in-Ok.ensures.ok)

pub returns-in-Ok-clause-replayed : goal.returns-in-Ok-clause-replayed
returns-in-Ok-clause-replayed g c = λ e all base a b. c.replay_or_summarize.ensures.replayed (asks_whole c.in-Ok.summary (same_command _ _ _ c.in-Ok.ensures.ok e)) all base a b

asks_numbers : (summary : Bool) → replay_of summary ≡ command.Summarize → summary ≡ true
asks_numbers true e = refl
asks_numbers false e = let none : ⊥ = cc in absurd none

pub returns-in-Ok-clause-summarized : goal.returns-in-Ok-clause-summarized
returns-in-Ok-clause-summarized g c = λ e all base a b. c.replay_or_summarize.ensures.summarized (asks_numbers c.in-Ok.summary (same_command _ _ _ c.in-Ok.ensures.ok e)) all base a b

pub returns-in-Ok-clause-summary : goal.returns-in-Ok-clause-summary
returns-in-Ok-clause-summary g c = λ e all base a b. c.replay_or_summarize.ensures.summary (asks_numbers c.in-Ok.summary (same_command _ _ _ c.in-Ok.ensures.ok e)) all base a b

pub returns-in-Ok-clause-ended : goal.returns-in-Ok-clause-ended
returns-in-Ok-clause-ended g c = λ summary e. c.replay_or_summarize.ensures.ended

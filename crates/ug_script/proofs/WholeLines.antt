-- What a line of a script writes is whole lines.
use Rattle.std.proofs.Common.{◌≡◌, ℕ, ◌-◌, Bool, true, false, cond, nat_eq, List, [], ◌∷◌, ◌++◌, Option, Some, None, Result, Ok, Err, refl, ap, ◌∙◌, flat_map, subst, append_assoc, codes, decimal}
use Rattle.std.specs.Cmp.Lexicographic.{pointwise}
use Rattle.ug_types.specs.declared.rule.Rule as types
use Rattle.ug_audit.specs.Lines.{entry_line}
use Rattle.ug_audit.specs.declared.entry.Entry.{Entry}
use Rattle.ug_store.specs.declared.mishap.Planned.{Planned}
use Rattle.ug_lines.specs.Lines.{lines_of, rest_from}
use Rattle.ug_lines.proofs.Lines.{rest_from-append, rest_from-end, rest_from-nil}
use Rattle.ug_proto.specs.declared.reply.Reply.{Reply}
use Rattle.ug_proto.specs.Replies.{reply_text}
use Rattle.ug_sysfs.specs.World.{World}
use Rattle.ug_command_io.specs.Fold.{LineRefusal, LineOutcome, Writes, Refused, BadLine, InputTooLong}
use Rattle.ug_core.specs.Event.{has_numbers}
use Rattle.ug_steps.specs.declared.step.Step.{Step}
use Rattle.ug_steps.specs.declared.step.Step.TheVariants as step
use Rattle.ug_steps.specs.Grammar.{step_of_line}
use Rattle.ug_script.specs.Script.{Script, can_start, daemon_in, disk_in, fresh, takes_setup}
use Rattle.ug_script.specs.Setup.{SetupState, one_line_more, rules_from}
use Rattle.ug_audit.specs.Lines.{wrote_word}
use Rattle.ug_iface.specs.declared.rules.IfaceRule.{IfaceRule}
use Rattle.ug_iface.specs.declared.settle.IfaceEntry.{IfaceEntry}
use Rattle.ug_iface.specs.declared.settle.IfaceEntry.TheVariants as entry
use Rattle.ug_iface.specs.declared.settle.Passed.{Passed}
use Rattle.ug_iface.specs.declared.settle.Passed.TheVariants as passed
use Rattle.ug_iface.specs.Settle.{Aim}
use Rattle.ug_core.specs.Event.{DaemonState}
use Rattle.ug_script.specs.PassLines.{told_text, ending_text, iface_line, iface_text, pass_begins, pass_ends}
use Rattle.ug_script.specs.Passes.{DevicePass, Pass, aims_in, device_pass, pass_behind, pass_over}
use Rattle.ug_script.specs.Replay.{EventOutcome, Played, bad, begun_disk, came_of, event_by, event_from, finished, first_line, header, in_script, line_added, lines_text, outcome_of, outcome_text, quiet, quoted, reply_lines, restarted, script_step, stop_in, stopped_line, stopped_of, taken, taken_if, terminated}

-- the text is empty or ends with a newline
abbrev pub IsWhole : List ℕ → Type 0
IsWhole text = rest_from [] text ≡ []

pub none_whole : IsWhole []
none_whole = rest_from-nil []

pub both_whole : (a b : List ℕ) → IsWhole a → IsWhole b → IsWhole (a ++ b)
both_whole a b e f = rest_from-append [] a b ∙ ap (λ (line : List ℕ). rest_from line b) e ∙ f

line_whole : (line : List ℕ) → IsWhole (line ++ 10 ∷ [])
line_whole line = rest_from-append [] line (10 ∷ []) ∙ rest_from-end (rest_from [] line) 10 [] refl ∙ rest_from-nil []

each_whole : {X : Type 0} (f : X → List ℕ) → ((x : X) → IsWhole (f x)) → (xs : List X) → IsWhole (flat_map f xs)
each_whole f whole [] = none_whole
each_whole f whole (x ∷ xs) = both_whole (f x) (flat_map f xs) (whole x) (each_whole f whole xs)

reply_whole : (reply : Option Reply) → IsWhole (reply_lines reply)
reply_whole None = none_whole
reply_whole (Some reply) = each_whole quoted (λ line. line_whole (62 ∷ 32 ∷ line)) (lines_of (reply_text reply))

pub outcome_whole : (outcome : EventOutcome) → IsWhole (outcome_text outcome)
outcome_whole outcome = both_whole (lines_text outcome.entries) (reply_lines outcome.reply) (each_whole terminated (λ entry. line_whole (entry_line entry)) outcome.entries) (reply_whole outcome.reply)

abbrev pub WritesWhole : {M : Type 0} → LineOutcome M → Type 0
WritesWhole (Writes text p) = IsWhole text
WritesWhole (Refused fault p) = Unit {0}

either : {M : Type 0} (b : Bool) (x y : LineOutcome M) → WritesWhole x → WritesWhole y → WritesWhole (cond b x y)
either true x y p q = p
either false x y p q = q

first_whole : (es : List Entry) → IsWhole (first_line es)
first_whole [] = none_whole
first_whole (e ∷ es) = line_whole (entry_line e)

call_whole : (call : ℕ) → IsWhole (stopped_line call)
unfolding stopped_line
call_whole call = subst (λ (text : List ℕ). IsWhole text) (append_assoc (codes "stopped ") (decimal call) (10 ∷ [])) (line_whole (codes "stopped " ++ decimal call))

stopped_whole : (setup : SetupState) (call : ℕ) (p : Played) (rules : Result (List types.Rule) LineRefusal) → WritesWhole (stopped_of setup call p rules)
stopped_whole setup call p (Ok rules) = both_whole (first_line p.daemon.sweep.entries) (stopped_line call) (first_whole p.daemon.sweep.entries) (call_whole call)
stopped_whole setup call p (Err fault) = tt

-- ---- a pass

-- the text ends a line, whatever it began with
abbrev Ends : List ℕ → Type 0
Ends text = (line : List ℕ) → rest_from line text ≡ []

newline_ends : Ends (10 ∷ [])
newline_ends line = rest_from-end line 10 [] refl ∙ rest_from-nil []

ends_behind : (a b : List ℕ) → Ends b → Ends (a ++ b)
ends_behind a b e = λ line. rest_from-append line a b ∙ e (rest_from line a)

entry_ends : (e : IfaceEntry) → Ends (iface_line e)
unfolding iface_line
entry_ends (entry.Intent number name) = ends_behind (codes "iface-intent ") _ (ends_behind (decimal number) _ (ends_behind (codes " ") _ (ends_behind (iface_text name) (codes " off\n") (ends_behind (codes " off") (10 ∷ []) newline_ends))))
entry_ends (entry.Wrote number name out) = ends_behind (codes "iface-wrote ") _ (ends_behind (decimal number) _ (ends_behind (codes " ") _ (ends_behind (iface_text name) _ (ends_behind (codes " off ") _ (ends_behind (wrote_word out) (codes "\n") newline_ends)))))
entry_ends (entry.Fault number name count) = ends_behind (codes "iface-unsettled ") _ (ends_behind (iface_text name) _ (ends_behind (codes " fault ") _ (ends_behind (decimal count) (codes "\n") newline_ends)))
entry_ends (entry.Memory number name) = ends_behind (codes "iface-unsettled ") _ (ends_behind (iface_text name) (codes " memory\n") (ends_behind (codes " memory") (10 ∷ []) newline_ends))

ending_whole : (device : List ℕ) (end : Passed) → IsWhole (ending_text device end)
unfolding ending_text
ending_whole device passed.Done = none_whole
ending_whole device passed.Gone = none_whole
ending_whole device (passed.Fault count) = ends_behind (codes "iface-unsettled ") _ (ends_behind device _ (ends_behind (codes " fault ") _ (ends_behind (decimal count) (codes "\n") newline_ends))) []
ending_whole device passed.Memory = ends_behind (codes "iface-unsettled ") _ (ends_behind device (codes " memory\n") (ends_behind (codes " memory") (10 ∷ []) newline_ends)) []

begins_whole : (event : ℕ) → IsWhole (pass_begins event)
unfolding pass_begins
begins_whole event = ends_behind (codes "pass ") _ (ends_behind (decimal event) (codes "\n") newline_ends) []

pass_ends_whole : (event : ℕ) → IsWhole (pass_ends event)
unfolding pass_ends
pass_ends_whole event = ends_behind (codes "pass-end ") _ (ends_behind (decimal event) (codes "\n") newline_ends) []

device_whole : (device : List ℕ) (entries : List IfaceEntry) (end : Passed) → IsWhole (told_text device entries end)
device_whole device entries end = both_whole (flat_map iface_line entries) (ending_text device end) (each_whole iface_line (λ e. entry_ends e []) entries) (ending_whole device end)

aims_whole : (aims : List Aim) (w : World) → IsWhole (pass_over aims w).text
aims_whole [] w = none_whole
aims_whole (aim ∷ aims) w =
    let p : DevicePass = device_pass aim w in
    both_whole (told_text aim.device.via_port p.entries p.end) (pass_over aims p.world).text (device_whole aim.device.via_port p.entries p.end) (aims_whole aims p.world)

rules_whole : (rules : List IfaceRule) (d : DaemonState) (w : World) → IsWhole (pass_behind rules d w).text
rules_whole [] d w = none_whole
rules_whole (rule ∷ rules) d w =
    let p : Pass = pass_over (aims_in (rule ∷ rules) d.sweep.standings) w in
    both_whole (pass_begins (d.event - 1)) (p.text ++ pass_ends (d.event - 1)) (begins_whole (d.event - 1)) (both_whole p.text (pass_ends (d.event - 1)) (aims_whole (aims_in (rule ∷ rules) d.sweep.standings) w) (pass_ends_whole (d.event - 1)))

came_whole : (setup : SetupState) (plan : List Planned) (p : Played) → WritesWhole (came_of setup plan p)
came_whole setup plan p = either p.disk.stopped (stopped_of setup (stop_in plan p) p (rules_from setup.folder.count p.disk.disk.text)) (finished setup.ifaces p) (stopped_whole setup (stop_in plan p) p (rules_from setup.folder.count p.disk.disk.text)) (both_whole (outcome_text (outcome_of p.daemon)) (pass_behind setup.ifaces p.daemon p.world).text (outcome_whole (outcome_of p.daemon)) (rules_whole setup.ifaces p.daemon p.world))

script_whole : (s : Script) (o : LineOutcome Played) → WritesWhole o → WritesWhole (in_script s o)
script_whole s (Writes text p) w = w
script_whole s (Refused fault p) w = tt

added_whole : (setup : Option SetupState) (s : Script) (w : World) → WritesWhole (line_added setup s w)
added_whole None s w = tt
added_whole (Some setup) s w = none_whole

restarted_whole : (rules : Result (List types.Rule) LineRefusal) (s : Script) (w : World) → WritesWhole (restarted rules s w)
restarted_whole (Ok rules) s w = none_whole
restarted_whole (Err fault) s w = tt

taken_whole : (what : Step) (s : Script) (w : World) → WritesWhole (taken what s w)
taken_whole step.Skip s w = none_whole
taken_whole (step.Setup line) s w = either (takes_setup s.phase) (line_added (one_line_more line s.setup) s w) (bad s w) (added_whole (one_line_more line s.setup) s w) tt
taken_whole (step.Move action) s w = none_whole
taken_whole (step.Schedule plan) s w = none_whole
taken_whole (step.Event event) s w =
    let played = event_from event (daemon_in s) w (begun_disk s.planned (disk_in s)) in
    either (can_start s.setup s.phase) (in_script s (event_by s.setup event s.planned (daemon_in s) w (disk_in s))) (Refused InputTooLong (Some s, w))
    (script_whole s (event_by s.setup event s.planned (daemon_in s) w (disk_in s))
    (either (has_numbers (daemon_in s) w.faults (disk_in s).faults) (came_of s.setup s.planned played) (Refused BadLine (record { daemon = daemon_in s; world = w; disk = disk_in s })) (came_whole s.setup s.planned played) tt))
    tt
taken_whole step.Restart s w = either (can_start s.setup s.phase) (restarted (rules_from s.setup.folder.count (disk_in s).disk.text) s w) (Refused InputTooLong (Some s, w)) (restarted_whole (rules_from s.setup.folder.count (disk_in s).disk.text) s w) tt

if_whole : (what : Option Step) (s : Script) (w : World) → WritesWhole (taken_if what s w)
if_whole None s w = tt
if_whole (Some what) s w = taken_whole what s w

pub step_whole : (p : Option Script × World) (line : List ℕ) → WritesWhole (script_step p line)
step_whole (None, w) line = either (pointwise nat_eq line header) (quiet fresh w) (Refused BadLine (None, w)) none_whole tt
step_whole (Some s, w) line = if_whole (step_of_line line) s w

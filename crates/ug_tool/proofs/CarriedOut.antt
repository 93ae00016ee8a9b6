-- What a command does of which there was no memory for the words.
use Rattle.std.proofs.Common.{◌≡◌, ◌∙◌, inl, inr, ℕ, List, Option, Some, None, refl, sym, subst}
use Rattle.ug_types.specs.Limits.{text_limit}
use Rattle.ug_command_io.specs.Fold.{LineOutcome, of_first}
use Rattle.ug_command_io.specs.Statuses.{AnswersLines, status_of}
use Rattle.ug_command_io.specs.WholeInputs.{AnswersWhole}
use Rattle.ug_command_io.specs.declared.results.Ended.{Ended}
use Rattle.ug_command_io.specs.declared.results.Ended.TheVariants.{Memory, WriteFault}
use Rattle.ug_script.specs.Generating.{generate_end, generate_step}
use Rattle.ug_script.specs.Replay.{script_step, script_end}
use Rattle.ug_script.specs.Summing.{no_totals, summary_end, summary_step}
use Rattle.ug_commands.specs.Listing as listing
use Rattle.ug_commands.specs.Checking as checking
use Rattle.ug_commands.specs.Linting as linting
use Rattle.ug_acl.specs.Adding as adding
use Rattle.ug_proto.specs.declared.request.Request.TheVariants as request
use Rattle.ug_client.specs.Asking.{request_line}
use Rattle.ug_client.specs.Following.{change_line, rules_lines}
use Rattle.ug_arguments.specs.declared.command.Command.{Command}
use Rattle.ug_arguments.specs.declared.command.Command.TheVariants.{AddUser, Ask, ChangeParameter, CheckRules, GeneratePolicy, LintRules, ListChosen, ListLabelled, ListRuleDevices, MakeScript, Order, ReadDescriptor, Replay, Summarize, Watch, WatchWaiting}
use Rattle.ug_tool.specs.CarriedOut.{CarriesCommandOut, Streams}
use Rattle.ug_tool.specs.Faults.{IsOutOfMemory}
use Rattle.ug_tool.specs.Replay.{new_world}
use Rattle.ug_tool.proofs.Memory.{input_unread, lines_unread, memory_alone, memory_summary, memory_undone, memory_unrefused, both_unsent, labelled_unsent, list_unsent, orders_unsent, request_unsent, same_command, watch_unsent}

pub same_carried : (read : Option Command) (a b : Command) (before after : Streams) (status : ℕ)
    → read ≡ Some a → read ≡ Some b → CarriesCommandOut a before after status → CarriesCommandOut b before after status
same_carried read a b before after status e f h = subst (λ (c : Command). CarriesCommandOut c before after status) (same_command read a b e f) h

over_known : (before held : Option (List ℕ)) (base : List ℕ) (status : ℕ) → before ≡ Some base
    → IsOutOfMemory before held status → IsOutOfMemory (Some base) held status
over_known before held base status b h = subst (λ (o : Option (List ℕ)). IsOutOfMemory o held status) b h

ended : (statuses : Ended → ℕ) (before held : Option (List ℕ)) (status : ℕ) → statuses Memory ≡ 6 → statuses WriteFault ≡ 5
    → IsOutOfMemory before held status → (end : Ended) × (status ≡ statuses end)
ended statuses before held status m w (inl (is, appended)) = (Memory, is ∙ sym m)
ended statuses before held status m w (inr (is, cut)) = (WriteFault, is ∙ sym w)

lines : {M : Type 0} (step : M → List ℕ → LineOutcome M) (closing : M → Option (List ℕ)) (m : M) (all base : List ℕ) (input held : Option (List ℕ)) (status : ℕ)
    → input ≡ Some all → IsOutOfMemory (Some base) held status → AnswersLines step closing m all base input held m status
lines step closing m all base input held status a h =
    subst (λ (o : Option (List ℕ)). AnswersLines step closing m all base o held m status) (sym a) (lines_unread step closing m all base held status h)

whole : (statuses : Ended → ℕ) (good bad : List ℕ → List ℕ → Type 0) (all base : List ℕ) (input held : Option (List ℕ)) (status : ℕ)
    → statuses Memory ≡ 6 → statuses WriteFault ≡ 5 → input ≡ Some all → IsOutOfMemory (Some base) held status
    → AnswersWhole statuses text_limit good bad all base input held status
whole statuses good bad all base input held status m w a h =
    subst (λ (o : Option (List ℕ)). AnswersWhole statuses text_limit good bad all base o held status) (sym a) (input_unread statuses text_limit good bad all base held status m w h)

pub memory_carried : (command : Command) (s : Streams) (held : Option (List ℕ)) (status : ℕ)
    → IsOutOfMemory s.output held status → CarriesCommandOut command s (record s { output = held }) status
memory_carried Replay s held status h = record {
  journal = λ all base a b. (None, new_world, lines script_step (of_first script_end) (None, new_world) all base s.input held status a (over_known s.output held base status b h));
  why = λ all a two. absurd (memory_unrefused s.output held status h two);
  too_long = λ all base a b two. absurd (memory_unrefused s.output held status h two);
  carries = λ all base a b done. absurd (memory_undone s.output held status h done);
  ended = ended status_of s.output held status refl refl h;
}
memory_carried Summarize s held status h = record {
  numbers = λ all base a b. ((None, no_totals), new_world, lines summary_step summary_end ((None, no_totals), new_world) all base s.input held status a (over_known s.output held base status b h));
  told = λ all base a b. memory_summary new_world all base held status (over_known s.output held base status b h);
  why = λ all a two. absurd (memory_unrefused s.output held status h two);
  ended = ended status_of s.output held status refl refl h;
}
memory_carried (MakeScript events start) s held status h = record {
  text = inr h;
  unread = refl;
  ended = ended status_of s.output held status refl refl h;
}
memory_carried ReadDescriptor s held status h = record {
  answer = λ all base a b. whole status_of listing.TellsDescriptors listing.TellsMalformed all base s.input held status refl refl a (over_known s.output held base status b h);
  ended = ended status_of s.output held status refl refl h;
}
memory_carried CheckRules s held status h = record {
  answer = λ all base a b. whole checking.check_status checking.TellsCount checking.TellsBadRules all base s.input held status refl refl a (over_known s.output held base status b h);
  ended = ended checking.check_status s.output held status refl refl h;
}
memory_carried (LintRules prune) s held status h = record {
  answer = λ all base a b. whole checking.check_status (linting.IsOutput prune) linting.TellsLintFault all base s.input held status refl refl a (over_known s.output held base status b h);
  ended = ended checking.check_status s.output held status refl refl h;
}
memory_carried GeneratePolicy s held status h = record {
  lines = λ all base a b. (None, new_world, lines generate_step generate_end (None, new_world) all base s.input held status a (over_known s.output held base status b h));
  policy = λ all base a b done. absurd (memory_undone s.output held status h done);
  alone = λ all base a b. memory_alone base held status (over_known s.output held base status b h);
  ended = ended status_of s.output held status refl refl h;
}
memory_carried (AddUser name asked) s held status h = record {
  answer = λ all base a b. whole status_of (adding.IsUnited asked) adding.TellsBadAccess all base s.input held status refl refl a (over_known s.output held base status b h);
  ended = ended status_of s.output held status refl refl h;
}
memory_carried (Ask socket asking) s held status h =
    (request_unsent socket (request_line asking) s.calls s.sent s.incoming s.output held s.faults status h, refl)
memory_carried (ListChosen socket choice) s held status h =
    (list_unsent socket choice s.calls s.sent s.incoming s.output held s.faults status h, refl)
memory_carried (Order socket query target permanent) s held status h =
    (orders_unsent socket query (record { target = target; permanent = permanent }) s.calls s.sent s.incoming s.output held s.faults status h, refl)
memory_carried (Watch socket most) s held status h =
    (watch_unsent socket (request_line request.Watch) most s.calls s.sent s.incoming s.output held s.faults status h, refl)
memory_carried (ListLabelled socket label) s held status h =
    (labelled_unsent socket label s.calls s.sent s.incoming s.output held s.faults status h, refl)
memory_carried (ListRuleDevices socket label) s held status h =
    (both_unsent (rules_lines label) socket (request_line request.ListRules) (request_line request.ListDevices) s.calls s.sent s.incoming s.output held s.faults status h, refl)
memory_carried (ChangeParameter socket name value) s held status h =
    (both_unsent (change_line value) socket (request_line (request.GetParameter name)) (request_line (request.SetParameter name value)) s.calls s.sent s.incoming s.output held s.faults status h, refl)
memory_carried (WatchWaiting socket most once) s held status h =
    (watch_unsent socket (request_line request.Watch) most s.calls s.sent s.incoming s.output held s.faults status h, refl)

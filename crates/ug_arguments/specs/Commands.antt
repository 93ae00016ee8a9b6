-- What the words of a command line mean.
use Rattle.std.specs.Prelude.{ℕ, ◌≡◌, ◌&&◌, not, nat_eq, nat_le, List, [], ◌∷◌, length, Option, Some, None, if◌then◌else◌}
use Rattle.std.specs.Prelude.{option_and_then, option_map, unwrap_or, codes, Bool, is_none, is_some, Result, Ok, Err}
use Rattle.clap.specs.Words.{Row, first_of}
use Rattle.ug_types.specs.Principals.{principal_of}
use Rattle.ug_types.specs.declared.access.Section.{Section}
use Rattle.ug_types.specs.declared.access.Section.TheVariants.{Devices, Policy, Exceptions, Parameters}
use Rattle.ug_types.specs.declared.rule.After.{After}
use Rattle.ug_types.specs.declared.rule.After.TheVariants as after
use Rattle.ug_types.specs.declared.rule.Query.{Query}
use Rattle.ug_types.specs.declared.verdict.Target.{Target}
use Rattle.ug_types.specs.Targets.{target_of}
use Rattle.ug_rule.specs.Rules.{query_read}
use Rattle.ug_rule.specs.declared.fault.Fault.{Fault}
use Rattle.ug_rows.specs.Cuts.{cut_at_mark}
use Rattle.ug_rows.specs.declared.choice.Choice.{Choice}
use Rattle.ug_lines.specs.Numbers.{number_in}
use Rattle.ug_proto.specs.Texts.{request_text}
use Rattle.ug_proto.specs.declared.request.Request.{Request}
use Rattle.ug_proto.specs.declared.request.Request.TheVariants as request
use Rattle.ug_acl.specs.Lists.{list_read, nothing_listed}
use Rattle.ug_acl.specs.declared.asked.Asked.{Asked}
use Rattle.ug_acl.specs.declared.lists.Listed.{Listed}
use Rattle.ug_arguments.specs.CommandWords.{word_in}
use Rattle.ug_arguments.specs.SimpleCommands.{app_of_word, daemon_app, rows_in}
use Rattle.ug_arguments.specs.Values.{is_event_count, is_line, is_most, is_rule, is_set, is_start, is_plain_word, number_found, passing, text_found}
use Rattle.ug_arguments.specs.declared.command.Command.{Command}
use Rattle.ug_arguments.specs.declared.command.Command.TheVariants.{Replay, Summarize, MakeScript, ReadDescriptor, CheckRules, LintRules, GeneratePolicy, AddUser, Ask, ChangeParameter, ListChosen, ListLabelled, ListRuleDevices, Order, Watch, WatchWaiting}
use Rattle.ug_arguments.specs.declared.command.WordsFault.{WordsFault}
use Rattle.ug_arguments.specs.declared.command.WordsFault.TheVariants.{Bad, Memory}
use Rattle.ug_arguments.specs.declared.command_word.CommandWord.{CommandWord}
use Rattle.ug_arguments.specs.declared.command_word.CommandWord.TheVariants as command

-- ---- scripts

abbrev pub replay_in : List Row → Command
replay_in rows = if is_set (codes "summary") rows then Summarize else Replay

abbrev pub made_of : ℕ → ℕ → Option Command
made_of events start =
    if is_event_count events && is_start start then Some (MakeScript events start) else None

abbrev pub make_script_in : List Row → Option Command
make_script_in rows =
    option_and_then
    (λ events. option_and_then (λ start. made_of events start) (number_found (codes "start") rows))
    (number_found (codes "events") rows)

-- ---- add-user

-- what an option lists; one that is left out lists nothing
abbrev pub list_of : Section → Option (List ℕ) → Option Listed
list_of section None = Some nothing_listed
list_of section (Some text) = list_read section text

abbrev pub request_given : List Row → Option Asked
request_given rows =
    option_and_then
    (λ devices. option_and_then
    (λ policy. option_and_then (λ exceptions. option_map (λ parameters.
    record { devices = devices; policy = policy; exceptions = exceptions; parameters = parameters })
    (list_of Parameters (first_of (codes "parameters") rows)))
    (list_of Exceptions (first_of (codes "exceptions") rows)))
    (list_of Policy (first_of (codes "policy") rows)))
    (list_of Devices (first_of (codes "devices") rows))

abbrev pub add_user_in : List Row → Option Command
add_user_in rows =
    option_and_then (λ name. option_map (λ asked. AddUser name asked) (request_given rows))
    (option_and_then principal_of (first_of (codes "name") rows))

-- ---- requests

abbrev pub get_parameter_in : List Row → Option Request
get_parameter_in rows =
    option_map request.GetParameter (text_found is_plain_word (codes "name") rows)

abbrev pub set_parameter_in : List Row → Option Request
set_parameter_in rows =
    option_and_then (λ name. option_map (λ value. request.SetParameter name value)
    (text_found is_plain_word (codes "value") rows)) (text_found is_plain_word (codes "name") rows)

abbrev pub device_in : Target → List Row → Option Request
device_in target rows =
    option_map (λ number. request.Device number target (is_set (codes "permanent") rows))
    (number_found (codes "number") rows)

-- behind the rule of that id, or in front of all
abbrev pub after_id : ℕ → After
after_id id = if nat_eq id 0 then after.Front else after.Rule id

abbrev pub after_of : Option (List ℕ) → Option After
after_of None = Some after.End
after_of (Some text) = option_map after_id (number_in text)

abbrev pub append_rule_in : List Row → Option Request
append_rule_in rows =
    option_and_then (λ after. option_map (λ rule.
    request.AppendRule after (not (is_set (codes "temporary") rows)) rule)
    (text_found is_rule (codes "rule") rows)) (after_of (first_of (codes "after") rows))

abbrev pub remove_rule_in : List Row → Option Request
remove_rule_in rows = option_map request.RemoveRule (number_found (codes "id") rows)

-- ---- what goes to the daemon

-- the path that an option gives, or else the usual one
abbrev pub path_given : List ℕ → List ℕ → List Row → Option (List ℕ)
path_given id usual rows = passing is_line (unwrap_or (first_of id rows) usual)

unfoldable pub default_socket : List ℕ
default_socket = codes "/run/usbguard/root.socket"

abbrev pub socket_in : List Row → Option (List ℕ)
socket_in rows = path_given (codes "socket") default_socket rows

-- the greatest length of a request as it is sent, without its newline
abbrev pub request_limit : ℕ
request_limit = 65535

abbrev pub sendable : Request → Option Request
sendable request =
    if nat_le (length (request_text request)) request_limit then Some request else None

abbrev pub ask_in : Option Request → List Row → Option Command
ask_in asked rows =
    option_and_then (λ request. option_map (λ socket. Ask socket request) (socket_in rows))
    (option_and_then sendable asked)

-- ---- settings, and lists of rules

-- the value that was before is asked for as well
abbrev pub change_by : Request → List ℕ → Option Command
change_by (request.SetParameter name value) socket = Some (ChangeParameter socket name value)
change_by other socket = None

abbrev pub change_parameter_in : List Row → Option Command
change_parameter_in rows =
    option_and_then (λ request. option_and_then (change_by request) (socket_in rows))
    (option_and_then sendable (set_parameter_in rows))

abbrev pub set_command_in : List Row → Option Command
set_command_in rows =
    if is_set (codes "verbose") rows then change_parameter_in rows
    else ask_in (set_parameter_in rows) rows

abbrev pub rule_devices_in : List Row → Option Command
rule_devices_in rows =
    option_map (λ socket. ListRuleDevices socket (first_of (codes "label") rows)) (socket_in rows)

-- those of a label, or all
abbrev pub labelled_in : Option (List ℕ) → List Row → Option Command
labelled_in None rows = ask_in (Some request.ListRules) rows
labelled_in (Some label) rows =
    option_map (λ socket. ListLabelled socket label) (socket_in rows)

abbrev pub list_rules_in : List Row → Option Command
list_rules_in rows =
    if is_set (codes "show-devices") rows then rule_devices_in rows
    else labelled_in (first_of (codes "label") rows) rows

-- ---- lists of devices, and orders on devices

abbrev pub good_query : Result Query Fault → Option Query
good_query (Ok query) = Some query
good_query (Err fault) = None

unfoldable pub query_in : List ℕ → Option Query
query_in text = good_query (query_read text)

-- a query, or none where none is given
abbrev pub query_given : Option (List ℕ) → Option (Option Query)
query_given None = Some None
query_given (Some text) = option_map (λ query. Some query) (query_in text)

abbrev pub choice_in : Option Query → List Row → Choice
choice_in query rows = record {
  allowed = is_set (codes "allowed") rows;
  blocked = is_set (codes "blocked") rows;
  query = query;
}

abbrev pub list_chosen_in : List Row → Option Command
list_chosen_in rows =
    option_and_then (λ socket. option_map (λ query. ListChosen socket (choice_in query rows))
    (query_given (first_of (codes "query") rows))) (socket_in rows)

-- nothing says that some rows alone are wanted
abbrev pub is_whole_list : List Row → Bool
is_whole_list rows =
    is_none (first_of (codes "query") rows) && not (is_set (codes "allowed") rows)
    && not (is_set (codes "blocked") rows)

abbrev pub list_devices_in : List Row → Option Command
list_devices_in rows =
    if is_whole_list rows then ask_in (Some request.ListDevices) rows else list_chosen_in rows

-- a target in front of the attributes counts for nothing
abbrev pub behind_target_of : List ℕ → Option (List ℕ × List ℕ) → List ℕ
behind_target_of text None = text
behind_target_of text (Some cut) = if is_some (target_of cut.0) then cut.1 else text

abbrev pub behind_target : List ℕ → List ℕ
behind_target text = behind_target_of text (cut_at_mark 32 text)

abbrev pub order_in : Target → List ℕ → List Row → Option Command
order_in target text rows =
    option_and_then (λ socket. option_map
    (λ query. Order socket query target (is_set (codes "permanent") rows))
    (query_in (behind_target text))) (socket_in rows)

-- on the device of that number, or on those that a query matches
abbrev pub order_by : Target → Option (List ℕ) → List Row → Option Command
order_by target None rows = None
order_by target (Some text) rows =
    if is_some (number_in text) then ask_in (device_in target rows) rows
    else order_in target text rows

abbrev pub device_command_in : Target → List Row → Option Command
device_command_in target rows = order_by target (first_of (codes "number") rows) rows

unfoldable pub default_most : ℕ
default_most = 1000000

abbrev pub most_among : ℕ → Option ℕ
most_among n = if is_most n then Some n else None

abbrev pub given_most : List ℕ → Option ℕ
given_most text = option_and_then most_among (number_in text)

abbrev pub most_of : Option (List ℕ) → Option ℕ
most_of None = Some default_most
most_of (Some text) = given_most text

-- `--once` counts beside `--wait` alone
abbrev pub watch_by : List ℕ → ℕ → List Row → Command
watch_by socket most rows =
    if is_set (codes "wait") rows then WatchWaiting socket most (is_set (codes "once") rows)
    else Watch socket most

abbrev pub watch_in : List Row → Option Command
watch_in rows =
    option_and_then (λ socket. option_map (λ most. watch_by socket most rows)
    (most_of (first_of (codes "most") rows))) (socket_in rows)

-- ---- all commands

-- what the values mean that were found behind a command's word
unfoldable pub meaning : CommandWord → List Row → Option Command
meaning command.Replay rows = Some (replay_in rows)
meaning command.MakeScript rows = make_script_in rows
meaning command.ReadDescriptor rows = Some ReadDescriptor
meaning command.CheckRules rows = Some CheckRules
meaning command.LintRules rows = Some (LintRules (is_set (codes "prune") rows))
meaning command.GeneratePolicy rows = Some GeneratePolicy
meaning command.AddUser rows = add_user_in rows
meaning command.GetParameter rows = ask_in (get_parameter_in rows) rows
meaning command.SetParameter rows = set_command_in rows
meaning command.ListDevices rows = list_devices_in rows
meaning (command.Device target) rows = device_command_in target rows
meaning command.ListRules rows = list_rules_in rows
meaning command.AppendRule rows = ask_in (append_rule_in rows) rows
meaning command.RemoveRule rows = ask_in (remove_rule_in rows) rows
meaning command.Watch rows = watch_in rows

abbrev pub command_by : CommandWord → List (List ℕ) → Option Command
command_by word words = option_and_then (meaning word) (rows_in (app_of_word word) words)

-- the command that the words of a command line are, if they are one
unfoldable pub command_in : List (List ℕ) → Option Command
command_in [] = None
command_in (first ∷ rest) = option_and_then (λ word. command_by word (first ∷ rest)) (word_in first)

-- ---- the daemon

unfoldable pub default_settings : List ℕ
default_settings = codes "/etc/usbguard/usbguard-daemon.conf"

abbrev pub settings_in : List Row → Option (List ℕ)
settings_in rows = path_given (codes "conf") default_settings rows

-- the path of the settings by the words behind `daemon`, if they are a daemon's
unfoldable pub settings_path : List (List ℕ) → Option (List ℕ)
settings_path words = option_and_then settings_in (rows_in daemon_app (codes "daemon" ∷ words))

-- only want of memory may be told of words that are a command
abbrev pub NotRead : {X : Type 0} → Option X → WordsFault → Type 0
NotRead read Bad = read ≡ None
NotRead read Memory = Unit {0}

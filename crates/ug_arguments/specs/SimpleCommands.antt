-- The simple command of each first word, as `clap` sees it, and what it finds in the words behind.
use Rattle.std.specs.Prelude.{ℕ, List, [], ◌∷◌, Option, Some, None, codes, true}
use Rattle.clap.specs.Words.{App, Kinds, Row, Rule, fault_of, matches_of, new_app, new_rule, with_rule}
use Rattle.clap.specs.declared.builder.action.ArgAction.TheVariants.{SetTrue}
use Rattle.ug_types.specs.declared.verdict.Target.TheVariants.{Allow, Block, Reject}
use Rattle.ug_arguments.specs.declared.command_word.CommandWord.{CommandWord}
use Rattle.ug_arguments.specs.declared.command_word.CommandWord.TheVariants as command

-- a word that has to be there
abbrev pub required_word : List ℕ → Rule
required_word id = record (new_rule id) { required = true }

-- `--NAME VALUE`, which may be left out
abbrev pub long_option : List ℕ → Rule
long_option id = record (new_rule id) { long = Some id }

-- a word that may be left out
abbrev pub optional_word : List ℕ → Rule
optional_word id = new_rule id

-- `-L VALUE` or `--NAME VALUE`, which may be left out
abbrev pub short_option : List ℕ → ℕ → Rule
short_option id letter = record (new_rule id) { long = Some id; short = Some letter }

-- `-L` or `--NAME`, which may be left out
abbrev pub flag : List ℕ → ℕ → Rule
flag id letter =
    record (new_rule id) { long = Some id; short = Some letter; action = Some SetTrue }

-- `--NAME`, which may be left out
abbrev pub long_flag : List ℕ → Rule
long_flag id = record (new_rule id) { long = Some id; action = Some SetTrue }

-- replay [--summary]
abbrev pub replay_app : App
replay_app = with_rule (new_app (codes "replay")) (long_flag (codes "summary"))

-- make-script EVENTS START
abbrev pub make_script_app : App
make_script_app =
    with_rule (with_rule (new_app (codes "make-script")) (required_word (codes "events")))
    (required_word (codes "start"))

-- lint-rules [--prune]
abbrev pub lint_rules_app : App
lint_rules_app = with_rule (new_app (codes "lint-rules")) (long_flag (codes "prune"))

-- add-user NAME [--devices LIST] [--policy LIST] [--exceptions LIST] [--parameters LIST]
abbrev pub add_user_app : App
add_user_app =
    with_rule (with_rule (with_rule (with_rule (with_rule (new_app (codes "add-user"))
    (required_word (codes "name"))) (long_option (codes "devices"))) (long_option (codes "policy")))
    (long_option (codes "exceptions"))) (long_option (codes "parameters"))

-- .. [--socket PATH]
abbrev pub asking_app : List ℕ → App
asking_app name = with_rule (new_app name) (long_option (codes "socket"))

-- list-devices [QUERY] [-a] [-b] [--socket PATH]
abbrev pub list_devices_app : App
list_devices_app =
    with_rule
    (with_rule (with_rule (asking_app (codes "list-devices")) (optional_word (codes "query")))
    (flag (codes "allowed") 97)) (flag (codes "blocked") 98)

-- allow-device NUMBER [-p] [--socket PATH], and the like; a query may stand in place of the number
abbrev pub device_app : List ℕ → App
device_app name =
    with_rule (with_rule (asking_app name) (required_word (codes "number")))
    (flag (codes "permanent") 112)

-- append-rule RULE [-a ID] [-t] [--socket PATH]
abbrev pub append_rule_app : App
append_rule_app =
    with_rule
    (with_rule (with_rule (asking_app (codes "append-rule")) (required_word (codes "rule")))
    (short_option (codes "after") 97)) (flag (codes "temporary") 116)

-- get-parameter NAME [--socket PATH]
abbrev pub get_parameter_app : App
get_parameter_app = with_rule (asking_app (codes "get-parameter")) (required_word (codes "name"))

-- set-parameter NAME VALUE [-v] [--socket PATH]
abbrev pub set_parameter_app : App
set_parameter_app =
    with_rule
    (with_rule (with_rule (asking_app (codes "set-parameter")) (required_word (codes "name")))
    (required_word (codes "value"))) (flag (codes "verbose") 118)

-- list-rules [-l LABEL] [-d] [--socket PATH]
abbrev pub list_rules_app : App
list_rules_app =
    with_rule (with_rule (asking_app (codes "list-rules")) (short_option (codes "label") 108))
    (flag (codes "show-devices") 100)

-- remove-rule ID [--socket PATH]
abbrev pub remove_rule_app : App
remove_rule_app = with_rule (asking_app (codes "remove-rule")) (required_word (codes "id"))

-- watch [-n MOST] [-w] [-o] [--socket PATH]
abbrev pub watch_app : App
watch_app =
    with_rule
    (with_rule (with_rule (asking_app (codes "watch")) (short_option (codes "most") 110))
    (flag (codes "wait") 119)) (flag (codes "once") 111)

-- daemon [--conf PATH]
abbrev pub daemon_app : App
daemon_app = with_rule (new_app (codes "daemon")) (long_option (codes "conf"))

unfoldable pub app_of_word : CommandWord → App
app_of_word command.Replay = replay_app
app_of_word command.MakeScript = make_script_app
app_of_word command.ReadDescriptor = new_app (codes "read-descriptor")
app_of_word command.CheckRules = new_app (codes "check-rules")
app_of_word command.LintRules = lint_rules_app
app_of_word command.GeneratePolicy = new_app (codes "generate-policy")
app_of_word command.AddUser = add_user_app
app_of_word command.GetParameter = get_parameter_app
app_of_word command.SetParameter = set_parameter_app
app_of_word command.ListDevices = list_devices_app
app_of_word (command.Device Allow) = device_app (codes "allow-device")
app_of_word (command.Device Block) = device_app (codes "block-device")
app_of_word (command.Device Reject) = device_app (codes "reject-device")
app_of_word command.ListRules = list_rules_app
app_of_word command.AppendRule = append_rule_app
app_of_word command.RemoveRule = remove_rule_app
app_of_word command.Watch = watch_app

abbrev pub unless_faulty : {X : Type 0} → Kinds → X → Option X
unless_faulty [] x = Some x
unless_faulty (kind ∷ kinds) x = None

-- what a simple command finds in the words, of which the first is its own, where it takes them
unfoldable pub rows_in : App → List (List ℕ) → Option (List Row)
rows_in app words = unless_faulty (fault_of app words) (matches_of app words)

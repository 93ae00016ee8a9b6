-- Which commands do what beside.
use Rattle.std.specs.Prelude.{Bool, true, false}
use Rattle.ug_arguments.specs.declared.command.Command.{Command}
use Rattle.ug_arguments.specs.declared.command.Command.TheVariants.{Replay, Summarize, MakeScript, ReadDescriptor, CheckRules, LintRules, GeneratePolicy, AddUser, Ask, ListChosen, ListLabelled, ListRuleDevices, ChangeParameter, Order, Watch, WatchWaiting}

-- the command `replay`, with `--summary` or without
abbrev pub replay_of : Bool → Command
replay_of true = Summarize
replay_of false = Replay

-- the command asks the daemon
abbrev pub asks_daemon : Command → Bool
asks_daemon Replay = false
asks_daemon Summarize = false
asks_daemon (MakeScript events start) = false
asks_daemon ReadDescriptor = false
asks_daemon CheckRules = false
asks_daemon (LintRules prune) = false
asks_daemon GeneratePolicy = false
asks_daemon (AddUser name asked) = false
asks_daemon (Ask socket request) = true
asks_daemon (ListChosen socket choice) = true
asks_daemon (ListLabelled socket label) = true
asks_daemon (ListRuleDevices socket label) = true
asks_daemon (ChangeParameter socket name value) = true
asks_daemon (Order socket query target permanent) = true
asks_daemon (Watch socket most) = true
asks_daemon (WatchWaiting socket most once) = true

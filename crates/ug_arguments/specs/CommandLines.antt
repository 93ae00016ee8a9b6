-- What command lines ask for, by example.
use Rattle.std.specs.Prelude.{ℕ, Bool, List, Option, Some, None, codes, false, true}
use Rattle.ug_types.specs.Principals.{Named}
use Rattle.ug_proto.specs.declared.request.Request.{Request}
use Rattle.ug_acl.specs.declared.lists.Listed.{Listed}
use Rattle.ug_rows.specs.declared.choice.Choice.{Choice}
use Rattle.ug_arguments.specs.declared.command.Command.{Command}
use Rattle.ug_arguments.specs.declared.command.Command.TheVariants.{AddUser, Ask}

-- the daemon's usual path
abbrev pub root_socket : List ℕ
root_socket = codes "/run/usbguard/root.socket"

abbrev pub asking_command : Request → Option Command
asking_command request = Some (Ask root_socket request)

abbrev pub joe : Named
joe = record { group = false; name = codes "joe" }

abbrev pub listing : Listed
listing = record { modify = false; list = true; listen = false }

abbrev pub listen_alone : Listed
listen_alone = record { modify = false; list = false; listen = true }

-- what is listed of devices, of the policy, of exceptions and of parameters
abbrev pub adds : Named → Listed → Listed → Listed → Listed → Option Command
adds who devices policy exceptions parameters =
    Some
    (AddUser who (record
    { devices = devices; policy = policy; exceptions = exceptions; parameters = parameters }))

-- the devices that are allowed, those that are blocked, or both
abbrev pub wanted_rows : Bool → Bool → Choice
wanted_rows allowed blocked = record { allowed = allowed; blocked = blocked; query = None }

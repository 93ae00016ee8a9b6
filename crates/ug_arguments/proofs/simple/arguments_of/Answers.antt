use Rattle.ug_arguments.proofs.SimpleApps.{device_rules}
use Rattle.ug_arguments.proofs.simple.arguments_of.Goals as goal

pub returns-in-Device : goal.returns-in-Device
returns-in-Device c = device_rules _ _ c.in-Device.is

use Rattle.ug_headline.proofs.Devices.{judged_device, root_name}
use Rattle.ug_headline.proofs.laws.devices_law.Goals as goal

pub returns : goal.returns
returns c = record { root = root_name; device = judged_device }

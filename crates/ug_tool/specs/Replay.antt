-- The world in which a script begins.
use Rattle.std.specs.Prelude.{false, []}
use Rattle.ug_sysfs.specs.World.{World}

-- no device, no open file, an empty log, and nothing scheduled
abbrev pub new_world : World
new_world = record {
  kernel = record { devices = []; held = []; log = [] };
  interfaces = [];
  iface_files = [];
  iface_log = [];
  moves = [];
  fails = [];
  halted = false;
  calls = 0;
  faults = 0;
  made = [];
  ran_out = false;
}

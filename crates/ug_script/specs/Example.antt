-- Events worked by hand: a root hub that was there at the start, a device below it that a rule
-- allows, and another device that takes its place.
use Rattle.std.specs.Prelude.{ℕ, true, false, List, [], ◌∷◌, None, Some, codes}
use Rattle.ug_types.specs.declared.rule.Op.TheVariants.{Equals}
use Rattle.ug_types.specs.declared.rule.Rule.{Rule}
use Rattle.ug_types.specs.declared.verdict.Target.TheVariants.{Allow}
use Rattle.ug_conf.specs.declared.settings.AuthDefault.TheVariants as auth
use Rattle.ug_sysfs.specs.declared.script.Failing.{Failing}
use Rattle.ug_sysfs.specs.declared.script.NewDevice.{NewDevice}
use Rattle.ug_sysfs.specs.declared.script.Move.TheVariants.{Plug, Unplug}
use Rattle.ug_sysfs.specs.declared.script.Scheduled.{Scheduled}
use Rattle.ug_sysfs.specs.Devices.{plugged}
use Rattle.ug_sysfs.specs.World.{World, over}
use Rattle.ug_types.specs.declared.event.Event.TheVariants.{Sweep}
use Rattle.ug_script.specs.Replay.{Played, event_from, with_devices}
use Rattle.ug_script.specs.Setup.{SetupState, no_setup, rules_disk, first_started}

-- a device with nothing but its descriptors
abbrev pub device_of : List ℕ → List ℕ → NewDevice
device_of name descriptors =
    record {
      name = name;
      descriptors = descriptors;
      product = None;
      serial = None;
      connect = None;
      on =
          false;
    }

-- a root hub, 1d6b:0002
abbrev pub hub_bytes : List ℕ
hub_bytes =
    18 ∷ 1 ∷ 0 ∷ 2 ∷ 9 ∷ 0 ∷ 1 ∷ 64 ∷ 107 ∷ 29 ∷ 2 ∷ 0 ∷ 6 ∷ 6 ∷ 3 ∷ 2 ∷ 1 ∷ 1 ∷ 9 ∷ 2 ∷ 25 ∷ 0 ∷ 1
    ∷ 1 ∷ 0 ∷ 224 ∷ 0 ∷ 9 ∷ 4 ∷ 0 ∷ 0 ∷ 1 ∷ 9 ∷ 0 ∷ 0 ∷ 0 ∷ 7 ∷ 5 ∷ 129 ∷ 3 ∷ 4 ∷ 0 ∷ 12 ∷ []

-- 1050:0011 and 1050:0012
abbrev pub key_bytes : List ℕ
key_bytes = 18 ∷ 1 ∷ 0 ∷ 2 ∷ 0 ∷ 0 ∷ 0 ∷ 64 ∷ 80 ∷ 16 ∷ 17 ∷ 0 ∷ 0 ∷ 1 ∷ 0 ∷ 0 ∷ 0 ∷ 1 ∷ []

abbrev pub other_bytes : List ℕ
other_bytes = 18 ∷ 1 ∷ 0 ∷ 2 ∷ 0 ∷ 0 ∷ 0 ∷ 64 ∷ 80 ∷ 16 ∷ 18 ∷ 0 ∷ 0 ∷ 1 ∷ 0 ∷ 0 ∷ 0 ∷ 1 ∷ []

abbrev pub hub : NewDevice
hub = record (device_of (codes "usb1") hub_bytes) { on = true }

abbrev pub key : NewDevice
key = device_of (codes "1-1") key_bytes

abbrev pub other : NewDevice
other = device_of (codes "1-1") other_bytes

abbrev pub hub_world : World
hub_world =
    record {
      kernel = record { devices = plugged hub []; held = []; log = [] };
      interfaces = [];
      iface_files = [];
      iface_log = [];
      moves = [];
      fails = [];
      halted = false;
      calls = 0;
      faults = 0;
      made = [];
      ran_out = false;
    }

-- the rule that allows 1050:0011
abbrev pub key_rule : Rule
key_rule = record {
  target = Allow;
  query = record {
    id =
        Some
        (record { op = Equals; items = record { vendor = Some 4176; product = Some 17 } ∷ [] });
    serial = None;
    name = None;
    hash = None;
    parent_hash = None;
    via_port = None;
    interface = None;
    connect = None;
    label = None;
  };
  conds = None;
}

-- this rule alone
abbrev pub ruled : SetupState
ruled = record no_setup { rules = key_rule ∷ [] }

-- a daemon with it, over the root hub
abbrev pub first_played : Played
first_played = record { daemon = first_started ruled; world = hub_world; disk = rules_disk ruled }

-- an event at that moment
abbrev pub event_at : ℕ → Played → Played
event_at moment p = event_from (Sweep (record { 0 = moment })) p.daemon (over p.world) p.disk

-- the same with what is scheduled for it
abbrev pub event_with : ℕ → List Scheduled → List Failing → Played → Played
event_with moment moves fails p =
    event_from (Sweep (record { 0 = moment })) p.daemon
    (record (over p.world) { moves = moves; fails = fails }) p.disk

-- an event over the root hub alone, and then the key is plugged in
abbrev pub plugged_in : Played
plugged_in =
    let p : Played = event_at 100 first_played in
    record p { world = with_devices (plugged key (over p.world).kernel.devices) (over p.world) }

-- the key goes and the other device takes its name, just before the tenth call
abbrev pub replaced : List Scheduled
replaced =
    record { call = 10; after = false; action = Unplug (codes "1-1") }
    ∷ record { call = 10; after = false; action = Plug other } ∷ []

-- the tenth call fails, and has its effect all the same
abbrev pub failing : List Failing
failing = record { call = 10; effect = true } ∷ []

-- no rule, and no device that comes is authorised
abbrev pub with_none : SetupState
with_none =
    record no_setup {
      settings = record no_setup.settings {
        draft = record no_setup.settings.draft
            { settings = record no_setup.settings.draft.settings { default = auth.None } };
      };
    }

-- a daemon with that, over the root hub
abbrev pub first_with_none : Played
first_with_none =
    record { daemon = first_started with_none; world = hub_world; disk = rules_disk with_none }

-- a device is plugged in that would start authorised
abbrev pub born_later : Played → Played
born_later p =
    record p {
      world = with_devices (plugged (record key { on = true }) (over p.world).kernel.devices)
          (over p.world);
    }

-- the tenth call fails, and has no effect
abbrev pub tenth_fails : List Failing
tenth_fails = record { call = 10; effect = false } ∷ []

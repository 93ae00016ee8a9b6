-- Steps that lines ask for, by example.
use Rattle.std.specs.Prelude.{ℕ, Bool, true, false, List, Some, None}
use Rattle.ug_store.specs.declared.mishap.Mishap.{Mishap}
use Rattle.ug_sysfs.specs.declared.script.Move.{Move}
use Rattle.ug_sysfs.specs.declared.script.NewDevice.{NewDevice}
use Rattle.ug_sysfs.specs.declared.script.NewIface.{NewIface}
use Rattle.ug_steps.specs.declared.step.Plan.TheVariants as plan
use Rattle.ug_steps.specs.declared.step.Step.{Step}
use Rattle.ug_steps.specs.declared.step.Step.TheVariants as step
use Rattle.ug_steps.specs.IfaceLines.{iface_named}

-- a device without files that starts authorised
abbrev pub on_by_itself : List ℕ → List ℕ → NewDevice
on_by_itself name descriptors = record {
  name = name;
  descriptors = descriptors;
  product = None;
  serial = None;
  connect = None;
  on = true;
}

-- one with these files that doesn't
abbrev pub off_with_files : List ℕ → List ℕ → List ℕ → List ℕ → List ℕ → NewDevice
off_with_files name descriptors product serial connect = record {
  name = name;
  descriptors = descriptors;
  product = Some product;
  serial = Some serial;
  connect = Some connect;
  on = false;
}

-- an interface of a keyboard that starts authorised
abbrev pub keyboard_on : List ℕ → ℕ → ℕ → NewIface
keyboard_on device config number = record {
  name = iface_named device config number;
  triple = record { class = 3; subclass = 1; protocol = 1 };
  on = true;
}

-- a move at that call, after its effect or before it
abbrev pub schedules : ℕ → Bool → Move → Step
schedules call after action =
    step.Schedule (plan.Move (record { call = call; after = after; action = action }))

-- that call of the kernel fails, with its effect or without
abbrev pub fails : ℕ → Bool → Step
fails call effect = step.Schedule (plan.Fail (record { call = call; effect = effect }))

-- so does that call of the disk, and the machine may stop in it
abbrev pub on_disk : ℕ → Mishap → Bool → Step
on_disk call leaves stops =
    step.Schedule (plan.OnDisk (record { call = call; mishap = leaves; stops = stops }))

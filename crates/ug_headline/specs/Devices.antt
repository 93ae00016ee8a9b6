-- Devices by their files, written for the headline alone: what sysfs shows of a device, and what of
-- that its record is made of.
use Rattle.std.specs.Prelude.{◌≡◌, ℕ, Bool, true, false, not, ◌&&◌, ◌||◌, nat_eq, nat_le, if◌then◌else◌, List, [], ◌∷◌, length, Option, Some, None, slice_get}
use Rattle.ug_types.specs.declared.record.Attrs.{Attrs}
use Rattle.ug_types.specs.declared.record.DeviceRecord.{DeviceRecord}
use Rattle.ug_types.specs.declared.record.Judged.TheVariants.{Good}
use Rattle.ug_kernel.specs.declared.control.Control.TheVariants.{Authorized}
use Rattle.ug_kernel.specs.declared.control.Held.{Held}
use Rattle.ug_kernel.specs.declared.device.Device.{Device}
use Rattle.ug_kernel.specs.Kernel.{Kernel}
use Rattle.ug_record.specs.Records.{judged_of}

-- a root hub's name, as usb1, has neither dash nor dot; other names are as 1-2 and 1-2.3
abbrev pub is_root_name : List ℕ → Bool
is_root_name [] = true
is_root_name (b ∷ name) = not (nat_eq b 45 || nat_eq b 46) && is_root_name name

-- a file that is absent, or longer than the limit, counts as empty
abbrev pub text_up_to : ℕ → Option (List ℕ) → List ℕ
text_up_to limit None = []
text_up_to limit (Some bytes) = if nat_le (length bytes) limit then bytes else []

abbrev pub is_long : ℕ → Option (List ℕ) → Bool
is_long limit None = false
is_long limit (Some bytes) = not (nat_le (length bytes) limit)

-- the files that a record is made of: a device's own, or those of its parent, without `connect`
abbrev pub files_shown : Option (List ℕ) → Device → Attrs
files_shown connect d = record {
  descriptors = text_up_to 131072 (Some d.descriptors);
  product = text_up_to 4096 d.product;
  serial = text_up_to 4096 d.serial;
  connect = text_up_to 4096 connect;
  too_long =
      is_long 131072 (Some d.descriptors) || is_long 4096 d.product || is_long 4096 d.serial
      || is_long 4096 connect;
}

abbrev pub IsParentOf : Kernel → Option ℕ → Option Attrs → Type 0
IsParentOf k None files = files ≡ None
IsParentOf k (Some p) files =
    (e : Device) × (slice_get k.devices p ≡ Some e) × (files ≡ Some (files_shown None e))

-- The device at that place has that name, the held file is its `authorized`, and the record is that
-- of its files and its parent's: descriptors by USB 2.0, chapter 9, texts without their newline.
pub record IsJudgedDevice (k : Kernel) (i : ℕ) (name : List ℕ) (held : Held) (dev : DeviceRecord)
    : Type 0 where
  pub d : Device
  pub device : slice_get k.devices i ≡ Some d
  pub file : slice_get k.held held.0 ≡ Some (record { device = i; control = Authorized })
  pub named : d.name ≡ name
  pub parent : Option Attrs
  pub read : IsParentOf k d.parent parent
  pub made : Good dev ≡ judged_of d.name (files_shown d.connect d) parent

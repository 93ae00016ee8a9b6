-- An index of the live names, and how many there are.
use Rattle.std.specs.Prelude.{◌≡◌, ℕ, ◌+◌, ◌≤◌, List, length, vec_capacity, nat_eq}
use Rattle.std.specs.Cmp.Lexicographic.{pointwise}
use Rattle.std.specs.HashMap.{get, spare}
use Rattle.ug_kernel.specs.Kernel.{live_count}
use Rattle.ug_sysfs.specs.declared.roster.Roster.TheInside.{Inside}
use Rattle.ug_sysfs.specs.Devices.{find, IsDistinct}

-- the index answers as a search does, there is room for what was promised it, and the live are
-- counted
pub record HasIndex (r : Inside) : Type 0 where
  pub index : (q : List ℕ) → get (pointwise nat_eq) r.index q ≡ find q 0 r.all.items
  pub distinct : IsDistinct r.all.items
  pub places : length r.all.items + r.room ≤ vec_capacity r.all
  pub entries : r.room ≤ spare r.index
  pub live : r.live ≡ live_count r.all.items

-- No two interfaces of one device bear one configuration and number.
use Rattle.std.specs.Prelude.{◌≡◌, ℕ, ◌+◌, ◌≤◌, false, List, length, Some, vec_capacity}
use Rattle.std.specs.List.{slice_get}
use Rattle.ug_iface.specs.declared.interface.Interface.{Interface}
use Rattle.ug_iface.specs.Bus.{ungone_of}
use Rattle.ug_sysfs.specs.declared.interfaces.Interfaces.TheInside.{Inside}

-- the interface at a place, which isn't gone
pub record Ungone (xs : List Interface) (i : ℕ) (x : Interface) : Type 0 where
  pub at : slice_get xs i ≡ Some x
  pub here : x.gone ≡ false

abbrev pub AreApart : List Interface → Type 0
AreApart xs =
    (i j : ℕ) (x y : Interface) → Ungone xs i x → Ungone xs j y → x.device ≡ y.device
    → x.config ≡ y.config → x.number ≡ y.number → i ≡ j

-- they differ, at most 1,024 of one device aren't gone, and there is room for what was promised
pub record HoldsInterfaces (r : Inside) : Type 0 where
  pub apart : AreApart r.all.items
  pub few : (i : ℕ) → ungone_of i r.all.items ≤ 1024
  pub places : length r.all.items + r.room ≤ vec_capacity r.all

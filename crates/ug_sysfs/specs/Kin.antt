-- The children of each device, as links from the youngest to the next older one.
use Rattle.std.specs.Prelude.{◌≡◌, ℕ, ◌<◌, ◌≤◌, true, List, [], ◌∷◌, ◌++◌, length, set, Option, Some, None}
use Rattle.std.specs.List.{slice_get}
use Rattle.ug_kernel.specs.declared.device.Device.{Device}
use Rattle.ug_kernel.specs.Kernel.{Live, BeginsWith}
use Rattle.ug_sysfs.specs.declared.kin.Kin.{Kin}
use Rattle.ug_sysfs.specs.Below.{Below}

-- the youngest child of device p of those that were born before place m, where there is one
pub record IsYoungest (ds : List Device) (p m : ℕ) (o : Option ℕ) : Type 0 where
  pub child : (c : ℕ) → o ≡ Some c
      → (d : Device) × (slice_get ds c ≡ Some d) × (d.parent ≡ Some p) × (c < m)
  pub last : (j : ℕ) (d : Device) → slice_get ds j ≡ Some d → d.parent ≡ Some p → j < m
      → (c : ℕ) × (o ≡ Some c) × (j ≤ c)

-- each device leads to its youngest child, and each child to the next older one of its parent
pub record HasKin (kin : List Kin) (ds : List Device) : Type 0 where
  pub number : length kin ≡ length ds
  pub youngest : (p : ℕ) (k : Kin) → slice_get kin p ≡ Some k
      → IsYoungest ds p (length ds) k.youngest
  pub older : (i p : ℕ) (k : Kin) (d : Device) → slice_get kin i ≡ Some k
      → slice_get ds i ≡ Some d → d.parent ≡ Some p → IsYoungest ds p i k.older
  pub below : (i p : ℕ) (d : Device) → slice_get ds i ≡ Some d → d.parent ≡ Some p → p < i

-- device t went, and of the live devices just some below it; and none stays whose parent went
pub record Fells (t : ℕ) (ds es : List Device) : Type 0 where
  pub facts : BeginsWith ds es
  pub number : length es ≡ length ds
  pub top : (e : Device) → slice_get es t ≡ Some e → e.gone ≡ true
  pub only : (i : ℕ) (d e : Device) → Live ds i d → slice_get es i ≡ Some e → e.gone ≡ true
      → Below ds t i
  pub closed : (i p : ℕ) (d f : Device) → Live es i d → d.parent ≡ Some p
      → slice_get es p ≡ Some f → f.gone ≡ true
      → (g : Device) × (slice_get ds p ≡ Some g) × (g.gone ≡ true)

-- ---- one more at the end

abbrev pub youngest_in : Option Kin → Option ℕ
youngest_in None = None
youngest_in (Some k) = k.youngest

abbrev pub older_in : Option Kin → Option ℕ
older_in None = None
older_in (Some k) = k.older

abbrev pub youngest_under : Option ℕ → List Kin → Option ℕ
youngest_under None kin = None
youngest_under (Some p) kin = youngest_in (slice_get kin p)

abbrev pub led_to : ℕ → ℕ → Option Kin → List Kin → List Kin
led_to child p None kin = kin
led_to child p (Some k) kin = set kin p (record k { youngest = Some child })

-- the parent leads to that child
abbrev pub with_child : ℕ → Option ℕ → List Kin → List Kin
with_child child None kin = kin
with_child child (Some p) kin = led_to child p (slice_get kin p) kin

abbrev pub kin_born : Option ℕ → List Kin → List Kin
kin_born parent kin =
    with_child (length kin) parent kin
    ++ record { youngest = None; older = youngest_under parent kin } ∷ []

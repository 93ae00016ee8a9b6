-- One order more.
use Rattle.ug_kernel.specs.declared.sysfs.Sysfs
use Rattle.ug_store.specs.declared.disk.RuleDisk
use Rattle.std.proofs.Common.{◌≡◌, Bool, true, false, List, [], ◌∷◌, Some, None, refl, subst}
use Rattle.ug_types.specs.declared.verdict.Moment.{Moment}
use Rattle.ug_serve.specs.Turns.{TurnEvent, CoreAndServer, AskedLine, HandsOutNext, has_room, IsOrder, ServesOrders, Events}

module _ {Y D : Type 0} (sysfs : Sysfs.Ghosts Y) (disk : RuleDisk.Ghosts D) where
  pub orders_more : (moment : Moment) (a : CoreAndServer Y D) (e : TurnEvent) (m : CoreAndServer Y D) (es : List TurnEvent) (whole : Bool) (b : CoreAndServer Y D)
      → IsOrder sysfs disk moment a e m → ServesOrders sysfs disk moment m es whole b
      → ServesOrders sysfs disk moment a (e ∷ es) whole b
  orders_more moment a e m es true b h k = (k.0, (m, h, k.1), k.2)
  orders_more moment a e m es false b h k = (k.0, k.1, (m, h, k.2), k.3, k.4)

  pub orders_none : (moment : Moment) (a b : CoreAndServer Y D) → HandsOutNext None a b → ServesOrders sysfs disk moment a [] true b
  orders_none moment a b h = (a, refl, h)

  pub orders_cut : (moment : Moment) (a b : CoreAndServer Y D) (asked : AskedLine) → HandsOutNext (Some asked) a b → has_room sysfs disk b.core ≡ false → ServesOrders sysfs disk moment a [] false b
  orders_cut moment a b asked h r = (a, asked, refl, h, r)

  pub events_as : (moment : Moment) (a : CoreAndServer Y D) (es : List TurnEvent) (w v : Bool) (b : CoreAndServer Y D) → w ≡ v → Events sysfs disk moment a es w b → Events sysfs disk moment a es v b
  events_as moment a es w v b e h = subst (λ (x : Bool). Events sysfs disk moment a es x b) e h

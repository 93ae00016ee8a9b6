-- More room, and nothing else.
use Rattle.std.proofs.Common.{◌≡◌, ◌+◌, ◌≤◌, List, length, vec_capacity, sym, subst, ◌∙◌}
use Rattle.ug_sysfs.specs.declared.census.Census.TheInside.{Inside}
use Rattle.ug_sysfs.specs.declared.kin.Kin.{Kin}
use Rattle.ug_sysfs.specs.Counted.{HaveLiveParents, ListsLive}
use Rattle.ug_sysfs.specs.Kin.{HasKin}
use Rattle.ug_sysfs.specs.Living.{Wanes}

pub lists_still : (c d : Inside) → ListsLive c → d.roster.devices ≡ c.roster.devices → d.places.items ≡ c.places.items → d.kin.items ≡ c.kin.items → length d.places.items + d.roster.room ≤ vec_capacity d.places → length d.kin.items + d.roster.room ≤ vec_capacity d.kin → ListsLive d
lists_still c d v devices places kin room kin_room = record {
  was = v.was;
  wanes = subst (Wanes v.was) (sym devices) v.wanes;
  listed = places ∙ v.listed;
  room = room;
  kin = subst (HasKin d.kin.items) (sym devices) (subst (λ (ks : List Kin). HasKin ks c.roster.devices) (sym kin) v.kin);
  kin_room = kin_room;
  parents = subst HaveLiveParents (sym devices) v.parents;
}

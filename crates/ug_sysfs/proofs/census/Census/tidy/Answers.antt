use Rattle.std.proofs.Common.{◌≡◌, List, length, ◌∙◌, ap, arith}
use Rattle.std.specs.List.{filter}
use Rattle.ug_kernel.specs.declared.device.Device.{Device}
use Rattle.ug_sysfs.specs.Living.{is_live_at, live_places}
use Rattle.ug_sysfs.proofs.Lives.{fewer_places, places_left, wanes_same}
use Rattle.ug_sysfs.proofs.census.Census.tidy.Goals as goal

pub invariant_of-self : goal.invariant_of-self
invariant_of-self c =
    let v = c.self.invariant in
    let ds = c.self.inside.roster.devices in
    let left : c.keep_live.new.places.items ≡ live_places 0 ds =
    c.keep_live.ensures.kept ∙ ap (filter (is_live_at c.devices.result.now)) v.listed
    ∙ ap (λ (es : List Device). filter (is_live_at es) (live_places 0 v.was)) c.devices.ensures.devices
    ∙ places_left v.was ds v.wanes in
    record {
      was = ds;
      wanes = wanes_same ds;
      listed = left;
      room = omega (arith, v.room, ap length v.listed, ap length left, fewer_places v.was ds v.wanes, c.keep_live.ensures.capacity);
      kin = v.kin;
      kin_room = v.kin_room;
      parents = v.parents;
    }

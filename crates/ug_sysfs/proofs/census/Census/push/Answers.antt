use Rattle.std.proofs.Common.{◌≡◌, ℕ, ◌+◌, List, [], ◌∷◌, ◌++◌, length, length-append, Some, sym, ◌∙◌, ap, subst, arith}
use Rattle.std.proofs.lemmas.Option.{slice_get_within}
use Rattle.ug_kernel.specs.declared.device.Device.{Device}
use Rattle.ug_kernel.specs.Kernel.{Live}
use Rattle.ug_sysfs.specs.Counted.{HaveLiveParents}
use Rattle.ug_sysfs.specs.Kin.{HasKin}
use Rattle.ug_sysfs.specs.Listed.{Listed}
use Rattle.ug_sysfs.specs.Living.{Wanes, live_places}
use Rattle.ug_sysfs.proofs.Links.{has_kin_born, length_kin_born, live_parents_push}
use Rattle.ug_sysfs.proofs.Lives.{places_push, wanes_length, wanes_push}
use Rattle.ug_sysfs.proofs.census.Census.push.Goals as goal

pub invariant_of-self : goal.invariant_of-self
invariant_of-self c =
    let v = c.self.invariant in
    let ds = c.self.inside.roster.devices in
    let x = c.args.device in
    let under : (p : ℕ) → x.parent ≡ Some p → (e : Device) × Live ds p e =
    λ p up. subst (λ (l : Listed). (e : Device) × Live l.devices p e) (sym c.self.view_is) (c.requires.parent p up) in
    let place : c.len-place.result ≡ length v.was + 0 = omega (arith, c.len-place.ensures, wanes_length v.was ds v.wanes) in
    let more = sym c.push.ensures.devices in
    record {
      was = v.was ++ x ∷ [];
      wanes = subst (Wanes (v.was ++ x ∷ [])) more (wanes_push v.was ds x v.wanes);
      listed = c.push_reserved.ensures.items ∙ ap (λ (ks : List ℕ). ks ++ c.len-place.result ∷ []) v.listed ∙ ap (λ (k : ℕ). live_places 0 v.was ++ k ∷ []) place ∙ sym (places_push 0 v.was x c.requires.live);
      room = omega (arith, v.room, c.push.ensures.room, ap length c.push_reserved.ensures.items, length-append c.self.inside.places.items (c.len-place.result ∷ []), c.push_reserved.ensures.capacity);
      kin = subst (HasKin c.bear.new.kin.items) more (subst (λ (k : List _). HasKin k (ds ++ x ∷ [])) (sym c.bear.ensures.items) (has_kin_born c.self.inside.kin.items ds x v.kin (λ p up. let u = under p up in slice_get_within ds p u.0 u.1.at)));
      kin_room = omega (arith, v.kin_room, c.push.ensures.room, ap length c.bear.ensures.items, length_kin_born x.parent c.self.inside.kin.items, c.bear.ensures.capacity);
      parents = subst HaveLiveParents more (live_parents_push ds x v.parents under);
    }

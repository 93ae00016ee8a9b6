-- The moves of a script keep a kernel sound.
use Rattle.std.proofs.Common.{◌≡◌, ℕ, ◌<◌, Bool, true, false, ◌||◌, cond, eqb, nat_lt, List, [], ◌∷◌, ◌++◌, length, take, drop, Option, Some, None, refl, sym, ◌∙◌, ap, subst, arith, inl, inr, length-append}
use Rattle.std.proofs.lemmas.Bool.{or_parts, ltb-true}
use Rattle.std.proofs.lemmas.List.{take-append-drop}
use Rattle.std.proofs.lemmas.Option.{none-some, same_Some}
use Rattle.std.specs.List.{slice_get}
use Rattle.ug_types.specs.Names.{parent_of}
use Rattle.ug_kernel.specs.declared.device.Device.{Device}
use Rattle.ug_kernel.specs.Kernel.{Kernel, Live, live_count, IsSound, IsKernel}
use Rattle.ug_kernel.proofs.Places.{at_push, in_front}
use Rattle.ug_kernel.proofs.Sounds.{sound_push, Kept, sound_fewer, kernel_moves}
use Rattle.ug_sysfs.specs.declared.script.NewDevice.{NewDevice}
use Rattle.ug_sysfs.specs.declared.script.Move.{Move}
use Rattle.ug_sysfs.specs.declared.script.Move.TheVariants.{Plug, Unplug, Iface}
use Rattle.ug_sysfs.specs.declared.script.Scheduled.{Scheduled}
use Rattle.ug_sysfs.specs.Devices.{hub_under, find, born_as, is_unplugged, felled, falls, fall, unplug_at, unplugged, born_under, placed, plug_at, plugged}
use Rattle.ug_sysfs.specs.World.{moved, due, happen, happen_all}
use Rattle.ug_sysfs.specs.Begins.{length_fall, begins_unplug, plugged_moves, unplugged_moves, moved_moves, happened_moves}
use Rattle.ug_sysfs.specs.Find.{find_some, find_none}

kept_push : (target : ℕ) (bs : List Device) (d : Device) → Kept bs
    → Kept (bs ++ felled target bs d ∷ [])
kept_push target bs d k = record { none = none }
  where
    none : (i p : ℕ) (e f : Device) → Live (bs ++ felled target bs d ∷ []) i e → e.parent ≡ Some p
        → p < i → slice_get (bs ++ felled target bs d ∷ []) p ≡ Some f → f.gone ≡ false
    none i p e f l h lt g = elim (at_push bs (felled target bs d) p f g) [
      | inl q ↦ elim (at_push bs (felled target bs d) i e l.at) [
        | inl r ↦ k.none i p e f (record { at = r.1; here = l.here }) h lt q.1
        | inr r ↦
            let here : d.gone || (eqb (length bs) target || falls d.parent bs) ≡ false =
            ap (λ (y : Device). y.gone) r.1 ∙ l.here in
            let a = or_parts d.gone (eqb (length bs) target || falls d.parent bs) here in
            let b = or_parts (eqb (length bs) target) (falls d.parent bs) a.1 in
            let up : d.parent ≡ Some p = ap (λ (y : Device). y.parent) r.1 ∙ h in
            let c : is_unplugged (slice_get bs p) ≡ false = rw up at b.1 in
            rw q.1 at c
      ]
      | inr q ↦ elim (at_push bs (felled target bs d) i e l.at) [
        | inl r ↦ absurd (omega arith)
        | inr r ↦ absurd (omega arith)
      ]
    ]

pub kept_fall : (target : ℕ) (bs ds : List Device) → Kept bs → Kept (fall target bs ds)
kept_fall target bs [] k = k
kept_fall target bs (d ∷ ds) k =
    kept_fall target (bs ++ felled target bs d ∷ []) ds (kept_push target bs d k)

pub length_felled : (target : ℕ) (ds : List Device)
    → length (fall target (take target ds) (drop target ds)) ≡ length ds
length_felled target ds =
    omega (
      arith,
      length_fall target (take target ds) (drop target ds),
      ap length
          (take-append-drop target ds),
      length-append (take target ds) (drop target ds),
    )

-- a parent is born before its child, and lives while its child lives
pub record IsTree (ds : List Device) : Type 0 where
  pub below : (i p : ℕ) (d : Device) → slice_get ds i ≡ Some d → d.parent ≡ Some p → p < i
  pub parents : (i p : ℕ) (d : Device) → Live ds i d → d.parent ≡ Some p
      → (e : Device) × Live ds p e

pub tree_of : (ds : List Device) → IsSound ds → IsTree ds
tree_of ds s = record { below = s.below; parents = s.parents }

pub kept_front : (ds : List Device) (n : ℕ) → IsTree ds → Kept (take n ds)
kept_front ds n s = record {
  none = λ i p e f l h lt g.
      let up = s.parents i p e (record { at = in_front ds n i e l.at; here = l.here }) h in
      ap (λ (x : Device). x.gone)
      (same_Some f up.0 (sym (in_front ds n p f g) ∙ up.1.at)) ∙ up.1.here;
}

sound_unplug : (o : Option ℕ) (ds : List Device) → IsSound ds → IsSound (unplug_at o ds)
sound_unplug None ds s = s
sound_unplug (Some i) ds s =
    sound_fewer ds (fall i (take i ds) (drop i ds)) s (begins_unplug (Some i) ds)
    (length_felled i ds) (kept_fall i (take i ds) (drop i ds) (kept_front ds i (tree_of ds s)))

sound_placed : (d : NewDevice) (o : Option (List ℕ)) (ds : List Device) → parent_of d.name ≡ o
    → live_count ds < 65536 → IsSound ds
    → ((i : ℕ) (e : Device) → Live ds i e → e.name ≡ d.name → ⊥) → IsSound (placed d o ds)
sound_placed d None ds up few s free =
    sound_push ds (born_as d None ds) s
    (record {
      free = free;
      under = λ p h. absurd (none-some p h);
      root = λ h. up;
      hub = λ h. refl;
      controller = λ p e h. absurd (none-some p h);
      few = few;
    })
sound_placed d (Some name) ds up few s free = below (find name 0 ds) refl
  where
    below : (o : Option ℕ) → find name 0 ds ≡ o → IsSound (born_under d o ds)
    below None h = s
    below (Some i) h =
        let f = find_some name i ds h in
        sound_push ds (born_as d (Some i) ds) s (record {
          free = free;
          under = λ p e. (
            f.device,
            subst (λ (j : ℕ). Live ds j f.device)
                (let q : i ≡ p = cc in q) f.live,
            up ∙ ap Some (sym f.named),
          );
          root = λ h. absurd (none-some i (sym h));
          hub = λ h. absurd (none-some i (sym h));
          controller = λ p e h at.
              let same : i ≡ p = cc in
              ap (λ (j : ℕ). Some (hub_under j (slice_get ds j))) same ∙ ap
              (λ (o : Option Device). Some (hub_under p o)) at;
          few = few;
        })

sound_plug : (d : NewDevice) (ds : List Device) → IsSound ds → IsSound (plugged d ds)
sound_plug d ds s = roomy (nat_lt (live_count ds) 65536) refl
  where
    free : live_count ds < 65536 → (o : Option ℕ) → find d.name 0 ds ≡ o → IsSound (plug_at o d ds)
    free few None h = sound_placed d (parent_of d.name) ds refl few s (find_none d.name 0 ds h)
    free few (Some i) h = s

    roomy : (b : Bool) → nat_lt (live_count ds) 65536 ≡ b
        → IsSound (cond b (plug_at (find d.name 0 ds) d ds) ds)
    roomy true h = free (ltb-true (live_count ds) 65536 h) (find d.name 0 ds) refl
    roomy false h = s

sound_moved : (m : Move) (ds : List Device) → IsSound ds → IsSound (moved m ds)
sound_moved (Plug d) ds s = sound_plug d ds s
sound_moved (Unplug name) ds s = sound_unplug (find name 0 ds) ds s
sound_moved (Iface change) ds s = s

pub sound_happen : (n : ℕ) (after : Bool) (ms : List Scheduled) (ds : List Device) → IsSound ds
    → IsSound (happen n after ms ds).1
sound_happen n after [] ds s = s
sound_happen n after (m ∷ ms) ds s =
    elim (due n after m) as
    (λ b. IsSound (cond b (happen n after ms (moved m.action ds)) (m ∷ ms, ds)).1) [
      | true ↦ sound_happen n after ms (moved m.action ds) (sound_moved m.action ds s)
      | false ↦ s
    ]

sound_all : (ms : List Scheduled) (ds : List Device) → IsSound ds → IsSound (happen_all ms ds)
sound_all [] ds s = s
sound_all (m ∷ ms) ds s = sound_all ms (moved m.action ds) (sound_moved m.action ds s)

pub plugged_sound : (d : NewDevice) (k : Kernel) → IsKernel k
    → IsKernel (record k { devices = plugged d k.devices })
plugged_sound d k s =
    kernel_moves k (record k { devices = plugged d k.devices }) s (plugged_moves d k)
    (sound_plug d k.devices s.devices)

pub unplugged_sound : (name : List ℕ) (k : Kernel) → IsKernel k
    → IsKernel (record k { devices = unplugged name k.devices })
unplugged_sound name k s =
    kernel_moves k (record k { devices = unplugged name k.devices }) s (unplugged_moves name k)
    (sound_unplug (find name 0 k.devices) k.devices s.devices)

pub moved_sound : (m : Move) (k : Kernel) → IsKernel k
    → IsKernel (record k { devices = moved m k.devices })
moved_sound m k s =
    kernel_moves k (record k { devices = moved m k.devices }) s (moved_moves m k)
    (sound_moved m k.devices s.devices)

pub happened_sound : (ms : List Scheduled) (k : Kernel) → IsKernel k
    → IsKernel (record k { devices = happen_all ms k.devices })
happened_sound ms k s =
    kernel_moves k (record k { devices = happen_all ms k.devices }) s (happened_moves ms k)
    (sound_all ms k.devices s.devices)

-- a kernel without devices
pub new_sound : IsKernel (record { devices = []; held = []; log = [] })
new_sound = record {
  devices = record {
    names = λ i j d e a b h. absurd (none-some d a.at);
    below = λ i p d a h. absurd (none-some d a);
    parents = λ i p d a h. absurd (none-some d a.at);
    named = λ i p d e a h b. absurd (none-some d a);
    roots = λ i d a h. absurd (none-some d a);
    hubs = λ i d a h. absurd (none-some d a);
    controllers = λ i p d e a h b. absurd (none-some d a);
    few = omega arith;
  };
  held = λ h f a. absurd (none-some f a);
  files = λ h f d a at. absurd (none-some f a);
}

-- The moves of a script are moves.
use Rattle.std.proofs.Common.{◌≡◌, ℕ, Bool, true, false, ◌||◌, nat_lt, cond, List, [], ◌∷◌, ◌++◌, take, drop, Option, Some, None, refl, sym, ◌∙◌, ap, subst, append_assoc, zero, suc, ◌+◌, ◌≤◌, length, length-append, inl, inr, arith}
use Rattle.std.proofs.lemmas.Option.{slice_get_within}
use Rattle.std.specs.List.{slice_get}
use Rattle.std.proofs.lemmas.List.{append-nil, take-append-drop}
use Rattle.ug_types.specs.Names.{parent_of}
use Rattle.ug_kernel.specs.declared.device.Device.{Device}
use Rattle.ug_kernel.specs.Kernel.{Kernel, live_count, Moved, BeginsWith, Moves, StartsUnset, default_in, is_off}
use Rattle.ug_kernel.proofs.Places.{at_push}
use Rattle.ug_kernel.proofs.Births.{moves_then}
use Rattle.ug_kernel.proofs.Stayed.{begins, begins_then, begins_more, begins_at, unmoving}
use Rattle.ug_sysfs.specs.declared.script.NewDevice.{NewDevice}
use Rattle.ug_sysfs.specs.declared.script.Move.{Move}
use Rattle.ug_sysfs.specs.declared.script.Move.TheVariants.{Plug, Unplug, Iface}
use Rattle.ug_sysfs.specs.declared.script.Scheduled.{Scheduled}
use Rattle.ug_sysfs.specs.Devices.{controller_under, controller_default, starts_on, born_with, born_as, born, find, felled, fall, unplug_at, unplugged, born_under, placed, plug_at, plugged}
use Rattle.ug_sysfs.specs.World.{moved, due, happen, happen_all}

or_true : (b c : Bool) → b ≡ true → b || c ≡ true
or_true b c h = rw h refl

moved_felled : (target : ℕ) (bs : List Device) (d : Device) → Moved d (felled target bs d)
moved_felled target bs d =
    record {
      stays = record {
        name = refl;
        parent = refl;
        controller = refl;
        descriptors = refl;
        product = refl;
        serial = refl;
        connect = refl;
        born_off = refl;
        gone = λ h. or_true d.gone _ h;
      };
      on = refl;
      default = refl;
    }

begins_fall : (target : ℕ) (bs ds : List Device) → BeginsWith (bs ++ ds) (fall target bs ds)
begins_fall target bs [] = rw append-nil (begins bs)
begins_fall target bs (d ∷ ds) =
    let more : BeginsWith ((bs ++ felled target bs d ∷ []) ++ ds) (fall target bs (d ∷ ds)) =
    begins_fall target (bs ++ felled target bs d ∷ []) ds in
    begins_then _ _ _ (begins_at bs d (felled target bs d) ds (moved_felled target bs d))
    (rw append_assoc at more)

pub begins_unplug : (o : Option ℕ) (ds : List Device) → BeginsWith ds (unplug_at o ds)
begins_unplug None ds = begins ds
begins_unplug (Some i) ds =
    subst (λ (x : List Device). BeginsWith x (fall i (take i ds) (drop i ds)))
    (take-append-drop i ds)
    (begins_fall i (take i ds) (drop i ds))

begins_under : (d : NewDevice) (o : Option ℕ) (ds : List Device) → BeginsWith ds (born_under d o ds)
begins_under d None ds = begins ds
begins_under d (Some i) ds = begins_more ds _

begins_placed : (d : NewDevice) (o : Option (List ℕ)) (ds : List Device)
    → BeginsWith ds (placed d o ds)
begins_placed d None ds = begins_more ds _
begins_placed d (Some name) ds = begins_under d (find name 0 ds) ds

begins_plug_at : (o : Option ℕ) (d : NewDevice) (ds : List Device) → BeginsWith ds (plug_at o d ds)
begins_plug_at None d ds = begins_placed d (parent_of d.name) ds
begins_plug_at (Some i) d ds = begins ds

begins_plug : (d : NewDevice) (ds : List Device) → BeginsWith ds (plugged d ds)
begins_plug d ds =
    elim (nat_lt (live_count ds) 65536) as
    (λ b. BeginsWith ds (cond b (plug_at (find d.name 0 ds) d ds) ds)) [
      | true ↦ begins_plug_at (find d.name 0 ds) d ds
      | false ↦ begins ds
    ]

begins_moved : (m : Move) (ds : List Device) → BeginsWith ds (moved m ds)
begins_moved (Plug d) ds = begins_plug d ds
begins_moved (Unplug name) ds = begins_unplug (find name 0 ds) ds
begins_moved (Iface change) ds = begins ds

pub begins_happen : (n : ℕ) (after : Bool) (ms : List Scheduled) (ds : List Device)
    → BeginsWith ds (happen n after ms ds).1
begins_happen n after [] ds = begins ds
begins_happen n after (m ∷ ms) ds =
    elim (due n after m) as
    (λ b. BeginsWith ds (cond b (happen n after ms (moved m.action ds)) (m ∷ ms, ds)).1) [
      | true ↦ begins_then _ _ _ (begins_moved m.action ds)
          (begins_happen n after ms (moved m.action ds))
      | false ↦ begins ds
    ]

pub begins_all : (ms : List Scheduled) (ds : List Device) → BeginsWith ds (happen_all ms ds)
begins_all [] ds = begins ds
begins_all (m ∷ ms) ds =
    begins_then _ _ _ (begins_moved m.action ds) (begins_all ms (moved m.action ds))

-- how devices start

starts_with : (ds es : List Device) (d : NewDevice) (p c : Option ℕ)
    → ((r : ℕ) → c ≡ Some r → default_in (slice_get es r) ≡ default_in (slice_get ds r))
    → StartsUnset es (born_with d p c (controller_default c ds))
starts_with ds es d p None same = (refl, refl)
starts_with ds es d p (Some r) same = (
  refl,
  record {
    born_off = ap is_off (sym (same r refl));
    on = λ v e. ap (λ (o : Option Bool). starts_on o d.on) (sym (same r refl) ∙ e);
  },
)

-- one more has no default
same_default : (ds : List Device) (x : Device) (r : ℕ) → x.default ≡ None
    → default_in (slice_get (ds ++ x ∷ []) r) ≡ default_in (slice_get ds r)
same_default [] x zero e = e
same_default [] x (suc r) e = refl
same_default (d ∷ ds) x zero e = refl
same_default (d ∷ ds) x (suc r) e = same_default ds x r e

born_starts : (d : NewDevice) (p : Option ℕ) (ds : List Device) (i : ℕ) (e : Device)
    → slice_get (born d p ds) i ≡ Some e → length ds ≤ i → StartsUnset (born d p ds) e
born_starts d p ds i e at le = elim (at_push ds (born_as d p ds) i e at) [
  | inl q ↦ absurd (omega (arith, le, q.0))
  | inr q ↦
      let c = controller_under p ds in
      subst (λ (x : Device). StartsUnset (born d p ds) x) q.1
      (starts_with ds (born d p ds) d p c (λ r h. same_default ds (born_as d p ds) r refl))
]

none_born : (ds : List Device) (i : ℕ) (e : Device) → slice_get ds i ≡ Some e → length ds ≤ i
    → StartsUnset ds e
none_born ds i e at le = absurd (omega (arith, le, slice_get_within ds i e at))

abbrev AreBorn : List Device → List Device → Type 0
AreBorn ds es = (i : ℕ) (e : Device) → slice_get es i ≡ Some e → length ds ≤ i → StartsUnset es e

under_starts : (d : NewDevice) (o : Option ℕ) (ds : List Device) → AreBorn ds (born_under d o ds)
under_starts d None ds = none_born ds
under_starts d (Some i) ds = born_starts d (Some i) ds

placed_starts : (d : NewDevice) (o : Option (List ℕ)) (ds : List Device)
    → AreBorn ds (placed d o ds)
placed_starts d None ds = born_starts d None ds
placed_starts d (Some name) ds = under_starts d (find name 0 ds) ds

plug_starts_at : (o : Option ℕ) (d : NewDevice) (ds : List Device) → AreBorn ds (plug_at o d ds)
plug_starts_at None d ds = placed_starts d (parent_of d.name) ds
plug_starts_at (Some i) d ds = none_born ds

plug_starts : (d : NewDevice) (ds : List Device) → AreBorn ds (plugged d ds)
plug_starts d ds =
    elim (nat_lt (live_count ds) 65536) as
    (λ b. AreBorn ds (cond b (plug_at (find d.name 0 ds) d ds) ds)) [
      | true ↦ plug_starts_at (find d.name 0 ds) d ds
      | false ↦ none_born ds
    ]

pub length_fall : (target : ℕ) (bs ds : List Device)
    → length (fall target bs ds) ≡ length bs + length ds
length_fall target bs [] = omega arith
length_fall target bs (d ∷ ds) =
    omega (
      arith,
      length_fall target (bs ++ felled target bs d ∷ []) ds,
      length-append bs
          (felled target bs d ∷ []),
    )

unplug_starts : (o : Option ℕ) (ds : List Device) → AreBorn ds (unplug_at o ds)
unplug_starts None ds i e at le = none_born ds i e at le
unplug_starts (Some n) ds i e at le =
    absurd (omega (
      arith,
      le,
      slice_get_within (unplug_at (Some n) ds) i e at,
      length_fall n (take n ds)
          (drop n ds),
      ap length (take-append-drop n ds),
      length-append (take n ds) (drop n ds),
    ))

pub plugged_moves : (d : NewDevice) (k : Kernel)
    → Moves k (record k { devices = plugged d k.devices })
plugged_moves d k =
    record {
      devices = begins_plug d k.devices;
      born = plug_starts d k.devices;
      held = refl;
      log = refl;
    }

pub unplugged_moves : (name : List ℕ) (k : Kernel)
    → Moves k (record k { devices = unplugged name k.devices })
unplugged_moves name k =
    record {
      devices = begins_unplug (find name 0 k.devices) k.devices;
      born = unplug_starts (find name 0 k.devices) k.devices;
      held = refl;
      log = refl;
    }

pub moved_moves : (m : Move) (k : Kernel) → Moves k (record k { devices = moved m k.devices })
moved_moves (Plug d) k = plugged_moves d k
moved_moves (Unplug name) k = unplugged_moves name k
moved_moves (Iface change) k = unmoving k

pub happen_moves : (n : ℕ) (after : Bool) (ms : List Scheduled) (k : Kernel)
    → Moves k (record k { devices = (happen n after ms k.devices).1 })
happen_moves n after [] k = unmoving k
happen_moves n after (m ∷ ms) k =
    elim (due n after m) as
    (λ b. Moves k
    (record k
    { devices = (cond b (happen n after ms (moved m.action k.devices)) (m ∷ ms, k.devices)).1 })) [
      | true ↦ moves_then k (record k { devices = moved m.action k.devices }) _
          (moved_moves m.action k)
          (happen_moves n after ms (record k { devices = moved m.action k.devices }))
      | false ↦ unmoving k
    ]

pub happened_moves : (ms : List Scheduled) (k : Kernel)
    → Moves k (record k { devices = happen_all ms k.devices })
happened_moves [] k = unmoving k
happened_moves (m ∷ ms) k =
    moves_then k (record k { devices = moved m.action k.devices }) _ (moved_moves m.action k)
    (happened_moves ms (record k { devices = moved m.action k.devices }))

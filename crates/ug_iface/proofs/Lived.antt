-- Interfaces that lived through, and what is known of one that was opened by its name.
use Rattle.std.proofs.Common.{◌≡◌, ℕ, ◌++◌, ◌∷◌, [], length, Some, slice_get, refl, sym, ◌∙◌, subst}
use Rattle.ug_kernel.specs.declared.device.Device.{Device}
use Rattle.ug_kernel.specs.Kernel.{Live}
use Rattle.ug_kernel.proofs.Quiet.{get_end}
use Rattle.ug_kernel.proofs.Grow.{some_same, quiet_grows}
use Rattle.ug_kernel.proofs.HeldFiles.{live_before}
use Rattle.ug_iface.specs.declared.interface.Interface.{Interface}
use Rattle.ug_iface.specs.declared.name.IfaceName.{IfaceName}
use Rattle.ug_iface.specs.declared.calls.IfaceOpened.TheVariants as opened
use Rattle.ug_iface.specs.Bus.{Bus, LiveIface, IsCalled, IsSoundBus, IfaceStays, IfaceMoved}
use Rattle.ug_iface.specs.Calls.{Open}
use Rattle.ug_iface.specs.Called.{LivedIface, IfaceCalled}
use Rattle.ug_iface.specs.Grows.{Still, BusGrows}
use Rattle.ug_iface.specs.Laws.{IsHeldOf}
use Rattle.ug_iface.proofs.Grow.{still_grows, still_trans, moves_still, opened_still, iface_before, one_of_name}

pub called_on : (b m : Bus) (name : IfaceName) (k : ℕ) (y z : Interface) → BusGrows b m → (p : LiveIface b k y) → IsCalled name p.d y → (q : LiveIface m k z) → IfaceStays y z → IsCalled name q.d z
called_on b m name k y z g p called q stays =
    let e = g.kernel.devices y.device p.d p.device.at in
    let there : slice_get m.kernel.devices y.device ≡ Some q.d = subst (λ (v : ℕ). slice_get m.kernel.devices v ≡ Some q.d) stays.device q.device.at in
    let same : e.0 ≡ q.d = some_same (slice_get m.kernel.devices y.device) e.0 q.d e.1 there in
    record {
      device = subst (λ (v : Device). v.name ≡ name.device) same (e.2.stays.name ∙ called.device);
      config = stays.config ∙ called.config;
      number = stays.number ∙ called.number;
    }

-- one that lived through both lived through each
pub iface_cut : (b m c : Bus) (name : IfaceName) (k : ℕ) (y : Interface) → IsSoundBus m → BusGrows b m → BusGrows m c → LivedIface b c name k y → LivedIface b m name k y × ((z : Interface) × LivedIface m c name k z × IfaceStays y z)
iface_cut b m c name k y sound g j lived =
    let a = g.interfaces k y lived.entry.at in
    let p = iface_before m c k a.0 lived.exit.0 sound j a.1 lived.exit.1 in (
      record { entry = lived.entry; exit = (a.0, p.0); called = lived.called },
      (a.0, record { entry = p.0; exit = lived.exit; called = called_on b m name k y a.0 g lived.entry lived.called p.0 a.2.stays }, a.2.stays),
    )

-- what is known of a file that was opened by the name, where the device i has that name at the start
pub record Knows (name : IfaceName) (i : ℕ) (b u : Bus) (file : ℕ) : Type 0 where
  pub j : ℕ
  pub x : Interface
  pub sound : IsSoundBus u
  pub still : Still b u
  pub held : slice_get u.files file ≡ Some j
  pub at : slice_get u.interfaces j ≡ Some x
  pub called : (p : LiveIface u j x) → IsCalled name p.d x
  pub owner : (d : Device) → Live u.kernel.devices i d → x.device ≡ i
  pub only : (k : ℕ) (y : Interface) → LivedIface b u name k y → k ≡ j

pub knows_on : (name : IfaceName) (held i : ℕ) (b u v : Bus) (file : ℕ) → IsHeldOf b.kernel name.device held i → (n : Knows name i b u file) → Still u v → IsSoundBus v → (m : Knows name i b v file) × (m.j ≡ n.j) × IfaceMoved n.x m.x
knows_on name held i b u v file own n s sound =
    let a = s.interfaces n.j n.x n.at in
    let g = still_grows u v s in
    let d = n.still.kernel.devices i own.d own.at in (
      record {
        j = n.j;
        x = a.0;
        sound = sound;
        still = still_trans b u v n.still s;
        held = s.files file n.j n.held;
        at = a.1;
        called = λ p. let q = iface_before u v n.j n.x a.0 n.sound g n.at p in called_on u v name n.j n.x a.0 g q.0 (n.called q.0) p q.1;
        owner = λ e live. a.2.stays.device ∙ n.owner d.0 (live_before u.kernel v.kernel i d.0 e (quiet_grows u.kernel v.kernel s.kernel) d.1 live).0;
        only = λ k y lived. n.only k y (iface_cut b u v name k y n.sound (still_grows b u n.still) g lived).0;
      },
      refl,
      a.2,
    )

-- what an opening tells
pub knows_opened : (name : IfaceName) (held i : ℕ) (b u : Bus) (file number count : ℕ) → IsHeldOf b.kernel name.device held i → IfaceCalled (Open name) (record { answer = opened.Token (record { 0 = file }); number = number; count = count }) b u → Knows name i b u file
knows_opened name held i b u file number count own call =
    let o = call.effect in
    let into = moves_still b call.before call.moves_before in
    let out : Still call.before u = still_trans call.before call.after u effect_still (moves_still call.after u call.moves_after) in
    let g = still_grows call.before u out in
    let a = out.interfaces o.i o.x o.live.at in
    let d = into.kernel.devices i own.d own.at in
    record {
      j = o.i;
      x = a.0;
      sound = call.sound;
      still = still_trans b call.before u into out;
      held = (moves_still call.after u call.moves_after).files file o.i opened_at;
      at = a.1;
      called = λ p. called_on call.before u name o.i o.x a.0 g o.live o.called p a.2.stays;
      owner = λ e live.
          let w = live_before call.before.kernel u.kernel i d.0 e (quiet_grows call.before.kernel u.kernel out.kernel) d.1 live in
          a.2.stays.device ∙ call.sound_before.kernel.devices.names o.x.device i o.live.d d.0 o.live.device w.0 (o.called.device ∙ sym (d.2.stays.name ∙ own.named));
      only = λ k y lived.
          let cut = iface_cut b call.before u name k y call.sound_before (still_grows b call.before into) g lived in
          let z = cut.1 in
          one_of_name call.before name k o.i z.0 o.x call.sound_before z.1.entry z.1.called o.live o.called;
    }
  where
    effect_still : Still call.before call.after
    effect_still = opened_still name file call.before call.after call.effect

    opened_at : slice_get call.after.files file ≡ Some call.effect.i
    opened_at =
        let o = call.effect in
        let end : slice_get (call.before.files ++ o.i ∷ []) (length call.before.files) ≡ Some o.i = get_end call.before.files o.i in
        subst (λ (v : Bus). slice_get v.files file ≡ Some o.i) (sym o.after) (subst (λ (h : ℕ). slice_get (call.before.files ++ o.i ∷ []) h ≡ Some o.i) (sym o.next) end)

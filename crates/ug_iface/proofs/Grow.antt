-- What each call leaves as it was.
use Rattle.std.proofs.Common.{◌≡◌, ℕ, zero, suc, Bool, true, false, ◌==◌, List, [], ◌∷◌, Some, slice_get, refl, sym, ◌∙◌, subst, arith}
use Rattle.ug_kernel.specs.Kernel.{Kernel, Live}
use Rattle.ug_kernel.specs.Quiet.{Quiet}
use Rattle.ug_kernel.proofs.Quiet.{get_left, quiet_refl, quiet_trans, moves_quiet}
use Rattle.ug_kernel.proofs.Grow.{some_same, quiet_grows}
use Rattle.ug_kernel.proofs.HeldFiles.{live_before}
use Rattle.ug_iface.specs.declared.interface.Interface.{Interface}
use Rattle.ug_iface.specs.declared.name.IfaceName.{IfaceName}
use Rattle.ug_iface.specs.declared.calls.IfaceOpened.{IfaceOpened}
use Rattle.ug_iface.specs.declared.calls.IfaceOpened.TheVariants as opened
use Rattle.ug_iface.specs.Bus.{Bus, LiveIface, IsCalled, IsSoundBus, IfaceStays, IfaceMoved, IfacesBegin, MovesBus}
use Rattle.ug_iface.specs.Calls.{IfaceCall, Names_of, Open, Read, Ask_device, Ask, Put_off, Close, IfaceAnswer}
use Rattle.ug_iface.specs.Called.{IsIfaceOpened, IsSwitchedOff, does_iface_open, IfaceDoes, IfaceCalled}
use Rattle.ug_iface.specs.Grows.{Still, IfaceKept, BusGrows}

stays_refl : (x : Interface) → IfaceStays x x
stays_refl x = record { device = refl; config = refl; number = refl; triple = refl; gone = λ g. g }

stays_trans : (x y z : Interface) → IfaceStays x y → IfaceStays y z → IfaceStays x z
stays_trans x y z h k = record {
  device = k.device ∙ h.device;
  config = k.config ∙ h.config;
  number = k.number ∙ h.number;
  triple = k.triple ∙ h.triple;
  gone = λ g. k.gone (h.gone g);
}

moved_trans : (x y z : Interface) → IfaceMoved x y → IfaceMoved y z → IfaceMoved x z
moved_trans x y z h k = record { stays = stays_trans x y z h.stays k.stays; on = k.on ∙ h.on }

kept_trans : (x y z : Interface) → IfaceKept x y → IfaceKept y z → IfaceKept x z
kept_trans x y z h k = record { stays = stays_trans x y z h.stays k.stays; off = λ e. k.off (h.off e) }

pub still_refl : (b : Bus) → Still b b
still_refl b = record { kernel = quiet_refl b.kernel; interfaces = λ i x e. (x, e, record { stays = stays_refl x; on = refl }); files = λ h i e. e; log = refl }

pub still_trans : (b c d : Bus) → Still b c → Still c d → Still b d
still_trans b c d h k = record {
  kernel = quiet_trans b.kernel c.kernel d.kernel h.kernel k.kernel;
  interfaces = λ i x e. let p = h.interfaces i x e in let q = k.interfaces i p.0 p.1 in (q.0, q.1, moved_trans x p.0 q.0 p.2 q.2);
  files = λ f i e. k.files f i (h.files f i e);
  log = k.log ∙ h.log;
}

pub still_grows : (b c : Bus) → Still b c → BusGrows b c
still_grows b c h = record {
  kernel = h.kernel;
  interfaces = λ i x e. let p = h.interfaces i x e in (p.0, p.1, record { stays = p.2.stays; off = λ o. p.2.on ∙ o });
  files = h.files;
}

pub grows_trans : (b c d : Bus) → BusGrows b c → BusGrows c d → BusGrows b d
grows_trans b c d h k = record {
  kernel = quiet_trans b.kernel c.kernel d.kernel h.kernel k.kernel;
  interfaces = λ i x e. let p = h.interfaces i x e in let q = k.interfaces i p.0 p.1 in (q.0, q.1, kept_trans x p.0 q.0 p.2 q.2);
  files = λ f i e. k.files f i (h.files f i e);
}

begins_get : (k : Kernel) (xs ys : List Interface) → IfacesBegin k xs ys → (i : ℕ) (x : Interface) → slice_get xs i ≡ Some x → (y : Interface) × (slice_get ys i ≡ Some y) × IfaceMoved x y
begins_get k [] ys h i x e = absurd (let none : ⊥ = cc in none)
begins_get k (z ∷ xs) [] h i x e = absurd h
begins_get k (z ∷ xs) (y ∷ ys) h zero x e = let same : z ≡ x = cc in (y, refl, subst (λ v. IfaceMoved v y) same h.0)
begins_get k (z ∷ xs) (y ∷ ys) h (suc i) x e = begins_get k xs ys h.1 i x e

pub moves_still : (b c : Bus) → MovesBus b c → Still b c
moves_still b c h = record {
  kernel = moves_quiet b.kernel c.kernel h.kernel;
  interfaces = begins_get b.kernel b.interfaces c.interfaces h.interfaces;
  files = λ f i e. subst (λ v. slice_get v f ≡ Some i) (sym h.files) e;
  log = h.log;
}

same_still : (b c : Bus) → c ≡ b → Still b c
same_still b c e = subst (λ v. Still b v) (sym e) (still_refl b)

pub opened_still : (name : IfaceName) (held : ℕ) (b c : Bus) → IsIfaceOpened name held b c → Still b c
opened_still name held b c o = subst (λ v. Still b v) (sym o.after) (record {
  kernel = quiet_refl b.kernel;
  interfaces = λ i x e. (x, e, record { stays = stays_refl x; on = refl });
  files = λ f i e. get_left b.files (o.i ∷ []) f i e;
  log = refl;
})

does_open_still : (name : IfaceName) (answer : IfaceOpened) (b c : Bus) → does_iface_open name answer b c → Still b c
does_open_still name (opened.Token held) b c h = opened_still name held.0 b c h
does_open_still name opened.Absent b c h = same_still b c h
does_open_still name opened.Failed b c h = same_still b c h
does_open_still name opened.Memory b c h = same_still b c h

-- any call but a write
abbrev pub WritesNothing : IfaceCall → Type 0
WritesNothing (Put_off held) = ⊥
WritesNothing (Names_of name) = Unit {0}
WritesNothing (Open name) = Unit {0}
WritesNothing (Read name) = Unit {0}
WritesNothing (Ask_device held) = Unit {0}
WritesNothing (Ask held) = Unit {0}
WritesNothing (Close held) = Unit {0}

does_still : (call : IfaceCall) (answer : IfaceAnswer call) (b c : Bus) → WritesNothing call → IfaceDoes call answer b c → Still b c
does_still (Put_off held) answer b c w h = absurd w
does_still (Names_of name) answer b c w h = same_still b c h
does_still (Open name) answer b c w h = does_open_still name answer.answer b c h
does_still (Read name) answer b c w h = same_still b c h
does_still (Ask_device held) answer b c w h = same_still b c h
does_still (Ask held) answer b c w h = same_still b c h
does_still (Close held) answer b c w h = same_still b c h

pub called_still : (call : IfaceCall) (answer : IfaceAnswer call) (b c : Bus) → WritesNothing call → IfaceCalled call answer b c → Still b c
called_still call answer b c w h =
    still_trans b h.before c (moves_still b h.before h.moves_before)
    (still_trans h.before h.after c (does_still call answer h.before h.after w h.effect) (moves_still h.after c h.moves_after))

-- ---- a write

off_get : (held : ℕ) (b c : Bus) (w : IsSwitchedOff held b c) (i : ℕ) (x : Interface) (own : Bool) → own ≡ (i == w.i) → slice_get b.interfaces i ≡ Some x → (y : Interface) × (slice_get c.interfaces i ≡ Some y) × IfaceKept x y
off_get held b c w i x true test at =
    let is : i ≡ w.i = grind arith in
    let same : w.x ≡ x = some_same (slice_get b.interfaces w.i) w.x x w.live.at (subst (λ v. slice_get b.interfaces v ≡ Some x) is at) in
    let kept : IfaceKept w.x (record w.x { on = false }) = record { stays = record { device = refl; config = refl; number = refl; triple = refl; gone = λ g. g }; off = λ o. refl } in
    (record w.x { on = false }, subst (λ v. slice_get c.interfaces v ≡ Some (record w.x { on = false })) (sym is) w.now, subst (λ v. IfaceKept v (record w.x { on = false })) same kept)
off_get held b c w i x false test at =
    let apart : i ≡ w.i → ⊥ = λ e. let none : ⊥ = grind arith in none in
    (x, w.others i apart ∙ at, record { stays = stays_refl x; off = λ o. o })

pub off_grows : (held : ℕ) (b c : Bus) → IsSwitchedOff held b c → BusGrows b c
off_grows held b c w = record {
  kernel = subst (λ (v : Kernel). Quiet b.kernel v) (sym w.kernel) (quiet_refl b.kernel);
  interfaces = λ i x. off_get held b c w i x (i == w.i) refl;
  files = λ f i e. subst (λ (v : List ℕ). slice_get v f ≡ Some i) (sym w.files) e;
}

-- ---- what lived

was_live : (was now : Bool) → (was ≡ true → now ≡ true) → now ≡ false → was ≡ false
was_live true now f h = let x = f refl in cc
was_live false now f h = refl

-- what is live was so before, if it was there
pub iface_before : (b c : Bus) (i : ℕ) (x y : Interface) → IsSoundBus b → BusGrows b c → slice_get b.interfaces i ≡ Some x → LiveIface c i y → LiveIface b i x × IfaceStays x y
iface_before b c i x y s g at live =
    let p = g.interfaces i x at in
    let same : p.0 ≡ y = some_same (slice_get c.interfaces i) p.0 y p.1 live.at in
    let stays : IfaceStays x y = subst (λ v. IfaceStays x v) same p.2.stays in
    let d = s.born i x at in
    let there : Live c.kernel.devices x.device live.d = subst (λ (v : ℕ). Live c.kernel.devices v live.d) stays.device live.device in
    (record { at = at; here = was_live x.gone y.gone stays.gone live.here; d = d.0; device = (live_before b.kernel c.kernel x.device d.0 live.d (quiet_grows b.kernel c.kernel g.kernel) d.1 there).0 }, stays)

-- a live interface is called what its device's name and its own numbers say, and there is one of a name
pub one_of_name : (b : Bus) (name : IfaceName) (i j : ℕ) (x y : Interface) → IsSoundBus b → (p : LiveIface b i x) → IsCalled name p.d x → (q : LiveIface b j y) → IsCalled name q.d y → i ≡ j
one_of_name b name i j x y s p h q k =
    s.apart i j x y p q (s.kernel.devices.names x.device y.device p.d q.d p.device q.device (h.device ∙ sym k.device)) (h.config ∙ sym k.config) (h.number ∙ sym k.number)

-- Calls that write nothing are quiet.
use Rattle.std.proofs.Common.{◌≡◌, ℕ, zero, suc, List, [], ◌∷◌, ◌++◌, Some, length, slice_get, refl, sym, ◌∙◌, subst}
use Rattle.ug_kernel.specs.declared.device.Device.{Device}
use Rattle.ug_kernel.specs.declared.control.Control.{Control}
use Rattle.ug_kernel.specs.declared.calls.Opened.{Opened}
use Rattle.ug_kernel.specs.declared.calls.Opened.TheVariants as opened
use Rattle.ug_kernel.specs.Calls.{Call, Names, Open, Read, Ask_alive, Put, Close, Answer}
use Rattle.ug_kernel.specs.Kernel.{Kernel, Stays, Moved, BeginsWith, Moves}
use Rattle.ug_kernel.specs.Called.{does_open, DoesCall, IsOpened, Called}
use Rattle.ug_kernel.specs.Quiet.{Quiet}

pub get_left : {X : Type 0} (xs ys : List X) (i : ℕ) (x : X) → slice_get xs i ≡ Some x → slice_get (xs ++ ys) i ≡ Some x
get_left [] ys i x h = cc
get_left (y ∷ xs) ys zero x h = h
get_left (y ∷ xs) ys (suc i) x h = get_left xs ys i x h

pub get_end : {X : Type 0} (xs : List X) (x : X) → slice_get (xs ++ x ∷ []) (length xs) ≡ Some x
get_end [] x = refl
get_end (y ∷ xs) x = get_end xs x

pub stays_refl : (d : Device) → Stays d d
stays_refl d = record { name = refl; parent = refl; controller = refl; descriptors = refl; product = refl; serial = refl; connect = refl; born_off = refl; gone = λ g. g }

pub stays_trans : (a b c : Device) → Stays a b → Stays b c → Stays a c
stays_trans a b c h k = record {
  name = k.name ∙ h.name;
  parent = k.parent ∙ h.parent;
  controller = k.controller ∙ h.controller;
  descriptors = k.descriptors ∙ h.descriptors;
  product = k.product ∙ h.product;
  serial = k.serial ∙ h.serial;
  connect = k.connect ∙ h.connect;
  born_off = k.born_off ∙ h.born_off;
  gone = λ g. k.gone (h.gone g);
}

moved_refl : (d : Device) → Moved d d
moved_refl d = record { stays = stays_refl d; on = refl; default = refl }

moved_trans : (a b c : Device) → Moved a b → Moved b c → Moved a c
moved_trans a b c h k = record { stays = stays_trans a b c h.stays k.stays; on = k.on ∙ h.on; default = k.default ∙ h.default }

pub quiet_refl : (k : Kernel) → Quiet k k
quiet_refl k = record { devices = λ i d e. (d, e, moved_refl d); held = λ h f e. e; log = refl }

pub quiet_trans : (k l m : Kernel) → Quiet k l → Quiet l m → Quiet k m
quiet_trans k l m h j = record {
  devices = λ i d e. let a = h.devices i d e in let b = j.devices i a.0 a.1 in (b.0, b.1, moved_trans d a.0 b.0 a.2 b.2);
  held = λ f x e. j.held f x (h.held f x e);
  log = j.log ∙ h.log;
}

begins_get : (ds es : List Device) → BeginsWith ds es → (i : ℕ) (d : Device) → slice_get ds i ≡ Some d → (e : Device) × (slice_get es i ≡ Some e) × Moved d e
begins_get [] es h i d e = absurd (let none : ⊥ = cc in none)
begins_get (x ∷ ds) [] h i d e = absurd h
begins_get (x ∷ ds) (y ∷ es) h zero d e = let same : x ≡ d = cc in (y, refl, subst (λ v. Moved v y) same h.0)
begins_get (x ∷ ds) (y ∷ es) h (suc i) d e = begins_get ds es h.1 i d e

pub moves_quiet : (k l : Kernel) → Moves k l → Quiet k l
moves_quiet k l h = record {
  devices = begins_get k.devices l.devices h.devices;
  held = λ f x e. subst (λ v. slice_get v f ≡ Some x) (sym h.held) e;
  log = h.log;
}

same_quiet : (k l : Kernel) → l ≡ k → Quiet k l
same_quiet k l e = subst (λ v. Quiet k v) (sym e) (quiet_refl k)

pub opened_quiet : (name : List ℕ) (control : Control) (held : ℕ) (k l : Kernel) → IsOpened name control held k l → Quiet k l
opened_quiet name control held k l o = record {
  devices = λ i d e. (d, subst (λ v. slice_get v i ≡ Some d) (sym o.devices) e, moved_refl d);
  held = λ f x e. subst (λ v. slice_get v f ≡ Some x) (sym o.more) (get_left k.held (record { device = o.i; control = control } ∷ []) f x e);
  log = o.log;
}

does_open_quiet : (name : List ℕ) (control : Control) (answer : Opened) (k l : Kernel) → does_open name control answer k l → Quiet k l
does_open_quiet name control (opened.Token held) k l h = opened_quiet name control held.0 k l h
does_open_quiet name control answer k l h = same_quiet k l h

-- any call but a write
abbrev pub WritesNothing : Call → Type 0
WritesNothing Names = Unit {0}
WritesNothing (Open name control) = Unit {0}
WritesNothing (Read name attr) = Unit {0}
WritesNothing (Ask_alive held) = Unit {0}
WritesNothing (Put held write) = ⊥
WritesNothing (Close held) = Unit {0}

pub does_quiet : (call : Call) (answer : Answer call) (k l : Kernel) → WritesNothing call → DoesCall call answer k l → Quiet k l
does_quiet Names answer k l w h = same_quiet k l h
does_quiet (Open name control) answer k l w h = does_open_quiet name control answer.answer k l h
does_quiet (Read name attr) answer k l w h = same_quiet k l h
does_quiet (Ask_alive held) answer k l w h = same_quiet k l h
does_quiet (Put held write) answer k l w h = absurd w
does_quiet (Close held) answer k l w h = same_quiet k l h

pub called_quiet : (call : Call) (answer : Answer call) (k l : Kernel) → WritesNothing call → Called call answer k l → Quiet k l
called_quiet call answer k l w h =
    quiet_trans k h.before l (moves_quiet k h.before h.moves_before)
    (quiet_trans h.before h.after l (does_quiet call answer h.before h.after w h.effect) (moves_quiet h.after l h.moves_after))

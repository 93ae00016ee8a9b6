-- Trees that are alike make the same calls, whatever numbers the answers bear; over a kernel that stands still, so are the ends of
-- their runs.
use Rattle.std.proofs.Common.{◌≡◌, ℕ, Bool, true, cond, List, [], ◌∷◌, ◌++◌, Some, refl, sym, ◌∙◌, ap, subst}
use Rattle.std.specs.List.{slice_get}
use Rattle.ug_kernel.specs.declared.control.Control.{Control}
use Rattle.ug_kernel.specs.declared.control.Attr.{Attr}
use Rattle.ug_kernel.specs.declared.control.Write.{Write}
use Rattle.ug_kernel.specs.declared.device.Device.{Device}
use Rattle.ug_kernel.specs.declared.device.HeldFile.{HeldFile}
use Rattle.ug_kernel.specs.declared.calls.Opened.{Opened}
use Rattle.ug_kernel.specs.declared.calls.ReadOut.{ReadOut}
use Rattle.ug_kernel.specs.declared.calls.Probe.{Probe}
use Rattle.ug_kernel.specs.declared.calls.Wrote.{Wrote}
use Rattle.ug_kernel.specs.declared.calls.FailedCall.{FailedCall}
use Rattle.ug_kernel.specs.Along.{failure}
use Rattle.ug_kernel.specs.Calls.{Call, Answer, Names, Open, Read, Ask_alive, Put, Close, failed_open, failed_read, is_probe_failed, failed_put}
use Rattle.ug_kernel.specs.Kernel.{Kernel, Live, IsKernel}
use Rattle.ug_kernel.specs.Called.{IsOpened, IsWritten, does_put, does_open, says_open, says_read, says_probe, says_put, read_of, IsAlive, IsGoneAt, Lived}
use Rattle.ug_kernel.specs.Tree.{Prog, Return, Ask, Room, then}
use Rattle.ug_kernel.proofs.Grow.{some_same}
use Rattle.ug_hint_laws.specs.Compared.{IsStill, IsGranted}
use Rattle.ug_hint_laws.proofs.Still.{kernel_same, after_write_of, written_is}

-- a live device has the name
pub record Lives (k : Kernel) (name : List ℕ) : Type 0 where
  pub i : ℕ
  pub d : Device
  pub live : Live k.devices i d
  pub named : d.name ≡ name

-- the answers are one, their numbers aside
abbrev pub IsSame : (call : Call) → Answer call → Answer call → Type 0
IsSame Names a b = Unit {0}
IsSame (Open name control) a b = a.answer ≡ b.answer
IsSame (Read name attr) a b = a.answer ≡ b.answer
IsSame (Ask_alive held) a b = a.answer ≡ b.answer
IsSame (Put held what) a b = a.answer ≡ b.answer
IsSame (Close held) a b = Unit {0}

-- a call whose answer is fixed where the kernel stands still: what is read is a live device's
abbrev pub IsFixed : (List ℕ → Type 0) → Call → Type 0
IsFixed P Names = ⊥
IsFixed P (Open name control) = Unit {0}
IsFixed P (Read name attr) = P name
IsFixed P (Ask_alive held) = Unit {0}
IsFixed P (Put held what) = Unit {0}
IsFixed P (Close held) = Unit {0}

pub record IsGood (call : Call) (told : Answer call) : Type 0 where
  pub calm : failure call told ≡ []
  pub granted : IsGranted call told

pub data Alike (P : List ℕ → Type 0) {A B : Type 0} (R : A → B → Type 0) : Prog A → Prog B → Type 0 where
  Ends : (a : A) (b : B) → R a b → Alike P R (Return a) (Return b)
  Asks : (call : Call) (next : Answer call → Prog A) (other : Answer call → Prog B) → IsFixed P call → ((a b : Answer call) → IsSame call a b → IsGood call a → IsGood call b → Alike P R (next a) (other b)) → Alike P R (Ask call next) (Ask call other)
  Rooms : (next : Bool → Prog A) (other : Bool → Prog B) → Alike P R (next true) (other true) → Alike P R (Room next) (Room other)

then_by : {P : List ℕ → Type 0} {A B C D : Type 0} (S : A → B → Type 0) (R : C → D → Type 0) {p : Prog A} {q : Prog B} (f : A → Prog C) (g : B → Prog D) → Alike P S p q → ((a : A) (b : B) → S a b → Alike P R (f a) (g b)) → Alike P R (then p f) (then q g)
then_by S R f g (Ends a b s) h = h a b s
then_by S R f g (Asks call next other fixed x) h = Asks call (λ a. then (next a) f) (λ b. then (other b) g) fixed (λ a b same good fine. then_by S R f g (x a b same good fine) h)
then_by S R f g (Rooms next other x) h = Rooms (λ a. then (next a) f) (λ b. then (other b) g) (then_by S R f g x h)

pub alike_then : {P : List ℕ → Type 0} {A B C D : Type 0} (S : A → B → Type 0) (R : C → D → Type 0) (p : Prog A) (q : Prog B) (f : A → Prog C) (g : B → Prog D) → Alike P S p q → ((a : A) (b : B) → S a b → Alike P R (f a) (g b)) → Alike P R (then p f) (then q g)
alike_then S R p q f g x h = then_by S R f g x h

-- a call over a kernel that stands still has one answer, and one effect

pub record Once (call : Call) (a b : Answer call) (l m : Kernel) : Type 0 where
  pub answer : IsSame call a b
  pub kernel : m ≡ l

stay : (k l m : Kernel) → l ≡ k → m ≡ k → m ≡ l
stay k l m e f = f ∙ sym e

-- openings

opened_once : (name : List ℕ) (control : Control) (held file : ℕ) (k l m : Kernel) → IsKernel k → IsOpened name control held k l → IsOpened name control file k m → (held ≡ file) × (m ≡ l)
opened_once name control held file k l m s a b =
    let same : b.i ≡ a.i = s.devices.names b.i a.i b.d a.d b.live a.live (b.named ∙ sym a.named) in (
      a.next ∙ sym b.next,
      kernel_same m l (b.devices ∙ sym a.devices)
          (b.more ∙ ap (λ (i : ℕ). k.held ++ record { device = i; control = control } ∷ []) same ∙ sym a.more)
          (b.log ∙ sym a.log),
    )

open_not : (name : List ℕ) (control : Control) (held : ℕ) (k l m : Kernel) → IsOpened name control held k l → m ≡ k → says_open control name Opened.Absent k m → ⊥
open_not name control held k l m o e none =
    let live : Live m.devices o.i o.d = subst (λ (v : Kernel). Live v.devices o.i o.d) (sym e) o.live in
    none o.i o.d (record { entry = o.live; exit = (o.d, live) }) o.named o.has

open_once : (name : List ℕ) (control : Control) (a b : Opened) (f g : FailedCall) (k l m : Kernel) → IsKernel k
    → does_open name control a k l → says_open control name a k l → cond (failed_open a) (f ∷ []) [] ≡ [] → (a ≡ Opened.Memory → ⊥)
    → does_open name control b k m → says_open control name b k m → cond (failed_open b) (g ∷ []) [] ≡ [] → (b ≡ Opened.Memory → ⊥)
    → (a ≡ b) × (m ≡ l)
open_once name control Opened.Failed b f g k l m s x y calm granted z w cool given = let none : ⊥ = cc in absurd none
open_once name control Opened.Memory b f g k l m s x y calm granted z w cool given = absurd (granted refl)
open_once name control (Opened.Token held) Opened.Failed f g k l m s x y calm granted z w cool given = let none : ⊥ = cc in absurd none
open_once name control (Opened.Token held) Opened.Memory f g k l m s x y calm granted z w cool given = absurd (given refl)
open_once name control (Opened.Token held) (Opened.Token file) f g k l m s x y calm granted z w cool given =
    let o = opened_once name control held.0 file.0 k l m s x z in
    (ap (λ (n : ℕ). Opened.Token (record { 0 = n })) o.0, o.1)
open_once name control (Opened.Token held) Opened.Absent f g k l m s x y calm granted z w cool given = absurd (open_not name control held.0 k l m x z w)
open_once name control Opened.Absent Opened.Failed f g k l m s x y calm granted z w cool given = let none : ⊥ = cc in absurd none
open_once name control Opened.Absent Opened.Memory f g k l m s x y calm granted z w cool given = absurd (given refl)
open_once name control Opened.Absent (Opened.Token held) f g k l m s x y calm granted z w cool given = absurd (open_not name control held.0 k m l z x y)
open_once name control Opened.Absent Opened.Absent f g k l m s x y calm granted z w cool given = (refl, stay k l m x z)

-- readings

file_is : (name : List ℕ) (attr : Attr) (answer : ReadOut) (f : FailedCall) (k l : Kernel) (o : Lives k name) → l ≡ k → says_read name attr answer k l → cond (failed_read answer) (f ∷ []) [] ≡ [] → (answer ≡ ReadOut.Memory → ⊥) → answer ≡ read_of attr o.d
file_is name attr answer f k l o e says calm granted =
    let live : Live l.devices o.i o.d = subst (λ (v : Kernel). Live v.devices o.i o.d) (sym e) o.live in
    by answer says calm granted (record { entry = o.live; exit = (o.d, live) })
  where
    by : (r : ReadOut) → says_read name attr r k l → cond (failed_read r) (f ∷ []) [] ≡ [] → (r ≡ ReadOut.Memory → ⊥) → Lived k.devices l.devices o.i o.d → r ≡ read_of attr o.d
    by (ReadOut.Bytes bytes) w c g lived = w o.i o.d lived o.named
    by ReadOut.Absent w c g lived = w o.i o.d lived o.named
    by ReadOut.TooLong w c g lived = w o.i o.d lived o.named
    by ReadOut.Failed w c g lived = let none : ⊥ = cc in absurd none
    by ReadOut.Memory w c g lived = absurd (g refl)

-- probes

alive_same : (held : ℕ) (on off : Bool) (k : Kernel) → IsAlive held on k → IsAlive held off k → on ≡ off
alive_same held on off k a b =
    let file : a.holds.file ≡ b.holds.file = some_same (slice_get k.held held) a.holds.file b.holds.file a.holds.at b.holds.at in
    let is : a.i ≡ b.i = sym a.holds.is ∙ ap (λ (v : HeldFile). v.device) file ∙ b.holds.is in
    let d : a.d ≡ b.d = some_same (slice_get k.devices b.i) a.d b.d (subst (λ (i : ℕ). slice_get k.devices i ≡ Some a.d) is a.live.at) b.live.at in
    sym a.value ∙ ap (λ (v : Device). v.on) d ∙ b.value

gone_not : (held : ℕ) (on : Bool) (k l : Kernel) → l ≡ k → IsAlive held on k → IsGoneAt held l → ⊥
gone_not held on k l e a gone = subst (λ (v : Kernel). IsGoneAt held v) e gone a.i a.d a.holds a.live

probe_once : (held : ℕ) (a b : Probe) (f g : FailedCall) (k l m : Kernel) → l ≡ k → m ≡ k → says_probe held a k l → cond (is_probe_failed a) (f ∷ []) [] ≡ [] → says_probe held b k m → cond (is_probe_failed b) (g ∷ []) [] ≡ [] → a ≡ b
probe_once held Probe.Failed b f g k l m d e x calm y cool = let none : ⊥ = cc in absurd none
probe_once held (Probe.Alive on) Probe.Failed f g k l m d e x calm y cool = let none : ⊥ = cc in absurd none
probe_once held (Probe.Alive on) (Probe.Alive off) f g k l m d e x calm y cool = ap Probe.Alive (alive_same held on off k x y)
probe_once held (Probe.Alive on) Probe.Gone f g k l m d e x calm y cool = absurd (gone_not held on k m e x y)
probe_once held Probe.Gone Probe.Failed f g k l m d e x calm y cool = let none : ⊥ = cc in absurd none
probe_once held Probe.Gone (Probe.Alive on) f g k l m d e x calm y cool = absurd (gone_not held on k l d y x)
probe_once held Probe.Gone Probe.Gone f g k l m d e x calm y cool = refl

-- writes

written_once : (held : ℕ) (what : Write) (k l m : Kernel) → IsWritten held what k l → IsWritten held what k m → m ≡ l
written_once held what k l m a b =
    let file : b.holds.file ≡ a.holds.file = some_same (slice_get k.held held) b.holds.file a.holds.file b.holds.at a.holds.at in
    let is : b.i ≡ a.i = sym b.holds.is ∙ ap (λ (v : HeldFile). v.device) file ∙ a.holds.is in
    let d : b.d ≡ a.d = some_same (slice_get k.devices a.i) b.d a.d (subst (λ (i : ℕ). slice_get k.devices i ≡ Some b.d) is b.live.at) a.live.at in
    written_is held what k m b ∙ ap (λ (i : ℕ). after_write_of k i b.d what) is ∙ ap (λ (v : Device). after_write_of k a.i v what) d ∙ sym (written_is held what k l a)

put_once : (held : ℕ) (what : Write) (a b : Wrote) (f g : FailedCall) (k l m : Kernel) → does_put held what a k l → says_put held a k l → cond (failed_put a) (f ∷ []) [] ≡ [] → does_put held what b k m → says_put held b k m → cond (failed_put b) (g ∷ []) [] ≡ [] → (a ≡ b) × (m ≡ l)
put_once held what Wrote.Failed b f g k l m x y calm z w cool = let none : ⊥ = cc in absurd none
put_once held what Wrote.Done Wrote.Failed f g k l m x y calm z w cool = let none : ⊥ = cc in absurd none
put_once held what Wrote.Done Wrote.Done f g k l m x y calm z w cool = (refl, written_once held what k l m x z)
put_once held what Wrote.Done Wrote.Gone f g k l m x y calm z w cool = absurd (gone_not held y.0 k m z y.1 w)
put_once held what Wrote.Gone Wrote.Failed f g k l m x y calm z w cool = let none : ⊥ = cc in absurd none
put_once held what Wrote.Gone Wrote.Done f g k l m x y calm z w cool = absurd (gone_not held w.0 k l x w.1 y)
put_once held what Wrote.Gone Wrote.Gone f g k l m x y calm z w cool = (refl, stay k l m x z)

-- each call
pub still_once : (P : List ℕ → Type 0) (call : Call) (a b : Answer call) (k l m : Kernel) → IsKernel k → ((n : List ℕ) → P n → Lives k n) → IsFixed P call → IsStill k call a l → IsStill k call b m → Once call a b l m
still_once P Names a b k l m s lives fixed x y = absurd fixed
still_once P (Open name control) a b k l m s lives fixed x y =
    let o = open_once name control a.answer b.answer (record { call = a.number; count = a.count }) (record { call = b.number; count = b.count }) k l m s x.does x.says x.calm x.granted y.does y.says y.calm y.granted in
    record { answer = o.0; kernel = o.1 }
still_once P (Read name attr) a b k l m s lives fixed x y =
    let o = lives name fixed in
    record {
      answer = file_is name attr a.answer (record { call = a.number; count = a.count }) k l o x.does x.says x.calm x.granted
          ∙ sym (file_is name attr b.answer (record { call = b.number; count = b.count }) k m o y.does y.says y.calm y.granted);
      kernel = stay k l m x.does y.does;
    }
still_once P (Ask_alive held) a b k l m s lives fixed x y = record {
  answer = probe_once held a.answer b.answer (record { call = a.number; count = a.count }) (record { call = b.number; count = b.count }) k l m x.does y.does x.says x.calm y.says y.calm;
  kernel = stay k l m x.does y.does;
}
still_once P (Put held what) a b k l m s lives fixed x y =
    let o = put_once held what a.answer b.answer (record { call = a.number; count = a.count }) (record { call = b.number; count = b.count }) k l m x.does x.says x.calm y.does y.says y.calm in
    record { answer = o.0; kernel = o.1 }
still_once P (Close held) a b k l m s lives fixed x y = record { answer = tt; kernel = stay k l m x.does y.does }

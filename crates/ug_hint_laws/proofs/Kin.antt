-- Over a kernel that stands still the same names are live throughout; so runs of trees that are alike end alike.
use Rattle.std.proofs.Common.{◌≡◌, ℕ, true, false, List, set, Some, sym, ◌∙◌, ap, subst, inl, inr}
use Rattle.std.proofs.lemmas.Bool.{cases_eq}
use Rattle.std.specs.List.{slice_get}
use Rattle.ug_kernel.specs.declared.control.Control.{Control}
use Rattle.ug_kernel.specs.declared.control.Write.{Write}
use Rattle.ug_kernel.specs.declared.device.Device.{Device}
use Rattle.ug_kernel.specs.declared.calls.Opened.{Opened}
use Rattle.ug_kernel.specs.declared.calls.Wrote.{Wrote}
use Rattle.ug_kernel.specs.Calls.{Call, Answer, Names, Open, Read, Ask_alive, Put, Close}
use Rattle.ug_kernel.specs.Kernel.{Kernel, Live, IsKernel}
use Rattle.ug_kernel.specs.Called.{DoesCall, IsWritten, does_put, does_open, written_to}
use Rattle.ug_kernel.specs.Tree.{Prog, Return, Ask, Room}
use Rattle.ug_kernel.proofs.Grow.{some_same}
use Rattle.ug_kernel.proofs.Places.{at_set_same, at_set_other}
use Rattle.ug_table.proofs.Standings.{LiveAs}
use Rattle.ug_hint_laws.specs.Compared.{RunsStill}
use Rattle.ug_hint_laws.proofs.Still.{after_write_of, written_is, does_sound}
use Rattle.ug_hint_laws.proofs.Alike.{Lives, Alike, Ends, Asks, Rooms, still_once}

-- the same devices are live, by their names
pub record Kin (k l : Kernel) : Type 0 where
  pub forth : (i : ℕ) (n : List ℕ) → LiveAs k i n → LiveAs l i n
  pub back : (i : ℕ) (n : List ℕ) → LiveAs l i n → LiveAs k i n

pub lives_at : (k : Kernel) (i : ℕ) (n : List ℕ) → LiveAs k i n → Lives k n
lives_at k i n h = record { i = i; d = h.d; live = h.live; named = h.named }

pub live_as : (k : Kernel) (n : List ℕ) (h : Lives k n) → LiveAs k h.i n
live_as k n h = record { d = h.d; live = h.live; named = h.named }

pub kin_lives : (k l : Kernel) (n : List ℕ) → Kin k l → Lives k n → Lives l n
kin_lives k l n kin h = lives_at l h.i n (kin.forth h.i n (live_as k n h))

pub kin_lived : (k l : Kernel) (n : List ℕ) → Kin k l → Lives l n → Lives k n
kin_lived k l n kin h = lives_at k h.i n (kin.back h.i n (live_as l n h))

pub kin_refl : (k : Kernel) → Kin k k
kin_refl k = record { forth = λ i n h. h; back = λ i n h. h }

pub kin_trans : (k l m : Kernel) → Kin k l → Kin l m → Kin k m
kin_trans k l m a b = record { forth = λ i n h. b.forth i n (a.forth i n h); back = λ i n h. a.back i n (b.back i n h) }

kin_is : (k l : Kernel) → l ≡ k → Kin k l
kin_is k l e = subst (Kin k) (sym e) (kin_refl k)

kin_opened : (k l : Kernel) → l.devices ≡ k.devices → Kin k l
kin_opened k l e = record {
  forth = λ i n h. record { d = h.d; live = subst (λ (v : List Device). Live v i h.d) (sym e) h.live; named = h.named };
  back = λ i n h. record { d = h.d; live = subst (λ (v : List Device). Live v i h.d) e h.live; named = h.named };
}

kin_set : (k : Kernel) (i : ℕ) (d : Device) (what : Write) → slice_get k.devices i ≡ Some d → Kin k (after_write_of k i d what)
kin_set k i d what at = record { forth = forth; back = back }
  where
    new : Device
    new = written_to what d

    ds : List Device
    ds = set k.devices i new

    forth : (j : ℕ) (n : List ℕ) → LiveAs k j n → LiveAs (after_write_of k i d what) j n
    forth j n h = elim (cases_eq j i) [
      | inl q ↦
          let one : h.d ≡ d = some_same (slice_get k.devices i) h.d d (subst (λ (x : ℕ). slice_get k.devices x ≡ Some h.d) q h.live.at) at in
          record {
            d = new;
            live = record { at = ap (slice_get ds) q ∙ at_set_same k.devices i d new at; here = subst (λ (v : Device). v.gone ≡ false) one h.live.here };
            named = subst (λ (v : Device). v.name ≡ n) one h.named;
          }
      | inr ne ↦ record { d = h.d; live = record { at = at_set_other k.devices i j new ne ∙ h.live.at; here = h.live.here }; named = h.named }
    ]

    back : (j : ℕ) (n : List ℕ) → LiveAs (after_write_of k i d what) j n → LiveAs k j n
    back j n h = elim (cases_eq j i) [
      | inl q ↦
          let one : h.d ≡ new = some_same (slice_get ds i) h.d new (subst (λ (x : ℕ). slice_get ds x ≡ Some h.d) q h.live.at) (at_set_same k.devices i d new at) in
          record {
            d = d;
            live = record { at = ap (slice_get k.devices) q ∙ at; here = subst (λ (v : Device). v.gone ≡ false) one h.live.here };
            named = subst (λ (v : Device). v.name ≡ n) one h.named;
          }
      | inr ne ↦ record { d = h.d; live = record { at = sym (at_set_other k.devices i j new ne) ∙ h.live.at; here = h.live.here }; named = h.named }
    ]

kin_written : (held : ℕ) (what : Write) (k l : Kernel) → IsWritten held what k l → Kin k l
kin_written held what k l w = subst (Kin k) (sym (written_is held what k l w)) (kin_set k w.i w.d what w.live.at)

kin_put : (held : ℕ) (what : Write) (answer : Wrote) (k l : Kernel) → does_put held what answer k l → Kin k l
kin_put held what Wrote.Done k l w = kin_written held what k l w
kin_put held what Wrote.Gone k l e = kin_is k l e
kin_put held what Wrote.Failed k l (inl e) = kin_is k l e
kin_put held what Wrote.Failed k l (inr w) = kin_written held what k l w

kin_open : (name : List ℕ) (control : Control) (answer : Opened) (k l : Kernel) → does_open name control answer k l → Kin k l
kin_open name control (Opened.Token held) k l o = kin_opened k l o.devices
kin_open name control Opened.Absent k l e = kin_is k l e
kin_open name control Opened.Failed k l e = kin_is k l e
kin_open name control Opened.Memory k l e = kin_is k l e

does_kin : (call : Call) (told : Answer call) (k l : Kernel) → DoesCall call told k l → Kin k l
does_kin Names told k l e = kin_is k l e
does_kin (Open name control) told k l e = kin_open name control told.answer k l e
does_kin (Read name attr) told k l e = kin_is k l e
does_kin (Ask_alive held) told k l e = kin_is k l e
does_kin (Put held what) told k l e = kin_put held what told.answer k l e
does_kin (Close held) told k l e = kin_is k l e

pub still_kin : {R : Type 0} (p : Prog R) (k : Kernel) (r : R) (l : Kernel) → RunsStill k p r l → Kin k l
still_kin (Return value) k r l h = kin_is k l h.1
still_kin (Ask call next) k r l h = kin_trans k h.1 l (does_kin call h.0 k h.1 h.2.does) (still_kin (next h.0) h.1 r l h.3)
still_kin (Room next) k r l h = still_kin (next true) k r l h

-- runs of trees that are alike
pub record Both {A B : Type 0} (R : A → B → Type 0) (a : A) (l : Kernel) (b : B) (m : Kernel) : Type 0 where
  pub ends : R a b
  pub kernel : m ≡ l

pub alike_runs : {P : List ℕ → Type 0} {A B : Type 0} (R : A → B → Type 0) {p : Prog A} {q : Prog B} → Alike P R p q → (k : Kernel) → IsKernel k → ((n : List ℕ) → P n → Lives k n) → (a : A) (l : Kernel) (b : B) (m : Kernel) → RunsStill k p a l → RunsStill k q b m → Both R a l b m
alike_runs R (Ends x y r) k s lives a l b m g h =
    record { ends = subst (λ (v : _). R v b) (sym g.0) (subst (R x) (sym h.0) r); kernel = h.1 ∙ sym g.1 }
alike_runs {P} R (Asks call next other fixed f) k s lives a l b m g h =
    let o = still_once P call g.0 h.0 k g.1 h.1 s lives fixed g.2 h.2 in
    let kin = does_kin call g.0 k g.1 g.2.does in
    alike_runs R
    (f g.0 h.0 o.answer (record { calm = g.2.calm; granted = g.2.granted }) (record { calm = h.2.calm; granted = h.2.granted }))
    g.1 (does_sound call g.0 k g.1 g.2.does s) (λ n p. kin_lives k g.1 n kin (lives n p)) a l b m g.3
    (subst (λ (v : Kernel). RunsStill v (other h.0) b m) o.kernel h.3)
alike_runs R (Rooms next other f) k s lives a l b m g h = alike_runs R f k s lives a l b m g h

-- What a script answers of interfaces is what they may answer.
use Rattle.std.proofs.Common.{◌≡◌, ℕ, Bool, true, false, cond, List, Some, None, refl, sym, ◌∙◌, ap, subst, inl, inr}
use Rattle.std.proofs.lemmas.Bool.{both_ways}
use Rattle.std.proofs.lemmas.Option.{none-some, same_Some}
use Rattle.ug_kernel.specs.Calls.{Call, Names, Ask_alive, Put, Answer, Closing, raised}
use Rattle.ug_kernel.specs.Calls as kernel_calls
use Rattle.ug_kernel.proofs.Grow.{does_grow}
use Rattle.ug_iface.specs.declared.interface.Interface.{Interface}
use Rattle.ug_iface.specs.Bus.{Bus, IsSoundBus, IfacesBegin}
use Rattle.ug_iface.specs.Calls.{IfaceCall, Names_of, Open, Read, Ask_device, Ask, Put_off, Close, IfaceAnswer}
use Rattle.ug_iface.specs.Called.{IfaceCalled, IfaceFollows, OnlyMoves}
use Rattle.ug_sysfs.specs.Reply.{Reply}
use Rattle.ug_sysfs.specs.World.{World, effect, entered, call_ended, fate_of, failure_counted, with_kernel, told_as, answer_from, answer_unless, Wants, Gives, event_begun, told}
use Rattle.ug_sysfs.specs.Law.{Ready, ready_effect, ready_memory}
use Rattle.ug_sysfs.specs.Serving.{iface_effect, bus_in, with_bus, left, iface_told_as, iface_answer_from, iface_answer_unless, WantsIface, ServesIfaces, bus_told}
use Rattle.ug_sysfs.specs.IfaceMoves.{moves_grow, ifaces_stay, were_ungone, ifaces_then, bus_still, sound_under, bus_shifts, bus_shifts_sound}
use Rattle.ug_sysfs.specs.IfaceEffects.{ReadyIface, ready_iface_memory, ready_iface}

-- ---- a whole call

iface_called_by : (c : IfaceCall) (a : IfaceAnswer c) (s u : World)
    → ReadyIface c a (bus_in (entered s)) (bus_in u) → IsSoundBus (bus_in s)
    → IfaceCalled c a (bus_in s) (bus_in (left u))
iface_called_by c a s u ok k =
    let at = bus_shifts_sound (raised s.calls) false s k in
    record {
      before = bus_in (entered s);
      after = bus_in u;
      moves_before = bus_shifts (raised s.calls) false s;
      effect = ok.does;
      moves_after = bus_shifts u.calls true u;
      says = ok.says (bus_in s) (bus_in (left u)) k at (bus_shifts (raised s.calls) false s)
          (bus_shifts u.calls true u);
      sound_before = at;
      sound_after = ok.sound at;
      sound = bus_shifts_sound u.calls true u (ok.sound at);
    }

pub tells_bus : (t : World) (l : Bus) → bus_told t ≡ Some l
    → (t.ran_out ≡ false) × (bus_in t ≡ l)
tells_bus t l h = pick t.ran_out refl h
  where
    pick : (b : Bool) → t.ran_out ≡ b → cond b None (Some (bus_in t)) ≡ Some l
        → (t.ran_out ≡ false) × (bus_in t ≡ l)
    pick true e h = absurd (none-some l h)
    pick false e h = (e, same_Some (bus_in t) l h)

iface_follows_by : (c : IfaceCall) (a : IfaceAnswer c) (s u : World) (l : Bus) → s.ran_out ≡ false
    → ReadyIface c a (bus_in (entered s)) (bus_in u) → bus_in (left u) ≡ l
    → IfaceFollows c a (bus_told s) l
iface_follows_by c a s u l run ok e = record {
  bus = bus_in s;
  was = rw run refl;
  called = λ k. subst (IfaceCalled c a (bus_in s)) e (iface_called_by c a s u ok k);
}

iface_from_script : (s : World) (c : IfaceCall) (a : IfaceAnswer c) (t : World) (l : Bus)
    → s.ran_out ≡ false → a ≡ (iface_answer_from (entered s) c).0
    → t ≡ (iface_answer_from (entered s) c).1 → bus_in t ≡ l → IfaceFollows c a (bus_told s) l
iface_from_script s c a t l run ea et el =
    let w = entered s in
    let k = (iface_effect (fate_of w) c (bus_in w)).1 in
    let u = with_bus (failure_counted w) k in
    let r = (iface_effect (fate_of w) c (bus_in w)).0 in
    let ok : ReadyIface c (iface_told_as c r (left u)) (bus_in w) (bus_in u) =
    ready_iface (fate_of w) c (left u) (bus_in w) in
    iface_follows_by c a s u l run
    (subst (λ (b : IfaceAnswer c). ReadyIface c b (bus_in w) (bus_in u)) (sym ea) ok)
    (ap bus_in (sym et) ∙ el)

iface_from_close : (h : ℕ) (a : Closing) (s : World) (l : Bus) → s.ran_out ≡ false → bus_in s ≡ l
    → IfaceFollows (Close h) a (bus_told s) l
iface_from_close h a s l run e = record {
  bus = bus_in s;
  was = rw run refl;
  called = λ k. subst (IfaceCalled (Close h) a (bus_in s)) e (record {
    before = bus_in s;
    after = bus_in s;
    moves_before = bus_still (bus_in s);
    effect = refl;
    moves_after = bus_still (bus_in s);
    says = tt;
    sound_before = k;
    sound_after = k;
    sound = k;
  });
}

-- what has run out stays so
never_told : (s t : World) → s.ran_out ≡ true → t.ran_out ≡ s.ran_out → t.ran_out ≡ false → ⊥
never_told s t out kept run = both_ways t.ran_out run (kept ∙ out)

iface_by_script : (out : Bool) (s : World) (c : IfaceCall) (a : IfaceAnswer c) (t : World)
    (l : Bus) → s.ran_out ≡ out → a ≡ (iface_answer_unless out s c).0
    → t ≡ (iface_answer_unless out s c).1 → t.ran_out ≡ false → bus_in t ≡ l
    → IfaceFollows c a (bus_told s) l
iface_by_script out s (Close h) a t l e ea et run el =
    iface_from_close h a s l (ap (λ (x : World). x.ran_out) (sym et) ∙ run)
    (ap bus_in (sym et) ∙ el)
iface_by_script true s (Names_of name) a t l e ea et run el =
    absurd (never_told s t e (ap (λ (x : World). x.ran_out) et) run)
iface_by_script true s (Open name) a t l e ea et run el =
    absurd (never_told s t e (ap (λ (x : World). x.ran_out) et) run)
iface_by_script true s (Read name) a t l e ea et run el =
    absurd (never_told s t e (ap (λ (x : World). x.ran_out) et) run)
iface_by_script true s (Ask_device h) a t l e ea et run el =
    absurd (never_told s t e (ap (λ (x : World). x.ran_out) et) run)
iface_by_script true s (Ask h) a t l e ea et run el =
    absurd (never_told s t e (ap (λ (x : World). x.ran_out) et) run)
iface_by_script true s (Put_off h) a t l e ea et run el =
    absurd (never_told s t e (ap (λ (x : World). x.ran_out) et) run)
iface_by_script false s (Names_of name) a t l e ea et run el =
    iface_from_script s (Names_of name) a t l e ea et el
iface_by_script false s (Open name) a t l e ea et run el =
    iface_from_script s (Open name) a t l e ea et el
iface_by_script false s (Read name) a t l e ea et run el =
    iface_from_script s (Read name) a t l e ea et el
iface_by_script false s (Ask_device h) a t l e ea et run el =
    iface_from_script s (Ask_device h) a t l e ea et el
iface_by_script false s (Ask h) a t l e ea et run el = iface_from_script s (Ask h) a t l e ea et el
iface_by_script false s (Put_off h) a t l e ea et run el =
    iface_from_script s (Put_off h) a t l e ea et el

iface_by_want : (s : World) (c : IfaceCall) (a : IfaceAnswer c) (t : World) (l : Bus)
    → WantsIface s c a t → bus_in t ≡ l → IfaceFollows c a (bus_told s) l
iface_by_want s c a t l w el =
    let k = bus_in (entered s) in
    iface_follows_by c a s (entered s) l w.ran
    (subst (λ (b : IfaceAnswer c). ReadyIface c b k k) (sym w.answer)
    (ready_iface_memory c w.reply t k w.memory)) (ap bus_in (sym w.after) ∙ el)

pub does_so : (s : World) (c : IfaceCall) (a : IfaceAnswer c) (t : World) (l : Bus)
    → ServesIfaces s c a t → bus_told t ≡ Some l → IfaceFollows c a (bus_told s) l
does_so s c a t l g h =
    let told = tells_bus t l h in
    elim g [
      | inl x ↦ iface_by_script s.ran_out s c a t l refl x.0 x.1 told.0 told.1
      | inr y ↦ elim y [
        | inl z ↦ iface_by_want s c a t l z told.1
        | inr z ↦ absurd (both_ways t.ran_out told.0 z.out)
      ]
    ]

-- ---- calls of the devices' files

-- from its entry to its end, where the effect is one of the kernel's
kept_by : (s : World) (c : Call) (a : Answer c) (r : Reply c) (u : World) (l : Bus)
    → s.ran_out ≡ false → Ready c a (entered s).kernel u.kernel
    → bus_in u ≡ record (bus_in (entered s)) { kernel = u.kernel } → bus_in (call_ended c r u) ≡ l
    → OnlyMoves (bus_told s) l
kept_by s c a r u l run ok same e =
    let w = entered s in
    let before = bus_shifts (raised s.calls) false s in
    let after = bus_shifts u.calls true u in
    let effect = does_grow c a w.kernel u.kernel ok.does in
    let xs : u.interfaces ≡ w.interfaces = ap (λ (b : Bus). b.interfaces) same in
    let later : IfacesBegin u.kernel w.interfaces (call_ended c r u).interfaces =
    subst (λ (v : List Interface). IfacesBegin u.kernel v (call_ended c r u).interfaces) xs
    after.interfaces in
    let middle : IfacesBegin w.kernel w.interfaces (call_ended c r u).interfaces =
    ifaces_then w.kernel u.kernel w.interfaces w.interfaces (call_ended c r u).interfaces
    (were_ungone w.kernel u.kernel effect) (ifaces_stay w.kernel w.interfaces) later in
    subst (OnlyMoves (bus_told s)) e (record {
      bus = bus_in s;
      was = rw run refl;
      interfaces =
          ifaces_then s.kernel w.kernel s.interfaces w.interfaces (call_ended c r u).interfaces
          (were_ungone s.kernel w.kernel (moves_grow s.kernel w.kernel before.kernel))
          before.interfaces middle;
      files = ap (λ (b : Bus). b.files) same;
      log = ap (λ (b : Bus). b.log) same;
      sound = λ k.
          let at = bus_shifts_sound (raised s.calls) false s k in
          bus_shifts_sound u.calls true u
          (subst IsSoundBus (sym same)
          (sound_under (bus_in w) u.kernel at effect (ok.sound at.kernel)));
    })

kept_from_script : (s : World) (c : Call) (a : Answer c) (t : World) (l : Bus)
    → s.ran_out ≡ false → t ≡ (answer_from (entered s) c).1 → bus_in t ≡ l
    → OnlyMoves (bus_told s) l
kept_from_script s c a t l run et el =
    let w = entered s in
    let u = with_kernel (failure_counted w) (effect (fate_of w) c w.kernel).1 in
    let r = (effect (fate_of w) c w.kernel).0 in
    kept_by s c (told_as c r (call_ended c r u)) r u l run
    (ready_effect (fate_of w) c (call_ended c r u) w.kernel)
    refl (ap bus_in (sym et) ∙ el)

kept_from_close : (s t : World) (l : Bus) → s.ran_out ≡ false → t ≡ s → bus_in t ≡ l
    → OnlyMoves (bus_told s) l
kept_from_close s t l run et el = subst (OnlyMoves (bus_told s)) (ap bus_in (sym et) ∙ el) (record {
  bus = bus_in s;
  was = rw run refl;
  interfaces = ifaces_stay s.kernel s.interfaces;
  files = refl;
  log = refl;
  sound = λ k. k;
})

kept_by_script : (out : Bool) (s : World) (c : Call) (a : Answer c) (t : World) (l : Bus)
    → s.ran_out ≡ out → t ≡ (answer_unless out s c).1 → t.ran_out ≡ false → bus_in t ≡ l
    → OnlyMoves (bus_told s) l
kept_by_script out s (kernel_calls.Close h) a t l e et run el =
    kept_from_close s t l (ap (λ (x : World). x.ran_out) (sym et) ∙ run) et el
kept_by_script true s Names a t l e et run el =
    absurd (never_told s t e (ap (λ (x : World). x.ran_out) et) run)
kept_by_script true s (kernel_calls.Open name control) a t l e et run el =
    absurd (never_told s t e (ap (λ (x : World). x.ran_out) et) run)
kept_by_script true s (kernel_calls.Read name at) a t l e et run el =
    absurd (never_told s t e (ap (λ (x : World). x.ran_out) et) run)
kept_by_script true s (Ask_alive h) a t l e et run el =
    absurd (never_told s t e (ap (λ (x : World). x.ran_out) et) run)
kept_by_script true s (Put h write) a t l e et run el =
    absurd (never_told s t e (ap (λ (x : World). x.ran_out) et) run)
kept_by_script false s Names a t l e et run el = kept_from_script s Names a t l e et el
kept_by_script false s (kernel_calls.Open name control) a t l e et run el =
    kept_from_script s (kernel_calls.Open name control) a t l e et el
kept_by_script false s (kernel_calls.Read name at) a t l e et run el =
    kept_from_script s (kernel_calls.Read name at) a t l e et el
kept_by_script false s (Ask_alive h) a t l e et run el =
    kept_from_script s (Ask_alive h) a t l e et el
kept_by_script false s (Put h write) a t l e et run el =
    kept_from_script s (Put h write) a t l e et el

kept_by_want : (s : World) (c : Call) (a : Answer c) (t : World) (l : Bus) → Wants s c a t
    → bus_in t ≡ l → OnlyMoves (bus_told s) l
kept_by_want s c a t l w el =
    kept_by s c (told_as c w.reply t) w.reply (entered s) l w.ran
    (ready_memory c w.reply t (entered s).kernel w.memory) refl (ap bus_in (sym w.after) ∙ el)

pub keeps_ifaces : (s : World) (c : Call) (a : Answer c) (t : World) (l : Bus) → Gives s c a t
    → bus_told t ≡ Some l → OnlyMoves (bus_told s) l
keeps_ifaces s c a t l g h =
    let told = tells_bus t l h in
    elim g [
      | inl x ↦ kept_by_script s.ran_out s c a t l refl x.1 told.0 told.1
      | inr y ↦ elim y [
        | inl z ↦ kept_by_want s c a t l z told.1
        | inr z ↦ absurd (both_ways t.ran_out told.0 z.out)
      ]
    ]

-- ---- what is told

pub begins_so : (s t : World) → t ≡ event_begun s → bus_told t ≡ bus_told s
begins_so s t e = ap bus_told e

pub tells_its_kernel : (s : World) (b : Bus) → bus_told s ≡ Some b → told s ≡ Some b.kernel
tells_its_kernel s b h =
    let p = tells_bus s b h in
    rw p.0 (ap (λ (c : Bus). Some c.kernel) p.1)

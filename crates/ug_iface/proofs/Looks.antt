-- What a look at an interface tells.
use Rattle.std.proofs.Common.{◌≡◌, ℕ, Some, slice_get, refl, sym, ◌∙◌, ap, subst}
use Rattle.ug_types.specs.declared.record.Triple.{Triple}
use Rattle.ug_kernel.specs.declared.device.HeldFile.{HeldFile}
use Rattle.ug_kernel.specs.declared.control.Control.TheVariants.{Authorized}
use Rattle.ug_kernel.specs.declared.calls.Probe.{Probe}
use Rattle.ug_kernel.specs.declared.calls.Probe.TheVariants as probe
use Rattle.ug_kernel.specs.Kernel.{Live}
use Rattle.ug_kernel.proofs.Grow.{some_same, quiet_grows}
use Rattle.ug_kernel.proofs.HeldFiles.{live_before}
use Rattle.ug_iface.specs.declared.interface.Interface.{Interface}
use Rattle.ug_iface.specs.declared.name.IfaceName.{IfaceName}
use Rattle.ug_iface.specs.declared.calls.IfaceHeld.{IfaceHeld}
use Rattle.ug_iface.specs.declared.calls.IfaceOpened.{IfaceOpened}
use Rattle.ug_iface.specs.declared.calls.IfaceOpened.TheVariants as opened
use Rattle.ug_iface.specs.declared.calls.IfaceRead.{IfaceRead}
use Rattle.ug_iface.specs.declared.calls.IfaceRead.TheVariants as read
use Rattle.ug_iface.specs.declared.look.Look.{Look}
use Rattle.ug_iface.specs.declared.look.Look.TheVariants as look
use Rattle.ug_iface.specs.Bus.{Bus, LiveIface, IsSoundBus}
use Rattle.ug_iface.specs.Calls.{Open, Read, Ask_device, Ask, Close}
use Rattle.ug_iface.specs.Called.{NoIfaceLived, IfaceCalled}
use Rattle.ug_iface.specs.Grows.{Still}
use Rattle.ug_iface.specs.Tree.{RunsIfaces, bus_calls}
use Rattle.ug_iface.specs.Look.{closing_iface, after_ask, after_device, after_iface_read, after_iface_open, looking}
use Rattle.ug_iface.specs.Laws.{IsHeldOf, IsGoneDevice}
use Rattle.ug_iface.proofs.Parts.{IsFound, LookSays, Looked}
use Rattle.ug_iface.proofs.Grow.{still_grows, still_trans, called_still, iface_before}
use Rattle.ug_iface.proofs.Lived.{iface_cut, Knows, knows_on, knows_opened}

-- its file is shut
abbrev IsShut : Look → Type 0
IsShut (look.Here file triple on) = ⊥
IsShut look.Absent = Unit {0}
IsShut look.Gone = Unit {0}
IsShut (look.Failed count) = Unit {0}
IsShut look.Memory = Unit {0}

module _ (name : IfaceName) (held i : ℕ) (b : Bus) (own : IsHeldOf b.kernel name.device held i) where
  none_on : (u v : Bus) → IsSoundBus u → Still b u → Still u v → NoIfaceLived name b u → NoIfaceLived name b v
  none_on u v sound s t none k y lived = none k y (iface_cut b u v name k y sound (still_grows b u s) (still_grows u v t) lived).0

  none_behind : (u v c : Bus) → IsSoundBus u → IsSoundBus v → Still b u → Still u v → Still v c → NoIfaceLived name u v → NoIfaceLived name b c
  none_behind u v c sound good s t r none k y lived =
      let p = (iface_cut b u c name k y sound (still_grows b u s) (still_grows u c (still_trans u v c t r)) lived).1 in
      none k p.0 (iface_cut u v c name k p.0 good (still_grows u v t) (still_grows v c r) p.1).0

  gone_on : (u v : Bus) → Still b u → Still u v → IsGoneDevice i u → IsGoneDevice i v
  gone_on u v s t gone e live =
      let d = s.kernel.devices i own.d own.at in
      gone d.0 (live_before u.kernel v.kernel i d.0 e (quiet_grows u.kernel v.kernel t.kernel) d.1 live).0

  says_on : (r : Look) (u v : Bus) → IsShut r → Still u v → Looked name i b u r → LookSays name i b v r
  says_on (look.Here file triple on) u v shut s l = absurd shut
  says_on look.Absent u v shut s l = none_on u v l.sound l.still s l.says
  says_on look.Gone u v shut s l = gone_on u v l.still s l.says
  says_on (look.Failed count) u v shut s l = tt
  says_on look.Memory u v shut s l = tt

  ended : (answer r : Look) (u c : Bus) → Looked name i b u answer → (r ≡ answer) × (c ≡ u) → Looked name i b c r
  ended answer r u c l h = subst (λ (v : Bus). Looked name i b v r) (sym h.1) (subst (λ (v : Look). Looked name i b u v) (sym h.0) l)

  shut : (file : IfaceHeld) (answer r : Look) (u c : Bus) → IsShut answer → Looked name i b u answer → RunsIfaces bus_calls u (closing_iface file answer) r c → Looked name i b c r
  shut file answer r u c closed l h =
      let s = called_still (Close file.0) h.0 u h.1 tt h.2 in
      ended answer r h.1 c (record { sound = h.2.sound; still = still_trans b u h.1 l.still s; says = says_on answer u h.1 closed s l }) h.3

  -- what is known between the reading and the second probe: the type, if it is still there
  abbrev Read_so : (u : Bus) (file : IfaceHeld) → Knows name i b u file.0 → Triple → Type 0
  Read_so u file n triple = (y : Interface) → LiveIface u n.j y → n.x.triple ≡ triple

  asked : (file : IfaceHeld) (triple : Triple) (answer : Probe) (number count : ℕ) (r : Look) (u v c : Bus) (n : Knows name i b u file.0) → Read_so u file n triple → n.x.device ≡ i
      → IfaceCalled (Ask file.0) (record { answer = answer; number = number; count = count }) u v → RunsIfaces bus_calls v (after_ask file triple answer count) r c → Looked name i b c r
  asked file triple (probe.Alive on) number count r u v c n so dev call h =
      let m = knows_on name held i b u v file.0 own n (called_still (Ask file.0) (record { answer = probe.Alive on; number = number; count = count }) u v tt call) call.sound in
      let alive = call.says in
      let is : n.j ≡ alive.i = some_same (slice_get u.files file.0) n.j alive.i n.held alive.holds.file in
      let live : LiveIface u n.j alive.x = subst (λ (k : ℕ). LiveIface u k alive.x) (sym is) alive.live in
      let same : n.x ≡ alive.x = some_same (slice_get u.interfaces n.j) n.x alive.x n.at live.at in
      let is_called = n.called (subst (λ (x : Interface). LiveIface u n.j x) (sym same) live) in
      let found : IsFound name i b v file.0 triple on = record {
        j = m.0.j;
        x = m.0.x;
        held = m.0.held;
        at = m.0.at;
        device = m.2.stays.device ∙ dev;
        config = m.2.stays.config ∙ is_called.config;
        number = m.2.stays.number ∙ is_called.number;
        triple_is = m.2.stays.triple ∙ so alive.x live;
        value = m.2.on ∙ ap (λ (x : Interface). x.on) same ∙ alive.value;
        only = m.0.only;
      } in
      ended (look.Here file triple on) r v c (record { sound = m.0.sound; still = m.0.still; says = found }) h
  asked file triple probe.Gone number count r u v c n so dev call h =
      let m = knows_on name held i b u v file.0 own n (called_still (Ask file.0) (record { answer = probe.Gone; number = number; count = count }) u v tt call) call.sound in
      let none : NoIfaceLived name b v = λ k y lived.
      let is = m.0.only k y lived in
      let live : LiveIface v m.0.j lived.exit.0 = subst (λ (q : ℕ). LiveIface v q lived.exit.0) is lived.exit.1 in
      call.says m.0.j lived.exit.0 (record { file = m.0.held; at = live.at }) live in
      shut file look.Absent r v c tt (record { sound = m.0.sound; still = m.0.still; says = none }) h
  asked file triple probe.Failed number count r u v c n so dev call h =
      let m = knows_on name held i b u v file.0 own n (called_still (Ask file.0) (record { answer = probe.Failed; number = number; count = count }) u v tt call) call.sound in
      shut file (look.Failed count) r v c tt (record { sound = m.0.sound; still = m.0.still; says = tt }) h

  held_at : (u : Bus) → Still b u → slice_get u.kernel.held held ≡ Some (record { device = i; control = Authorized })
  held_at u s = s.kernel.held held (record { device = i; control = Authorized }) own.file

  asked_device : (file : IfaceHeld) (triple : Triple) (answer : Probe) (number count : ℕ) (r : Look) (u v c : Bus) (n : Knows name i b u file.0) → Read_so u file n triple
      → IfaceCalled (Ask_device held) (record { answer = answer; number = number; count = count }) u v → RunsIfaces bus_calls v (after_device file triple answer count) r c → Looked name i b c r
  asked_device file triple (probe.Alive on) number count r u v c n so call h =
      let s = called_still (Ask_device held) (record { answer = probe.Alive on; number = number; count = count }) u v tt call in
      let m = knows_on name held i b u v file.0 own n s call.sound in
      let alive = call.says in
      let file_is : record { device = i; control = Authorized } ≡ alive.holds.file = some_same (slice_get u.kernel.held held) (record { device = i; control = Authorized }) alive.holds.file (held_at u n.still) alive.holds.at in
      let is : i ≡ alive.i = ap (λ (f : HeldFile). f.device) file_is ∙ alive.holds.is in
      let live : Live u.kernel.devices i alive.d = subst (λ (k : ℕ). Live u.kernel.devices k alive.d) (sym is) alive.live in
      let own_device : n.x.device ≡ i = n.owner alive.d live in
      let reads : (y : Interface) → LiveIface v m.0.j y → m.0.x.triple ≡ triple = λ y p.
      let back = iface_before u v n.j n.x y n.sound (still_grows u v s) n.at (subst (λ (k : ℕ). LiveIface v k y) m.1 p) in
      m.2.stays.triple ∙ so n.x back.0 in
      asked file triple h.0.answer h.0.number h.0.count r v h.1 c m.0 reads (m.2.stays.device ∙ own_device) h.2 h.3
  asked_device file triple probe.Gone number count r u v c n so call h =
      let m = knows_on name held i b u v file.0 own n (called_still (Ask_device held) (record { answer = probe.Gone; number = number; count = count }) u v tt call) call.sound in
      let gone : IsGoneDevice i v = λ d live. call.says i d (record { file = record { device = i; control = Authorized }; at = held_at v m.0.still; is = refl; device = live.at }) live in
      shut file look.Gone r v c tt (record { sound = m.0.sound; still = m.0.still; says = gone }) h
  asked_device file triple probe.Failed number count r u v c n so call h =
      let m = knows_on name held i b u v file.0 own n (called_still (Ask_device held) (record { answer = probe.Failed; number = number; count = count }) u v tt call) call.sound in
      shut file (look.Failed count) r v c tt (record { sound = m.0.sound; still = m.0.still; says = tt }) h

  was_read : (file : IfaceHeld) (answer : IfaceRead) (number count : ℕ) (r : Look) (u v c : Bus) → Knows name i b u file.0
      → IfaceCalled (Read name) (record { answer = answer; number = number; count = count }) u v → RunsIfaces bus_calls v (after_iface_read held file answer count) r c → Looked name i b c r
  was_read file (read.Is triple) number count r u v c n call h =
      let s = called_still (Read name) (record { answer = read.Is triple; number = number; count = count }) u v tt call in
      let m = knows_on name held i b u v file.0 own n s call.sound in
      let reads : (y : Interface) → LiveIface v m.0.j y → m.0.x.triple ≡ triple = λ y p.
      let q : LiveIface v n.j y = subst (λ (k : ℕ). LiveIface v k y) m.1 p in
      let back = iface_before u v n.j n.x y n.sound (still_grows u v s) n.at q in
      m.2.stays.triple ∙ call.says n.j n.x (record { entry = back.0; exit = (y, q); called = n.called back.0 }) in
      asked_device file triple h.0.answer h.0.number h.0.count r v h.1 c m.0 reads h.2 h.3
  was_read file read.Absent number count r u v c n call h =
      let s = called_still (Read name) (record { answer = read.Absent; number = number; count = count }) u v tt call in
      let m = knows_on name held i b u v file.0 own n s call.sound in
      let none : NoIfaceLived name b v = λ k y lived.
      let p = (iface_cut b u v name k y n.sound (still_grows b u n.still) (still_grows u v s) lived).1 in
      call.says k p.0 p.1 in
      shut file look.Absent r v c tt (record { sound = m.0.sound; still = m.0.still; says = none }) h
  was_read file read.Failed number count r u v c n call h =
      let m = knows_on name held i b u v file.0 own n (called_still (Read name) (record { answer = read.Failed; number = number; count = count }) u v tt call) call.sound in
      shut file (look.Failed count) r v c tt (record { sound = m.0.sound; still = m.0.still; says = tt }) h

  was_opened : (answer : IfaceOpened) (number count : ℕ) (r : Look) (u c : Bus)
      → IfaceCalled (Open name) (record { answer = answer; number = number; count = count }) b u → RunsIfaces bus_calls u (after_iface_open name held answer count) r c → Looked name i b c r
  was_opened (opened.Token file) number count r u c call h =
      was_read file h.0.answer h.0.number h.0.count r u h.1 c (knows_opened name held i b u file.0 number count own call) h.2 h.3
  was_opened opened.Absent number count r u c call h =
      ended look.Absent r u c (record { sound = call.sound; still = called_still (Open name) (record { answer = opened.Absent; number = number; count = count }) b u tt call; says = call.says }) h
  was_opened opened.Failed number count r u c call h =
      ended (look.Failed count) r u c (record { sound = call.sound; still = called_still (Open name) (record { answer = opened.Failed; number = number; count = count }) b u tt call; says = tt }) h
  was_opened opened.Memory number count r u c call h =
      ended look.Memory r u c (record { sound = call.sound; still = called_still (Open name) (record { answer = opened.Memory; number = number; count = count }) b u tt call; says = tt }) h

  pub looks : (r : Look) (c : Bus) → RunsIfaces bus_calls b (looking name held) r c → Looked name i b c r
  looks r c h = was_opened h.0.answer h.0.number h.0.count r h.1 c h.2 h.3

-- What a binding and the opening of a second file do to kernels.
use Rattle.std.proofs.Common.{◌≡◌, ℕ, nat_le, Bool, true, false, cond, ◌≤◌, List, [], ◌∷◌, length, Option, Some, None, slice_get, inl, inr, refl, sym, ◌∙◌, ap, subst, arith, ◌++◌}
use Rattle.std.proofs.lemmas.Option.{slice_get_past}
use Rattle.ug_types.specs.Names.{parent_of}
use Rattle.ug_types.specs.declared.record.Attrs.{Attrs}
use Rattle.ug_kernel.specs.declared.control.Attr.{Attr}
use Rattle.ug_kernel.specs.declared.control.Control.{Control}
use Rattle.ug_kernel.specs.declared.control.Control.TheVariants.{Authorized}
use Rattle.ug_kernel.specs.declared.control.Held.{Held}
use Rattle.ug_kernel.specs.declared.device.Device.{Device}
use Rattle.ug_kernel.specs.declared.device.HeldFile.{HeldFile}
use Rattle.ug_kernel.specs.declared.calls.ReadOut.{ReadOut}
use Rattle.ug_kernel.specs.declared.calls.Opened.{Opened}
use Rattle.ug_kernel.specs.declared.calls.Probe.{Probe}
use Rattle.ug_kernel.specs.Calls.{Call, Answer, Open, Read, Ask_alive, Close, ToldAnswer, Closing, failed_open, failed_read, is_probe_failed, Counted}
use Rattle.ug_kernel.specs.Along.{Made, made_with, Along, failure_of}
use Rattle.ug_kernel.specs.Kernel.{Kernel, Live, Stays, IsSound, IsKernel, IsOpenable, Moves}
use Rattle.ug_kernel.specs.Called.{Lived, NoneHas, NoneLived, IsOpened, IsGoneAt, IsAlive, IsFile, within_limit, text_within, read_of, says_read, Called, Follows, Holds}
use Rattle.ug_kernel.specs.Quiet.{Quiet, Grows}
use Rattle.ug_kernel.specs.Tree.{Runs, calls}
use Rattle.ug_kernel.proofs.Quiet.{stays_trans, quiet_refl, quiet_trans, moves_quiet, opened_quiet, called_quiet, get_end}
use Rattle.ug_kernel.proofs.Grow.{some_same, quiet_grows, grows_trans, called_grows, grows_refl}
use Rattle.ug_kernel.proofs.HeldFiles.{live_before, lived_cut}
use Rattle.ug_kernel.proofs.Sounds.{openable_has}
use Rattle.ug_kernel.proofs.Told.{told_run}
use Rattle.ug_kernel.proofs.Ways.{Sure, ways_run, along_split, along_sound, along_grows, Unwritten, unwritten_more, along_quiet}
use Rattle.ug_kernel.specs.declared.files.OwnFiles.{OwnFiles}
use Rattle.ug_kernel.specs.declared.files.Stop.{Stop}
use Rattle.ug_kernel.specs.declared.identity.Bound.{Bound}
use Rattle.ug_kernel.specs.declared.identity.Binding.{Binding}
use Rattle.ug_kernel.specs.Bind.{binding_of, binding}
use Rattle.ug_kernel.specs.Bound.{attrs_of, is_core_long, parent_attrs_of, IsParentRead, IsBoundBy, IsBound, BindSays, IsBinding, TellsBinding, IsFault, TellsFault}
use Rattle.ug_kernel.proofs.BindShapes.{told, IsReadable, Came, Reads, No_more, Then_read, Stops, No_descriptors, Read_failed, parents_from, Files, Alone, Below, own_files, Binds_by, No_such, Open_failed, Cut, Probed_gone, Probe_failed, Bound_by, binds_by, Holds_by, Not_there, Not_opened, Held_on, Died, Unasked, holds_by}
use Rattle.ug_kernel.specs.declared.calls.FailedCall.{FailedCall}
use Rattle.ug_kernel.proofs.Rises.{Counting}
use Rattle.ug_kernel.proofs.Counted.{Tally, tally, counts, along_counted, counts_never_fall, along_never_falls}
use Rattle.ug_kernel.specs.declared.removal.RemoveHold.{RemoveHold}
use Rattle.ug_kernel.specs.Removal.{holding, TellsHoldFault, IsAuthorizedFile, HoldSays, IsHold, HoldsFile}

-- The law of a binding, over kernels, and the numbers of a failed answer, by cases on the calls.

-- nothing is written

pub reads_unwritten : {name : List ℕ} {ms : List Made} → Reads name ms → Unwritten ms
reads_unwritten No_more = tt
reads_unwritten (Then_read of at t ms may came r) = (tt, reads_unwritten r)

pub binds_unwritten : {name : List ℕ} {ms : List Made} {r : Binding} → Binds_by name ms r → Unwritten ms
binds_unwritten (Cut file call count ms of at t shut why r left n first may stops e) = (tt, unwritten_more ms _ (reads_unwritten n) (tt, (tt, tt)))
binds_unwritten (Probed_gone file call count number total ms shut n first) = (tt, unwritten_more ms _ (reads_unwritten n) (tt, (tt, tt)))
binds_unwritten (Probe_failed file call count number total ms shut n first) = (tt, unwritten_more ms _ (reads_unwritten n) (tt, (tt, tt)))
binds_unwritten (Bound_by call count number total ms b n first are) = (tt, unwritten_more ms _ (reads_unwritten n) (tt, tt))
binds_unwritten x = (tt, tt)

-- what a reading tells

read_kept : (a : Attr) (d e : Device) → Stays d e → read_of a d ≡ read_of a e
read_kept Attr.Descriptors d e h = ap (λ (x : List ℕ). within_limit 131072 x) (sym h.descriptors)
read_kept Attr.Product d e h = ap (λ (x : Option (List ℕ)). text_within x) (sym h.product)
read_kept Attr.Serial d e h = ap (λ (x : Option (List ℕ)). text_within x) (sym h.serial)
read_kept Attr.Connect d e h = ap (λ (x : Option (List ℕ)). text_within x) (sym h.connect)

came_says : (of : List ℕ) (a : Attr) (r : ReadOut) (k l : Kernel) → Came r a → says_read of a r k l → IsFile of a r k l
came_says of a ReadOut.Failed k l c h = absurd c
came_says of a ReadOut.Memory k l c h = absurd c
came_says of a x k l c h = h

-- each reading of a device's name tells that device's file
abbrev pub TellsOf : Device → (call : Call) → Answer call → Type 0
TellsOf d (Read of a) t = of ≡ d.name → t.answer ≡ read_of a d
TellsOf d call answer = Unit {0}

abbrev pub TellOf : Device → List Made → Type 0
TellOf d [] = Unit {0}
TellOf d (m ∷ ms) = TellsOf d m.call m.answer × TellOf d ms

-- of one that was there before them, and is live behind them
pub reads_tell : {name : List ℕ} {ms : List Made} (i : ℕ) (d e f : Device) (k l : Kernel) → Reads name ms → Along calls k ms l → slice_get k.devices i ≡ Some d → Live l.devices i e → Stays e f → TellOf f ms
reads_tell i d e f k l No_more a at live s = tt
reads_tell i d e f k l (Then_read of by t ms may came r) a at live s =
    let grow = called_grows (Read of by) t k a.0 a.1 in
    let x = grow.devices i d at in
    let later = live_before a.0 l i x.0 e (along_grows ms a.0 l a.2) x.1 live in
    let first = live_before k a.0 i d x.0 grow at later.0 in
    let kept = stays_trans d x.0 f x.2 (stays_trans x.0 e f later.1 s) in (
      λ named. came_says of by t.answer k a.0 came a.1.says i d (record { entry = first.0; exit = (x.0, later.0) }) (sym kept.name ∙ sym named) ∙ read_kept by d f kept,
      reads_tell i x.0 e f a.0 l r a.2 x.1 live s,
    )

-- these are the device's own
abbrev pub IsOwn : OwnFiles → Device → Type 0
IsOwn own f = (own.attrs ≡ attrs_of f) × (own.core_long ≡ is_core_long f)

own_is : {name : List ℕ} {ms : List Made} {own : OwnFiles} {parent : Option Attrs} (f : Device) → name ≡ f.name → Files name ms own parent → TellOf f ms → IsOwn own f
own_is f e (Alone d p s c none) h = (cc (h.0 e, h.1.0 e, h.1.1.0 e, h.1.1.1.0 e), cc (h.0 e, h.1.0 e, h.1.1.0 e))
own_is f e (Below parent d p s c x y z above) h = (cc (h.0 e, h.1.0 e, h.1.1.0 e, h.1.1.1.0 e), cc (h.0 e, h.1.0 e, h.1.1.0 e))

-- the parent

-- a device that lived through has a parent that lived through, of its name's parent's name
parent_lived : (k l : Kernel) (name parent : List ℕ) (i : ℕ) (d : Device) (p : Option ℕ) → IsSound k.devices → IsSound l.devices → Grows k l → Lived k.devices l.devices i d → d.name ≡ name → parent_of name ≡ Some parent → d.parent ≡ p → (j : ℕ) × (e : Device) × (p ≡ Some j) × Lived k.devices l.devices j e × (e.name ≡ parent)
parent_lived k l name parent i d None s t g lives named above e =
    let root = s.roots i d lives.entry.at e in
    let same : parent_of d.name ≡ Some parent = subst (λ v. parent_of v ≡ Some parent) (sym named) above in
    let none : ⊥ = cc in absurd none
parent_lived k l name parent i d (Some j) s t g lives named above e =
    let x = s.parents i j d lives.entry e in
    let later = live_before k l i d lives.exit.0 g lives.entry.at lives.exit.1 in
    let y = t.parents i j lives.exit.0 lives.exit.1 (later.1.parent ∙ e) in
    let theirs = s.named i j d x.0 lives.entry.at e x.1.at in
    let same : parent_of d.name ≡ Some parent = subst (λ v. parent_of v ≡ Some parent) (sym named) above in
    let is : x.0.name ≡ parent = some_same (parent_of d.name) x.0.name parent theirs same in
    (j, x.0, refl, record { entry = x.1; exit = y }, is)

-- without a parent's name there is no parent
no_parent : (k l : Kernel) (name : List ℕ) (i : ℕ) (d : Device) (p : Option ℕ) → IsSound k.devices → Live k.devices i d → d.name ≡ name → parent_of name ≡ None → d.parent ≡ p → IsParentRead l p None
no_parent k l name i d None s live named above e = refl
no_parent k l name i d (Some j) s live named above e =
    let x = s.parents i j d live e in
    let theirs = s.named i j d x.0 live.at e x.1.at in
    let same : parent_of d.name ≡ None = subst (λ v. parent_of v ≡ None) (sym named) above in
    let none : ⊥ = cc in absurd none

-- what was read of the parent's name is the parent's
parents_are : {name : List ℕ} {ms : List Made} {own : OwnFiles} {parent : Option Attrs} (i : ℕ) (d : Device) (u v l : Kernel) → Files name ms own parent → Reads name ms → Along calls u ms v → IsKernel u → Quiet v l → Lived u.devices v.devices i d → d.name ≡ name → IsParentRead l d.parent parent
parents_are {name} i d u v l (Alone x p s c none) r a sound q lives named = no_parent u l name i d d.parent sound.devices lives.entry named none refl
parents_are {name} {ms} i d u v l (Below parent x p s c y z w above) r a sound q lives named =
    let g = along_grows ms u v a in
    let j = parent_lived u v name parent i d d.parent sound.devices (along_sound ms u v sound a).devices g lives named above refl in
    let e = j.3.exit.0 in
    let f = q.devices j.0 e j.3.exit.1.at in
    let h = reads_tell j.0 j.1 e f.0 u v r a j.3.entry.at j.3.exit.1 f.2.stays in
    let is : parent ≡ f.0.name = sym j.4 ∙ sym (live_before u v j.0 j.1 e g j.3.entry.at j.3.exit.1).1.name ∙ sym f.2.stays.name in
    let same : parents_from y.answer z.answer w.answer ≡ parent_attrs_of f.0 = cc (h.1.1.1.1.0 is, h.1.1.1.1.1.0 is, h.1.1.1.1.1.1.0 is) in
    subst (λ o. IsParentRead l o (Some (parents_from y.answer z.answer w.answer))) (sym j.2) (f.0, f.1, ap (λ o. Some o) same)

-- the held file

-- the held file was opened, and nothing was written since
pub record IsOpenSince (name : List ℕ) (k : Kernel) (held : ℕ) (m : Kernel) : Type 0 where
  pub before : Kernel
  pub opening : Kernel
  pub start : Moves k before
  pub opens : IsOpened name Authorized held before opening
  pub quiet : Quiet opening m
  pub sound : IsKernel before

pub open_since : (name : List ℕ) (file : Held) (call count : ℕ) (k m l : Kernel) → Called (Open name Authorized) (told (Opened.Token file) call count) k m → Quiet m l → IsOpenSince name k file.0 l
open_since name file call count k m l c q = record { before = c.before; opening = c.after; start = c.moves_before; opens = c.effect; quiet = quiet_trans c.after m l (moves_quiet c.after m c.moves_after) q; sound = c.sound_before }

pub opened_file : (name : List ℕ) (control : Control) (held : ℕ) (k m : Kernel) (o : IsOpened name control held k m) → slice_get m.held held ≡ Some (record { device = o.i; control = control })
opened_file name control held k m o =
    let f : HeldFile = record { device = o.i; control = control } in
    subst (λ v. slice_get m.held v ≡ Some f) (sym o.next) (subst (λ v. slice_get v (length k.held) ≡ Some f) (sym o.more) (get_end k.held f))

-- it is of the device that was opened
file_now : (name : List ℕ) (k : Kernel) (held : ℕ) (m : Kernel) (h : IsOpenSince name k held m) → slice_get m.held held ≡ Some (record { device = h.opens.i; control = Authorized })
file_now name k held m h = h.quiet.held held (record { device = h.opens.i; control = Authorized }) (opened_file name Authorized held h.before h.opening h.opens)

-- which bears the name
device_now : (name : List ℕ) (k : Kernel) (held : ℕ) (m : Kernel) (h : IsOpenSince name k held m) → (d : Device) × (slice_get m.devices h.opens.i ≡ Some d) × (d.name ≡ name)
device_now name k held m h =
    let x = h.quiet.devices h.opens.i h.opens.d (subst (λ v. slice_get v h.opens.i ≡ Some h.opens.d) (sym h.opens.devices) h.opens.live.at) in
    (x.0, x.1, x.2.stays.name ∙ h.opens.named)

-- a device of the name that lived through is the one that was opened
opened_only : (name : List ℕ) (k : Kernel) (held : ℕ) (w l : Kernel) (h : IsOpenSince name k held w) → Grows w l → (j : ℕ) (d : Device) → Lived k.devices l.devices j d → d.name ≡ name → j ≡ h.opens.i
opened_only name k held w l h g j d lives named =
    let x = lived_cut k h.before l j d (quiet_grows k h.before (moves_quiet k h.before h.start)) (grows_trans h.before w l (grows_trans h.before h.opening w (quiet_grows h.before h.opening (opened_quiet name Authorized held h.before h.opening h.opens)) (quiet_grows h.opening w h.quiet)) g) lives in
    h.sound.devices.names j h.opens.i x.1.0 h.opens.d x.1.1.entry h.opens.live (x.1.2.name ∙ named ∙ sym h.opens.named)

-- how it ends

-- by what its attributes and its parent's are
pub bound_with : (Parents : Kernel → Option ℕ → Option Attrs → Type 0) (name : List ℕ) (k u v l : Kernel) (b : Bound) (h : IsOpenSince name k b.held.0 u) → Quiet u v → ((d e f : Device) → slice_get u.devices h.opens.i ≡ Some d → Live v.devices h.opens.i e → Stays e f → name ≡ f.name → IsOwn (own_files b) f) → ((d : Device) → Lived u.devices v.devices h.opens.i d → d.name ≡ name → Parents l d.parent b.parent) → IsAlive b.held.0 b.on v → Quiet v l → IsBoundBy Parents name k l b
bound_with Parents name k u v l b h quiet own parents alive q =
    let now : IsOpenSince name k b.held.0 v = record { before = h.before; opening = h.opening; start = h.start; opens = h.opens; quiet = quiet_trans h.opening u v h.quiet quiet; sound = h.sound } in
    let held : HeldFile = record { device = h.opens.i; control = Authorized } in
    let file = file_now name k b.held.0 v now in
    let is : alive.i ≡ h.opens.i = sym alive.holds.is ∙ ap (λ (f : HeldFile). f.device) (some_same (slice_get v.held b.held.0) alive.holds.file held alive.holds.at file) in
    let live : Live v.devices h.opens.i alive.d = subst (λ i. Live v.devices i alive.d) is alive.live in
    let was = device_now name k b.held.0 u h in
    let first = live_before u v h.opens.i was.0 alive.d (quiet_grows u v quiet) was.1 live in
    let e = q.devices h.opens.i alive.d live.at in
    let named = e.2.stays.name ∙ first.1.name ∙ was.2 in
    let new : length k.held ≤ b.held.0 = omega (arith, h.opens.next, ap (λ (fs : List HeldFile). length fs) h.start.held) in
    let files = own was.0 alive.d e.0 was.1 live e.2.stays (sym named) in
    record {
      i = h.opens.i;
      d = e.0;
      device = e.1;
      file = q.held b.held.0 held file;
      fresh = slice_get_past k.held b.held.0 new;
      named = named;
      own = files.0;
      core_long = files.1;
      parents = subst (λ p. Parents l p b.parent) (sym (e.2.stays.parent ∙ first.1.parent)) (parents was.0 (record { entry = first.0; exit = (alive.d, live) }) was.2);
      value = e.2.on ∙ alive.value;
      lived = record { before = h.before; opening = h.opening; probing = v; start = h.start; opened = h.opens; is = refl; reads = now.quiet; alive = alive; end = q };
      only = opened_only name k b.held.0 v l now (quiet_grows v l q);
    }

bound_law : {name : List ℕ} {ms : List Made} (k u v l : Kernel) (b : Bound) (h : IsOpenSince name k b.held.0 u) → Reads name ms → Files name ms (own_files b) b.parent → IsKernel u → Along calls u ms v → IsAlive b.held.0 b.on v → Quiet v l → IsBound name k l b
bound_law {name} {ms} k u v l b h reads files sound a alive q =
    bound_with IsParentRead name k u v l b h (along_quiet ms u v (reads_unwritten reads) a)
    (λ d e f at live s named. own_is f named files (reads_tell h.opens.i d e f u v reads a at live s))
    (λ d lives named. parents_are h.opens.i d u v l files reads a sound q lives named)
    alive q

pub gone_law : (name : List ℕ) (k : Kernel) (held : ℕ) (w l : Kernel) → IsOpenSince name k held w → Grows w l → IsGoneAt held w → NoneLived name k l
gone_law name k held w l h g gone j d lives named =
    let is = opened_only name k held w l h g j d lives named in
    let y = device_now name k held w h in
    let exit : Live l.devices h.opens.i lives.exit.0 = subst (λ v. Live l.devices v lives.exit.0) is lives.exit.1 in
    let live = (live_before w l h.opens.i y.0 lives.exit.0 g y.1 exit).0 in
    gone h.opens.i y.0 (record { file = record { device = h.opens.i; control = Authorized }; at = file_now name k held w h; is = refl; device = y.1 }) live

none_wider : (name : List ℕ) (k u w l : Kernel) → Grows k u → Grows u w → Grows w l → NoneLived name u w → NoneLived name k l
none_wider name k u w l a b c h i d lives named =
    let x = (lived_cut k u l i d a (grows_trans u w l b c) lives).1 in
    h i x.0 (lived_cut u w l i x.0 b c x.1).0 (x.2.name ∙ named)

-- no device is without descriptors
within_no : (fits : Bool) (bytes : List ℕ) → ReadOut.Absent ≡ cond fits (ReadOut.Bytes bytes) ReadOut.TooLong → ⊥
within_no true bytes e = cc
within_no false bytes e = cc

absent_none : (name of : List ℕ) (k l : Kernel) → IsReadable name of → IsSound k.devices → IsSound l.devices → Grows k l → IsFile of Attr.Descriptors ReadOut.Absent k l → NoneLived name k l
absent_none name of k l (inl e) s t g h = λ i d lives named. within_no (nat_le (length d.descriptors) 131072) d.descriptors (h i d lives (named ∙ sym e))
absent_none name of k l (inr above) s t g h = λ i d lives named.
    let x = parent_lived k l name of i d d.parent s t g lives named above refl in
    within_no (nat_le (length x.1.descriptors) 131072) x.1.descriptors (h x.0 x.1 x.3 x.4)

pub stop_says : {name of : List ℕ} {at : Attr} {t : ToldAnswer ReadOut} {why : Stop} (k u w l : Kernel) → IsReadable name of → Stops at t why → IsKernel u → Called (Read of at) t u w → Grows k u → Grows w l → BindSays name k l (binding_of why)
stop_says {name} {of} k u w l may (No_descriptors call count) s c g j =
    let b = called_grows (Read of Attr.Descriptors) (told ReadOut.Absent call count) u w c in
    none_wider name k u w l g b j (absent_none name of u w may s.devices c.sound.devices b c.says)
stop_says k u w l may x s c g j = tt

pub binds_say : {name : List ℕ} {ms : List Made} {r : Binding} (k l : Kernel) → Binds_by name ms r → Along calls k ms l → BindSays name k l r
binds_say {name} k l (No_such call count) a =
    let none = subst (λ v. NoneHas Authorized name k v) (sym a.2) a.1.says in
    λ i d lives named. none i d lives named refl
binds_say {name} k l (Cut file call count ms of at t shut why r left n first may stops e) a =
    let cut = along_split calls ms (made_with (Read of at) t ∷ made_with (Close file.0) shut ∷ []) a.0 l a.2 in
    let g = grows_trans k a.0 cut.0 (called_grows (Open name Authorized) (told (Opened.Token file) call count) k a.0 a.1) (along_grows ms a.0 cut.0 cut.1) in
    subst (λ v. BindSays name k l v) (sym e) (stop_says k cut.0 cut.2.0 l may stops (along_sound ms a.0 cut.0 a.1.sound cut.1) cut.2.1 g (along_grows (made_with (Close file.0) shut ∷ []) cut.2.0 l cut.2.2))
binds_say {name} k l (Probed_gone file call count number total ms shut n first) a =
    let gone = made_with (Ask_alive file.0) (told Probe.Gone number total) in
    let cut = along_split calls ms (gone ∷ made_with (Close file.0) shut ∷ []) a.0 l a.2 in
    let q = quiet_trans a.0 cut.0 cut.2.0 (along_quiet ms a.0 cut.0 (reads_unwritten n) cut.1) (called_quiet (Ask_alive file.0) (told Probe.Gone number total) cut.0 cut.2.0 tt cut.2.1) in
    gone_law name k file.0 cut.2.0 l (open_since name file call count k a.0 cut.2.0 a.1 q) (along_grows (made_with (Close file.0) shut ∷ []) cut.2.0 l cut.2.2) cut.2.1.says
binds_say {name} k l (Bound_by call count number total ms b n first are) a =
    let last = made_with (Ask_alive b.held.0) (told (Probe.Alive b.on) number total) ∷ [] in
    let cut = along_split calls ms last a.0 l a.2 in
    bound_law k a.0 cut.0 l b (open_since name b.held call count k a.0 a.0 a.1 (quiet_refl a.0)) n are a.1.sound cut.1 cut.2.1.says (along_quiet last cut.0 l (tt, tt) cut.2)
binds_say k l x a = tt

pub binding_law : (name : List ℕ) (parent : Option (List ℕ)) (r : Binding) (k l : Kernel) → parent ≡ parent_of name → IsKernel k → Runs calls k (binding name parent) r l → IsBinding name k l r
binding_law name parent r k l above sound runs =
    let x = ways_run calls (Sure (Binds_by name)) (binding name (parent_of name)) k r l (binds_by name) (subst (λ (p : Option (List ℕ)). Runs calls k (binding name p) r l) above runs) in
    record {
      sound = along_sound x.made k l sound x.along;
      quiet = along_quiet x.made k l (binds_unwritten x.so.1) x.along;
      says = binds_say k l x.so.1 x.along;
    }

-- and over the states of a run
pub told_binds : {S : Type 0} (gives : S → (call : Call) → Answer call → S → Type 0) (told : S → Option Kernel) (did : (s : S) (call : Call) (answer : Answer call) (t : S) (l : Kernel) → gives s call answer t → told t ≡ Some l → Follows call answer (told s) l) (name : List ℕ) (parent : Option (List ℕ)) (s : S) (r : Binding) (t : S) → parent ≡ parent_of name → Runs gives s (binding name parent) r t → TellsBinding told s name r t
told_binds gives told did name parent s r t above runs = λ l e.
    let m = told_run gives told did (binding name parent) s r t l runs e in
    (m.kernel, m.was, λ k. binding_law name parent r m.kernel l above k (m.run k).0)

-- the numbers of a failed answer: those of the last call that is counted, which failed

-- a call that failed
pub fault_so : {X : Type 0} (failed : X → Bool) (t : ToldAnswer X) (v w : Tally) → failed t.answer ≡ true → Counted failed t v.calls v.faults w.calls w.faults → IsFault v.faults w.calls w.faults (failure_of t)
fault_so failed t v w e h = record { number = h.number; total = h.count; rises = λ few. h.rises e few }

-- one behind others, with the closing of a file behind it
pub ends_closed : (front : List Made) (m : Made) (held : ℕ) (shut : Closing) (failed : FailedCall) (v w : Tally) → ((x y : Tally) → counts x m.call m.answer y → IsFault x.faults y.calls y.faults failed) → Along counts v (front ++ m ∷ made_with (Close held) shut ∷ []) w → IsFault v.faults w.calls w.faults failed
ends_closed front m held shut failed v w fails a =
    let cut = along_split counts front (m ∷ made_with (Close held) shut ∷ []) v w a in
    let x = cut.0 in
    let y = cut.2.0 in
    let h = fails x y cut.2.1 in
    let low = along_never_falls front v x cut.1 in
    let closed = cut.2.2.1 in
    let same = cut.2.2.2 in
    let calls : w.calls ≡ y.calls = ap (λ (t : Tally). t.calls) same ∙ closed.0 in
    let faults : w.faults ≡ y.faults = ap (λ (t : Tally). t.faults) same ∙ closed.1 in
    let first = counts_never_fall m.call m.answer x y cut.2.1 in
    record { number = h.number ∙ sym calls; total = h.total ∙ sym faults; rises = λ few. grind (arith, h.rises, few, low, first, faults) }

pub stop_tells : {at : Attr} {t : ToldAnswer ReadOut} {why : Stop} (front : List Made) (of : List ℕ) (held : ℕ) (shut : Closing) (v w : Tally) → Stops at t why → Along counts v (front ++ made_with (Read of at) t ∷ made_with (Close held) shut ∷ []) w → TellsFault v.faults w.calls w.faults (binding_of why)
stop_tells front of held shut v w (Read_failed at call count) a = ends_closed front (made_with (Read of at) (told ReadOut.Failed call count)) held shut (record { call = call; count = count }) v w (λ x y c. fault_so failed_read (told ReadOut.Failed call count) x y refl c) a
stop_tells front of held shut v w x a = tt

pub binds_tell : {name : List ℕ} {ms : List Made} {r : Binding} (v w : Tally) → Binds_by name ms r → Along counts v ms w → TellsFault v.faults w.calls w.faults r
binds_tell v w (Open_failed call count) a = subst (λ (x : Tally). IsFault v.faults x.calls x.faults (record { call = call; count = count })) (sym a.2) (fault_so failed_open (told Opened.Failed call count) v a.0 refl a.1)
binds_tell {name} v w (Cut file call count ms of at t shut why r left n first may stops e) a = subst (λ (x : Binding). TellsFault v.faults w.calls w.faults x) (sym e) (stop_tells (made_with (Open name Authorized) (told (Opened.Token file) call count) ∷ ms) of file.0 shut v w stops a)
binds_tell {name} v w (Probe_failed file call count number total ms shut n first) a = ends_closed (made_with (Open name Authorized) (told (Opened.Token file) call count) ∷ ms) (made_with (Ask_alive file.0) (told Probe.Failed number total)) file.0 shut (record { call = number; count = total }) v w (λ x y c. fault_so is_probe_failed (told Probe.Failed number total) x y refl c) a
binds_tell v w x a = tt

holds_tell : {control : Control} {name : List ℕ} {held : ℕ} {ms : List Made} {r : RemoveHold} (v w : Tally) → Holds_by control name held ms r → Along counts v ms w → TellsHoldFault v.faults w.calls w.faults r
holds_tell v w (Not_opened call count) a = subst (λ (x : Tally). IsFault v.faults x.calls x.faults (record { call = call; count = count })) (sym a.2) (fault_so failed_open (told Opened.Failed call count) v a.0 refl a.1)
holds_tell {control} {name} {held} v w (Unasked file call count number total shut) a = ends_closed (made_with (Open name control) (told (Opened.Token file) call count) ∷ []) (made_with (Ask_alive held) (told Probe.Failed number total)) file.0 shut (record { call = number; count = total }) v w (λ x y c. fault_so is_probe_failed (told Probe.Failed number total) x y refl c) a
holds_tell v w x a = tt

-- of the states of a run

pub told_fault : {S : Type 0} (gives : S → (call : Call) → Answer call → S → Type 0) (calls faults : S → ℕ) (counted : Counting gives calls faults) (name : List ℕ) (parent : Option (List ℕ)) (s : S) (r : Binding) (t : S) → parent ≡ parent_of name → Runs gives s (binding name parent) r t → TellsFault (faults s) (calls t) (faults t) r
told_fault gives calls faults counted name parent s r t e h =
    let x = ways_run gives (Sure (Binds_by name)) (binding name (parent_of name)) s r t (binds_by name) (subst (λ (p : Option (List ℕ)). Runs gives s (binding name p) r t) e h) in
    binds_tell (tally (calls s) (faults s)) (tally (calls t) (faults t)) x.so.1 (along_counted gives calls faults counted x.made s t x.along)

pub hold_fault : {S : Type 0} (gives : S → (call : Call) → Answer call → S → Type 0) (calls faults : S → ℕ) (counted : Counting gives calls faults) (control : Control) (name : List ℕ) (held : ℕ) (s : S) (r : RemoveHold) (t : S) → Runs gives s (holding control name held) r t → TellsHoldFault (faults s) (calls t) (faults t) r
hold_fault gives calls faults counted control name held s r t h =
    let x = ways_run gives (Sure (Holds_by control name held)) (holding control name held) s r t (holds_by control name held) h in
    holds_tell (tally (calls s) (faults s)) (tally (calls t) (faults t)) x.so.1 (along_counted gives calls faults counted x.made s t x.along)

-- The law of opening a second file of a device, over kernels, by cases on its calls.

holds_unwritten : {control : Control} {name : List ℕ} {held : ℕ} {ms : List Made} {r : RemoveHold} → Holds_by control name held ms r → Unwritten ms
holds_unwritten (Held_on file on call count number total) = (tt, (tt, tt))
holds_unwritten (Died file call count number total shut) = (tt, (tt, (tt, tt)))
holds_unwritten (Unasked file call count number total shut) = (tt, (tt, (tt, tt)))
holds_unwritten x = (tt, tt)

-- the device of the held file

pub file_later : (k l : Kernel) (name : List ℕ) (held i : ℕ) → Grows k l → IsAuthorizedFile k name held i → IsAuthorizedFile l name held i
file_later k l name held i g f =
    let x = g.devices i f.d f.device in
    record { d = x.0; file = g.held held (record { device = i; control = Authorized }) f.file; device = x.1; named = x.2.name ∙ f.named }

pub holds_is : (k : Kernel) (name : List ℕ) (held i j : ℕ) (d : Device) → IsAuthorizedFile k name held i → Holds k held j d → j ≡ i
holds_is k name held i j d f h =
    let own : HeldFile = record { device = i; control = Authorized } in
    sym h.is ∙ ap (λ (v : HeldFile). v.device) (some_same (slice_get k.held held) h.file own h.at f.file)

-- what isn't live isn't so later
pub gone_later : (k l : Kernel) (name : List ℕ) (held i : ℕ) → Grows k l → IsAuthorizedFile k name held i → ((d : Device) → Live k.devices i d → ⊥) → IsGoneAt held l
gone_later k l name held i g f dead j e h live =
    let is = holds_is l name held i j e (file_later k l name held i g f) h in
    dead f.d (live_before k l i f.d e g f.device (subst (λ (v : ℕ). Live l.devices v e) is live)).0

gone_dead : (k : Kernel) (name : List ℕ) (held i : ℕ) → IsAuthorizedFile k name held i → IsGoneAt held k → (d : Device) → Live k.devices i d → ⊥
gone_dead k name held i f gone d live = gone i d (record { file = record { device = i; control = Authorized }; at = f.file; is = refl; device = live.at }) live

-- by cases

holds_say : {control : Control} {name : List ℕ} {held : ℕ} {ms : List Made} {r : RemoveHold} (i : ℕ) (k l : Kernel) → IsSound k.devices → IsOpenable control name → Holds_by control name held ms r → IsAuthorizedFile k name held i → Along calls k ms l → HoldSays control held i l r
holds_say {control} {name} {held} i k l sound can (Not_there call count) f a =
    let g = along_grows (made_with (Open name control) (told Opened.Absent call count) ∷ []) k l a in
    let none = subst (λ v. NoneHas control name k v) (sym a.2) a.1.says in
    gone_later l l name held i (grows_refl l) (file_later k l name held i g f) (λ d live.
    let entry = (live_before k l i f.d d g f.device live).0 in
    none i f.d (record { entry = entry; exit = (d, live) }) f.named (openable_has control name k.devices i f.d sound entry f.named can))
holds_say {control} {name} {held} i k l sound can (Held_on file on call count number total) f a =
    let c = a.1 in
    let before = quiet_grows k c.before (moves_quiet k c.before c.moves_before) in
    let own = quiet_grows c.before c.after (opened_quiet name control file.0 c.before c.after c.effect) in
    let last = made_with (Ask_alive held) (told (Probe.Alive on) number total) ∷ [] in
    let alive = a.2.1.says in
    let g = grows_trans c.before c.after a.0 own (quiet_grows c.after a.0 (moves_quiet c.after a.0 c.moves_after)) in
    let now = file_later k a.0 name held i (called_grows (Open name control) (told (Opened.Token file) call count) k a.0 c) f in
    let live : Live a.0.devices i alive.d = subst (λ v. Live a.0.devices v alive.d) (holds_is a.0 name held i alive.i alive.d now alive.holds) alive.live in
    let d = before.devices i f.d f.device in
    let first = (live_before c.before a.0 i d.0 alive.d g d.1 live).0 in
    let same = c.sound_before.devices.names c.effect.i i c.effect.d d.0 c.effect.live first (c.effect.named ∙ sym (d.2.name ∙ f.named)) in
    let at = subst (λ v. slice_get c.after.held file.0 ≡ Some (record { device = v; control = control })) same (opened_file name control file.0 c.before c.after c.effect) in
    (quiet_trans c.after a.0 l (moves_quiet c.after a.0 c.moves_after) (along_quiet last a.0 l (tt, tt) a.2)).held file.0 (record { device = i; control = control }) at
holds_say {control} {name} {held} i k l sound can (Died file call count number total shut) f a =
    let to = grows_trans k a.0 a.2.0 (called_grows (Open name control) (told (Opened.Token file) call count) k a.0 a.1) (called_grows (Ask_alive held) (told Probe.Gone number total) a.0 a.2.0 a.2.1) in
    let now = file_later k a.2.0 name held i to f in
    gone_later a.2.0 l name held i (along_grows (made_with (Close file.0) shut ∷ []) a.2.0 l a.2.2) now (gone_dead a.2.0 name held i now a.2.1.says)
holds_say i k l sound can x f a = tt

pub holding_law : (control : Control) (name : List ℕ) (held i : ℕ) (r : RemoveHold) (k l : Kernel) → IsKernel k → IsOpenable control name → IsAuthorizedFile k name held i → Runs calls k (holding control name held) r l → IsHold control held i k l r
holding_law control name held i r k l sound can f runs =
    let x = ways_run calls (Sure (Holds_by control name held)) (holding control name held) k r l (holds_by control name held) runs in
    record {
      sound = along_sound x.made k l sound x.along;
      quiet = along_quiet x.made k l (holds_unwritten x.so.1) x.along;
      says = holds_say i k l sound.devices can x.so.1 f x.along;
    }

-- and over the states of a run
pub told_holds : {S : Type 0} (gives : S → (call : Call) → Answer call → S → Type 0) (told : S → Option Kernel) (did : (s : S) (call : Call) (answer : Answer call) (t : S) (l : Kernel) → gives s call answer t → told t ≡ Some l → Follows call answer (told s) l) (control : Control) (name : List ℕ) (held : ℕ) (s : S) (r : RemoveHold) (t : S) → IsOpenable control name → Runs gives s (holding control name held) r t → HoldsFile told control s name held r t
told_holds gives told did control name held s r t can runs = λ l e.
    let m = told_run gives told did (holding control name held) s r t l runs e in
    (m.kernel, m.was, λ k i f. holding_law control name held i r m.kernel l k can f (m.run k).0)

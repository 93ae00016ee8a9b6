-- A binding whose name's parent is held, flat; and its law, by cases on its calls.
use Rattle.std.proofs.Common.{◌≡◌, ℕ, Bool, true, false, ◌&&◌, List, [], ◌∷◌, ◌++◌, Option, Some, None, is_some, slice_get, inl, inr, refl, sym, ◌∙◌, ap, subst, append-nil, append_assoc}
use Rattle.ug_types.specs.Names.{parent_of}
use Rattle.ug_types.specs.declared.record.Attrs.{Attrs}
use Rattle.ug_kernel.specs.declared.control.Held.{Held}
use Rattle.ug_kernel.specs.declared.control.Attr.{Attr}
use Rattle.ug_kernel.specs.declared.control.Control.TheVariants.{Authorized}
use Rattle.ug_kernel.specs.declared.device.Device.{Device}
use Rattle.ug_kernel.specs.declared.calls.ReadOut.{ReadOut}
use Rattle.ug_kernel.specs.declared.calls.Opened.{Opened}
use Rattle.ug_kernel.specs.declared.calls.Probe.{Probe}
use Rattle.ug_kernel.specs.Calls.{Call, Answer, Open, Read, Ask_alive, Close, Closing, ToldAnswer, failed_open, is_probe_failed}
use Rattle.ug_kernel.specs.Along.{Made, made_with, Along}
use Rattle.ug_kernel.specs.Kernel.{Kernel, Live, IsSound, IsKernel, Moves}
use Rattle.ug_kernel.specs.Called.{Lived, NoneHas, says_read, Called, Follows, IsAlive}
use Rattle.ug_kernel.specs.Quiet.{Quiet, Grows}
use Rattle.ug_kernel.specs.Tree.{Runs, then, calls}
use Rattle.ug_kernel.proofs.Births.{moves_then}
use Rattle.ug_kernel.proofs.Quiet.{stays_trans, quiet_refl, quiet_trans, called_quiet}
use Rattle.ug_kernel.proofs.Grow.{some_same, quiet_grows, grows_trans, called_grows}
use Rattle.ug_kernel.proofs.HeldFiles.{live_before, lived_cut}
use Rattle.ug_kernel.proofs.Told.{told_run}
use Rattle.ug_kernel.proofs.Rises.{Counting}
use Rattle.ug_kernel.proofs.Counted.{Tally, tally, counts, along_counted}
use Rattle.ug_kernel.proofs.Ways.{Ways, Sure, ways_then, ways_run, along_split, along_sound, along_grows, Unwritten, unwritten_more, along_quiet}
use Rattle.ug_kernel.specs.Bind.{binding_of, after_probe, asking_alive, after_parent, after_asking, after_own_under, after_open_under, binding_under}
use Rattle.ug_kernel.specs.Bound.{IsParentRead, SaysBy, IsBindingBy, BindSays, IsFault, TellsFault}
use Rattle.ug_kernel.specs.CallOrder.{GoBy, GoByProbe, OnlyCloses, parent_acts, IsBoundOn, own_acts, HasParentFiles, BehindAsked, GoByAsked, BindsUnderInOrder}
use Rattle.ug_kernel.specs.Files.{reading_own, reading_parent}
use Rattle.ug_kernel.specs.Removal.{IsAuthorizedFile}
use Rattle.ug_kernel.specs.Under.{IsParentKept, BindsUnder}
use Rattle.ug_kernel.specs.declared.files.OwnFiles.{OwnFiles}
use Rattle.ug_kernel.specs.declared.files.Stop.{Stop}
use Rattle.ug_kernel.specs.declared.identity.Binding.{Binding}
use Rattle.ug_kernel.proofs.BindShapes.{told, Reads, own_first, parent_files, files_of, ReadsFirst, None_read, One_read, Stops, own_from, parents_from, reads_own, reads_parents, Below, Binds_by, Cut, Probed_gone, Probe_failed, Bound_by, first_more, reads_more, own_read, parent_read}
use Rattle.ug_kernel.proofs.CallOrders.{reads_go, stops_end}
use Rattle.ug_kernel.proofs.Laws.{reads_unwritten, reads_tell, open_since, bound_with, gone_law, stop_says, binds_say, fault_so, ends_closed, stop_tells, file_later, holds_is}

-- the last probe
pub data Probed_by (file : Held) (own : OwnFiles) (parent : Option Attrs) : List Made → Binding → Type 0 where
  Found_alive : (on : Bool) (number total : ℕ) → Probed_by file own parent (made_with (Ask_alive file.0) (told (Probe.Alive on) number total) ∷ []) (Binding.Bound (record { held = record { 0 = file.0 }; attrs = own.attrs; core_long = own.core_long; parent = parent; on = on }))
  Found_gone : (number total : ℕ) (shut : Closing) → Probed_by file own parent (made_with (Ask_alive file.0) (told Probe.Gone number total) ∷ made_with (Close file.0) shut ∷ []) Binding.Vanished
  Found_none : (number total : ℕ) (shut : Closing) → Probed_by file own parent (made_with (Ask_alive file.0) (told Probe.Failed number total) ∷ made_with (Close file.0) shut ∷ []) (Binding.Failed (record { call = number; count = total }))

-- the parent's files, and that probe
pub data Behind_by (name parent : List ℕ) (file : Held) (own : OwnFiles) : List Made → Binding → Type 0 where
  Cut_behind : (ms : List Made) (at : Attr) (t : ToldAnswer ReadOut) (shut : Closing) (why : Stop) (r : Binding) (left : List (List ℕ × Attr)) → Reads name ms → ReadsFirst (parent_files (Some parent)) ms ((parent, at) ∷ left) → Stops at t why → r ≡ binding_of why → Behind_by name parent file own (ms ++ made_with (Read parent at) t ∷ made_with (Close file.0) shut ∷ []) r
  Read_behind : (x y z : ToldAnswer ReadOut) (ns : List Made) (r : Binding) → Reads name (reads_parents parent x y z) → ReadsFirst (parent_files (Some parent)) (reads_parents parent x y z) [] → Probed_by file own (Some (parents_from x.answer y.answer z.answer)) ns r → Behind_by name parent file own (reads_parents parent x y z ++ ns) r

-- a probe that didn't find the device alive
abbrev pub IsntAlive : Probe → Type 0
IsntAlive (Probe.Alive on) = ⊥
IsntAlive Probe.Gone = Unit {0}
IsntAlive Probe.Failed = Unit {0}

abbrev OwnRead : List ℕ → ToldAnswer ReadOut → ToldAnswer ReadOut → ToldAnswer ReadOut → ToldAnswer ReadOut → Type 0
OwnRead name d p s c = Reads name (reads_own name d p s c []) × ReadsFirst (own_first name []) (reads_own name d p s c []) []

abbrev own_told : ToldAnswer ReadOut → ToldAnswer ReadOut → ToldAnswer ReadOut → ToldAnswer ReadOut → OwnFiles
own_told d p s c = own_from d.answer p.answer s.answer c.answer

-- the calls of a binding under that file
pub data Under_by (name parent : List ℕ) (kept : ℕ) : List Made → Binding → Type 0 where
  Under_none : (call count : ℕ) → Under_by name parent kept (made_with (Open name Authorized) (told Opened.Absent call count) ∷ []) Binding.Absent
  Under_unopened : (call count : ℕ) → Under_by name parent kept (made_with (Open name Authorized) (told Opened.Failed call count) ∷ []) (Binding.Failed (record { call = call; count = count }))
  Under_short : (call count : ℕ) → Under_by name parent kept (made_with (Open name Authorized) (told Opened.Memory call count) ∷ []) Binding.Memory
  Under_cut : (file : Held) (call count : ℕ) (ms : List Made) (at : Attr) (t : ToldAnswer ReadOut) (shut : Closing) (why : Stop) (r : Binding) (left : List (List ℕ × Attr)) → Reads name ms → ReadsFirst (own_first name []) ms ((name, at) ∷ left) → Stops at t why → r ≡ binding_of why → Under_by name parent kept (made_with (Open name Authorized) (told (Opened.Token file) call count) ∷ (ms ++ made_with (Read name at) t ∷ made_with (Close file.0) shut ∷ [])) r
  Under_alive : (file : Held) (call count : ℕ) (d p s c : ToldAnswer ReadOut) (on : Bool) (number total : ℕ) (ns : List Made) (r : Binding) → OwnRead name d p s c → Probed_by file (own_told d p s c) None ns r → Under_by name parent kept (made_with (Open name Authorized) (told (Opened.Token file) call count) ∷ reads_own name d p s c (made_with (Ask_alive kept) (told (Probe.Alive on) number total) ∷ ns)) r
  Under_other : (file : Held) (call count : ℕ) (d p s c : ToldAnswer ReadOut) (t : ToldAnswer Probe) (ns : List Made) (r : Binding) → IsntAlive t.answer → OwnRead name d p s c → Behind_by name parent file (own_told d p s c) ns r → Under_by name parent kept (made_with (Open name Authorized) (told (Opened.Token file) call count) ∷ reads_own name d p s c (made_with (Ask_alive kept) t ∷ ns)) r

-- the walk

pub under_by : (name parent : List ℕ) (kept : ℕ) → parent_of name ≡ Some parent → Ways (binding_under name parent kept) (Sure (Under_by name parent kept))
unfolding binding_under
under_by name parent kept above = λ t. opened_by t.answer t.number t.count
  where
    probed : (file : Held) (own : OwnFiles) (p : Option Attrs) (Q : List Made → Binding → Type 0) → ((ns : List Made) (r : Binding) → Probed_by file own p ns r → Q ns r) → Ways (asking_alive file.0 own p) (Sure Q)
    probed file own p Q give = λ t. by t.answer t.number t.count
      where
        by : (r : Probe) (number total : ℕ) → Ways (after_probe file.0 own p r (record { call = number; count = total })) (Sure (λ ns x. Q (made_with (Ask_alive file.0) (told r number total) ∷ ns) x))
        by (Probe.Alive on) number total = (refl, give _ _ (Found_alive on number total))
        by Probe.Gone number total = λ shut. (refl, give _ _ (Found_gone number total shut))
        by Probe.Failed number total = λ shut. (refl, give _ _ (Found_none number total shut))

    behind : (file : Held) (own : OwnFiles) (Q : List Made → Binding → Type 0) → ((ns : List Made) (r : Binding) → Behind_by name parent file own ns r → Q ns r) → Ways (then (reading_parent parent file.0) (after_parent file.0 own)) (Sure Q)
    behind file own Q give =
        ways_then (Sure Q) (reading_parent parent file.0) (after_parent file.0 own)
        (parent_read name parent file.0 (inr above) (λ ok ms q. Ways (after_parent file.0 own q) (λ more ns r. Sure Q (ok && more) (ms ++ ns) r))
        (λ x y z b g. probed file own (Some (parents_from x.answer y.answer z.answer)) (λ ns r. Q (reads_parents parent x y z ++ ns) r) (λ ns r h. give _ _ (Read_behind x y z ns r b g h)))
        (λ ms at t why shut left b g stops. (refl, subst (λ (v : List Made). Q v (binding_of why)) (sym (append-nil (ms ++ made_with (Read parent at) t ∷ made_with (Close file.0) shut ∷ []))) (give _ _ (Cut_behind ms at t shut why (binding_of why) left b g stops refl)))))

    asked : (file : Held) (call count : ℕ) (d p s c : ToldAnswer ReadOut) → OwnRead name d p s c → (r : Probe) (number total : ℕ) → Ways (after_asking file.0 (own_told d p s c) parent r) (Sure (λ ns x. Under_by name parent kept (made_with (Open name Authorized) (told (Opened.Token file) call count) ∷ reads_own name d p s c (made_with (Ask_alive kept) (told r number total) ∷ ns)) x))
    asked file call count d p s c own (Probe.Alive on) number total = probed file (own_told d p s c) None (λ ns x. Under_by name parent kept (made_with (Open name Authorized) (told (Opened.Token file) call count) ∷ reads_own name d p s c (made_with (Ask_alive kept) (told (Probe.Alive on) number total) ∷ ns)) x) (λ ns r h. Under_alive file call count d p s c on number total ns r own h)
    asked file call count d p s c own Probe.Gone number total = behind file (own_told d p s c) (λ ns x. Under_by name parent kept (made_with (Open name Authorized) (told (Opened.Token file) call count) ∷ reads_own name d p s c (made_with (Ask_alive kept) (told Probe.Gone number total) ∷ ns)) x) (λ ns r h. Under_other file call count d p s c (told Probe.Gone number total) ns r tt own h)
    asked file call count d p s c own Probe.Failed number total = behind file (own_told d p s c) (λ ns x. Under_by name parent kept (made_with (Open name Authorized) (told (Opened.Token file) call count) ∷ reads_own name d p s c (made_with (Ask_alive kept) (told Probe.Failed number total) ∷ ns)) x) (λ ns r h. Under_other file call count d p s c (told Probe.Failed number total) ns r tt own h)

    After : Held → ℕ → ℕ → List Made → Binding → Type 0
    After file call count ms r = Under_by name parent kept (made_with (Open name Authorized) (told (Opened.Token file) call count) ∷ ms) r

    opened_by : (r : Opened) (call count : ℕ) → Ways (after_open_under name parent kept r (record { call = call; count = count })) (Sure (λ ms x. Under_by name parent kept (made_with (Open name Authorized) (told r call count) ∷ ms) x))
    opened_by (Opened.Token file) call count =
        ways_then (Sure (After file call count)) (reading_own name file.0) (after_own_under file.0 parent kept)
        (own_read name file.0 [] (λ ok ms q. Ways (after_own_under file.0 parent kept q) (λ more ns r. Sure (After file call count) (ok && more) (ms ++ ns) r))
        (λ d p s c a f. λ t. asked file call count d p s c (a, f) t.answer t.number t.count)
        (λ ms at t why shut left a f stops. (refl, subst (λ (v : List Made). After file call count v (binding_of why)) (sym (append-nil (ms ++ made_with (Read name at) t ∷ made_with (Close file.0) shut ∷ []))) (Under_cut file call count ms at t shut why (binding_of why) left a f stops refl))))
    opened_by Opened.Absent call count = (refl, Under_none call count)
    opened_by Opened.Failed call count = (refl, Under_unopened call count)
    opened_by Opened.Memory call count = (refl, Under_short call count)

-- nothing is written

probed_unwritten : {file : Held} {own : OwnFiles} {parent : Option Attrs} {ms : List Made} {r : Binding} → Probed_by file own parent ms r → Unwritten ms
probed_unwritten (Found_alive on number total) = (tt, tt)
probed_unwritten (Found_gone number total shut) = (tt, (tt, tt))
probed_unwritten (Found_none number total shut) = (tt, (tt, tt))

behind_unwritten : {name parent : List ℕ} {file : Held} {own : OwnFiles} {ms : List Made} {r : Binding} → Behind_by name parent file own ms r → Unwritten ms
behind_unwritten (Cut_behind ms at t shut why r left a first stops e) = unwritten_more ms _ (reads_unwritten a) (tt, (tt, tt))
behind_unwritten (Read_behind x y z ns r a first h) = (tt, (tt, (tt, probed_unwritten h)))

under_unwritten : {name parent : List ℕ} {kept : ℕ} {ms : List Made} {r : Binding} → Under_by name parent kept ms r → Unwritten ms
under_unwritten (Under_cut file call count ms at t shut why r left a first stops e) = (tt, unwritten_more ms _ (reads_unwritten a) (tt, (tt, tt)))
under_unwritten (Under_alive file call count d p s c on number total ns r own h) = (tt, (tt, (tt, (tt, (tt, (tt, probed_unwritten h))))))
under_unwritten (Under_other file call count d p s c t ns r isnt own h) = (tt, (tt, (tt, (tt, (tt, (tt, behind_unwritten h))))))
under_unwritten x = (tt, tt)

-- where the parent's files were read, the calls but for the probe of its file are a binding's

says_sooner : (of : List ℕ) (at : Attr) (r : ReadOut) (k l m : Kernel) → Grows k l → Grows l m → says_read of at r k l → says_read of at r k m
says_sooner of at (ReadOut.Bytes bytes) k l m g j h = λ i d lives named. h i d (lived_cut k l m i d g j lives).0 named
says_sooner of at ReadOut.Absent k l m g j h = λ i d lives named. h i d (lived_cut k l m i d g j lives).0 named
says_sooner of at ReadOut.TooLong k l m g j h = λ i d lives named. h i d (lived_cut k l m i d g j lives).0 named
says_sooner of at ReadOut.Failed k l m g j h = tt
says_sooner of at ReadOut.Memory k l m g j h = tt

-- a probe behind a reading is moves of the kernel's
read_on : (of : List ℕ) (at : Attr) (t : ToldAnswer ReadOut) (held : ℕ) (p : ToldAnswer Probe) (k l m : Kernel) → Called (Read of at) t k l → Called (Ask_alive held) p l m → Called (Read of at) t k m
read_on of at t held p k l m c a = record {
  before = c.before;
  after = c.after;
  moves_before = c.moves_before;
  effect = c.effect;
  moves_after = moves_then c.after l m c.moves_after (moves_then l a.before m a.moves_before (subst (λ (v : Kernel). Moves v m) a.effect a.moves_after));
  says = says_sooner of at t.answer k l m (called_grows (Read of at) t k l c) (called_grows (Ask_alive held) p l m a) c.says;
  sound_before = c.sound_before;
  sound_after = c.sound_after;
  sound = a.sound;
}

first_with : {fs left : List (List ℕ × Attr)} {ms : List Made} (gs : List (List ℕ × Attr)) → ReadsFirst fs ms left → ReadsFirst (fs ++ gs) ms (left ++ gs)
first_with gs (None_read files) = None_read (files ++ gs)
first_with gs (One_read of at t ms files left came a) = One_read of at t ms (files ++ gs) (left ++ gs) came (first_with gs a)

pub binds_behind : {name parent : List ℕ} {file : Held} {ns : List Made} {r : Binding} (call count : ℕ) (d p s c : ToldAnswer ReadOut) → parent_of name ≡ Some parent → OwnRead name d p s c → Behind_by name parent file (own_told d p s c) ns r → Binds_by name (made_with (Open name Authorized) (told (Opened.Token file) call count) ∷ reads_own name d p s c ns) r
binds_behind {name} {parent} {file} call count d p s c above own h = by h
  where
    first : ReadsFirst (files_of name) (reads_own name d p s c []) (parent_files (Some parent))
    first = subst (λ (o : Option (List ℕ)). ReadsFirst (own_first name (parent_files o)) (reads_own name d p s c []) (parent_files (Some parent))) (sym above) (first_with (parent_files (Some parent)) own.1)

    last : {ns : List Made} {r : Binding} (x y z : ToldAnswer ReadOut) → Reads name (reads_parents parent x y z) → ReadsFirst (parent_files (Some parent)) (reads_parents parent x y z) [] → Probed_by file (own_told d p s c) (Some (parents_from x.answer y.answer z.answer)) ns r → Binds_by name (made_with (Open name Authorized) (told (Opened.Token file) call count) ∷ reads_own name d p s c (reads_parents parent x y z ++ ns)) r
    last x y z b g (Found_alive on number total) = Bound_by call count number total (reads_own name d p s c (reads_parents parent x y z)) (record { held = record { 0 = file.0 }; attrs = (own_told d p s c).attrs; core_long = (own_told d p s c).core_long; parent = Some (parents_from x.answer y.answer z.answer); on = on }) (reads_more own.0 b) (first_more first g) (Below parent d p s c x y z above)
    last x y z b g (Found_gone number total shut) = Probed_gone file call count number total (reads_own name d p s c (reads_parents parent x y z)) shut (reads_more own.0 b) (first_more first g)
    last x y z b g (Found_none number total shut) = Probe_failed file call count number total (reads_own name d p s c (reads_parents parent x y z)) shut (reads_more own.0 b) (first_more first g)

    by : {ns : List Made} {r : Binding} → Behind_by name parent file (own_told d p s c) ns r → Binds_by name (made_with (Open name Authorized) (told (Opened.Token file) call count) ∷ reads_own name d p s c ns) r
    by (Cut_behind ms at t shut why r left b g stops e) = Cut file call count (reads_own name d p s c ms) parent at t shut why r left (reads_more own.0 b) (first_more first g) (inr above) stops e
    by (Read_behind x y z ns r b g h) = last x y z b g h

-- and its answer has the parent's attributes
abbrev HasParent : Binding → Type 0
HasParent (Binding.Bound b) = (x : Attrs) × (b.parent ≡ Some x)
HasParent r = Unit {0}

probed_parent : {file : Held} {own : OwnFiles} {x : Attrs} {ns : List Made} {r : Binding} → Probed_by file own (Some x) ns r → HasParent r
probed_parent {file} {own} {x} (Found_alive on number total) = (x, refl)
probed_parent (Found_gone number total shut) = tt
probed_parent (Found_none number total shut) = tt

stop_parent : (why : Stop) → HasParent (binding_of why)
stop_parent Stop.Vanished = tt
stop_parent (Stop.Fault failed) = tt
stop_parent Stop.Memory = tt

behind_parent : {name parent : List ℕ} {file : Held} {own : OwnFiles} {ns : List Made} {r : Binding} → Behind_by name parent file own ns r → HasParent r
behind_parent (Cut_behind ms at t shut why r left a first stops e) = subst HasParent (sym e) (stop_parent why)
behind_parent (Read_behind x y z ns r a first h) = probed_parent h

kept_says : (kept : ℕ) (name : List ℕ) (k l : Kernel) (r : Binding) → HasParent r → BindSays name k l r → SaysBy (IsParentKept kept) name k l r
kept_says kept name k l (Binding.Bound b) p h = record {
  i = h.i;
  d = h.d;
  device = h.device;
  file = h.file;
  fresh = h.fresh;
  named = h.named;
  own = h.own;
  core_long = h.core_long;
  parents = subst (λ (o : Option Attrs). IsParentKept kept l h.d.parent o) (sym p.1) (subst (λ (o : Option Attrs). IsParentRead l h.d.parent o) p.1 h.parents);
  value = h.value;
  lived = h.lived;
  only = h.only;
}
kept_says kept name k l Binding.Absent p h = h
kept_says kept name k l Binding.Vanished p h = h
kept_says kept name k l (Binding.Failed failed) p h = h
kept_says kept name k l Binding.Memory p h = h

-- where its file was found alive

-- of two live devices, one that bears a name and one that bears its parent's name, the second is the first's parent
kept_parent : (m : Kernel) (name parent : List ℕ) (i j : ℕ) (d e : Device) (p : Option ℕ) → IsSound m.devices → Live m.devices i d → d.name ≡ name → parent_of name ≡ Some parent → Live m.devices j e → e.name ≡ parent → d.parent ≡ p → p ≡ Some j
kept_parent m name parent i j d e None s live named above other is q =
    let root = s.roots i d live.at q in
    let same : parent_of d.name ≡ Some parent = subst (λ v. parent_of v ≡ Some parent) (sym named) above in
    let none : ⊥ = cc in absurd none
kept_parent m name parent i j d e (Some k) s live named above other is q =
    let x = s.parents i k d live q in
    let theirs = s.named i k d x.0 live.at q x.1.at in
    let same : parent_of d.name ≡ Some parent = subst (λ v. parent_of v ≡ Some parent) (sym named) above in
    let bears : x.0.name ≡ parent = some_same (parent_of d.name) x.0.name parent theirs same in
    ap (λ (n : ℕ). Some n) (s.names k j x.0 e x.1 other (bears ∙ sym is))

-- the held file's device is the parent of one that lived on
parent_is : (name parent : List ℕ) (kept i j : ℕ) (on : Bool) (k u x v l : Kernel) → parent_of name ≡ Some parent → IsAuthorizedFile k parent kept j → Grows k x → Grows u x → Grows x v → Grows x l → IsKernel x → IsAlive kept on x → (d : Device) → Lived u.devices v.devices i d → d.name ≡ name → IsParentKept kept l d.parent None
parent_is name parent kept i j on k u x v l above f to before behind after sound alive d lives named =
    let now = file_later k x parent kept j to f in
    let same : alive.i ≡ j = holds_is x parent kept j alive.i alive.d now alive.holds in
    let live : Live x.devices j alive.d = subst (λ (n : ℕ). Live x.devices n alive.d) same alive.live in
    let bears : alive.d.name ≡ parent = ap (λ (w : Device). w.name) (some_same (slice_get x.devices j) alive.d now.d live.at now.device) ∙ now.named in
    let mid = lived_cut u x v i d before behind lives in
    let own = mid.1.0 in
    let stays = mid.1.2 in
    let is = kept_parent x name parent i j own alive.d own.parent sound.devices mid.1.1.entry (stays.name ∙ named) above live bears refl in
    (j, sym stays.parent ∙ is, after.held kept (record { device = j; control = Authorized }) now.file)

alive_says : {name : List ℕ} (parent : List ℕ) (kept j : ℕ) (k l : Kernel) (file : Held) (call count : ℕ) (d p s c : ToldAnswer ReadOut) (on : Bool) (number total : ℕ) {ns : List Made} {r : Binding} → parent_of name ≡ Some parent → IsAuthorizedFile k parent kept j → OwnRead name d p s c → Probed_by file (own_told d p s c) None ns r → Along calls k (made_with (Open name Authorized) (told (Opened.Token file) call count) ∷ reads_own name d p s c (made_with (Ask_alive kept) (told (Probe.Alive on) number total) ∷ ns)) l → SaysBy (IsParentKept kept) name k l r
alive_says {name} parent kept j k l file call count d p s c on number total {ns} {r} above f own h a = by h b.2.2.2.2.2
  where
    u : Kernel
    u = a.0

    b : Along calls u (reads_own name d p s c (made_with (Ask_alive kept) (told (Probe.Alive on) number total) ∷ ns)) l
    b = a.2

    -- behind the readings, and behind the probe of the parent's file
    x : Kernel
    x = b.2.2.2.0

    y : Kernel
    y = b.2.2.2.2.0

    ours : List Made
    ours = reads_own name d p s c []

    reads : Along calls u ours x
    reads = (b.0, b.1, (b.2.0, b.2.1, (b.2.2.0, b.2.2.1, (b.2.2.2.0, b.2.2.2.1, refl))))

    asked : Called (Ask_alive kept) (told (Probe.Alive on) number total) x y
    asked = b.2.2.2.2.1

    passed : Grows x y
    passed = called_grows (Ask_alive kept) (told (Probe.Alive on) number total) x y asked

    quiet : Quiet u y
    quiet = quiet_trans u x y (along_quiet ours u x (reads_unwritten own.0) reads) (called_quiet (Ask_alive kept) (told (Probe.Alive on) number total) x y tt asked)

    to : Grows k x
    to = grows_trans k u x (called_grows (Open name Authorized) (told (Opened.Token file) call count) k u a.1) (along_grows ours u x reads)

    by : {ns : List Made} {r : Binding} → Probed_by file (own_told d p s c) None ns r → Along calls y ns l → SaysBy (IsParentKept kept) name k l r
    by (Found_alive is n t) rest =
        let last : List Made = made_with (Ask_alive file.0) (told (Probe.Alive is) n t) ∷ [] in
        let q = along_quiet last y l (tt, tt) rest in
        let since = open_since name file call count k u u a.1 (quiet_refl u) in
        bound_with (IsParentKept kept) name k u y l (record { held = record { 0 = file.0 }; attrs = (own_told d p s c).attrs; core_long = (own_told d p s c).core_long; parent = None; on = is }) since quiet
        (λ g e z at live stays named.
        let m = (along_grows ours u x reads).devices since.opens.i g at in
        let later = live_before x y since.opens.i m.0 e passed m.1 live in
        let tell = reads_tell since.opens.i g m.0 z u x own.0 reads at later.0 (stays_trans m.0 e z later.1 stays) in
        (cc (tell.0 named, tell.1.0 named, tell.1.1.0 named, tell.1.1.1.0 named), cc (tell.0 named, tell.1.0 named, tell.1.1.0 named)))
        (λ g lives named. parent_is name parent kept since.opens.i j on k u x y l above f to (along_grows ours u x reads) passed (grows_trans x y l passed (quiet_grows y l q)) (along_sound ours u x a.1.sound reads) asked.says g lives named)
        rest.1.says q
    by (Found_gone n t shut) rest =
        let since = open_since name file call count k u rest.0 a.1 (quiet_trans u y rest.0 quiet (called_quiet (Ask_alive file.0) (told Probe.Gone n t) y rest.0 tt rest.1)) in
        gone_law name k file.0 rest.0 l since (along_grows (made_with (Close file.0) shut ∷ []) rest.0 l rest.2) rest.1.says
    by (Found_none n t shut) rest = tt

-- how it ends

under_says : {name parent : List ℕ} {kept : ℕ} {ms : List Made} {r : Binding} (j : ℕ) (k l : Kernel) → parent_of name ≡ Some parent → IsAuthorizedFile k parent kept j → Under_by name parent kept ms r → Along calls k ms l → SaysBy (IsParentKept kept) name k l r
under_says {name} j k l above f (Under_none call count) a =
    let none = subst (λ v. NoneHas Authorized name k v) (sym a.2) a.1.says in
    λ i d lives named. none i d lives named refl
under_says {name} {parent} {kept} j k l above f (Under_cut file call count ms at t shut why r left own first stops e) a =
    let cut = along_split calls ms (made_with (Read name at) t ∷ made_with (Close file.0) shut ∷ []) a.0 l a.2 in
    let g = grows_trans k a.0 cut.0 (called_grows (Open name Authorized) (told (Opened.Token file) call count) k a.0 a.1) (along_grows ms a.0 cut.0 cut.1) in
    kept_says kept name k l r (subst HasParent (sym e) (stop_parent why)) (subst (λ v. BindSays name k l v) (sym e) (stop_says k cut.0 cut.2.0 l (inl refl) stops (along_sound ms a.0 cut.0 a.1.sound cut.1) cut.2.1 g (along_grows (made_with (Close file.0) shut ∷ []) cut.2.0 l cut.2.2)))
under_says {name} {parent} {kept} j k l above f (Under_alive file call count d p s c on number total ns r own h) a = alive_says parent kept j k l file call count d p s c on number total above f own h a
under_says {name} {parent} {kept} j k l above f (Under_other file call count d p s c t ns r isnt own h) a =
    let b = a.2 in
    let whole = read_on name Attr.Connect c kept t b.2.2.0 b.2.2.2.0 b.2.2.2.2.0 b.2.2.2.1 b.2.2.2.2.1 in
    kept_says kept name k l r (behind_parent h) (binds_say k l (binds_behind call count d p s c above own h) (a.0, a.1, (b.0, b.1, (b.2.0, b.2.1, (b.2.2.0, b.2.2.1, (b.2.2.2.2.0, whole, b.2.2.2.2.2))))))
under_says j k l above f x a = tt

pub under_law : (name parent : List ℕ) (kept j : ℕ) (r : Binding) (k l : Kernel) → parent_of name ≡ Some parent → IsAuthorizedFile k parent kept j → IsKernel k → Runs calls k (binding_under name parent kept) r l → IsBindingBy (IsParentKept kept) name k l r
under_law name parent kept j r k l above f sound runs =
    let x = ways_run calls (Sure (Under_by name parent kept)) (binding_under name parent kept) k r l (under_by name parent kept above) runs in
    record {
      sound = along_sound x.made k l sound x.along;
      quiet = along_quiet x.made k l (under_unwritten x.so.1) x.along;
      says = under_says j k l above f x.so.1 x.along;
    }

-- and over the states of a run
pub told_under : {S : Type 0} (gives : S → (call : Call) → Answer call → S → Type 0) (told : S → Option Kernel) (did : (s : S) (call : Call) (answer : Answer call) (t : S) (l : Kernel) → gives s call answer t → told t ≡ Some l → Follows call answer (told s) l) (name parent : List ℕ) (kept : ℕ) (s : S) (r : Binding) (t : S) → parent_of name ≡ Some parent → Runs gives s (binding_under name parent kept) r t → BindsUnder told s name kept r t
told_under gives told did name parent kept s r t above runs = λ l e.
    let m = told_run gives told did (binding_under name parent kept) s r t l runs e in
    (m.kernel, m.was, λ sound of j is f. under_law name parent kept j r m.kernel l above (subst (λ (v : List ℕ). IsAuthorizedFile m.kernel v kept j) (some_same (parent_of name) of parent is above) f) sound (m.run sound).0)

-- the numbers of a failed answer

probed_tell : {file : Held} {own : OwnFiles} {parent : Option Attrs} {ns : List Made} {r : Binding} (front : List Made) (v w : Tally) → Probed_by file own parent ns r → Along counts v (front ++ ns) w → TellsFault v.faults w.calls w.faults r
probed_tell front v w (Found_alive on number total) a = tt
probed_tell front v w (Found_gone number total shut) a = tt
probed_tell {file} front v w (Found_none number total shut) a = ends_closed front (made_with (Ask_alive file.0) (told Probe.Failed number total)) file.0 shut (record { call = number; count = total }) v w (λ x y c. fault_so is_probe_failed (told Probe.Failed number total) x y refl c) a

behind_tells : {name parent : List ℕ} {file : Held} {own : OwnFiles} {ns : List Made} {r : Binding} (front : List Made) (v w : Tally) → Behind_by name parent file own ns r → Along counts v (front ++ ns) w → TellsFault v.faults w.calls w.faults r
behind_tells {name} {parent} {file} front v w (Cut_behind ms at t shut why r left b g stops e) a =
    let flat = sym (append_assoc front ms (made_with (Read parent at) t ∷ made_with (Close file.0) shut ∷ [])) in
    subst (λ (x : Binding). TellsFault v.faults w.calls w.faults x) (sym e) (stop_tells (front ++ ms) parent file.0 shut v w stops (subst (λ (os : List Made). Along counts v os w) flat a))
behind_tells {name} {parent} {file} front v w (Read_behind x y z ns r b g h) a =
    let flat = sym (append_assoc front (reads_parents parent x y z) ns) in
    probed_tell (front ++ reads_parents parent x y z) v w h (subst (λ (os : List Made). Along counts v os w) flat a)

under_tells : {name parent : List ℕ} {kept : ℕ} {ms : List Made} {r : Binding} (v w : Tally) → Under_by name parent kept ms r → Along counts v ms w → TellsFault v.faults w.calls w.faults r
under_tells v w (Under_unopened call count) a = subst (λ (x : Tally). IsFault v.faults x.calls x.faults (record { call = call; count = count })) (sym a.2) (fault_so failed_open (told Opened.Failed call count) v a.0 refl a.1)
under_tells {name} v w (Under_cut file call count ms at t shut why r left own first stops e) a = subst (λ (x : Binding). TellsFault v.faults w.calls w.faults x) (sym e) (stop_tells (made_with (Open name Authorized) (told (Opened.Token file) call count) ∷ ms) name file.0 shut v w stops a)
under_tells {name} {parent} {kept} v w (Under_alive file call count d p s c on number total ns r own h) a = probed_tell (made_with (Open name Authorized) (told (Opened.Token file) call count) ∷ reads_own name d p s c (made_with (Ask_alive kept) (told (Probe.Alive on) number total) ∷ [])) v w h a
under_tells {name} {parent} {kept} v w (Under_other file call count d p s c t ns r isnt own h) a = behind_tells (made_with (Open name Authorized) (told (Opened.Token file) call count) ∷ reads_own name d p s c (made_with (Ask_alive kept) t ∷ [])) v w h a
under_tells v w x a = tt

pub under_fault : {S : Type 0} (gives : S → (call : Call) → Answer call → S → Type 0) (calls faults : S → ℕ) (counted : Counting gives calls faults) (name parent : List ℕ) (kept : ℕ) (s : S) (r : Binding) (t : S) → parent_of name ≡ Some parent → Runs gives s (binding_under name parent kept) r t → TellsFault (faults s) (calls t) (faults t) r
under_fault gives calls faults counted name parent kept s r t above runs =
    let x = ways_run gives (Sure (Under_by name parent kept)) (binding_under name parent kept) s r t (under_by name parent kept above) runs in
    under_tells (tally (calls s) (faults s)) (tally (calls t) (faults t)) x.so.1 (along_counted gives calls faults counted x.made s t x.along)

-- the order of the calls

last_order : {file : Held} {own : OwnFiles} {parent : Option Attrs} {ns : List Made} {r : Binding} → Probed_by file own parent ns r → GoByProbe (IsBoundOn r) OnlyCloses ns
last_order (Found_alive on number total) = (refl, refl)
last_order (Found_gone number total shut) = (refl, tt)
last_order (Found_none number total shut) = (refl, tt)

parent_order : {name parent : List ℕ} {file : Held} {own : OwnFiles} {ns : List Made} {r : Binding} → Behind_by name parent file own ns r → GoBy (parent_acts (Some parent)) (GoByProbe (IsBoundOn r) OnlyCloses) ns
parent_order {name} {parent} {file} (Cut_behind ms at t shut why r left a first stops e) = reads_go (GoByProbe (IsBoundOn r) OnlyCloses) (made_with (Read parent at) t ∷ made_with (Close file.0) shut ∷ []) first (refl, inr (stops_end stops, (refl, tt)))
parent_order (Read_behind x y z ns r a first h) = reads_go (GoByProbe (IsBoundOn r) OnlyCloses) ns first (last_order h)

-- whether there are attributes of the parent
without_files : {file : Held} {own : OwnFiles} {ns : List Made} {r : Binding} → Probed_by file own None ns r → HasParentFiles false r
without_files (Found_alive on number total) = refl
without_files (Found_gone number total shut) = tt
without_files (Found_none number total shut) = tt

with_files : (r : Binding) → HasParent r → HasParentFiles true r
with_files (Binding.Bound b) h = ap (λ (o : Option Attrs). is_some o) h.1
with_files Binding.Absent h = tt
with_files Binding.Vanished h = tt
with_files (Binding.Failed failed) h = tt
with_files Binding.Memory h = tt

isnt_behind : (name : List ℕ) (r : Binding) (p : Probe) (ns : List Made) → IsntAlive p → HasParentFiles true r × GoBy (parent_acts (parent_of name)) (GoByProbe (IsBoundOn r) OnlyCloses) ns → BehindAsked name r p ns
isnt_behind name r (Probe.Alive on) ns isnt h = absurd isnt
isnt_behind name r Probe.Gone ns isnt h = h
isnt_behind name r Probe.Failed ns isnt h = h

under_order : {name parent : List ℕ} {kept : ℕ} {ms : List Made} {r : Binding} → parent_of name ≡ Some parent → Under_by name parent kept ms r → GoBy (own_acts name []) (GoByAsked name kept r) ms
under_order {name} {parent} {kept} above (Under_cut file call count ms at t shut why r left a first stops e) = (refl, inl (refl, reads_go (GoByAsked name kept r) (made_with (Read name at) t ∷ made_with (Close file.0) shut ∷ []) first (refl, inr (stops_end stops, (refl, tt)))))
under_order {name} {parent} {kept} above (Under_alive file call count d p s c on number total ns r own h) = (refl, inl (refl, reads_go (GoByAsked name kept r) (made_with (Ask_alive kept) (told (Probe.Alive on) number total) ∷ ns) own.1 (refl, (without_files h, last_order h))))
under_order {name} {parent} {kept} above (Under_other file call count d p s c t ns r isnt own h) =
    let reads = subst (λ (o : Option (List ℕ)). GoBy (parent_acts o) (GoByProbe (IsBoundOn r) OnlyCloses) ns) (sym above) (parent_order h) in
    (refl, inl (refl, reads_go (GoByAsked name kept r) (made_with (Ask_alive kept) t ∷ ns) own.1 (refl, isnt_behind name r t.answer ns isnt (with_files r (behind_parent h), reads))))
under_order above x = (refl, inr (refl, tt))

pub under_in_order : {S : Type 0} (gives : S → (call : Call) → Answer call → S → Type 0) (name parent : List ℕ) (kept : ℕ) (s : S) (r : Binding) (t : S) → parent_of name ≡ Some parent → Runs gives s (binding_under name parent kept) r t → BindsUnderInOrder gives s name kept r t
under_in_order gives name parent kept s r t above runs =
    let x = ways_run gives (Sure (Under_by name parent kept)) (binding_under name parent kept) s r t (under_by name parent kept above) runs in
    record { made = x.made; along = x.along; order = under_order above x.so.1 }

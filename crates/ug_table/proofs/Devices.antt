-- What is known of a device stays, whatever the kernel does.
use Rattle.std.proofs.Common.{◌≡◌, ℕ, Bool, List, Option, Some, None, sym, ◌∙◌, ap, subst, slice_get}
use Rattle.ug_types.specs.declared.record.Attrs.{Attrs}
use Rattle.ug_table.proofs.Common.{Judged, Held, Device, Authorized, Kernel, Stays, Grows, IsRecordOf, IsDevice, IsGone, IsProbed, Stand, HasHash, Standing, Has, grows_trans, some_same, judged_of}
use Rattle.ug_kernel.specs.Bound.{attrs_of, is_core_long, parent_attrs_of, IsParentRead}
use Rattle.ug_record.specs.Records.{child_hash_of}
use Rattle.ug_table.proofs.Standings.{file_same, file_later}

attrs_stay : (d e : Device) → Stays d e → attrs_of d ≡ attrs_of e
attrs_stay d e s = cc (s.descriptors, s.product, s.serial, s.connect)

core_stays : (d e : Device) → Stays d e → is_core_long d ≡ is_core_long e
core_stays d e s = cc (s.descriptors, s.product, s.serial)

parent_attrs_stay : (d e : Device) → Stays d e → parent_attrs_of d ≡ parent_attrs_of e
parent_attrs_stay d e s = cc (s.descriptors, s.product, s.serial)

parent_stays : (k l : Kernel) (p : Option ℕ) (attrs : Option Attrs) → Grows k l → IsParentRead k p attrs → IsParentRead l p attrs
parent_stays k l None attrs g h = h
parent_stays k l (Some p) attrs g h =
    let x = g.devices p h.0 h.1 in
    (x.0, x.1, h.2 ∙ ap (λ (v : Attrs). Some v) (parent_attrs_stay h.0 x.0 x.2))

record_stays : (k l : Kernel) (d e : Device) (judged : Judged) → Grows k l → Stays d e → IsRecordOf k d judged → IsRecordOf l e judged
record_stays k l d e judged g s h =
    let name : judged_of d.name (attrs_of d) h.0 ≡ judged_of e.name (attrs_of d) h.0 = ap (λ (v : List ℕ). judged_of v (attrs_of d) h.0) (sym s.name) in
    let attrs : judged_of e.name (attrs_of d) h.0 ≡ judged_of e.name (attrs_of e) h.0 = ap (λ (v : Attrs). judged_of e.name v h.0) (attrs_stay d e s) in
    (h.0, subst (λ (v : Option ℕ). IsParentRead l v h.0) (sym s.parent) (parent_stays k l d.parent h.0 g h.1), h.2 ∙ name ∙ attrs)

pub device_stays : (k l : Kernel) (i : ℕ) (name : List ℕ) (held : Held) (judged : Judged) → Grows k l → IsDevice k i name held judged → IsDevice l i name held judged
device_stays k l i name held judged g h =
    let x = g.devices i h.d h.device in
    record {
      d = x.0;
      device = x.1;
      file = g.held held.0 (record { device = i; control = Authorized }) h.file;
      named = x.2.name ∙ h.named;
      of = record_stays k l h.d x.0 judged g x.2 h.of;
    }

pub gone_stays : (k l : Kernel) (i : ℕ) → Grows k l → IsGone k i → IsGone l i
gone_stays k l i g h = let x = g.devices i h.0 h.1 in (x.0, x.1, x.2.gone h.2)

pub probed_stays : (start k l : Kernel) (name : List ℕ) (held i : ℕ) (on : Bool) → Grows k l → IsProbed start k name held i on → IsProbed start l name held i on
probed_stays start k l name held i on g h = record { first = h.first; last = h.last; since = h.since; lived = h.lived; until = grows_trans h.last k l h.until g; met = h.met }

hash_stays : (k l : Kernel) (s : Standing) (i : ℕ) → Grows k l → IsDevice k i s.name s.held s.judged → HasHash k s → HasHash l s
hash_stays k l s i g x h j e file device =
    let y = g.devices i x.d x.device in
    let is : i ≡ j = file_same l s.held.0 i j (file_later k l s.held.0 i g x.file) file in
    let same : y.0 ≡ e = some_same (slice_get l.devices j) y.0 e (subst (λ (v : ℕ). slice_get l.devices v ≡ Some y.0) is y.1) device in
    h i x.d x.file x.device
    ∙ ap (λ (v : Attrs). child_hash_of v (is_core_long x.d)) (attrs_stay x.d y.0 y.2)
    ∙ ap (λ (v : Bool). child_hash_of (attrs_of y.0) v) (core_stays x.d y.0 y.2)
    ∙ ap (λ (v : Device). child_hash_of (attrs_of v) (is_core_long v)) same

pub stand_stays : (k l : Kernel) (ss : List Standing) (next : ℕ) → Grows k l → Stand k ss next → Stand l ss next
stand_stays k l ss next g h = record {
  devices = λ s a. let x = h.devices s a in (x.0, device_stays k l x.0 s.name s.held s.judged g x.1);
  hashes = λ s a. let x = h.devices s a in hash_stays k l s x.0 g x.1 (h.hashes s a);
  numbers = h.numbers;
  names = h.names;
  order = h.order;
  distinct = h.distinct;
  done = λ control s a r i f.
      let x = h.devices s a in
      let is : x.0 ≡ i = file_same l s.held.0 x.0 i (file_later k l s.held.0 x.0 g x.1.file) f in
      let w = h.done control s a r x.0 x.1.file in
      (w.0, w.1, subst (λ (v : ℕ). Has l.log (record { device = v; write = w.0 })) is (g.log (record { device = x.0; write = w.0 }) w.2));
}

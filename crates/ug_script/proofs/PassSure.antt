-- A pass as its script fixes it never tells want of memory.
use Rattle.std.proofs.Common.{◌≡◌, ℕ, Bool, true, false, ◌||◌, ◌&&◌, if◌then◌else◌, List, [], ◌∷◌, ◌++◌, Option, Some, None, refl}
use Rattle.std.specs.List.{list_any}
use Rattle.ug_types.specs.declared.record.Triple.{Triple}
use Rattle.ug_kernel.specs.declared.calls.Probe.{Probe}
use Rattle.ug_kernel.specs.declared.calls.Probe.TheVariants as probe
use Rattle.ug_kernel.specs.declared.calls.Wrote.{Wrote}
use Rattle.ug_kernel.specs.declared.calls.Wrote.TheVariants as wrote
use Rattle.ug_sysfs.specs.Devices.{find}
use Rattle.ug_sysfs.specs.Interfaces.{place_named}
use Rattle.ug_sysfs.specs.Serving.{bus_in, iface_answer_of, iface_answer_unless, iface_effect, iface_opened, listed_under}
use Rattle.ug_sysfs.specs.World.{World, entered, fate_of}
use Rattle.ug_iface.specs.Bus.{Bus}
use Rattle.ug_iface.specs.declared.interface.Interface.{Interface}
use Rattle.ug_iface.specs.declared.calls.IfaceHeld.{IfaceHeld}
use Rattle.ug_iface.specs.declared.calls.IfaceListing.{IfaceListing}
use Rattle.ug_iface.specs.declared.calls.IfaceListing.TheVariants as listing
use Rattle.ug_iface.specs.declared.calls.IfaceOpened.{IfaceOpened}
use Rattle.ug_iface.specs.declared.calls.IfaceOpened.TheVariants as opened
use Rattle.ug_iface.specs.declared.calls.IfaceRead.{IfaceRead}
use Rattle.ug_iface.specs.declared.calls.IfaceRead.TheVariants as read
use Rattle.ug_iface.specs.declared.look.Look.{Look}
use Rattle.ug_iface.specs.declared.look.Look.TheVariants as look
use Rattle.ug_iface.specs.declared.name.IfaceName.{IfaceName}
use Rattle.ug_iface.specs.declared.settle.Begun.{Begun}
use Rattle.ug_iface.specs.declared.settle.Begun.TheVariants.{Walks, Ends}
use Rattle.ug_iface.specs.declared.settle.IfaceEntry.{IfaceEntry}
use Rattle.ug_iface.specs.declared.settle.IfaceEntry.TheVariants as entry
use Rattle.ug_iface.specs.declared.settle.Passed.{Passed}
use Rattle.ug_iface.specs.declared.settle.Passed.TheVariants as passed
use Rattle.ug_iface.specs.Calls.{IfaceCall, IfaceAnswer, Names_of, Open, Read, Ask_device, Ask, Put_off, Close}
use Rattle.ug_iface.specs.Look.{after_ask, after_device, after_iface_open, after_iface_read, looking}
use Rattle.ug_iface.specs.Named.{is_named_off}
use Rattle.ug_iface.specs.Order.{in_iface_order}
use Rattle.ug_iface.specs.Settle.{Aim, after_listing, after_look, beginning, leaving, noted_off, settling_iface, switching, walking}
use Rattle.ug_iface.specs.Tree.{IfaceProg, Return, Make, Room, then_iface}
use Rattle.ug_script.specs.Passes.{device_pass, ends_by_memory, iface_tells_memory, pass_tells_memory, play_ifaces, walk_from}

-- ---- answers

-- an answer that doesn't tell want of memory
abbrev IsSure : (call : IfaceCall) → IfaceAnswer call → Type 0
IsSure (Names_of name) a = a.answer ≡ listing.Memory → ⊥
IsSure (Open name) a = a.answer ≡ opened.Memory → ⊥
IsSure (Read name) a = Unit {0}
IsSure (Ask_device held) a = Unit {0}
IsSure (Ask held) a = Unit {0}
IsSure (Put_off held) a = Unit {0}
IsSure (Close held) a = Unit {0}

listed_sure : (o : Option ℕ) (name : List ℕ) (xs : List Interface) → listed_under o name xs ≡ listing.Memory → ⊥
listed_sure None name xs e = cc
listed_sure (Some device) name xs e = cc

opened_sure : (o : Option ℕ) (b : Bus) → (iface_opened o b).0 ≡ opened.Memory → ⊥
opened_sure None b e = cc
opened_sure (Some i) b e = cc

listing_sure : (fate : Option Bool) (name : List ℕ) (b : Bus) → (iface_effect fate (Names_of name) b).0 ≡ listing.Memory → ⊥
listing_sure None name b e = listed_sure (find name 0 b.kernel.devices) name b.interfaces e
listing_sure (Some has) name b e = cc

opening_sure : (fate : Option Bool) (name : IfaceName) (b : Bus) → (iface_effect fate (Open name) b).0 ≡ opened.Memory → ⊥
opening_sure None name b e = opened_sure (place_named name b.kernel.devices b.interfaces) b e
opening_sure (Some has) name b e = cc

unless_sure : (out : Bool) (w : World) (call : IfaceCall) → IsSure call (iface_answer_unless out w call).0
unless_sure true w (Names_of name) = λ e. cc
unless_sure false w (Names_of name) = λ e. listing_sure (fate_of (entered w)) name (bus_in (entered w)) e
unless_sure true w (Open name) = λ e. cc
unless_sure false w (Open name) = λ e. opening_sure (fate_of (entered w)) name (bus_in (entered w)) e
unless_sure out w (Read name) = tt
unless_sure out w (Ask_device held) = tt
unless_sure out w (Ask held) = tt
unless_sure out w (Put_off held) = tt
unless_sure out w (Close held) = tt

-- ---- trees

-- where no answer tells want of memory, and there is room, each way of the tree comes to such a result
abbrev ComeSure : {R : Type 0} → (R → Type 0) → IfaceProg R → Type 0
ComeSure P (Return value) = P value
ComeSure P (Make call next) = (a : IfaceAnswer call) → IsSure call a → ComeSure P (next a)
ComeSure P (Room next) = ComeSure P (next true)

sure_then : {R Q : Type 0} (P : R → Type 0) (T : Q → Type 0) (p : IfaceProg R) (f : R → IfaceProg Q) → ComeSure P p → ((r : R) → P r → ComeSure T (f r)) → ComeSure T (then_iface p f)
sure_then P T (Return value) f h k = k value h
sure_then P T (Make call next) f h k = λ a sure. sure_then P T (next a) f (h a sure) k
sure_then P T (Room next) f h k = sure_then P T (next true) f h k

play_sure : {R : Type 0} (P : R → Type 0) (p : IfaceProg R) (w : World) → ComeSure P p → P (play_ifaces p w).0
play_sure P (Return value) w h = h
play_sure P (Make call next) w h = play_sure P (next (iface_answer_of w call).0) (iface_answer_of w call).1 (h (iface_answer_of w call).0 (unless_sure w.ran_out w call))
play_sure P (Room next) w h = play_sure P (next true) w h

-- ---- a look at an interface

abbrev LooksSure : Look → Type 0
LooksSure l = l ≡ look.Memory → ⊥

asked_sure : (file : IfaceHeld) (triple : Triple) (answer : Probe) (count : ℕ) → ComeSure LooksSure (after_ask file triple answer count)
asked_sure file triple (probe.Alive on) count = λ e. cc
asked_sure file triple probe.Gone count = λ a sure e. cc
asked_sure file triple probe.Failed count = λ a sure e. cc

device_sure : (file : IfaceHeld) (triple : Triple) (answer : Probe) (count : ℕ) → ComeSure LooksSure (after_device file triple answer count)
device_sure file triple (probe.Alive on) count = λ a sure. asked_sure file triple a.answer a.count
device_sure file triple probe.Gone count = λ a sure e. cc
device_sure file triple probe.Failed count = λ a sure e. cc

read_sure : (held : ℕ) (file : IfaceHeld) (answer : IfaceRead) (count : ℕ) → ComeSure LooksSure (after_iface_read held file answer count)
read_sure held file (read.Is triple) count = λ a sure. device_sure file triple a.answer a.count
read_sure held file read.Absent count = λ a sure e. cc
read_sure held file read.Failed count = λ a sure e. cc

open_sure : (name : IfaceName) (held : ℕ) (answer : IfaceOpened) (count : ℕ) → (answer ≡ opened.Memory → ⊥) → ComeSure LooksSure (after_iface_open name held answer count)
open_sure name held (opened.Token file) count sure = λ a s. read_sure held file a.answer a.count
open_sure name held opened.Absent count sure = λ e. cc
open_sure name held opened.Failed count sure = λ e. cc
open_sure name held opened.Memory count sure = absurd (sure refl)

look_sure : (name : IfaceName) (held : ℕ) → ComeSure LooksSure (looking name held)
look_sure name held = λ a sure. open_sure name held a.answer a.count sure

-- ---- entries

abbrev EntriesSure : List IfaceEntry → Type 0
EntriesSure es = list_any iface_tells_memory es ≡ false

sure_by : (b c : Bool) → (b || c) ≡ false → (b ≡ false) × (c ≡ false)
sure_by true c e = let none : ⊥ = cc in absurd none
sure_by false c e = (refl, e)

sure_both : (b c : Bool) → b ≡ false → c ≡ false → (b || c) ≡ false
sure_both true c e f = let none : ⊥ = cc in absurd none
sure_both false c e f = f

sure_more : (es : List IfaceEntry) (e : IfaceEntry) → EntriesSure es → iface_tells_memory e ≡ false → EntriesSure (es ++ e ∷ [])
sure_more [] e h k = sure_both (iface_tells_memory e) false k refl
sure_more (x ∷ es) e h k =
    let s = sure_by (iface_tells_memory x) (list_any iface_tells_memory es) h in
    sure_both (iface_tells_memory x) (list_any iface_tells_memory (es ++ e ∷ [])) s.0 (sure_more es e s.1 k)

noted_sure : (number : ℕ) (name : IfaceName) (out : Wrote) (count : ℕ) (es : List IfaceEntry) → EntriesSure es → EntriesSure (noted_off number name out count es)
noted_sure number name wrote.Done count es h = sure_more es (entry.Wrote number name wrote.Done) h refl
noted_sure number name wrote.Gone count es h = sure_more es (entry.Wrote number name wrote.Gone) h refl
noted_sure number name wrote.Failed count es h = sure_more (es ++ entry.Wrote number name wrote.Failed ∷ []) (entry.Fault number name count) (sure_more es (entry.Wrote number name wrote.Failed) h refl) refl

-- ---- one interface

abbrev StepSure : Bool × List IfaceEntry → Type 0
StepSure p = EntriesSure p.1

switched_sure : (number : ℕ) (name : IfaceName) (file : IfaceHeld) (es : List IfaceEntry) → EntriesSure es → ComeSure EntriesSure (switching number name file es)
switched_sure number name file es h = λ t s closed u. noted_sure number name t.answer t.count (es ++ entry.Intent number name ∷ []) (sure_more es (entry.Intent number name) h refl)

looked_sure : (aim : Aim) (name : IfaceName) (es : List IfaceEntry) (l : Look) → EntriesSure es → LooksSure l → ComeSure StepSure (after_look aim name es l)
looked_sure aim name es (look.Here file triple on) h sure = by (on && is_named_off aim.rules aim.device triple)
  where
    by : (b : Bool) → ComeSure StepSure (if b then then_iface (switching aim.number name file es) (λ more. Return (true, more)) else leaving file es)
    by true = sure_then EntriesSure StepSure (switching aim.number name file es) (λ more. Return (true, more)) (switched_sure aim.number name file es h) (λ r k. k)
    by false = λ closed s. h
looked_sure aim name es look.Absent h sure = h
looked_sure aim name es look.Gone h sure = h
looked_sure aim name es (look.Failed count) h sure = sure_more es (entry.Fault aim.number name count) h refl
looked_sure aim name es look.Memory h sure = absurd (sure refl)

settled_sure : (aim : Aim) (name : IfaceName) (es : List IfaceEntry) → EntriesSure es → ComeSure StepSure (settling_iface aim name es)
settled_sure aim name es h = sure_then LooksSure StepSure (looking name aim.held) (after_look aim name es) (look_sure name aim.held) (λ l sure. looked_sure aim name es l h sure)

-- ---- the pass

-- neither its end nor an entry
abbrev PassSure : Passed × List IfaceEntry → Type 0
PassSure p = pass_tells_memory p.0 p.1 ≡ false

go_sure : (aim : Aim) (names : List IfaceName) → ((fs : List IfaceEntry) → EntriesSure fs → ComeSure PassSure (walking aim names fs)) → (b : Bool) (fs : List IfaceEntry) → EntriesSure fs → ComeSure PassSure (if b then walking aim names fs else Return (passed.Gone, fs))
go_sure aim names more true fs h = more fs h
go_sure aim names more false fs h = h

walk_sure : (aim : Aim) (names : List IfaceName) (es : List IfaceEntry) → EntriesSure es → ComeSure PassSure (walking aim names es)
walk_sure aim [] es h = h
walk_sure aim (name ∷ names) es h = sure_then StepSure PassSure (settling_iface aim name es) _ (settled_sure aim name es h) (λ p k. go_sure aim names (λ fs s. walk_sure aim names fs s) p.0 p.1 k)

abbrev BeginsSure : Begun → Type 0
BeginsSure begun = begun ≡ Ends passed.Memory → ⊥

after_sure : (answer : IfaceListing) (count : ℕ) → (answer ≡ listing.Memory → ⊥) → ComeSure BeginsSure (after_listing answer count)
after_sure (listing.Names names) count sure = λ e. cc
after_sure listing.Absent count sure = λ e. let same : passed.Gone ≡ passed.Memory = cc in cc
after_sure listing.Failed count sure = λ e. let same : passed.Fault count ≡ passed.Memory = cc in cc
after_sure listing.Memory count sure = absurd (sure refl)

begin_sure : (name : List ℕ) → ComeSure BeginsSure (beginning name)
begin_sure name = λ a sure. after_sure a.answer a.count sure

end_sure : (end : Passed) → BeginsSure (Ends end) → ends_by_memory end ≡ false
end_sure passed.Done h = refl
end_sure passed.Gone h = refl
end_sure (passed.Fault count) h = refl
end_sure passed.Memory h = absurd (h refl)

from_sure : (aim : Aim) (p : Begun × World) → BeginsSure p.0 → pass_tells_memory (walk_from aim p).end (walk_from aim p).entries ≡ false
from_sure aim (Ends end, w) h = sure_both (ends_by_memory end) false (end_sure end h) refl
from_sure aim (Walks names, w) h = play_sure PassSure (walking aim (in_iface_order names) []) w (walk_sure aim (in_iface_order names) [] refl)

pub pass_has_room : (aim : Aim) (w : World) → pass_tells_memory (device_pass aim w).end (device_pass aim w).entries ≡ false
pass_has_room aim w = from_sure aim (play_ifaces (beginning aim.device.via_port) w) (play_sure BeginsSure (beginning aim.device.via_port) w (begin_sure aim.device.via_port))

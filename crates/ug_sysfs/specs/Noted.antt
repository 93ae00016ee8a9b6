-- Each call of a script adds itself to the event's list, which begins empty.
use Rattle.std.proofs.Common.{◌≡◌, Bool, true, false, List, [], ◌++◌, Some, refl, sym, ◌∙◌, ap, inl, inr}
use Rattle.std.proofs.lemmas.Bool.{both_ways}
use Rattle.std.proofs.lemmas.List.{append-nil}
use Rattle.ug_kernel.specs.Calls.{Call, Names, Open, Read, Ask_alive, Put, Close, Answer}
use Rattle.ug_kernel.specs.Kernel.{Kernel}
use Rattle.ug_kernel.specs.declared.record.CallRecord.{CallRecord}
use Rattle.ug_kernel.specs.Entries.{entry_of}
use Rattle.ug_sysfs.specs.Reply.{Reply, calls_listed}
use Rattle.ug_sysfs.specs.World.{World, effect, entered, fate_of, told_as, answer_from, answer_unless, Gives, event_begun, told}
use Rattle.ug_sysfs.specs.Law.{tells_kernel}

entry_told : (c : Call) (r : Reply c) (w : World) → entry_of c (told_as c r w) ≡ calls_listed c r
entry_told Names r w = refl
entry_told (Open name control) r w = refl
entry_told (Read name attr) r w = refl
entry_told (Ask_alive held) r w = refl
entry_told (Put held write) r w = refl
entry_told (Close held) r w = refl

-- a call that has entered and ends
noted_by : (s : World) (c : Call) (r : Reply c) (a : Answer c) (t : World) → a ≡ told_as c r t
    → t.made ≡ s.made ++ calls_listed c r → t.made ≡ s.made ++ entry_of c a
noted_by s c r a t ea m =
    m ∙ ap (λ (ms : List CallRecord). s.made ++ ms)
    (sym (entry_told c r t) ∙ ap (entry_of c) (sym ea))

from_script : (s : World) (c : Call) (a : Answer c) (t : World) → a ≡ (answer_from (entered s) c).0
    → t ≡ (answer_from (entered s) c).1 → t.made ≡ s.made ++ entry_of c a
from_script s c a t ea et =
    let r = (effect (fate_of (entered s)) c (entered s).kernel).0 in
    noted_by s c r a t (ea ∙ ap (told_as c r) (sym et)) (ap (λ (x : World). x.made) et)

by_script : (out : Bool) (s : World) (c : Call) (a : Answer c) (t : World) → s.ran_out ≡ out
    → a ≡ (answer_unless out s c).0 → t ≡ (answer_unless out s c).1 → t.ran_out ≡ false
    → t.made ≡ s.made ++ entry_of c a
by_script out s (Close h) a t e ea et run = ap (λ (x : World). x.made) et ∙ sym (append-nil s.made)
by_script true s Names a t e ea et run =
    absurd (both_ways t.ran_out run (ap (λ (x : World). x.ran_out) et ∙ e))
by_script true s (Open name control) a t e ea et run =
    absurd (both_ways t.ran_out run (ap (λ (x : World). x.ran_out) et ∙ e))
by_script true s (Read name at) a t e ea et run =
    absurd (both_ways t.ran_out run (ap (λ (x : World). x.ran_out) et ∙ e))
by_script true s (Ask_alive h) a t e ea et run =
    absurd (both_ways t.ran_out run (ap (λ (x : World). x.ran_out) et ∙ e))
by_script true s (Put h write) a t e ea et run =
    absurd (both_ways t.ran_out run (ap (λ (x : World). x.ran_out) et ∙ e))
by_script false s Names a t e ea et run = from_script s Names a t ea et
by_script false s (Open name control) a t e ea et run = from_script s (Open name control) a t ea et
by_script false s (Read name at) a t e ea et run = from_script s (Read name at) a t ea et
by_script false s (Ask_alive h) a t e ea et run = from_script s (Ask_alive h) a t ea et
by_script false s (Put h write) a t e ea et run = from_script s (Put h write) a t ea et

pub notes_itself : (s : World) (c : Call) (a : Answer c) (t : World) (l : Kernel) → Gives s c a t
    → told t ≡ Some l → t.made ≡ s.made ++ entry_of c a
notes_itself s c a t l g h = elim g [
  | inl x ↦ by_script s.ran_out s c a t refl x.0 x.1 (tells_kernel t l h).0
  | inr y ↦ elim y [
    | inl z ↦ noted_by s c z.reply a t z.answer (ap (λ (x : World). x.made) z.after)
    | inr z ↦ absurd (both_ways t.ran_out (tells_kernel t l h).0 z.out)
  ]
]

pub begins_empty : (s t : World) → t ≡ event_begun s → t.made ≡ []
begins_empty s t e = ap (λ (w : World). w.made) e

-- A pass over one device is as its script fixes it, unless it tells want of memory or the kernel has run out.
use Rattle.std.proofs.Common.{◌≡◌, ℕ, Bool, true, false, ◌||◌, List, [], ◌∷◌, ◌++◌, refl, sym, ap, subst, ◌∙◌, inl, inr, ◌⊎◌, if◌then◌else◌, ◌&&◌}
use Rattle.std.specs.List.{list_any}
use Rattle.ug_types.specs.declared.record.Triple.{Triple}
use Rattle.ug_kernel.specs.declared.calls.Probe.{Probe}
use Rattle.ug_kernel.specs.declared.calls.Probe.TheVariants as probe
use Rattle.ug_kernel.specs.declared.calls.Wrote.{Wrote}
use Rattle.ug_kernel.specs.declared.calls.Wrote.TheVariants as wrote
use Rattle.ug_sysfs.specs.World.{World}
use Rattle.ug_sysfs.specs.Serving.{ServesIfaces, WantsIface, iface_answer_of, iface_answer_unless}
use Rattle.ug_iface.specs.declared.calls.IfaceHeld.{IfaceHeld}
use Rattle.ug_iface.specs.declared.calls.IfaceListing.{IfaceListing}
use Rattle.ug_iface.specs.declared.calls.IfaceListing.TheVariants as listing
use Rattle.ug_iface.specs.declared.calls.IfaceOpened.{IfaceOpened}
use Rattle.ug_iface.specs.declared.calls.IfaceOpened.TheVariants as opened
use Rattle.ug_iface.specs.declared.calls.IfaceRead.{IfaceRead}
use Rattle.ug_iface.specs.declared.calls.IfaceRead.TheVariants as read
use Rattle.ug_iface.specs.declared.look.Look.{Look}
use Rattle.ug_iface.specs.declared.look.Look.TheVariants as look
use Rattle.ug_iface.specs.declared.name.IfaceName.{IfaceName}
use Rattle.ug_iface.specs.declared.settle.Begun.{Begun}
use Rattle.ug_iface.specs.declared.settle.Begun.TheVariants.{Walks, Ends}
use Rattle.ug_iface.specs.declared.settle.IfaceEntry.{IfaceEntry}
use Rattle.ug_iface.specs.declared.settle.IfaceEntry.TheVariants as entry
use Rattle.ug_iface.specs.declared.settle.Passed.{Passed}
use Rattle.ug_iface.specs.declared.settle.Passed.TheVariants as passed
use Rattle.ug_iface.specs.Calls.{IfaceCall, IfaceAnswer, Names_of, Open, Read, Ask_device, Ask, Put_off, Close}
use Rattle.ug_iface.specs.Look.{after_ask, after_device, after_iface_open, after_iface_read, looking}
use Rattle.ug_iface.specs.Named.{is_named_off}
use Rattle.ug_iface.specs.Order.{iface_cmp}
use Rattle.ug_iface.proofs.Order.{sorted_once}
use Rattle.ug_iface.specs.Settle.{Aim, RunsPass, Ended, Walked, after_listing, after_look, beginning, leaving, noted_off, settling_iface, switching, walking}
use Rattle.ug_iface.specs.Tree.{IfaceProg, Return, Make, Room, RunsIfaces, then_iface}
use Rattle.ug_script.specs.Passes.{DevicePass, device_pass, ends_by_memory, iface_tells_memory, pass_tells_memory, play_ifaces, walk_from}

-- ---- a kernel that has run out stays so

unless_out : (s : World) (call : IfaceCall) → s.ran_out ≡ true → (iface_answer_unless true s call).1.ran_out ≡ true
unless_out s (Names_of name) e = e
unless_out s (Open name) e = e
unless_out s (Read name) e = e
unless_out s (Ask_device held) e = e
unless_out s (Ask held) e = e
unless_out s (Put_off held) e = e
unless_out s (Close held) e = e

pub script_out : (s : World) (call : IfaceCall) → s.ran_out ≡ true → (iface_answer_of s call).1.ran_out ≡ true
script_out s call e = subst (λ (b : Bool). (iface_answer_unless b s call).1.ran_out ≡ true) (sym e) (unless_out s call e)

never_out : {X : Type 0} (b : Bool) → b ≡ true → b ≡ false → X
never_out b e f = let none : ⊥ = cc in absurd none

stays_out : (s : World) (call : IfaceCall) (a : IfaceAnswer call) (t : World) → ServesIfaces s call a t → s.ran_out ≡ true → t.ran_out ≡ true
stays_out s call a t h e = elim h [
  | inl x ↦ ap (λ (w : World). w.ran_out) x.1 ∙ script_out s call e
  | inr y ↦ elim y [ inl z ↦ never_out s.ran_out e z.ran | inr z ↦ z.out ]
]

pub runs_out : {R : Type 0} (p : IfaceProg R) (s : World) (r : R) (t : World) → RunsIfaces ServesIfaces s p r t → s.ran_out ≡ true → t.ran_out ≡ true
runs_out (Return value) s r t h e = ap (λ (w : World). w.ran_out) h.1 ∙ e
runs_out (Make call next) s r t h e = runs_out (next h.0) h.1 r t h.3 (stays_out s call h.0 h.1 h.2 e)
runs_out (Room next) s r t h e = runs_out (next h.0) s r t h.1 e

pub play_out : {R : Type 0} (p : IfaceProg R) (s : World) → s.ran_out ≡ true → (play_ifaces p s).1.ran_out ≡ true
play_out (Return value) s e = e
play_out (Make call next) s e = play_out (next (iface_answer_of s call).0) (iface_answer_of s call).1 (script_out s call e)
play_out (Room next) s e = play_out (next true) s e

-- ---- want of memory is told

-- each way of the tree comes to such a result
abbrev pub AllCome : {R : Type 0} → (R → Type 0) → IfaceProg R → Type 0
AllCome P (Return value) = P value
AllCome P (Make call next) = (a : IfaceAnswer call) → AllCome P (next a)
AllCome P (Room next) = (b : Bool) → AllCome P (next b)

-- an answer that tells want of memory
abbrev IsShort : (call : IfaceCall) → IfaceAnswer call → Type 0
IsShort (Names_of name) a = a.answer ≡ listing.Memory
IsShort (Open name) a = a.answer ≡ opened.Memory
IsShort (Read name) a = ⊥
IsShort (Ask_device held) a = ⊥
IsShort (Ask held) a = ⊥
IsShort (Put_off held) a = ⊥
IsShort (Close held) a = ⊥

-- wherever memory is refused, the tree comes to such a result
abbrev pub TellsShort : {R : Type 0} → (R → Type 0) → IfaceProg R → Type 0
TellsShort P (Return value) = Unit {0}
TellsShort P (Make call next) = ((a : IfaceAnswer call) → IsShort call a → AllCome P (next a)) × ((a : IfaceAnswer call) → TellsShort P (next a))
TellsShort P (Room next) = AllCome P (next false) × ((b : Bool) → TellsShort P (next b))

all_then : {R Q : Type 0} (P : R → Type 0) (T : Q → Type 0) (p : IfaceProg R) (f : R → IfaceProg Q) → AllCome P p → ((r : R) → P r → AllCome T (f r)) → AllCome T (then_iface p f)
all_then P T (Return value) f h k = k value h
all_then P T (Make call next) f h k = λ a. all_then P T (next a) f (h a) k
all_then P T (Room next) f h k = λ b. all_then P T (next b) f (h b) k

short_then : {R Q : Type 0} (P : R → Type 0) (T : Q → Type 0) (p : IfaceProg R) (f : R → IfaceProg Q) → TellsShort P p → ((r : R) → P r → AllCome T (f r)) → ((r : R) → TellsShort T (f r)) → TellsShort T (then_iface p f)
short_then P T (Return value) f h k l = l value
short_then P T (Make call next) f h k l = (λ a short. all_then P T (next a) f (h.0 a short) k, λ a. short_then P T (next a) f (h.1 a) k l)
short_then P T (Room next) f h k l = (all_then P T (next false) f h.0 k, λ b. short_then P T (next b) f (h.1 b) k l)

come : {R : Type 0} (P : R → Type 0) (p : IfaceProg R) (s : World) (r : R) (t : World) → AllCome P p → RunsIfaces ServesIfaces s p r t → P r
come P (Return value) s r t h run = subst P (sym run.0) h
come P (Make call next) s r t h run = come P (next run.0) run.1 r t (h run.0) run.3
come P (Room next) s r t h run = come P (next run.0) s r t (h run.0) run.1

short_answer : (s : World) (call : IfaceCall) (a : IfaceAnswer call) (t : World) → WantsIface s call a t → IsShort call a
short_answer s (Names_of name) a t h = ap (λ (x : IfaceAnswer (Names_of name)). x.answer) h.answer ∙ h.memory
short_answer s (Open name) a t h = ap (λ (x : IfaceAnswer (Open name)). x.answer) h.answer ∙ h.memory
short_answer s (Read name) a t h = h.memory
short_answer s (Ask_device held) a t h = h.memory
short_answer s (Ask held) a t h = h.memory
short_answer s (Put_off held) a t h = h.memory
short_answer s (Close held) a t h = h.memory

-- what a run came to is what its script fixes; or it tells want of memory, or the kernel has run out
abbrev pub IsPlay : {R : Type 0} → (R → Type 0) → IfaceProg R → World → R → World → Type 0
IsPlay P p s r t = ((r ≡ (play_ifaces p s).0) × (t ≡ (play_ifaces p s).1)) ⊎ (P r ⊎ (t.ran_out ≡ true))

made_play : {R : Type 0} (P : R → Type 0) (call : IfaceCall) (next : IfaceAnswer call → IfaceProg R) (s : World) (r : R) (t : World) (a : IfaceAnswer call) (u : World) → ((b : IfaceAnswer call) → IsShort call b → AllCome P (next b)) → RunsIfaces ServesIfaces u (next a) r t → IsPlay P (next a) u r t → ServesIfaces s call a u → IsPlay P (Make call next) s r t
made_play P call next s r t a u short run it (inl x) = subst (λ (v : World). IsPlay P (next (iface_answer_of s call).0) v r t) x.1 (subst (λ (b : IfaceAnswer call). IsPlay P (next b) u r t) x.0 it)
made_play P call next s r t a u short run it (inr (inl x)) = inr (inl (come P (next a) u r t (short a (short_answer s call a u x)) run))
made_play P call next s r t a u short run it (inr (inr x)) = inr (inr (runs_out (next a) u r t run x.out))

room_play : {R : Type 0} (P : R → Type 0) (next : Bool → IfaceProg R) (s : World) (r : R) (t : World) → AllCome P (next false) → (b : Bool) → RunsIfaces ServesIfaces s (next b) r t → IsPlay P (next b) s r t → IsPlay P (Room next) s r t
room_play P next s r t short true run it = it
room_play P next s r t short false run it = inr (inl (come P (next false) s r t short run))

pub is_play : {R : Type 0} (P : R → Type 0) (p : IfaceProg R) (s : World) (r : R) (t : World) → TellsShort P p → RunsIfaces ServesIfaces s p r t → IsPlay P p s r t
is_play P (Return value) s r t h run = inl run
is_play P (Make call next) s r t h run = made_play P call next s r t run.0 run.1 h.0 run.3 (is_play P (next run.0) run.1 r t (h.1 run.0) run.3) run.2
is_play P (Room next) s r t h run = room_play P next s r t h.0 run.0 run.1 (is_play P (next run.0) s r t (h.1 run.0) run.1)

-- ---- the listing

abbrev BeginsShort : Begun → Type 0
BeginsShort begun = begun ≡ Ends passed.Memory

listed_short : (answer : IfaceListing) (count : ℕ) → TellsShort BeginsShort (after_listing answer count)
listed_short (listing.Names names) count = (refl, λ b. by b)
  where
    by : (b : Bool) → TellsShort BeginsShort (Rattle.ug_iface.specs.Settle.if_entry_room (listing.Names names) names b)
    by true = tt
    by false = tt
listed_short listing.Absent count = tt
listed_short listing.Failed count = tt
listed_short listing.Memory count = tt

begins_short : (name : List ℕ) → TellsShort BeginsShort (beginning name)
begins_short name = (λ a short. subst (λ (l : IfaceListing). AllCome BeginsShort (after_listing l a.count)) (sym short) refl, λ a. listed_short a.answer a.count)

-- ---- a look

abbrev LooksShort : Look → Type 0
LooksShort l = l ≡ look.Memory

asked_short : (file : IfaceHeld) (triple : Triple) (answer : Probe) (count : ℕ) → TellsShort LooksShort (after_ask file triple answer count)
asked_short file triple (probe.Alive on) count = tt
asked_short file triple probe.Gone count = (λ a short. absurd short, λ a. tt)
asked_short file triple probe.Failed count = (λ a short. absurd short, λ a. tt)

device_short : (file : IfaceHeld) (triple : Triple) (answer : Probe) (count : ℕ) → TellsShort LooksShort (after_device file triple answer count)
device_short file triple (probe.Alive on) count = (λ a short. absurd short, λ a. asked_short file triple a.answer a.count)
device_short file triple probe.Gone count = (λ a short. absurd short, λ a. tt)
device_short file triple probe.Failed count = (λ a short. absurd short, λ a. tt)

read_short : (held : ℕ) (file : IfaceHeld) (answer : IfaceRead) (count : ℕ) → TellsShort LooksShort (after_iface_read held file answer count)
read_short held file (read.Is triple) count = (λ a short. absurd short, λ a. device_short file triple a.answer a.count)
read_short held file read.Absent count = (λ a short. absurd short, λ a. tt)
read_short held file read.Failed count = (λ a short. absurd short, λ a. tt)

open_short : (name : IfaceName) (held : ℕ) (answer : IfaceOpened) (count : ℕ) → TellsShort LooksShort (after_iface_open name held answer count)
open_short name held (opened.Token file) count = (λ a short. absurd short, λ a. read_short held file a.answer a.count)
open_short name held opened.Absent count = tt
open_short name held opened.Failed count = tt
open_short name held opened.Memory count = tt

look_short : (name : IfaceName) (held : ℕ) → TellsShort LooksShort (looking name held)
look_short name held = (λ a short. subst (λ (o : IfaceOpened). AllCome LooksShort (after_iface_open name held o a.count)) (sym short) refl, λ a. open_short name held a.answer a.count)

-- ---- entries

abbrev EntriesTell : List IfaceEntry → Type 0
EntriesTell es = list_any iface_tells_memory es ≡ true

or_true : (x y : Bool) → y ≡ true → (x || y) ≡ true
or_true true y h = refl
or_true false y h = h

tell_by : (e : IfaceEntry) (es fs : List IfaceEntry) → (EntriesTell es → EntriesTell (es ++ fs)) → (b : Bool) → iface_tells_memory e ≡ b → EntriesTell (e ∷ es) → EntriesTell (e ∷ (es ++ fs))
tell_by e es fs more true is h = ap (λ (b : Bool). b || list_any iface_tells_memory (es ++ fs)) is
tell_by e es fs more false is h =
    let rest : EntriesTell es = sym (ap (λ (b : Bool). b || list_any iface_tells_memory es) is) ∙ h in
    or_true (iface_tells_memory e) (list_any iface_tells_memory (es ++ fs)) (more rest)

tell_more : (es fs : List IfaceEntry) → EntriesTell es → EntriesTell (es ++ fs)
tell_more [] fs h = never_out false h refl
tell_more (e ∷ es) fs h = tell_by e es fs (λ k. tell_more es fs k) (iface_tells_memory e) refl h

tell_last : (es : List IfaceEntry) (e : IfaceEntry) → iface_tells_memory e ≡ true → EntriesTell (es ++ e ∷ [])
tell_last [] e h = ap (λ (b : Bool). b || false) h
tell_last (x ∷ es) e h = or_true (iface_tells_memory x) (list_any iface_tells_memory (es ++ e ∷ [])) (tell_last es e h)

tell_noted : (number : ℕ) (name : IfaceName) (out : Wrote) (count : ℕ) (es : List IfaceEntry) → EntriesTell es → EntriesTell (noted_off number name out count es)
tell_noted number name wrote.Done count es h = tell_more es _ h
tell_noted number name wrote.Gone count es h = tell_more es _ h
tell_noted number name wrote.Failed count es h = tell_more (es ++ entry.Wrote number name wrote.Failed ∷ []) _ (tell_more es _ h)

-- ---- one interface

abbrev StepTells : Bool × List IfaceEntry → Type 0
StepTells p = EntriesTell p.1

-- what was told before is still told
switched_tells : (number : ℕ) (name : IfaceName) (file : IfaceHeld) (es : List IfaceEntry) → EntriesTell es → AllCome EntriesTell (switching number name file es)
switched_tells number name file es h = λ t closed. tell_noted number name t.answer t.count (es ++ entry.Intent number name ∷ []) (tell_more es _ h)

switched_short : (number : ℕ) (name : IfaceName) (file : IfaceHeld) (es : List IfaceEntry) → TellsShort EntriesTell (switching number name file es)
switched_short number name file es = (λ a short. absurd short, λ a. (λ b short. absurd short, λ b. tt))

looked_tells : (aim : Aim) (name : IfaceName) (es : List IfaceEntry) (l : Look) → EntriesTell es → AllCome StepTells (after_look aim name es l)
looked_tells aim name es (look.Here file triple on) h = by (on && is_named_off aim.rules aim.device triple)
  where
    by : (b : Bool) → AllCome StepTells (if b then then_iface (switching aim.number name file es) (λ more. Return (true, more)) else leaving file es)
    by true = all_then EntriesTell StepTells (switching aim.number name file es) (λ more. Return (true, more)) (switched_tells aim.number name file es h) (λ r k. k)
    by false = λ closed. h
looked_tells aim name es look.Absent h = h
looked_tells aim name es look.Gone h = h
looked_tells aim name es (look.Failed count) h = tell_more es _ h
looked_tells aim name es look.Memory h = tell_more es _ h

looked_short : (aim : Aim) (name : IfaceName) (es : List IfaceEntry) (l : Look) → TellsShort StepTells (after_look aim name es l)
looked_short aim name es (look.Here file triple on) = by (on && is_named_off aim.rules aim.device triple)
  where
    by : (b : Bool) → TellsShort StepTells (if b then then_iface (switching aim.number name file es) (λ more. Return (true, more)) else leaving file es)
    by true = short_then EntriesTell StepTells (switching aim.number name file es) (λ more. Return (true, more)) (switched_short aim.number name file es) (λ r k. k) (λ r. tt)
    by false = (λ a short. absurd short, λ a. tt)
looked_short aim name es look.Absent = tt
looked_short aim name es look.Gone = tt
looked_short aim name es (look.Failed count) = tt
looked_short aim name es look.Memory = tt

all_come : {R : Type 0} (p : IfaceProg R) → AllCome (λ r. Unit {0}) p
all_come (Return value) = tt
all_come (Make call next) = λ a. all_come (next a)
all_come (Room next) = λ b. all_come (next b)

settled_tells : (aim : Aim) (name : IfaceName) (es : List IfaceEntry) → EntriesTell es → AllCome StepTells (settling_iface aim name es)
settled_tells aim name es h = all_then (λ (l : Look). Unit {0}) StepTells (looking name aim.held) (after_look aim name es) (all_come (looking name aim.held)) (λ l u. looked_tells aim name es l h)

settled_short : (aim : Aim) (name : IfaceName) (es : List IfaceEntry) → TellsShort StepTells (settling_iface aim name es)
settled_short aim name es =
    short_then LooksShort StepTells (looking name aim.held) (after_look aim name es) (look_short name aim.held)
    (λ l is. subst (λ (x : Look). AllCome StepTells (after_look aim name es x)) (sym is) (tell_last es (entry.Memory aim.number name) refl))
    (λ l. looked_short aim name es l)

-- ---- the walk

abbrev WalkTells : Passed × List IfaceEntry → Type 0
WalkTells p = EntriesTell p.1

abbrev goes_on : Aim → List IfaceName → Bool × List IfaceEntry → IfaceProg (Passed × List IfaceEntry)
goes_on aim names p = if p.0 then walking aim names p.1 else Return (passed.Gone, p.1)

go_tells : (aim : Aim) (names : List IfaceName) → ((fs : List IfaceEntry) → EntriesTell fs → AllCome WalkTells (walking aim names fs)) → (b : Bool) (fs : List IfaceEntry) → EntriesTell fs → AllCome WalkTells (goes_on aim names (b, fs))
go_tells aim names more true fs k = more fs k
go_tells aim names more false fs k = k

walk_tells : (aim : Aim) (names : List IfaceName) (es : List IfaceEntry) → EntriesTell es → AllCome WalkTells (walking aim names es)
walk_tells aim [] es h = h
walk_tells aim (name ∷ names) es h = all_then StepTells WalkTells (settling_iface aim name es) (goes_on aim names) (settled_tells aim name es h) (λ p k. go_tells aim names (λ fs t. walk_tells aim names fs t) p.0 p.1 k)

go_short : (aim : Aim) (names : List IfaceName) → ((fs : List IfaceEntry) → TellsShort WalkTells (walking aim names fs)) → (b : Bool) (fs : List IfaceEntry) → TellsShort WalkTells (goes_on aim names (b, fs))
go_short aim names more true fs = more fs
go_short aim names more false fs = tt

walk_short : (aim : Aim) (names : List IfaceName) (es : List IfaceEntry) → TellsShort WalkTells (walking aim names es)
walk_short aim [] es = tt
walk_short aim (name ∷ names) es = short_then StepTells WalkTells (settling_iface aim name es) (goes_on aim names) (settled_short aim name es) (λ p k. go_tells aim names (λ fs t. walk_tells aim names fs t) p.0 p.1 k) (λ p. go_short aim names (λ fs. walk_short aim names fs) p.0 p.1)

-- ---- a device

-- what the pass over a device came to is what its script fixes; or it tells want of memory, or the kernel has run out
abbrev pub IsDevicePlay : Aim → World → Passed → List IfaceEntry → World → Type 0
IsDevicePlay aim s end es t = (record { end = end; entries = es; world = t } ≡ device_pass aim s) ⊎ ((pass_tells_memory end es ≡ true) ⊎ (t.ran_out ≡ true))

same_begun : {b c : Begun} {u v : World} → b ≡ c → u ≡ v → ◌≡◌ {A = Begun × World} (b, u) (c, v)
same_begun {c = c} {u = u} x y = ap (λ (z : Begun). (z, u)) x ∙ ap (λ (z : World). (c, z)) y

same_walked : {p q : Passed × List IfaceEntry} {u v : World} → p ≡ q → u ≡ v → ◌≡◌ {A = DevicePass} (record { end = p.0; entries = p.1; world = u }) (record { end = q.0; entries = q.1; world = v })
same_walked {q = q} {u = u} x y = ap (λ (z : Passed × List IfaceEntry). record { end = z.0; entries = z.1; world = u }) x ∙ ap (λ (z : World). record { end = q.0; entries = q.1; world = z }) y

ended_by : (end : Passed) (es : List IfaceEntry) → Ends end ≡ Ends passed.Memory → pass_tells_memory end es ≡ true
ended_by end es e =
    let is : end ≡ passed.Memory = cc in
    ap (λ (x : Passed). ends_by_memory x || list_any iface_tells_memory es) is

never_short : (names : List IfaceName) → Walks names ≡ Ends passed.Memory → ⊥
never_short names e = cc

pub device_play : (aim : Aim) (s : World) (end : Passed) (es : List IfaceEntry) (t : World) → RunsPass ServesIfaces iface_cmp aim s [] end es t → IsDevicePlay aim s end es t
device_play aim s end es t (Ended last u run) = elim (is_play BeginsShort (beginning aim.device.via_port) s (Ends last) u (begins_short aim.device.via_port) run) [
  | inl x ↦ inl (ap (walk_from aim) (same_begun x.0 x.1))
  | inr y ↦ elim y [ inl z ↦ inr (inl (ended_by last [] z)) | inr z ↦ inr (inr z) ]
]
device_play aim s end es t (Walked names order u last more v run perm sorted rest) = elim (is_play BeginsShort (beginning aim.device.via_port) s (Walks names) u (begins_short aim.device.via_port) run) [
  | inl x ↦ begun (same_begun x.0 x.1)
  | inr y ↦ elim y [ inl z ↦ absurd (never_short names z) | inr z ↦ inr (inr (runs_out (walking aim order []) u (last, more) v rest z)) ]
]
  where
    begun : ◌≡◌ {A = Begun × World} (Walks names, u) (play_ifaces (beginning aim.device.via_port) s) → IsDevicePlay aim s last more v
    begun from = elim (is_play WalkTells (walking aim order []) u (last, more) v (walk_short aim order []) rest) [
      | inl x ↦ inl (same_walked x.0 x.1 ∙ ap (λ (names : List IfaceName). Rattle.ug_script.specs.Passes.of_walk (play_ifaces (walking aim names []) u)) (sorted_once names order perm sorted) ∙ ap (walk_from aim) from)
      | inr y ↦ elim y [ inl z ↦ inr (inl (or_true (ends_by_memory last) (list_any iface_tells_memory more) z)) | inr z ↦ inr (inr z) ]
    ]

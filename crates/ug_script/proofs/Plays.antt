-- The run that a script fixes: it is one of the runs, and what its calls are answered.
use Rattle.std.proofs.Common.{◌≡◌, ℕ, Bool, true, false, refl, inl, nat_le, cond, ◌||◌, List, [], ◌∷◌, ◌++◌, length, Option, Some, None, ◌∙◌, ap, not, inr}
use Rattle.ug_kernel.specs.Calls.{Call, Names, Open, Read, Ask_alive, Put, Close, Closed, Answer, ToldAnswer, failed_listing, failed_open, failed_read, is_probe_failed, failed_put}
use Rattle.ug_kernel.specs.Tree.{Prog, Return, Ask, Room, Runs, then}
use Rattle.ug_sysfs.specs.World.{IsUnfailing, World, Gives, entered, answer_from, refusing_memory, scripted_answer, answer_unless, fate, fate_of, effect, with_file, opened_at, read_from, read_at, alive_of, probed_at, put_at, live_held, Wants}
use Rattle.ug_script.specs.Play.{play, IsPlayed}
use Rattle.std.specs.List.{slice_get}
use Rattle.std.proofs.lemmas.Bool.{cond_both}
use Rattle.ug_table.proofs.Common.{Device, Control, Write, Listing, Kernel, FailedCall}
use Rattle.ug_kernel.specs.declared.control.Attr.{Attr}
use Rattle.ug_kernel.specs.declared.calls.Opened.{Opened}
use Rattle.ug_kernel.specs.declared.calls.ReadOut.{ReadOut}
use Rattle.ug_kernel.specs.Called.{within_limit, text_within, read_of}
use Rattle.ug_kernel.specs.Along.{Made, made_with, failure_of, failure_if, failure, failures}
use Rattle.ug_kernel.proofs.Ways.{Ways, ways_more, ways_run}
use Rattle.ug_sysfs.specs.Devices.{find}
use Rattle.ug_sysfs.specs.declared.script.Failing.{Failing}
use Rattle.ug_table.proofs.PartCalls.{short_listing, short_open, short_read, is_want, has_want}
use Rattle.ug_sysfs.proofs.RanOut.{stays_out}

-- The run that a script fixes is one of the runs, and a script's program joins as programs do.

pub play_runs : {R : Type 0} (p : Prog R) (s : World) → Runs Gives s p (play p s).0 (play p s).1
play_runs (Return value) s = (refl, refl)
play_runs (Ask call next) s = ((scripted_answer s call).0, (scripted_answer s call).1, inl (refl, refl), play_runs (next (scripted_answer s call).0) (scripted_answer s call).1)
play_runs (Room next) s = (true, play_runs (next true) s)

-- a call is answered by the script, or refused where the kernel has run out; closing is neither
pub unless_cases : (P : (call : Call) → Answer call × World → Type 0) (out : Bool) (s : World) → ((held : ℕ) → P (Close held) (Closed, s)) → ((call : Call) → out ≡ true → P call (refusing_memory s call)) → ((call : Call) → out ≡ false → P call (answer_from (entered s) call)) → (call : Call) → P call (answer_unless out s call)
unless_cases P out s shut refused goes (Close held) = shut held
unless_cases P true s shut refused goes call = refused call refl
unless_cases P false s shut refused goes call = goes call refl

pub told_unless : (s : World) (call : Call) → s.ran_out ≡ false → (scripted_answer s call).1.ran_out ≡ false
told_unless s call e = unless_cases (λ call (p : Answer call × World). p.1.ran_out ≡ false) s.ran_out s (λ held. e) (λ call t. e) (λ call f. e) call

pub play_told : {R : Type 0} (p : Prog R) (s : World) → s.ran_out ≡ false → (play p s).1.ran_out ≡ false
play_told (Return value) s e = e
play_told (Ask call next) s e = play_told (next (scripted_answer s call).0) (scripted_answer s call).1 (told_unless s call e)
play_told (Room next) s e = play_told (next true) s e

pub play_then : {A B : Type 0} (p : Prog A) (f : A → Prog B) (s : World) → play (then p f) s ≡ play (f (play p s).0) (play p s).1
play_then (Return value) f s = refl
play_then (Ask call next) f s = play_then (next (scripted_answer s call).0) f (scripted_answer s call).1
play_then (Room next) f s = play_then (next true) f s

-- What the simulated kernel answers: never want of memory, and no failure where no call is to fail.
-- So a script fixes a whole run, unless memory was refused.

-- memory was refused on a way
abbrev pub refused : Bool → List Made → Bool
refused ok ms = not ok || has_want ms

-- neither want nor failure

abbrev FineOpen : Opened → Type 0
FineOpen r = (short_open r ≡ false) × (failed_open r ≡ false)

abbrev FineRead : ReadOut → Type 0
FineRead r = (short_read r ≡ false) × (failed_read r ≡ false)

fine_opened : (control : Control) (o : Option ℕ) (k : Kernel) → FineOpen (opened_at control o k).0
fine_opened control o k = elim o as (λ (v : Option ℕ). FineOpen (opened_at control v k).0) [ None ↦ (refl, refl) | Some i ↦ (refl, refl) ]

fine_within : (limit : ℕ) (bytes : List ℕ) → FineRead (within_limit limit bytes)
fine_within limit bytes = cond_both (nat_le (length bytes) limit) (ReadOut.Bytes bytes) ReadOut.TooLong FineRead (λ e. (refl, refl)) (λ e. (refl, refl))

fine_text : (o : Option (List ℕ)) → FineRead (text_within o)
fine_text None = (refl, refl)
fine_text (Some bytes) = fine_within 4096 bytes

fine_of : (at : Attr) (d : Device) → FineRead (read_of at d)
fine_of Attr.Descriptors d = fine_within 131072 d.descriptors
fine_of Attr.Product d = fine_text d.product
fine_of Attr.Serial d = fine_text d.serial
fine_of Attr.Connect d = fine_text d.connect

fine_at : (at : Attr) (o : Option ℕ) (ds : List Device) → FineRead (read_at at o ds)
fine_at at None ds = (refl, refl)
fine_at at (Some i) ds = elim (slice_get ds i) as (λ (o : Option Device). FineRead (read_from at o)) [ None ↦ (refl, refl) | Some d ↦ fine_of at d ]

fine_probed : (o : Option ℕ) (ds : List Device) → is_probe_failed (probed_at o ds) ≡ false
fine_probed None ds = refl
fine_probed (Some i) ds = elim (slice_get ds i) as (λ (o : Option Device). is_probe_failed (alive_of o) ≡ false) [ None ↦ refl | Some d ↦ refl ]

fine_put_at : (write : Write) (o : Option ℕ) (k : Kernel) → failed_put (put_at write o k).0 ≡ false
fine_put_at write o k = elim o as (λ (v : Option ℕ). failed_put (put_at write v k).0 ≡ false) [ None ↦ refl | Some i ↦ refl ]

-- the simulated kernel never wants memory by itself

never_wants : (b : Bool) (s : World) (call : Call) → is_want call (answer_unless b s call).0 ≡ false
never_wants b s (Close held) = refl
never_wants true s call = refl
never_wants false s Names = elim (fate_of (entered s)) as (λ (f : Option Bool). short_listing (effect f Names (entered s).kernel).0 ≡ false) [ None ↦ refl | Some b ↦ refl ]
never_wants false s (Open name control) =
    let k = (entered s).kernel in
    elim (fate_of (entered s)) as (λ (f : Option Bool). short_open (effect f (Open name control) k).0 ≡ false) [ None ↦ (fine_opened control (with_file control (find name 0 k.devices) k.devices) k).0 | Some b ↦ refl ]
never_wants false s (Read name at) =
    let k = (entered s).kernel in
    elim (fate_of (entered s)) as (λ (f : Option Bool). short_read (effect f (Read name at) k).0 ≡ false) [ None ↦ (fine_at at (find name 0 k.devices) k.devices).0 | Some b ↦ refl ]
never_wants false s call = refl

-- nor fails, where no call is to fail

none_failed : {X : Type 0} (failed : X → Bool) (t : ToldAnswer X) → failed t.answer ≡ false → failure_if failed t ≡ []
none_failed failed t e = ap (λ (b : Bool). cond b (failure_of t ∷ []) []) e

unscheduled : (s : World) → IsUnfailing s → fate_of (entered s) ≡ None
unscheduled s e = ap (λ (b : Bool). cond b (Some false) (fate (entered s).calls None (entered s).fails)) e.1 ∙ ap (λ (fs : List Failing). fate (entered s).calls None fs) e.0

answers_calmly : (call : Call) (s : World) → fate_of s ≡ None → failure call (answer_from s call).0 ≡ []
answers_calmly Names s e = none_failed failed_listing _ (ap (λ (f : Option Bool). failed_listing (effect f Names s.kernel).0) e)
answers_calmly (Open name control) s e = none_failed failed_open _ (ap (λ (f : Option Bool). failed_open (effect f (Open name control) s.kernel).0) e ∙ (fine_opened control (with_file control (find name 0 s.kernel.devices) s.kernel.devices) s.kernel).1)
answers_calmly (Read name at) s e = none_failed failed_read _ (ap (λ (f : Option Bool). failed_read (effect f (Read name at) s.kernel).0) e ∙ (fine_at at (find name 0 s.kernel.devices) s.kernel.devices).1)
answers_calmly (Ask_alive held) s e = none_failed is_probe_failed _ (ap (λ (f : Option Bool). is_probe_failed (effect f (Ask_alive held) s.kernel).0) e ∙ fine_probed (live_held held s.kernel.held s.kernel.devices) s.kernel.devices)
answers_calmly (Put held write) s e = none_failed failed_put _ (ap (λ (f : Option Bool). failed_put (effect f (Put held write) s.kernel).0) e ∙ fine_put_at write (live_held held s.kernel.held s.kernel.devices) s.kernel)
answers_calmly (Close held) s e = refl

never_fails : (s : World) (call : Call) → s.ran_out ≡ false → IsUnfailing s → failure call (scripted_answer s call).0 ≡ []
never_fails s call o e = unless_cases (λ call (p : Answer call × World). failure call p.0 ≡ []) s.ran_out s (λ held. refl) (λ call t. let none : ⊥ = cc in absurd none) (λ call f. answers_calmly call (entered s) (unscheduled s e)) call

pub fails_stay : (s : World) (call : Call) → IsUnfailing s → IsUnfailing (scripted_answer s call).1
fails_stay s call e = unless_cases (λ call (p : Answer call × World). IsUnfailing p.1) s.ran_out s (λ held. e) (λ call t. e) (λ call f. e) call

-- the way that the script fixes: room is always there, no answer is want, and where no call is to fail, none does
pub record Fixed {R : Type 0} (P : Bool → List Made → R → Type 0) (s : World) (r : R) : Type 0 where
  pub made : List Made
  pub sure : has_want made ≡ false
  pub calm : s.ran_out ≡ false → IsUnfailing s → failures made ≡ []
  pub so : P true made r

pub play_way : {R : Type 0} (P : Bool → List Made → R → Type 0) (p : Prog R) (s : World) → Ways p P → Fixed P s (play p s).0
play_way P (Return value) s w = record { made = []; sure = refl; calm = λ o e. refl; so = w }
play_way P (Ask call next) s w =
    let a : Answer call = (scripted_answer s call).0 in
    let k = play_way (λ ok ms r. P ok (made_with call a ∷ ms) r) (next a) (scripted_answer s call).1 (w a) in
    record {
      made = made_with call a ∷ k.made;
      sure = ap (λ (b : Bool). b || has_want k.made) (never_wants s.ran_out s call) ∙ k.sure;
      calm = λ o e. ap (λ (v : List FailedCall). v ++ failures k.made) (never_fails s call o e) ∙ k.calm (told_unless s call o) (fails_stay s call e);
      so = k.so;
    }
play_way P (Room next) s w = let k = play_way P (next true) s (w true) in record { made = k.made; sure = k.sure; calm = k.calm; so = k.so }

-- a whole run

pub runs_out : {R : Type 0} (p : Prog R) (s : World) (r : R) (t : World) → Runs Gives s p r t → s.ran_out ≡ true → t.ran_out ≡ true
runs_out (Return value) s r t h out = ap (λ (w : World). w.ran_out) h.1 ∙ out
runs_out (Ask call next) s r t h out = runs_out (next h.0) h.1 r t h.3 (stays_out s call h.0 h.1 h.2 out)
runs_out (Room next) s r t h out = runs_out (next h.0) s r t h.1 out

wanted : (s : World) (call : Call) (a : Answer call) (t : World) → Wants s call a t → is_want call a ≡ true
wanted s Names a t w = ap (λ (x : ToldAnswer Listing). short_listing x.answer) w.answer ∙ ap short_listing w.memory
wanted s (Open name control) a t w = ap (λ (x : ToldAnswer Opened). short_open x.answer) w.answer ∙ ap short_open w.memory
wanted s (Read name attr) a t w = ap (λ (x : ToldAnswer ReadOut). short_read x.answer) w.answer ∙ ap short_read w.memory
wanted s x a t w = absurd w.memory

refused_now : (ok b w : Bool) → b ≡ true → (not ok || (b || w)) ≡ true
refused_now true b w e = ap (λ (v : Bool). v || w) e
refused_now false b w e = refl

refused_later : (ok b w : Bool) → (not ok || w) ≡ true → (not ok || (b || w)) ≡ true
refused_later true true w e = refl
refused_later true false w e = e
refused_later false b w e = refl

-- one answer of the script, and then the rest
played_more : {R : Type 0} (P : R → Type 0) (s : World) (call : Call) (next : Answer call → Prog R) (a : Answer call) (u : World) (r : R) (t : World) → (a ≡ (scripted_answer s call).0) × (u ≡ (scripted_answer s call).1) → IsPlayed P (next a) u r t → IsPlayed P (Ask call next) s r t
played_more {R} P s call next a u r t x i = elim i [
  | inl q ↦
      let e : play (next a) u ≡ play (next (scripted_answer s call).0) (scripted_answer s call).1 = ap (λ (b : Answer call). play (next b) u) x.0 ∙ ap (λ (w : World). play (next (scripted_answer s call).0) w) x.1 in
      inl (q.0 ∙ ap (λ (p : R × World). p.0) e, q.1 ∙ ap (λ (p : R × World). p.1) e)
  | inr y ↦ inr y
]

-- where memory was refused on the way to a result, that has P
abbrev pub TellsWant : {R : Type 0} → (R → Type 0) → Bool → List Made → R → Type 0
TellsWant P ok ms r = refused ok ms ≡ true → P r

played_room : {R : Type 0} (P : R → Type 0) (s : World) (next : Bool → Prog R) (r : R) (t : World) → Ways (Room next) (TellsWant P) → (Runs Gives s (next true) r t → IsPlayed P (next true) s r t) → (b : Bool) → Runs Gives s (next b) r t → IsPlayed P (Room next) s r t
played_room P s next r t w there true h = there h
played_room P s next r t w there false h = let k = ways_run Gives (λ ok ms x. TellsWant P false ms x) (next false) s r t (w false) h in inr (inl (k.so refl))

pub played : {R : Type 0} (P : R → Type 0) (p : Prog R) (s : World) (r : R) (t : World) → Ways p (TellsWant P) → Runs Gives s p r t → IsPlayed P p s r t
played P (Return value) s r t w h = inl h
played P (Ask call next) s r t w h = elim h.2 [
  | inl x ↦ played_more P s call next h.0 h.1 r t x (played P (next h.0) h.1 r t (ways_more (λ ok ms v. TellsWant P ok (made_with call h.0 ∷ ms) v) (TellsWant P) (next h.0) (λ ok ms v f e. f (refused_later ok (is_want call h.0) (has_want ms) e)) (w h.0)) h.3)
  | inr y ↦ elim y [
    | inl z ↦
        let k = ways_run Gives (λ ok ms v. TellsWant P ok (made_with call h.0 ∷ ms) v) (next h.0) h.1 r t (w h.0) h.3 in
        inr (inl (k.so (refused_now k.granted (is_want call h.0) (has_want k.made) (wanted s call h.0 h.1 z))))
    | inr z ↦ inr (inr (runs_out (next h.0) h.1 r t h.3 z.out))
  ]
]
played P (Room next) s r t w h = played_room P s next r t w (λ k. played P (next true) s r t (w true) k) h.0 h.1

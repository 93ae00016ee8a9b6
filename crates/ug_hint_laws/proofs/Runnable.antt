-- Over a kernel that stands still each call has an answer, so each program has a run.
use Rattle.std.proofs.Common.{◌≡◌, ℕ, zero, suc, Bool, true, false, not, ◌&&◌, cond, List, [], ◌∷◌, ◌++◌, length, set, Option, Some, None, ◌⊎◌, inl, inr, refl, sym, ◌∙◌, ap, subst, nat_le, true≢false}
use Rattle.std.proofs.lemmas.Option.{none-some, same_Some}
use Rattle.std.specs.List.{slice_get}
use Rattle.ug_types.specs.Elements.{Has, AllDistinct}
use Rattle.ug_kernel.specs.declared.control.Control.{Control}
use Rattle.ug_kernel.specs.declared.control.Attr.{Attr}
use Rattle.ug_kernel.specs.declared.control.Write.{Write}
use Rattle.ug_kernel.specs.declared.device.Device.{Device}
use Rattle.ug_kernel.specs.declared.device.HeldFile.{HeldFile}
use Rattle.ug_kernel.specs.declared.calls.Listing.{Listing}
use Rattle.ug_kernel.specs.declared.calls.Opened.{Opened}
use Rattle.ug_kernel.specs.declared.calls.ReadOut.{ReadOut}
use Rattle.ug_kernel.specs.declared.calls.Probe.{Probe}
use Rattle.ug_kernel.specs.declared.calls.Wrote.{Wrote}
use Rattle.ug_kernel.specs.Calls.{Call, Answer, ToldAnswer, Closed, Names, Open, Read, Ask_alive, Put, Close, failed_read}
use Rattle.ug_kernel.specs.Called.{Holds, IsGoneAt, IsFile, read_of, within_limit, text_within, says_read, written_to}
use Rattle.ug_kernel.specs.Kernel.{Kernel, Live, IsKernel, has_file}
use Rattle.ug_kernel.specs.Tree.{Prog, Return, Ask, Room}
use Rattle.ug_kernel.proofs.Grow.{some_same}
use Rattle.ug_kernel.proofs.Places.{at_set_same, at_set_other}
use Rattle.ug_table.specs.Standings.{same_name}
use Rattle.ug_table.proofs.NamedStandings.{same_is, is_same}
use Rattle.ug_hint_laws.specs.Compared.{IsStill, RunsStill}
use Rattle.ug_hint_laws.proofs.Still.{after_write_of, does_sound}

-- a device that passes a test, or none does

record Passes (test : Device → Bool) (ds : List Device) : Type 0 where
  i : ℕ
  d : Device
  at : slice_get ds i ≡ Some d
  passes : test d ≡ true

abbrev NonePasses : (Device → Bool) → List Device → Type 0
NonePasses test ds = (i : ℕ) (d : Device) → slice_get ds i ≡ Some d → test d ≡ true → ⊥

look : (test : Device → Bool) (ds : List Device) → Passes test ds ⊎ NonePasses test ds
look test [] = inr (λ i d at e. none-some d at)
look test (d ∷ ds) = by (look test ds) (test d) refl
  where
    by : Passes test ds ⊎ NonePasses test ds → (b : Bool) → test d ≡ b → Passes test (d ∷ ds) ⊎ NonePasses test (d ∷ ds)
    by rest true e = inl (record { i = 0; d = d; at = refl; passes = e })
    by (inl p) false e = inl (record { i = suc p.i; d = p.d; at = p.at; passes = p.passes })
    by (inr none) false e = inr (λ i. elim i as (λ (n : ℕ). (x : Device) → slice_get (d ∷ ds) n ≡ Some x → test x ≡ true → ⊥) [
      | zero ↦ (λ x at f. let is : d ≡ x = same_Some d x at in true≢false (sym f ∙ ap test (sym is) ∙ e))
      | suc n ↦ (λ x at f. none n x at f)
    ])

both_true : (a b : Bool) → (a && b) ≡ true → (a ≡ true) × (b ≡ true)
both_true true b e = (refl, e)
both_true false b e = absurd (true≢false (sym e))

true_both : (a b : Bool) → a ≡ true → b ≡ true → (a && b) ≡ true
true_both a b e f = ap (λ (v : Bool). v && b) e ∙ f

here_is : (b : Bool) → not b ≡ true → b ≡ false
here_is true e = absurd (true≢false (sym e))
here_is false e = refl

abbrev is_live_as : List ℕ → Device → Bool
is_live_as name d = not d.gone && same_name d.name name

abbrev is_live_with : List ℕ → Control → Device → Bool
is_live_with name control d = is_live_as name d && has_file control d

-- answers that bear no number

abbrev told : {X : Type 0} → X → ToldAnswer X
told x = record { answer = x; number = 0; count = 0 }

record Answered (k : Kernel) (call : Call) : Type 0 where
  answer : Answer call
  later : Kernel
  still : IsStill k call answer later

-- the names of live devices

live_names : List Device → List (List ℕ)
live_names [] = []
live_names (d ∷ ds) = cond d.gone (live_names ds) (d.name ∷ live_names ds)

lists_live : (ds : List Device) (i : ℕ) (d : Device) → Live ds i d → Has (live_names ds) d.name
unfolding live_names
lists_live [] i d live = absurd (none-some d live.at)
lists_live (x ∷ ds) zero d live =
    let is : x ≡ d = same_Some x d live.at in
    let here : x.gone ≡ false = ap (λ (v : Device). v.gone) is ∙ live.here in
    subst (λ (b : Bool). Has (cond b (live_names ds) (x.name ∷ live_names ds)) d.name) (sym here) (inl (ap (λ (v : Device). v.name) is))
lists_live (x ∷ ds) (suc i) d live = by x.gone (lists_live ds i d (record { at = live.at; here = live.here }))
  where
    by : (b : Bool) → Has (live_names ds) d.name → Has (cond b (live_names ds) (x.name ∷ live_names ds)) d.name
    by true a = a
    by false a = inr a

record Named_live (ds : List Device) (name : List ℕ) : Type 0 where
  i : ℕ
  d : Device
  live : Live ds i d
  named : d.name ≡ name

live_listed : (ds : List Device) (name : List ℕ) → Has (live_names ds) name → Named_live ds name
unfolding live_names
live_listed [] name a = absurd a
live_listed (x ∷ ds) name a = by (live_listed ds name) x.gone refl a
  where
    later : Named_live ds name → Named_live (x ∷ ds) name
    later n = record { i = suc n.i; d = n.d; live = record { at = n.live.at; here = n.live.here }; named = n.named }

    by : (Has (live_names ds) name → Named_live ds name) → (b : Bool) → x.gone ≡ b → Has (cond b (live_names ds) (x.name ∷ live_names ds)) name → Named_live (x ∷ ds) name
    by rest true e h = later (rest h)
    by rest false e (inl is) = record { i = 0; d = x; live = record { at = refl; here = e }; named = is }
    by rest false e (inr h) = later (rest h)

abbrev AreUnique : List Device → Type 0
AreUnique ds = (i j : ℕ) (d e : Device) → Live ds i d → Live ds j e → d.name ≡ e.name → i ≡ j

distinct_live : (ds : List Device) → AreUnique ds → AllDistinct (live_names ds)
unfolding live_names
distinct_live [] u = tt
distinct_live (x ∷ ds) u = by x.gone refl (distinct_live ds (λ i j d e a b f. one (u (suc i) (suc j) d e (record { at = a.at; here = a.here }) (record { at = b.at; here = b.here }) f)))
  where
    one : {i j : ℕ} → suc i ≡ suc j → i ≡ j
    one e = cc

    by : (b : Bool) → x.gone ≡ b → AllDistinct (live_names ds) → AllDistinct (cond b (live_names ds) (x.name ∷ live_names ds))
    by true e rest = rest
    by false e rest = (
      λ a.
          let n = live_listed ds x.name a in
          let z : 0 ≡ suc n.i = u 0 (suc n.i) x n.d (record { at = refl; here = e }) (record { at = n.live.at; here = n.live.here }) (sym n.named) in
          let none : ⊥ = cc in none,
      rest,
    )

answer_names : (k : Kernel) → IsKernel k → Answered k Names
answer_names k s = record {
  answer = told (Listing.Names (live_names k.devices));
  later = k;
  still = record {
    does = refl;
    says = (λ i d lives. lists_live k.devices i d lives.entry, distinct_live k.devices s.devices.names);
    calm = refl;
    granted = λ e. let none : ⊥ = cc in none;
  };
}

-- openings

answer_open : (name : List ℕ) (control : Control) (k : Kernel) → Answered k (Open name control)
answer_open name control k = by (look (is_live_with name control) k.devices)
  where
    by : Passes (is_live_with name control) k.devices ⊎ NonePasses (is_live_with name control) k.devices → Answered k (Open name control)
    by (inl p) =
        let split = both_true (is_live_as name p.d) (has_file control p.d) p.passes in
        let own = both_true (not p.d.gone) (same_name p.d.name name) split.0 in
        record {
          answer = told (Opened.Token (record { 0 = length k.held }));
          later = record { devices = k.devices; held = k.held ++ record { device = p.i; control = control } ∷ []; log = k.log };
          still = record {
            does = record { i = p.i; d = p.d; live = record { at = p.at; here = here_is p.d.gone own.0 }; named = same_is p.d.name name own.1; has = split.1; next = refl; more = refl; devices = refl; log = refl };
            says = tt;
            calm = refl;
            granted = λ e. let none : ⊥ = cc in none;
          };
        }
    by (inr none) = record {
      answer = told Opened.Absent;
      later = k;
      still = record {
        does = refl;
        says = λ i d lives named has. none i d lives.entry.at (true_both (is_live_as name d) (has_file control d) (true_both (not d.gone) (same_name d.name name) (ap not lives.entry.here) (is_same d.name name named)) has);
        calm = refl;
        granted = λ e. let none : ⊥ = cc in none;
      };
    }

-- readings

record IsPlain (r : ReadOut) : Type 0 where
  good : failed_read r ≡ false
  granted : r ≡ ReadOut.Memory → ⊥

plain_within : (limit : ℕ) (bytes : List ℕ) → IsPlain (within_limit limit bytes)
plain_within limit bytes = by (nat_le (length bytes) limit)
  where
    by : (b : Bool) → IsPlain (cond b (ReadOut.Bytes bytes) ReadOut.TooLong)
    by true = record { good = refl; granted = λ e. let none : ⊥ = cc in none }
    by false = record { good = refl; granted = λ e. let none : ⊥ = cc in none }

plain_text : (o : Option (List ℕ)) → IsPlain (text_within o)
plain_text None = record { good = refl; granted = λ e. let none : ⊥ = cc in none }
plain_text (Some bytes) = plain_within 4096 bytes

plain_read : (attr : Attr) (d : Device) → IsPlain (read_of attr d)
plain_read Attr.Descriptors d = plain_within 131072 d.descriptors
plain_read Attr.Product d = plain_text d.product
plain_read Attr.Serial d = plain_text d.serial
plain_read Attr.Connect d = plain_text d.connect

says_file : (name : List ℕ) (attr : Attr) (k : Kernel) (r : ReadOut) → IsFile name attr r k k → says_read name attr r k k
says_file name attr k (ReadOut.Bytes bytes) f = f
says_file name attr k ReadOut.Absent f = f
says_file name attr k ReadOut.TooLong f = f
says_file name attr k ReadOut.Failed f = tt
says_file name attr k ReadOut.Memory f = tt

answer_read : (name : List ℕ) (attr : Attr) (k : Kernel) → IsKernel k → Answered k (Read name attr)
answer_read name attr k s = by (look (is_live_as name) k.devices)
  where
    by : Passes (is_live_as name) k.devices ⊎ NonePasses (is_live_as name) k.devices → Answered k (Read name attr)
    by (inl p) =
        let own = both_true (not p.d.gone) (same_name p.d.name name) p.passes in
        let live : Live k.devices p.i p.d = record { at = p.at; here = here_is p.d.gone own.0 } in
        let plain = plain_read attr p.d in
        let file : IsFile name attr (read_of attr p.d) k k = λ i d lives named.
        let is : p.i ≡ i = s.devices.names p.i i p.d d live lives.entry (same_is p.d.name name own.1 ∙ sym named) in
        ap (read_of attr) (some_same (slice_get k.devices i) p.d d (subst (λ (j : ℕ). slice_get k.devices j ≡ Some p.d) is p.at) lives.entry.at) in
        record {
          answer = told (read_of attr p.d);
          later = k;
          still = record {
            does = refl;
            says = says_file name attr k (read_of attr p.d) file;
            calm = ap (λ (b : Bool). cond b (record { call = 0; count = 0 } ∷ []) []) plain.good;
            granted = plain.granted;
          };
        }
    by (inr none) = record {
      answer = told ReadOut.Absent;
      later = k;
      still = record {
        does = refl;
        says = λ i d lives named. absurd (none i d lives.entry.at (true_both (not d.gone) (same_name d.name name) (ap not lives.entry.here) (is_same d.name name named)));
        calm = refl;
        granted = λ e. let none : ⊥ = cc in none;
      };
    }

-- held files

record Held_live (k : Kernel) (held : ℕ) : Type 0 where
  i : ℕ
  d : Device
  holds : Holds k held i d
  live : Live k.devices i d

held_or_gone : (k : Kernel) (held : ℕ) → Held_live k held ⊎ IsGoneAt held k
held_or_gone k held = from (slice_get k.held held) refl
  where
    here : (f : HeldFile) → slice_get k.held held ≡ Some f → (d : Device) → slice_get k.devices f.device ≡ Some d → (b : Bool) → d.gone ≡ b → Held_live k held ⊎ IsGoneAt held k
    here f at d device false e = inl (record { i = f.device; d = d; holds = record { file = f; at = at; is = refl; device = device }; live = record { at = device; here = e } })
    here f at d device true e = inr (λ i x holds live.
        let file : holds.file ≡ f = some_same (slice_get k.held held) holds.file f holds.at at in
        let is : i ≡ f.device = sym holds.is ∙ ap (λ (v : HeldFile). v.device) file in
        let same : x ≡ d = some_same (slice_get k.devices f.device) x d (subst (λ (j : ℕ). slice_get k.devices j ≡ Some x) is live.at) device in
        true≢false (sym e ∙ ap (λ (v : Device). v.gone) (sym same) ∙ live.here))

    of_file : (f : HeldFile) → slice_get k.held held ≡ Some f → (o : Option Device) → slice_get k.devices f.device ≡ o → Held_live k held ⊎ IsGoneAt held k
    of_file f at (Some d) e = here f at d e d.gone refl
    of_file f at None e = inr (λ i x holds live.
        let file : holds.file ≡ f = some_same (slice_get k.held held) holds.file f holds.at at in
        let is : i ≡ f.device = sym holds.is ∙ ap (λ (v : HeldFile). v.device) file in
        none-some x (sym e ∙ subst (λ (j : ℕ). slice_get k.devices j ≡ Some x) is live.at))

    from : (o : Option HeldFile) → slice_get k.held held ≡ o → Held_live k held ⊎ IsGoneAt held k
    from (Some f) e = of_file f e (slice_get k.devices f.device) refl
    from None e = inr (λ i x holds live. none-some holds.file (sym e ∙ holds.at))

answer_probe : (held : ℕ) (k : Kernel) → Answered k (Ask_alive held)
answer_probe held k = elim (held_or_gone k held) [
  | inl h ↦ record {
    answer = told (Probe.Alive h.d.on);
    later = k;
    still = record { does = refl; says = record { i = h.i; d = h.d; holds = h.holds; live = h.live; value = refl }; calm = refl; granted = tt };
  }
  | inr gone ↦ record { answer = told Probe.Gone; later = k; still = record { does = refl; says = gone; calm = refl; granted = tt } }
]

length_set_at : (ds : List Device) (i : ℕ) (x : Device) → length (set ds i x) ≡ length ds
length_set_at [] i x = refl
length_set_at (d ∷ ds) zero x = refl
length_set_at (d ∷ ds) (suc i) x = ap suc (length_set_at ds i x)

answer_put : (held : ℕ) (what : Write) (k : Kernel) → Answered k (Put held what)
answer_put held what k = elim (held_or_gone k held) [
  | inl h ↦ record {
    answer = told Wrote.Done;
    later = after_write_of k h.i h.d what;
    still = record {
      does = record {
        i = h.i;
        d = h.d;
        holds = h.holds;
        live = h.live;
        log = refl;
        now = at_set_same k.devices h.i h.d (written_to what h.d) h.live.at;
        others = λ j ne. at_set_other k.devices h.i j (written_to what h.d) ne;
        number = length_set_at k.devices h.i (written_to what h.d);
        files = refl;
      };
      says = (h.d.on, record { i = h.i; d = h.d; holds = h.holds; live = h.live; value = refl });
      calm = refl;
      granted = tt;
    };
  }
  | inr gone ↦ record { answer = told Wrote.Gone; later = k; still = record { does = refl; says = gone; calm = refl; granted = tt } }
]

answers : (call : Call) (k : Kernel) → IsKernel k → Answered k call
answers Names k s = answer_names k s
answers (Open name control) k s = answer_open name control k
answers (Read name attr) k s = answer_read name attr k s
answers (Ask_alive held) k s = answer_probe held k
answers (Put held what) k s = answer_put held what k
answers (Close held) k s = record { answer = Closed; later = k; still = record { does = refl; says = tt; calm = refl; granted = tt } }

-- so each program has a run
pub still_run : {R : Type 0} (p : Prog R) (k : Kernel) → IsKernel k → (r : R) × (l : Kernel) × RunsStill k p r l
still_run (Return value) k s = (value, k, (refl, refl))
still_run (Ask call next) k s =
    let a = answers call k s in
    let rest = still_run (next a.answer) a.later (does_sound call a.answer k a.later a.still.does s) in
    (rest.0, rest.1, (a.answer, a.later, a.still, rest.2))
still_run (Room next) k s = still_run (next true) k s
